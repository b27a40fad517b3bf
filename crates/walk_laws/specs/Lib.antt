pub mod Settings
pub mod Steps
pub mod Lives
pub mod Law
pub mod AlgorithmG
