pub mod Texts
pub mod Hands
pub mod Batches
pub mod Program
