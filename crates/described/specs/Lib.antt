pub mod Held
pub mod Texts
pub mod Files
pub mod Walks
