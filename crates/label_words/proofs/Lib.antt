pub mod Held
pub mod Ascending
