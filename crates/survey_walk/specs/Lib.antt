pub mod Rigs
pub mod Opened
