pub mod Swaps
pub mod Right
