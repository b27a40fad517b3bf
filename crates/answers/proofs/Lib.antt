mod Rows
mod Places
pub mod Turns
pub mod Columns
