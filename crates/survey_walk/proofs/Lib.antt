mod Rows
pub mod Entries
