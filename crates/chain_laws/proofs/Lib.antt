mod Scan
mod Reading
mod Verdicts
mod Sets
pub mod Law
