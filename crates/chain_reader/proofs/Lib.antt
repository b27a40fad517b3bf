pub mod Says
pub mod Words
pub mod Runs
pub mod Outlines
