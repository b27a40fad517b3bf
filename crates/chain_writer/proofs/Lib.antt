pub mod Splice
pub mod Holdings
pub mod Behind
