pub mod Bases
pub mod Tests
pub mod Uniform
pub mod Greedy
