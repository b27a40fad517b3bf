pub mod Laws
pub mod Candidates
pub mod Lowest
pub mod Turns
