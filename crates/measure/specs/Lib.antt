pub mod Laws
pub mod Table
pub mod Shifts
pub mod Words
pub mod Flips
pub mod Group
