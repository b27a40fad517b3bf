pub mod Basics
mod Sums
mod Even
mod Dependent
pub mod Laws
pub mod Odd
pub mod Reduction
pub mod Table
