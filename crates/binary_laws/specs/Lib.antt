pub mod Binary
pub mod Graphic
pub mod Elimination
