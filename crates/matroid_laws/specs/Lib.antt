pub mod Matroids
pub mod Greedy
