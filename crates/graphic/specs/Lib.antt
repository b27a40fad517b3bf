pub mod Points
pub mod Graphs
pub mod Edges
pub mod GraphsLemmas
