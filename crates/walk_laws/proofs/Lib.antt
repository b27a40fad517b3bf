mod Ahead
mod Views
mod Values
pub mod Lists
pub mod Future
pub mod Several
mod Paths
pub mod Found
mod Laws
pub mod LawOfLife
