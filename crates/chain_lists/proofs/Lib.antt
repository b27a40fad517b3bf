pub mod Lawful
pub mod Bytes
pub mod Growth
pub mod Results
