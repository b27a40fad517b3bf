pub mod Rooms
pub mod Classes
pub mod Held
