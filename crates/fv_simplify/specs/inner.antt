pub mod Alike
pub mod Rooms
pub mod Once
