pub mod History
pub mod Stands
