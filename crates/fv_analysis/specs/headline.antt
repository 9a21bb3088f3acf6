pub mod Stands
pub mod History
