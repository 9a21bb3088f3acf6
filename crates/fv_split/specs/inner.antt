pub mod Bases
pub mod Cells
pub mod Lists
pub mod Surveyed
pub mod ToldReads
