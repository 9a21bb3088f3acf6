pub mod Homes
pub mod Marked
pub mod Numbered
pub mod Ranks
pub mod Readers
pub mod Rows
