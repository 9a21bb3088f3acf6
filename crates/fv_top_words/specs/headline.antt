pub mod Pieces
pub mod Texts
pub mod Numbers
pub mod Runs
pub mod Commands
