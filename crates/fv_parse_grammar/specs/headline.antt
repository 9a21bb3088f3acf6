pub mod Symbols
pub mod Tree
pub mod Grammar
pub mod Beginnings
