pub mod lemmas
pub mod Still
pub mod Appends
pub mod Blocks
