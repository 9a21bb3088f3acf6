pub mod Row
pub mod Link
pub mod Layout
pub mod Uncut
pub mod Parts
pub mod Region
pub mod Cells
