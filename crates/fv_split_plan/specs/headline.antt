pub mod Separated
pub mod Fits
pub mod View
pub mod Plans
