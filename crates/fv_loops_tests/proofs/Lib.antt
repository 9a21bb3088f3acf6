pub mod Sums
mod Shelves
