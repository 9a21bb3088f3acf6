pub mod Spun
