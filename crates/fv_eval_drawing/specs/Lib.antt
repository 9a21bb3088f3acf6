pub mod Makes
pub mod Lists
pub mod Wires
pub mod inner
pub mod Controls
