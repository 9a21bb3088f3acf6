pub mod lemmas
pub mod Values
pub mod Stays
pub mod Irreducible
mod Parts
mod Through
pub mod Put
pub mod Numbers
pub mod Images
pub mod Along
pub mod Made
pub mod Rest
pub mod Whole
pub mod Closes
pub mod RoomLemmas
pub mod WidthLemmas
