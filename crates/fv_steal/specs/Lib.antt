pub mod Balance
pub mod Deques
pub mod Moves
pub mod Crews
pub mod inner
pub mod Journals
pub mod Parcels
