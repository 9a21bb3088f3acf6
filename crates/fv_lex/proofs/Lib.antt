pub mod TokenLists
pub mod lemmas
pub mod Complete
pub mod Unique
pub mod Total
pub mod Carrying
pub mod Loop
