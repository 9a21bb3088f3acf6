pub mod Shelves
pub mod MayGo
