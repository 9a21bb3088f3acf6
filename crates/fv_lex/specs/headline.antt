pub mod Token
pub mod Bytes
pub mod Symbols
pub mod Pieces
pub mod Cuts
