pub mod Sounding
pub mod Pieces
pub mod Tokens
pub mod Numerals
pub mod Trees
pub mod Values
pub mod Delays
pub mod Program
