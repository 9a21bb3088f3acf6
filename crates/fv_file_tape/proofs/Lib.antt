pub mod lemmas
pub mod Streams
