pub mod Alongside
pub mod Puts
pub mod Goes
pub mod Faithful
pub mod lemmas
pub mod Ranged
pub mod Kept
pub mod Whole
