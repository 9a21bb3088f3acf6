mod Actions
mod FirstValues
mod InPlace
mod TimelessTurns
mod Waiting
pub mod lemmas
mod Looking
mod Parted
mod Numbered
