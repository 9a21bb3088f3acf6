mod Pairs
mod Slots
