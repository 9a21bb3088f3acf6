mod Going
mod Stored
