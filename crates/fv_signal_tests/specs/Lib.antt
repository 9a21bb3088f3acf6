pub mod Empty
pub mod Sum
