pub mod Inside
pub mod Progress
