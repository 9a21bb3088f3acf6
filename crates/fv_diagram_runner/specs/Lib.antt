pub mod History
pub mod Steps
pub mod Runner
pub mod inner
