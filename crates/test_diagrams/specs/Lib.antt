pub mod Built
pub mod Examples
