pub mod StepLists
pub mod StepStreams
pub mod Codes
pub mod Histories
pub mod Faithful
pub mod Starts
pub mod Stands
