pub mod CellLemmas
pub mod TellLemmas
pub mod SuitLemmas
pub mod PlanLemmas
pub mod ListLemmas
pub mod SplitLemmas
