pub mod headline
pub mod inner
pub mod Compiled
pub mod Answers
pub mod Program
pub mod Kinds
pub mod Runs
pub mod Reads
pub mod Playables
-- what it hands on of crates below
pub use Rattle.fv_top_report.specs.declared.refusal.Refusal
pub use Rattle.fv_parse.specs.headline.Outcomes
pub use Rattle.fv_jobs.specs.headline.File
pub use Rattle.fv_jobs.specs.headline.Jobs
pub use Rattle.fv_jobs.specs.File as FileBeside
pub use Rattle.fv_jobs.specs.headline.Labels
pub use Rattle.fv_jobs.specs.Labels as LabelsBeside
pub use Rattle.fv_jobs.specs.headline.Changes
pub use Rattle.fv_jobs.specs.Changes as ChangesBeside
pub use Rattle.fv_compile.specs.headline.Parts
pub use Rattle.fv_compile.specs.Parts as PartsBeside
pub use Rattle.fv_rules.specs.headline.Rules
pub use Rattle.fv_engine_render.specs.headline.Plans
pub use Rattle.fv_engine_render.specs.Plans as PlansBeside
