-- What calls say beside `headline/Runs`: what a run is asked to do, and the causes to refuse it (this project's profile).
use Rattle.std.specs.Prelude.{true, ◌≡◌, ◌≤◌, ◌<◌, IfSome, ◌^◌}
use Rattle.std.specs.Prelude.{Ok}
use Rattle.fv_base.specs.declared.limits.TheConstants.{MOST_BLOCK, MOST_WORKERS, MOST_VECTORS}
use Rattle.fv_top_words.specs.headline.Numbers.{Numbers}
use Rattle.fv_top_words.specs.headline.Runs.{is_width, vectors_in, Settings, settings_of}

-- what the settings of every run keep
pub record AreValid (s : Settings) : Type 0 where
  pub block_least : 1 ≤ s.block
  pub block_most : s.block ≤ MOST_BLOCK
  pub vector_least : 1 ≤ s.vector
  pub vector_most : s.vector ≤ s.block
  pub vectors : vectors_in s.block s.vector ≤ MOST_VECTORS
  pub workers_least : 1 ≤ s.workers
  pub workers_most : s.workers ≤ MOST_WORKERS
  pub bits : IfSome s.bits (λ n. is_width n ≡ true)
  pub frames : IfSome s.frames (λ n. n < 2 ^ 32)
  pub rate : IfSome s.rate (λ n. (1 ≤ n) × (n < 2 ^ 32))

-- Settings that are answered are valid.
abbrev pub KeepRanges : Type 0
KeepRanges = (n : Numbers) (s : Settings) → settings_of n ≡ Ok s → AreValid s
