-- What no call says beside `headline/Stages`: stages in order: each asks the desk for its files, takes its turns of reading or writing, and
-- judges what it found; the first that cannot go on ends all (this project's profile).
use Rattle.std.specs.Prelude.{◌≡◌}
use Rattle.fv_top_report.specs.declared.refusal.Refusal.{Refusal}
use Rattle.fv_top.specs.headline.Stages.{Rules}

-- a stage refuses for one thing at most, and not what passes
pub record IsJudge {S : Type 0} (k : Rules S) : Type 0 where
  pub once : (s : S) (a b : Refusal) → k.Refuses s a → k.Refuses s b → a ≡ b
  pub apart : (s : S) (a : Refusal) → k.Passes s → k.Refuses s a → ⊥
