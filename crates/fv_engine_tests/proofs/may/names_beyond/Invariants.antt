use Rattle.std.proofs.Common.{ℕ, ◌<◌}
use Rattle.fv_analysis.specs.headline.Stands.{node}
use Rattle.fv_engine_tests.specs.Runs.{IsNamedWithin}
use Rattle.fv_engine_tests.proofs.may.names_beyond.Given as goal

abbrev pub invariant-loop-place : goal.invariant-loop-place
invariant-loop-place l = (p : ℕ) → p < l.place → IsNamedWithin l.channels l.controls (node l.graph p)
