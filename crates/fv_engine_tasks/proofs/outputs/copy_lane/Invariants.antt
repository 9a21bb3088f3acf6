use Rattle.std.proofs.Common.{◌≡◌, ℕ, ◌+◌, ◌-◌, ◌*◌, ◌<◌, ◌≤◌, get_or, pos}
use Rattle.fv_engine_tasks.specs.Outputs.{sample_of}
use Rattle.fv_engine_tasks.proofs.outputs.copy_lane.Given as goal

abbrev pub invariant-strips : goal.invariant-strips
invariant-strips g l = record {
  inside : l.from ≤ l.frames;
  put : (t : ℕ) → t < l.from → get_or l.output (t * l.width + l.place) (pos 0) ≡ sample_of (g.S.Store.state l.store).lanes t l.lane;
  others : (t j : ℕ) → j < l.width → (j ≡ l.place → ⊥)
      → get_or l.output (t * l.width + j) (pos 0) ≡ get_or l.initial.output (t * l.width + j) (pos 0);
}

abbrev pub decreases-strips : goal.decreases-strips
decreases-strips g l = l.frames - l.from
