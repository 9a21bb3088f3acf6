use Rattle.std.proofs.Common.{◌≡◌, ℕ, ◌+◌, ◌*◌, ◌<◌, length, get_or, pos}
use Rattle.fv_engine_tasks.specs.Outputs.{sample_of}
use Rattle.fv_engine_tasks.proofs.outputs.copy_outputs.Given as goal

abbrev pub invariant-loop-j : goal.invariant-loop-j
invariant-loop-j g l = record {
  same : (t i : ℕ) → t < l.frames → i < l.j
      → get_or l.output (t * length l.lanes + i) (pos 0) ≡ sample_of (g.S.Store.state l.store).lanes t (get_or l.lanes i 0);
}
