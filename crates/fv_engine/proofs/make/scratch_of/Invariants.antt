use Rattle.std.proofs.Common.{◌≡◌, ℕ, ◌<◌, length, get_or}
use Rattle.fv_loopcode_machine.specs.Scratches.{HasRoom}
use Rattle.fv_loopcode_machine.specs.declared.scratch.Scratch.{Scratch}
use Rattle.fv_split_plan.specs.headline.View.{code_of}
use Rattle.fv_engine.proofs.make.scratch_of.Given as goal

abbrev pub invariant-loop-j : goal.invariant-loop-j
invariant-loop-j l = record {
  count : length l.scratch.items ≡ l.j;
  each : (i : ℕ) (d : Scratch) → i < l.j → HasRoom (code_of l.plan i) (get_or l.scratch.items i d);
}
