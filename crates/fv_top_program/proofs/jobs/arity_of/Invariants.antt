use Rattle.std.proofs.Common.{◌≡◌, take}
use Rattle.std.specs.List.{sum_by}
use Rattle.fv_diagram.specs.headline.Diagram.{inputs, outputs}
use Rattle.fv_top_program.specs.Compiled.{compiled_of}
use Rattle.fv_top_program.proofs.jobs.arity_of.Given as goal

abbrev pub invariant-loop-read : goal.invariant-loop-read
invariant-loop-read l = record {
  inputs : l.inputs ≡ sum_by (λ r. inputs (compiled_of r.program).diagram) (take l.read-index l.reads);
  outputs : l.outputs ≡ sum_by (λ r. outputs (compiled_of r.program).diagram) (take l.read-index l.reads);
}
