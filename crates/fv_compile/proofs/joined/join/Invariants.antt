use Rattle.std.proofs.Common.{◌≡◌, take}
use Rattle.fv_compile.specs.Jobs.{inputs_of, controls_of}
use Rattle.fv_compile.proofs.Joins.{AreJoined}
use Rattle.fv_compile.proofs.joined.join.Given as goal

abbrev pub invariant-loop-job : goal.invariant-loop-job
invariant-loop-job l = record {
  joined : AreJoined l.jobs l.job-index l.builder l.outputs.items;
  inputs : l.inputs ≡ inputs_of (take l.job-index l.jobs);
  controls : l.controls ≡ controls_of (take l.job-index l.jobs);
}
