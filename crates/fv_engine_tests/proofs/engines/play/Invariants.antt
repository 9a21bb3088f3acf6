use Rattle.std.proofs.Common.{◌≡◌, ◌*◌, ◌-◌, ◌≤◌, length}
use Rattle.fv_engine.specs.Stands.{SameParts}
use Rattle.fv_engine_tests.proofs.engines.play.Given as goal

abbrev pub invariant-playing : goal.invariant-playing
invariant-playing g l = record {
  same : SameParts l.initial.engine l.engine;
  within : l.frame ≤ l.frames;
  long : length l.output ≡ l.frames * l.sizes.width;
}

abbrev pub decreases-playing : goal.decreases-playing
decreases-playing g l = l.frames - l.frame
