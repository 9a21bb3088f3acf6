use Rattle.std.proofs.Common.{◌≡◌, ◌≤◌, ◌-◌, length, take}
use Rattle.fv_top_make.specs.headline.Made.{noise_behind}
use Rattle.fv_top_make.specs.Made.{state_behind}
use Rattle.fv_top_make.proofs.noise_tape.sound.Given as goal

abbrev pub invariant-sounding : goal.invariant-sounding
invariant-sounding l = record {
  within : l.i ≤ length l.to;
  long : length l.to ≡ length l.initial.to;
  heard : take l.i l.to ≡ noise_behind l.initial.noise.state l.i;
  state : l.state ≡ state_behind l.initial.noise.state l.i;
}

abbrev pub decreases-sounding : goal.decreases-sounding
decreases-sounding l = length l.to - l.i
