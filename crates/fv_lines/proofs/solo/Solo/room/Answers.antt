use Rattle.std.proofs.Common.{rules, ◌<◌, ◌-◌, ℕ, length, ap, sym, ◌∙◌, arith}
use Rattle.fv_loopcode.specs.headline.Lanes.{Lane}
use Rattle.fv_lines.proofs.lemmas.Stored.{there_of, lane_is}
use Rattle.fv_lines.specs.declared.begun_lane.BegunLane.{BegunLane}
use Rattle.fv_lines.specs.declared.solo.Solo.{Solo}
use Rattle.fv_lines.proofs.Reached.{field_is}
use Rattle.fv_lines.proofs.solo.Solo.room.Goals as goal

pub offset_bounds-self-lane : goal.offset_bounds-self-lane
offset_bounds-self-lane c =
    let there : c.args.lane < length c.args.self.now.begun.now =
    omega (arith, c.requires.valid.begun, there_of c.args.self.now c.args.lane c.requires.there) in
    search rules

pub bounds-self-lane : goal.bounds-self-lane
bounds-self-lane c = omega (arith, c.requires.valid.begun, there_of c.args.self.now c.args.lane c.requires.there)

pub overflow_sub-result : goal.overflow_sub-result
overflow_sub-result c =
    let s : Solo = c.args.self.now in
    let there = there_of s c.args.lane c.requires.there in
    let count = field_is (λ (y : BegunLane). y.written) s c.args.lane c.index-self-lane.result c.requires.valid there in
    omega (arith, count, (c.requires.valid.lanes c.args.lane there).upto)

pub returns : goal.returns
returns c =
    let s : Solo = c.args.self.now in
    let there = there_of s c.args.lane c.requires.there in
    ap (λ (k : ℕ). s.frames - k) (sym (field_is (λ (y : BegunLane). y.written) s c.args.lane c.index-self-lane.result c.requires.valid there))
    ∙ sym (ap (λ (x : Lane). x.room) (lane_is s c.args.lane c.requires.there))
