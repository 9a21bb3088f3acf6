use Rattle.std.proofs.Common.{rules, ◌≡◌, ◌<◌, length, subst, sym, arith}
use Rattle.std.proofs.lemmas.Bool.Decides.{nat_tests}
use Rattle.fv_loopcode.specs.headline.Lanes.{Lane}
use Rattle.fv_loopcode.specs.Lanes.{HasJust}
use Rattle.fv_lines.proofs.lemmas.Stored.{there_of, lane_is, length_list}
use Rattle.fv_lines.specs.declared.begun_lane.BegunLane.{BegunLane}
use Rattle.fv_lines.proofs.Reached.{field_is}
use Rattle.fv_lines.proofs.solo.Solo.has_just.Goals as goal

pub offset_bounds-self-lane : goal.offset_bounds-self-lane
offset_bounds-self-lane c =
    let there : c.args.lane < length c.args.self.now.begun.now =
    omega (arith, c.requires.valid.begun, there_of c.args.self.now c.args.lane c.requires.there) in
    search rules

pub bounds-self-lane : goal.bounds-self-lane
bounds-self-lane c = omega (arith, c.requires.valid.begun, there_of c.args.self.now c.args.lane c.requires.there)

pub returns : goal.returns
returns c =
    let s = c.args.self.now in
    let i = c.args.lane in
    let is = lane_is s i c.requires.there in
    let there = there_of s i c.requires.there in
    let count = field_is (λ (y : BegunLane). y.written) s i c.index-self-lane.result c.requires.valid there in
    let long = length_list s i c.requires.valid there in (
      (λ t. subst (λ (l : Lane). HasJust l c.args.samples) (sym is)
          (let k : c.args.samples ≡ c.from.result = grind (arith, nat_tests, t) in omega (arith, k, long, count, c.from.ensures))),
      (λ h.
          let k = subst (λ (l : Lane). HasJust l c.args.samples) is h in
          let m : c.args.samples ≡ c.from.result = omega (arith, k, long, count, c.from.ensures) in
          grind (arith, nat_tests, m)),
    )
