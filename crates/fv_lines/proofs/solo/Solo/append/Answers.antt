use Rattle.std.proofs.Common.{set, sym, ap, ◌∙◌, arith, ℤ, to_z-of_z}
use Rattle.fv_loopcode.specs.headline.Lanes.{Lane, appended}
use Rattle.fv_lines.specs.Solo.{lanes_of, lane_at}
use Rattle.fv_lines.proofs.lemmas.Stored.{there_of, lane_is}
use Rattle.fv_lines.proofs.solo.Solo.append.Goals as goal

pub write-requires-clause-there : goal.write-requires-clause-there
write-requires-clause-there c = there_of c.args.self.now c.args.lane c.requires.there

pub write-requires-clause-room : goal.write-requires-clause-room
write-requires-clause-room c =
    let r = c.requires.room in
    omega (arith, r, ap (λ (l : Lane). l.room) (lane_is c.args.self.now c.args.lane c.requires.there))

pub returns-clause-lanes : goal.returns-clause-lanes
returns-clause-lanes c =
    c.write.ensures.lanes
    ∙ ap (λ (v : ℤ). set (lanes_of c.args.self.now) c.args.lane (appended (lane_at c.args.self.now c.args.lane) v)) (to_z-of_z c.ranges.value)
    ∙ ap (λ (l : Lane). set (lanes_of c.args.self.now) c.args.lane (appended l c.args.value)) (sym (lane_is c.args.self.now c.args.lane c.requires.there))
