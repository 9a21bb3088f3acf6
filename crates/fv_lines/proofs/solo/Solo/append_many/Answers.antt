use Rattle.std.proofs.Common.{set, length, sym, ap, ◌∙◌, arith}
use Rattle.fv_loopcode.specs.Words.{argument}
use Rattle.fv_loopcode.specs.headline.Lanes.{Lane}
use Rattle.fv_loopcode.specs.Lanes.{all_appended}
use Rattle.fv_lines.specs.Solo.{lanes_of}
use Rattle.fv_lines.proofs.lemmas.Stored.{there_of, lane_is}
use Rattle.fv_lines.proofs.solo.Solo.append_many.Goals as goal

pub write_many-requires-clause-there : goal.write_many-requires-clause-there
write_many-requires-clause-there c = there_of c.args.self.now c.args.lane c.requires.there

pub write_many-requires-clause-room : goal.write_many-requires-clause-room
write_many-requires-clause-room c =
    let lane = c.requires.valid.lanes c.args.lane (there_of c.args.self.now c.args.lane c.requires.there) in
    omega (arith, c.requires.room, lane.upto, ap (λ (l : Lane). l.room) (lane_is c.args.self.now c.args.lane c.requires.there))

pub returns-clause-lanes : goal.returns-clause-lanes
returns-clause-lanes c =
    c.write_many.ensures.lanes
    ∙ ap (λ (l : Lane). set (lanes_of c.args.self.now) c.args.lane (all_appended l (argument c.args.values.now) (length c.args.values.now)))
    (sym (lane_is c.args.self.now c.args.lane c.requires.there))
