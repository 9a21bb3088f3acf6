use Rattle.std.proofs.Common.{◌+◌, ◌-◌, ◌*◌}
use Rattle.std.specs.Prelude.{length}
use Rattle.fv_steal.proofs.side_by_side.+places.Given as goal

abbrev pub decreases-each_from : goal.decreases-each_from
decreases-each_from g l = 4 * length l.s.now

abbrev pub decreases-both : goal.decreases-both
decreases-both g l = 4 * (length l.one.now + length l.others.now) - 1

abbrev pub decreases-both-theirs : goal.decreases-both-theirs
decreases-both-theirs g l = 4 * length l.one.now + 1

abbrev pub decreases-both-ours : goal.decreases-both-ours
decreases-both-ours g l = 4 * length l.others.now + 1
