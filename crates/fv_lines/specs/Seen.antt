-- What a seen lane shows.
use Rattle.std.specs.Prelude.{List, ◌++◌, ℤ}
use Rattle.fv_loopcode.specs.headline.Lanes.{Lane}
use Rattle.fv_lines.specs.declared.seen.Seen.{Seen}

-- the samples of a seen lane, the history first
abbrev pub samples_of : Seen → List ℤ
samples_of s = s.older.now ++ s.newer.now

-- as a lane, which takes no more samples
abbrev pub lane_seen : Seen → Lane
lane_seen s = record { history = s.history; items = samples_of s; room = 0 }
