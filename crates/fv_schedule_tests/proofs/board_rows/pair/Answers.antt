use Rattle.fv_schedule_tests.proofs.Pairs.{are_two_loops}
use Rattle.fv_schedule_tests.proofs.board_rows.pair.Goals as goal

pub returns : goal.returns
returns c = are_two_loops c.new.result c.new.ensures.loops c.new.ensures.vectors c.new.ensures.reads
