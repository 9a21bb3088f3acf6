use Rattle.std.proofs.Common.{[]}
use Rattle.fv_num.specs.headline.Words.{argument}
use Rattle.fv_loopcode.specs.Code.{frame_of}
use Rattle.fv_loops_tests.proofs.Shelves.{may_run}
use Rattle.fv_loops_tests.proofs.tables.by_strips.Goals as goal

pub run-requires-clause-may : goal.run-requires-clause-may
run-requires-clause-may c =
    may_run c.args.code.now (argument []) (frame_of c.args.input.now 3) c.args.count c.args.shelf.now c.requires.code c.requires.room
