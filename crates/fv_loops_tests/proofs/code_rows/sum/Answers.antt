use Rattle.std.proofs.Common.{[], ◌∙◌}
use Rattle.fv_num.specs.headline.Words.{argument}
use Rattle.fv_loopcode.specs.Code.{frame_of}
use Rattle.fv_loops_tests.proofs.Sums.{may_sum}
use Rattle.fv_loops_tests.proofs.code_rows.sum.Goals as goal

pub run-requires-clause-may : goal.run-requires-clause-may
run-requires-clause-may c =
    may_sum c.steps.result.now (argument []) (frame_of c.args.input.now 1) c.args.count c.args.shelf.now (c.steps.ensures.steps ∙ c.requires.code)
    c.requires.room
