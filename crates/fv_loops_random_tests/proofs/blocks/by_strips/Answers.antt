use Rattle.std.proofs.Common.{rules, IsTrue, subst, sym}
use Rattle.fv_num.specs.headline.Words.{argument}
use Rattle.fv_loopcode.specs.Code.{AreOrdered, frame_of}
use Rattle.fv_loops_random_tests.specs.Shelves.{state_on}
use Rattle.fv_loops_random_tests.specs.MayGo.{MayGo}
use Rattle.fv_loops_random_tests.proofs.Going.{goes}
use Rattle.fv_loops_random_tests.proofs.blocks.by_strips.Goals as goal

pub run-requires-clause-may : goal.run-requires-clause-may
run-requires-clause-may c =
    goes c.args.code.now (state_on c.args.shelves.now) c.args.block.from c.args.block.count
    (subst (λ steps. MayGo steps (state_on c.args.shelves.now) c.args.block.from c.args.block.count) c.steps-steps.ensures.steps
    (c.may_run.ensures.go (subst IsTrue (sym c.if-not-may_run.false) (search rules)))) c.steps-steps.ensures.ordered
    (argument c.deref.result.now) (frame_of c.deref-2.result.now 2)
