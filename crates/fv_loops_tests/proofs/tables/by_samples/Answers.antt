use Rattle.std.proofs.Common.{[], ◌≡◌, ◌⊎◌, subst, sym, List}
use Rattle.fv_num.specs.headline.Words.{argument}
use Rattle.fv_loopcode.specs.declared.step.Step.{Step}
use Rattle.fv_loopcode.specs.Code.{frame_of}
use Rattle.fv_loops_tests.specs.Codes.{written_and_looked_up, written_again}
use Rattle.fv_loops_tests.proofs.Shelves.{may_run}
use Rattle.fv_loops_tests.proofs.tables.by_samples.Goals as goal

pub run-requires-clause-may : goal.run-requires-clause-may
run-requires-clause-may c =
    may_run c.steps.result.now (argument []) (frame_of c.args.input.now 3) c.args.count c.args.shelf.now
    (subst (λ (steps : List Step). (steps ≡ written_and_looked_up) ⊎ (steps ≡ written_again)) (sym c.steps.ensures.steps) c.requires.code) c.requires.room
