use Rattle.std.proofs.Common.{rules}
use Rattle.fv_eval.proofs.Moves.{drawn_grew}
use Rattle.fv_eval.proofs.machine.Machine.settle.Goals as goal

pub returns-in_err-settled-clause-grew : goal.returns-in_err-settled-clause-grew
returns-in_err-settled-clause-grew c = λ p. drawn_grew p c.args.self.now c.settle.new.self c.in_err-settled.ensures.adds

pub returns-clause-grew : goal.returns-clause-grew
returns-clause-grew c = λ p. drawn_grew p c.args.self.now c.settle.new.self c.in_ok-settled.ensures.adds

pub returns-clause-shows : goal.returns-clause-shows
returns-clause-shows c = search rules
