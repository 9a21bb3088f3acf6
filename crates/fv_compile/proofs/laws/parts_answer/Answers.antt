use Rattle.fv_compile.proofs.Beside.{parts_answer}
use Rattle.fv_compile.proofs.laws.parts_answer.Goals as goal

pub returns : goal.returns
returns c = parts_answer
