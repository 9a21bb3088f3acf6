use Rattle.fv_compile.proofs.Beside.{parts_answer_alike}
use Rattle.fv_compile.proofs.laws.parts_answer_alike.Goals as goal

pub returns : goal.returns
returns c = parts_answer_alike
