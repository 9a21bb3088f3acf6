use Rattle.fv_simplify.proofs.Whole.{rebuilt_is}
use Rattle.fv_simplify.proofs.laws.a_pass_rebuilds.Goals as goal

pub returns : goal.returns
returns c = λ g marks widths room whole good made. rebuilt_is g marks widths room whole good made
