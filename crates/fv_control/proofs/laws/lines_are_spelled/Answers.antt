use Rattle.fv_control.proofs.Spelled.{read_is_spelled, spelled_is_read}
use Rattle.fv_control.proofs.laws.lines_are_spelled.Goals as goal

pub returns : goal.returns
returns c line r = (read_is_spelled line r, spelled_is_read line r)
