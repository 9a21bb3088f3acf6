use Rattle.fv_au.proofs.Again.{written_again}
use Rattle.fv_au.proofs.laws.au_written_is_read.Goals as goal

pub returns : goal.returns
returns c = written_again
