use Rattle.fv_wav.proofs.ReadBack.{file_read, samples_read}
use Rattle.fv_wav.proofs.laws.written_is_read.Goals as goal

pub returns : goal.returns
returns c channels rate bits frames xs w = (file_read channels rate bits frames xs w, samples_read channels rate bits frames xs w)
