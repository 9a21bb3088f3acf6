use Rattle.fv_share.proofs.lemmas.Puts.{put_stands}
use Rattle.fv_share.proofs.laws.puts_stand.Goals as goal

pub returns : goal.returns
returns c = put_stands
