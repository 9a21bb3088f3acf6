use Rattle.std.proofs.Common.{arith}
use Rattle.std.proofs.lemmas.Grind.{common_steps}
use Rattle.fv_steal.proofs.seats.seats_of.Goals as goal

pub loop-worker-init : goal.loop-worker-init
loop-worker-init g c = grind (arith, common_steps)

pub push_reserved-requires : goal.push_reserved-requires
push_reserved-requires g c = grind (arith, common_steps)

pub loop-worker-preserved : goal.loop-worker-preserved
loop-worker-preserved g c = grind (arith, common_steps)

pub returns : goal.returns
returns g c = grind (arith, common_steps)
