use Rattle.fv_ready.proofs.Stepping.{steps}
use Rattle.fv_ready.proofs.laws.step_law.Goals as goal

pub returns : goal.returns
returns h start a id v c graph few ab = steps h.C.Parcel.edge_of h.C.Parcel.key_of a graph few id v c ab
