use Rattle.fv_ready.proofs.Openings.{opens}
use Rattle.fv_ready.proofs.laws.opening_law.Goals as goal

pub returns : goal.returns
returns h c = opens h.C.Parcel.edge_of h.C.Parcel.key_of
