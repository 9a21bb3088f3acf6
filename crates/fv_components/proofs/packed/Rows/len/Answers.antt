use Rattle.std.proofs.Common.{length, ap, arith}
use Rattle.fv_components.proofs.Packs.{length_cut}
use Rattle.fv_components.proofs.packed.Rows.len.Goals as goal

pub returns : goal.returns
returns c = let e = length_cut c.self.inside.starts.items c.self.inside.numbers.items in omega (arith, e, ap length c.self.view_is)
