use Rattle.std.proofs.Common.{ap}
use Rattle.fv_parse.specs.Trees.{Parsed}
use Rattle.fv_parse.proofs.Nodes.{entry_is}
use Rattle.fv_parse.proofs.parsed.Tree.entry.Goals as goal

pub returns : goal.returns
returns c =
    let e = entry_is c.args.self.now c.self.inside.entries.items c.args.id c.number.result c.index.result.now c.self.invariant.built
    (ap (λ (p : Parsed). p.entries) c.self.view_is) c.number.ensures c.requires c.index.ensures in
    record { parts = e.parts; tree = e.tree; start = e.start }
