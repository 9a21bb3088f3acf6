use Rattle.std.proofs.Common.{◌∙◌, sym, ap}
use Rattle.std.specs.Prelude.{filter}
use Rattle.fv_eval_lookup.specs.ByName.{is_called}
use Rattle.fv_eval_lookup.proofs.Named.{listed_none}
use Rattle.fv_eval_lookup.proofs.lookup.Definitions.listed.Goals as goal

pub returns-then-i-len : goal.returns-then-i-len
returns-then-i-len c = λ name none.
    let w = c.self.inside in
    listed_none w.tree.now c.args.self.now w.lists.items c.args.list c.number-i.result name c.index.result.now c.self.view_is c.self.invariant.0
    c.number-i.ensures c.index.ensures (ap (filter (is_called name)) (sym c.all.ensures) ∙ none)
