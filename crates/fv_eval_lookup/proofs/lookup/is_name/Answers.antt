use Rattle.std.proofs.Common.{ap, sym, ◌∙◌}
use Rattle.fv_parse.specs.Arena.{trees}
use Rattle.fv_parse.specs.Trees.{start_in}
use Rattle.fv_eval_lookup.specs.inner.Lookup.{is_name}
use Rattle.fv_eval_lookup.proofs.Lookups.{not_a_name}
use Rattle.fv_eval_lookup.proofs.lookup.is_name.Goals as goal

pub returns-in_default : goal.returns-in_default
returns-in_default c =
    let p = c.args.tree.now in
    sym (ap is_name c.node.ensures.tree ∙ not_a_name (trees p.entries) c.node.result.now (start_in p c.args.id) c.in_default.not-Named)
