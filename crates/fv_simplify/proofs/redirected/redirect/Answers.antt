use Rattle.std.proofs.Common.{map, sym, ap, ◌∙◌, subst}
use Rattle.fv_base.specs.headline.Lists.{at}
use Rattle.fv_share.specs.Drafts.{lists_in}
use Rattle.fv_signal.specs.headline.Value.{IsGraph}
use Rattle.fv_simplify.proofs.lemmas.Redirected.{is_graph}
use Rattle.fv_simplify.proofs.Parts.{made}
use Rattle.fv_simplify.proofs.redirected.redirect.Goals as goal

pub new-requires : goal.new-requires
new-requires c =
    let g = c.args.graph.now in
    let im = at c.args.images.now in
    let groups = lists_in c.in_ok-groups.groups.items in
    let tables = lists_in c.in_ok-tables.tables.items in
    let same = made g im c.in_ok-signals.signals.items groups tables c.in_ok-outputs.outputs.items
    c.in_ok-signals.ensures c.in_ok-groups.ensures c.in_ok-tables.ensures (c.in_ok-outputs.ensures ∙ ap (map im) c.outputs.ensures.list) in
    subst IsGraph (sym same) (is_graph g im c.outputs.ensures.graph c.requires)
