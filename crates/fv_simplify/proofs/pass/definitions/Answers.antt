use Rattle.std.proofs.Common.{◌≡◌, get_or, map, take, ap, ◌∙◌}
use Rattle.fv_share.specs.Drafts.{lists_in}
use Rattle.fv_simplify.proofs.Whole.{list_at}
use Rattle.fv_simplify.proofs.Closes.{lists_push}
use Rattle.fv_simplify.proofs.pass.definitions.Goals as goal

pub loop-group-preserved : goal.loop-group-preserved
loop-group-preserved c =
    let at = c.loop-group in
    let g = c.args.graph.now in
    let widths = c.args.widths.now in
    let images = c.args.images.now in
    let row : c.in_ok-list.list.items ≡ list_at g widths images at.group =
    c.in_ok-list.ensures ∙ ap (λ ms. map (λ r. get_or images r 0) (take (get_or widths at.group 0) ms)) c.group.ensures in
    ap lists_in c.in_ok-push.ensures.items ∙ lists_push at.lists.items c.in_ok-list.list (list_at g widths images) at.group at.invariant row
