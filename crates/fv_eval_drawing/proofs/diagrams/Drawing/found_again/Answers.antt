use Rattle.std.proofs.Common.{◌≡◌, ◌≤◌, Ok, rules, ap, subst, ◌∙◌}
use Rattle.fv_diagram.specs.declared.node.Node.{Node}
use Rattle.fv_diagram.specs.Arena.{count_of, tree_with}
use Rattle.fv_rules.specs.Puts.{Puts}
use Rattle.fv_base.specs.declared.limits.TheConstants.{SIZE_LIMIT}
use Rattle.fv_eval_drawing.specs.Makes.{Canvas}
use Rattle.fv_eval_drawing.proofs.Fits.{puts_again}
use Rattle.fv_eval_drawing.proofs.diagrams.Drawing.found_again.Goals as goal

pub returns : goal.returns
returns c =
    let a = c.self.inside.diagrams in
    let id = c.in_ok-id.id in
    let node = c.args.node.now in
    let inside = c.in_ok-id.ensures (count_of a) c.self.invariant.3 in
    let same : c.node-found.result ≡ node = search rules in
    let within = subst (λ n. n ≤ SIZE_LIMIT) c.size-size.ensures.size c.size-size.ensures.within in
    record {
      puts = subst (λ (x : Canvas). Puts x.diagrams (tree_with x.diagrams node) (Ok id)) c.self.view_is
          (puts_again a (tree_with a node) id inside (c.node-found.ensures.tree ∙ ap (λ (n : Node). tree_with a n) same) (c.self.invariant.0 id inside) within);
    }
