use Rattle.std.proofs.Common.{rules}
use Rattle.std.proofs.Common.{◌≡◌, ◌<◌, [], Ok, Err, refl, sym, ap, subst, ◌∙◌, arith}
use Rattle.fv_parse_grammar.specs.headline.Tree as tree
use Rattle.fv_parse.specs.TreeNode.{TreeNode}
use Rattle.fv_parse.specs.TreeNode.TheVariants as nodes
use Rattle.fv_parse.specs.headline.Trees.{PartsBelow}
use Rattle.fv_parse.specs.Trees.{Parsed, size_of, tree_in, node_tree, start_in}
use Rattle.fv_eval_scopes.specs.declared.value.Value.TheVariants as value
use Rattle.fv_eval_scopes.specs.declared.value.Ruled.TheVariants as ruled
use Rattle.fv_eval.specs.declared.continuation.Focus as code_focus
use Rattle.fv_eval.specs.declared.continuation.Focus.TheVariants as focus
use Rattle.fv_eval.specs.inner.Continuations.{Begins}
use Rattle.fv_eval.proofs.Begun.{IsAbstraction, case_begins, list_begins, names_begin, slider_begins}
use Rattle.fv_eval.proofs.machine.Machine.visit.Goals as goal

-- The tree that the definitions lend is theirs: each answer is made over it, and brought over.
pub returns-in-Case : goal.returns-in-Case
returns-in-Case c =
    let q = c.tree-tree.result.now in
    let m = c.args.self.now in
    let id = c.args.id in
    let e = c.args.env in
    let here : id < size_of q = subst (λ (x : Parsed). id < size_of x) (sym c.tree-tree.ensures) c.requires in
    let tree = c.node.ensures.tree ∙ ap (λ (n : TreeNode). node_tree q n (start_in q id)) c.in-Case.is in
    subst (λ (f : code_focus.Focus). Begins c.args.text.now m m (Ok f) e (tree_in c.args.text.now id)) (sym c.case_rules.ensures)
    (subst (λ (x : Parsed). Begins x m m (Ok (focus.Give (value.Rules (ruled.Case id) e 0 0))) e (tree_in x id)) c.tree-tree.ensures
    (case_begins q m id e (start_in q id) (tree_in q c.in-Case.field-0) here tree))

pub returns-in-Abstraction : goal.returns-in-Abstraction
returns-in-Abstraction c =
    let q = c.tree-tree.result.now in
    let m = c.args.self.now in
    let id = c.args.id in
    let e = c.args.env in
    let names = c.as_slice.result.now in
    let body = c.in-Abstraction.x in
    let here : id < size_of q = subst (λ (x : Parsed). id < size_of x) (sym c.tree-tree.ensures) c.requires in
    let parts : PartsBelow id (nodes.Abstraction c.in-Abstraction.names body) = subst (PartsBelow id) c.in-Abstraction.is c.node.ensures.parts in
    let spelled = c.node.ensures.tree ∙ ap (λ (n : TreeNode). node_tree q n (start_in q id)) c.in-Abstraction.is in
    let node : IsAbstraction q id (start_in q id) body names = record {
      inside = here;
      below = omega (arith, parts, here);
      is = subst (λ ns. tree_in q id ≡ tree.Abstraction (start_in q id) ns (tree_in q body)) (sym c.as_slice.ensures.value) spelled;
    } in
    subst (λ (x : Parsed). Begins x m m (Ok c.abstraction.result) e (tree_in x id)) c.tree-tree.ensures
    (names_begin q m id e (start_in q id) body names c.abstraction.result node c.abstraction.ensures.bare c.abstraction.ensures.named)

pub returns-in-Slider : goal.returns-in-Slider
returns-in-Slider c =
    let p = c.args.text.now in
    let q = c.tree-tree.result.now in
    let id = c.args.id in
    let n = c.in-Slider in
    let tree = ap (λ (x : Parsed). tree_in x id) (sym c.tree-tree.ensures) ∙ c.node.ensures.tree
    ∙ ap (λ (x : TreeNode). node_tree q x (start_in q id)) n.is in
    slider_begins p c.args.self.now c.slider.new.self c.slider.result id c.args.env (start_in q id) n.field-1 n.field-0
    (tree_in q n.field-2) (tree_in q n.field-3) (tree_in q n.field-4) (tree_in q n.field-5) [] c.requires tree refl c.slider.ensures

pub returns-in-Switch : goal.returns-in-Switch
returns-in-Switch c =
    let q = c.tree-tree.result.now in
    let m = c.args.self.now in
    let n = c.switch.new.self in
    let r = c.switch.result in
    let id = c.args.id in
    let e = c.args.env in
    let tree = c.node.ensures.tree ∙ ap (λ (x : TreeNode). node_tree q x (start_in q id)) c.in-Switch.is in
    subst (λ (x : Parsed). Begins x m n r e (tree_in x id)) c.tree-tree.ensures
    (subst (Begins q m n r e) (sym tree) (λ E h. c.switch.ensures))

pub returns-in-List : goal.returns-in-List
returns-in-List c =
    let q = c.tree-tree.result.now in
    let m = c.args.self.now in
    let id = c.args.id in
    let e = c.args.env in
    let r = c.not_a_diagram-in-List.result in
    subst (λ (x : Parsed). Begins x m m (Err r) e (tree_in x id)) c.tree-tree.ensures
    (list_begins q m m id e c.in-List.field-0.items r
    (c.node.ensures.tree ∙ ap (λ (n : TreeNode). node_tree q n (start_in q id)) c.in-List.is) c.not_a_diagram-in-List.ensures)

pub returns-in-Binary : goal.returns-in-Binary
returns-in-Binary c = search rules

pub returns-in-Where : goal.returns-in-Where
returns-in-Where c = search rules
