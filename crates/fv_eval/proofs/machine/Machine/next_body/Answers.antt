use Rattle.std.proofs.Common.{◌≡◌, ◌<◌, ◌-◌, ◌^◌, ℕ, suc, Result, ℤ, pos, length, arith, refl, sym, ap, subst, ◌∙◌, w32}
use Rattle.std.proofs.Math.Facts.{to_z_pos}
use Rattle.fv_diagram.specs.headline.Diagram.{Constant}
use Rattle.fv_eval_drawing.specs.Makes.{Draws}
use Rattle.fv_parse.specs.Arena.{PartsBelow}
use Rattle.fv_parse.specs.TreeNode.{TreeNode}
use Rattle.fv_parse.specs.Trees.{Parsed, node_tree, size_of, start_in, tree_in}
use Rattle.fv_rules.specs.declared.refusal.EvalRefusal.{EvalRefusal}
use Rattle.fv_eval.specs.declared.continuation.Focus as code_focus
use Rattle.fv_eval.proofs.Received.{Repeats}
use Rattle.fv_eval.proofs.Iterated.{bodies_end, body_waits}
use Rattle.fv_eval.proofs.Forms.{is_no_other_iteration}
use Rattle.fv_eval.proofs.machine.Machine.next_body.Goals as goal

pub returns-then-left-eq0 : goal.returns-then-left-eq0
returns-then-left-eq0 c =
    let q = c.tree-tree.result.now in
    let m = c.args.self.now in
    let a = c.args.iteration in
    let f = c.in-Iteration in
    let start = start_in q a in
    let node = c.node.ensures.tree ∙ ap (λ (n : TreeNode). node_tree q n start) f.is in
    let n = record m { drawing = c.gather.new.self } in
    let ends = bodies_end q m c.gather.new.self c.gather.result a c.args.env start f.name f.kind (tree_in q f.field-2) (tree_in q f.body)
    c.args.done.items node c.gather.ensures.keeps c.gather.ensures.makes in
    let given = subst (λ (x : Result code_focus.Focus EvalRefusal). Repeats q m n x a c.args.env 0 c.args.done.items) (sym c.give.ensures) ends in
    let left = subst (λ (k : ℕ). Repeats q m n c.give.result a c.args.env k c.args.done.items) (sym c.if-left-eq0.true) given in
    subst (λ (x : Parsed). Repeats x m n c.give.result a c.args.env c.args.left c.args.done.items) c.tree-tree.ensures left

pub returns : goal.returns
returns c =
    let q = c.tree-tree.result.now in
    let m = c.args.self.now in
    let a = c.args.iteration in
    let f = c.in-Iteration in
    let start = start_in q a in
    let node = c.node.ensures.tree ∙ ap (λ (n : TreeNode). node_tree q n start) f.is in
    let parts = subst (λ (n : TreeNode). PartsBelow a n) f.is c.node.ensures.parts in
    let here = subst (λ (x : Parsed). a < size_of x) (sym c.tree-tree.ensures) c.requires.iteration in
    let below = parts.1 in
    let inside : f.body < size_of q = omega (arith, below, here) in
    let one : c.args.left ≡ suc (c.args.left - 1) = omega (arith, c.if-left-eq0.false) in
    let name = c.canonical-name in
    let inner = c.in_ok-inner in
    let number = c.in_ok-number in
    let count : c.len-index.result ≡ length c.args.done.items = omega (arith, c.len-index.ensures, c.args.done.ok.0) in
    let indexed = c.requires.indexed in
    let within : c.len-index.result < 2 ^ 31 = omega (arith, indexed, count) in
    let drawn : Draws c.leaf.new.self.diagrams number.number (Constant (pos (length c.args.done.items))) =
    subst (λ (z : ℤ). Draws c.leaf.new.self.diagrams number.number (Constant z)) (to_z_pos w32 within
    ∙ ap pos count) number.ensures.draws in
    subst (λ (x : Parsed). Repeats x m c.wait.new.self c.wait.result a c.args.env c.args.left c.args.done.items) c.tree-tree.ensures
    (body_waits q m c.wait.new.self c.wait.result c.leaf.new.self c.bind.new.self a c.args.env c.args.left
    (c.args.left - 1) inner.inner number.number name.result f.body start f.name f.kind
    (tree_in q f.field-2) (tree_in q f.body)
    (pos (length c.args.done.items)) c.args.done node one refl number.ensures.adds drawn name.ensures.text
    name.ensures.first inner.ensures.ok.0 inner.ensures.ok.1 inside refl (omega (arith, indexed, one)) (c.wait.ensures q))

pub unreachable-requires : goal.unreachable-requires
unreachable-requires c =
    is_no_other_iteration c.args.text.now c.tree-tree.result.now c.args.iteration c.node.result.now _ c.tree-tree.ensures c.node.ensures.tree
    c.requires.form c.in_default.not-Iteration
