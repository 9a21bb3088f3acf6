use Rattle.std.proofs.Common.{◌≡◌, ◌<◌, length, map, sym, ap, subst, ◌∙◌, arith}
use Rattle.std.proofs.lemmas.Option.{slice_get_past}
use Rattle.fv_parse.specs.Arena.{PartsBelow}
use Rattle.fv_parse.specs.TreeNode.{TreeNode}
use Rattle.fv_parse.specs.Trees.{Parsed, node_tree, size_of, start_in, tree_in}
use Rattle.fv_parse_grammar.specs.headline.Tree as tree
use Rattle.fv_parse_grammar.specs.headline.Tree.{items}
use Rattle.fv_eval.proofs.Applying.{below_list, next_applies, next_waits}
use Rattle.fv_eval.proofs.Arrived.{Argues}
use Rattle.fv_eval_drawing.proofs.lemmas.Entered.{get_within}
use Rattle.fv_eval.proofs.Forms.{is_no_other_application}
use Rattle.fv_eval.proofs.machine.Machine.next_argument.Goals as goal

pub returns-in-Some : goal.returns-in-Some
returns-in-Some c =
    let q = c.tree-tree.result.now in
    let m = c.args.self.now in
    let a = c.args.application in
    let f = c.in-Apply in
    let start = start_in q a in
    let node = c.node.ensures.tree ∙ ap (λ (n : TreeNode). node_tree q n start) f.is in
    let ids = c.items.result.now in
    let id = c.in-Some.id.now in
    let count : c.len.result ≡ length c.args.done.items = omega (arith, c.len.ensures, c.args.done.ok.0) in
    let g0 = get_within ids c.len.result id c.in-Some.ensures.lookup.3.0 c.in-Some.ensures.lookup.1 in
    let got = rw count at g0 in
    let here = subst (λ (x : Parsed). a < size_of x) (sym c.tree-tree.ensures) c.requires.application in
    let inside = below_list q a f.field-0 f.list id ids c.len.result here
    (subst (λ (n : TreeNode). PartsBelow a n) f.is c.node.ensures.parts) c.items.ensures.below g0 in
    subst (λ (x : Parsed). Argues x m c.wait.new.self c.wait.result a c.args.function c.args.env c.args.done.items) c.tree-tree.ensures
    (next_waits q m c.wait.new.self c.wait.result a c.args.function c.args.env c.args.done start (tree_in q f.field-0) (tree_in q f.list) ids id node
    c.items.ensures.items got inside (c.wait.ensures q))

pub returns-in-None : goal.returns-in-None
returns-in-None c =
    let q = c.tree-tree.result.now in
    let p = c.args.text.now in
    let m = c.args.self.now in
    let a = c.args.application in
    let f = c.in-Apply in
    let start = start_in q a in
    let node0 = c.node.ensures.tree ∙ ap (λ (n : TreeNode). node_tree q n start) f.is in
    let ids = c.items.result.now in
    let count : c.len.result ≡ length c.args.done.items = omega (arith, c.len.ensures, c.args.done.ok.0) in
    let got = rw count at (slice_get_past ids c.len.result c.in-None.ensures.lookup.3) in
    let g = tree_in q f.field-0 in
    let zs = tree_in q f.list in
    let node = subst (λ (x : Parsed). tree_in x a ≡ tree.Apply start g zs) c.tree-tree.ensures node0 in
    let all = subst (λ (x : Parsed). map (tree_in x) ids ≡ items zs) c.tree-tree.ensures c.items.ensures.items in
    next_applies p m c.apply.new.self c.apply.result a c.args.function c.args.env c.args.done.items start g zs ids node all got c.apply.ensures

pub unreachable-requires : goal.unreachable-requires
unreachable-requires c =
    is_no_other_application c.args.text.now c.tree-tree.result.now c.args.application c.node.result.now _ c.tree-tree.ensures c.node.ensures.tree
    c.requires.form c.in_default.not-Apply
