use Rattle.std.proofs.Common.{◌≡◌, Some, sym, ap, subst, ◌∙◌, rules, SFits, w32, to_z-of_z}
use lib.IntN.{nat_abs}
use Rattle.fv_diagram.specs.Arena.{tree_of}
use Rattle.fv_eval_drawing.specs.Makes.{Canvas}
use Rattle.fv_rules.specs.Numbers.{number_of}
use Rattle.fv_eval.proofs.Iterated.{Counts, count_from}
use Rattle.fv_eval.proofs.Forms.{is_no_other_iteration}
use Rattle.fv_eval.proofs.machine.Machine.count.Goals as goal

pub returns-else-n-lt1 : goal.returns-else-n-lt1
returns-else-n-lt1 c =
    let p = c.args.text.now in
    let m = c.args.self.now in
    let d = c.number_of.new.self in
    let n = c.next_body.new.self in
    let r = c.next_body.result in
    let a = c.args.iteration in
    let i = c.args.diagram in
    let z = c.in-Some.n in
    let fits : SFits w32 z = search rules in
    let same = c.in_ok-number_of.ensures.same in
    let some = subst (λ (x : Canvas). Some z ≡ number_of (tree_of x.diagrams i)) (sym same) (sym c.in-Some.is
    ∙ c.in_ok-number_of.ensures.number) in
    let low = rw (to_z-of_z fits) at c.if-n-lt1.false in
    subst (λ (x : Canvas). Counts p (record m { drawing = x }) n r a c.args.env i) same
    (count_from p (record m { drawing = d }) n r a c.args.env i _ c.new-done.result.items z some low
    (λ k e. ap nat_abs (to_z-of_z fits ∙ e)) c.new-done.ensures.items c.next_body.ensures)

pub unreachable-requires : goal.unreachable-requires
unreachable-requires c =
    is_no_other_iteration c.args.text.now c.tree-tree.result.now c.args.iteration c.node.result.now _ c.tree-tree.ensures c.node.ensures.tree
    c.requires.form c.in_default.not-Iteration

pub returns-then-n-lt1 : goal.returns-then-n-lt1
returns-then-n-lt1 c = search rules
