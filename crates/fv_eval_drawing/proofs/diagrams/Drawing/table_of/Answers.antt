use Rattle.std.proofs.Common.{◌≡◌, ◌∙◌, ◌*◌, ◌<ℤ◌, ◌≤ℤ◌, Ok, Err, ap, sym, subst, ℤ, pos, nat_abs, arith, rules, SFits, w32, to_z, of_z, to_z-of_z}
use Rattle.std.proofs.lemmas.Int.{ints}
use Rattle.std.proofs.lemmas.Result.{err_from_is_err_and}
use Rattle.fv_diagram.specs.headline.Diagram.{Seq, Table, outputs}
use Rattle.fv_diagram.specs.Arena.{tree_of}
use Rattle.fv_diagram_numbers.specs.headline.Heads.{all_outputs, is_fixed, table_numbers}
use Rattle.fv_rules.specs.declared.refusal.EvalRefusal.{EvalRefusal}
use Rattle.fv_rules.specs.headline.Steps.{sized, tabled_by}
use Rattle.fv_eval_drawing.specs.declared.lists.Link.TheVariants as link
use Rattle.fv_eval_drawing.specs.Lists.{all_from_right, linked}
use Rattle.fv_eval_drawing.specs.Makes.{Becomes, Makes, trees_of}
use Rattle.fv_eval_drawing.specs.inner.Tables.{GrowsBy}
use Rattle.fv_eval_drawing.proofs.Tabling.{becomes_makes, behind_rest, behind_sum, head_put, head_refused, head_stands, head_stays, put_sides, rest_refused}
use Rattle.fv_eval_drawing.proofs.Tabling.{rest_stands, rest_stays, size_refused, size_so, some_head, some_rest, sum_refused, sum_stands}
use Rattle.fv_eval_drawing.proofs.diagrams.Drawing.table_of.Goals.{In_ok-grow}
use Rattle.fv_eval_drawing.proofs.diagrams.Drawing.table_of.Goals as goal

pub returns-in_err-whole-clause-makes : goal.returns-in_err-whole-clause-makes
returns-in_err-whole-clause-makes c =
    let a = c.args.self.now in
    let ds = trees_of a.diagrams c.args.head.items in
    let p = err_from_is_err_and c.from_residual.result c.from_residual.ensures.1 in
    rw (p.1, p.2) (head_refused a c.side_by_side.new.self c.args.writes ds (trees_of a.diagrams c.args.rest.items) c.in_err-whole.field-0.0
    c.requires.takes (some_head ds c.requires.fixed) c.in_err-whole.ensures.makes)

pub first_of-requires-clause-fixed : goal.first_of-requires-clause-fixed
first_of-requires-clause-fixed c =
    (head_put c.args.self.now c.side_by_side.new.self (trees_of c.args.self.now.diagrams c.args.head.items) c.in_ok-whole.whole c.requires.fixed
    c.in_ok-whole.ensures.makes).fixed

pub first_of-requires-clause-two : goal.first_of-requires-clause-two
first_of-requires-clause-two c =
    (head_put c.args.self.now c.side_by_side.new.self (trees_of c.args.self.now.diagrams c.args.head.items) c.in_ok-whole.whole c.requires.fixed
    c.in_ok-whole.ensures.makes).two

pub returns-then-size-lt1-clause-makes : goal.returns-then-size-lt1-clause-makes
returns-then-size-lt1-clause-makes c =
    let a = c.args.self.now in
    let b = c.side_by_side.new.self in
    let ds = trees_of a.diagrams c.args.head.items in
    let rs = trees_of a.diagrams c.args.rest.items in
    let f : SFits w32 c.in_ok-size.size = search rules in
    let size : ℤ = to_z w32 (of_z w32 c.in_ok-size.size) in
    let less : size <ℤ pos 1 = omega (arith, ints, c.if-size-lt1.true) in
    size_refused a b c.args.writes (tabled_by c.args.writes ds rs) (tree_of b.diagrams c.in_ok-whole.whole) rs size
    (sym (to_z-of_z f ∙ c.in_ok-size.ensures)) less (head_stands a b c.args.writes ds rs c.in_ok-whole.whole c.requires.takes c.in_ok-whole.ensures.makes)

pub returns-in_err-grow-clause-makes : goal.returns-in_err-grow-clause-makes
returns-in_err-grow-clause-makes c =
    let a = c.args.self.now in
    let b = c.side_by_side.new.self in
    let g = c.grow.new.self in
    let ds = trees_of a.diagrams c.args.head.items in
    let rs = trees_of a.diagrams c.args.rest.items in
    let h = tree_of b.diagrams c.in_ok-whole.whole in
    let f : SFits w32 c.in_ok-size.size = search rules in
    let size : ℤ = to_z w32 (of_z w32 c.in_ok-size.size) in
    let some : pos 1 ≤ℤ size = omega (arith, ints, c.if-size-lt1.false) in
    let x : EvalRefusal = c.in_err-grow.field-0.0 in
    let p = err_from_is_err_and c.from_residual-in_err-grow.result c.from_residual-in_err-grow.ensures.1 in
    rw (p.1, p.2) (sum_refused a b g c.args.writes (tabled_by c.args.writes ds rs) h rs (nat_abs size) x
    (size_so a b c.args.writes ds rs c.in_ok-whole.whole size c.requires.takes c.in_ok-whole.ensures.makes (to_z-of_z f ∙ c.in_ok-size.ensures) some)
    (subst (λ k. GrowsBy b g (nat_abs size * k) (Err x)) (c.from.ensures ∙ c.size.ensures.size) c.in_err-grow.ensures))

-- the sum grew
grown : (c : In_ok-grow)
    → let a = c.args.self.now in let b = c.side_by_side.new.self in
    let rs = trees_of a.diagrams c.args.rest.items in
    Becomes a c.grow.new.self (tabled_by c.args.writes (trees_of a.diagrams c.args.head.items) rs)
    (behind_sum c.args.writes (nat_abs (to_z w32 (of_z w32 c.in_ok-size.size))) (tree_of b.diagrams c.in_ok-whole.whole) rs)
grown c =
    let a = c.args.self.now in
    let b = c.side_by_side.new.self in
    let g = c.grow.new.self in
    let ds = trees_of a.diagrams c.args.head.items in
    let rs = trees_of a.diagrams c.args.rest.items in
    let f : SFits w32 c.in_ok-size.size = search rules in
    let size : ℤ = to_z w32 (of_z w32 c.in_ok-size.size) in
    let some : pos 1 ≤ℤ size = omega (arith, ints, c.if-size-lt1.false) in
    sum_stands a b g c.args.writes (tabled_by c.args.writes ds rs) (tree_of b.diagrams c.in_ok-whole.whole) rs (nat_abs size)
    (size_so a b c.args.writes ds rs c.in_ok-whole.whole size c.requires.takes c.in_ok-whole.ensures.makes (to_z-of_z f ∙ c.in_ok-size.ensures) some)
    (subst (λ k. GrowsBy b g (nat_abs size * k) (Ok tt)) (c.from.ensures ∙ c.size.ensures.size) c.in_ok-grow.ensures)

pub returns-in_err-taken-clause-makes : goal.returns-in_err-taken-clause-makes
returns-in_err-taken-clause-makes c =
    let a = c.args.self.now in
    let b = c.side_by_side.new.self in
    let g = c.grow.new.self in
    let d = c.side_by_side-2.new.self in
    let rest = c.args.rest.items in
    let ds = trees_of a.diagrams c.args.head.items in
    let rs = trees_of a.diagrams rest in
    let x : EvalRefusal = c.in_err-taken.field-0.0 in
    let p = err_from_is_err_and c.from_residual-in_err-taken.result c.from_residual-in_err-taken.ensures.1 in
    rw (p.1, p.2) (rest_refused a g d c.args.writes (tabled_by c.args.writes ds rs) (tree_of b.diagrams c.in_ok-whole.whole) rs
    (nat_abs (to_z w32 (of_z w32 c.in_ok-size.size))) x (some_rest c.args.writes rs c.requires.takes)
    (grown (goal.at.returns-in_err-taken-clause-makes c).In_ok-grow)
    (subst (λ xs. Makes g d (all_from_right (linked link.Parallel) xs) (Err x))
    (rest_stays a b g rest c.in_ok-whole.ensures.keeps c.in_ok-grow.ensures.0 c.requires.rest) c.in_err-taken.ensures.makes))

pub numbers-requires-clause-fixed : goal.numbers-requires-clause-fixed
numbers-requires-clause-fixed c =
    let a = c.args.self.now in
    let b = c.side_by_side.new.self in
    let head = head_put a b (trees_of a.diagrams c.args.head.items) c.in_ok-whole.whole c.requires.fixed c.in_ok-whole.ensures.makes in
    let stays = head_stays b c.grow.new.self c.side_by_side-2.new.self c.in_ok-whole.whole c.in_ok-whole.ensures.makes.0 c.in_ok-grow.ensures.0
    c.in_ok-taken.ensures.keeps in
    ap is_fixed stays.1 ∙ head.fixed

pub numbers-requires-clause-two : goal.numbers-requires-clause-two
numbers-requires-clause-two c =
    let a = c.args.self.now in
    let b = c.side_by_side.new.self in
    let head = head_put a b (trees_of a.diagrams c.args.head.items) c.in_ok-whole.whole c.requires.fixed c.in_ok-whole.ensures.makes in
    let stays = head_stays b c.grow.new.self c.side_by_side-2.new.self c.in_ok-whole.whole c.in_ok-whole.ensures.makes.0 c.in_ok-grow.ensures.0
    c.in_ok-taken.ensures.keeps in
    ap outputs stays.1 ∙ head.two

pub table_behind-requires-clause-fits : goal.table_behind-requires-clause-fits
table_behind-requires-clause-fits c =
    let a = c.args.self.now in
    let b = c.side_by_side.new.self in
    let g = c.grow.new.self in
    let rest = c.args.rest.items in
    (put_sides g c.side_by_side-2.new.self (trees_of g.diagrams rest) c.in_ok-taken.taken c.in_ok-taken.ensures.makes).outputs
    ∙ ap all_outputs (rest_stays a b g rest c.in_ok-whole.ensures.keeps c.in_ok-grow.ensures.0 c.requires.rest) ∙ c.requires.takes

pub returns-clause-makes : goal.returns-clause-makes
returns-clause-makes c =
    let a = c.args.self.now in
    let b = c.side_by_side.new.self in
    let g = c.grow.new.self in
    let d = c.side_by_side-2.new.self in
    let e = c.table_behind.new.self in
    let rest = c.args.rest.items in
    let ds = trees_of a.diagrams c.args.head.items in
    let rs = trees_of a.diagrams rest in
    let h = tree_of b.diagrams c.in_ok-whole.whole in
    let n = nat_abs (to_z w32 (of_z w32 c.in_ok-size.size)) in
    let taken = tree_of d.diagrams c.in_ok-taken.taken in
    let stays = head_stays b g d c.in_ok-whole.whole c.in_ok-whole.ensures.makes.0 c.in_ok-grow.ensures.0 c.in_ok-taken.ensures.keeps in
    let values : c.as_slice.result.now ≡ table_numbers n h =
    c.as_slice.ensures.value ∙ c.in_ok-values.ensures.numbers ∙ ap (table_numbers n) stays.1 in
    becomes_makes a d e (tabled_by c.args.writes ds rs) (behind_rest c.args.writes n h taken) c.table_behind.result
    (rest_stands a g d c.args.writes (tabled_by c.args.writes ds rs) h rs n c.in_ok-taken.taken
    (grown (goal.at.returns-clause-makes c).In_ok-grow)
    (subst (λ xs. Makes g d (all_from_right (linked link.Parallel) xs) (Ok c.in_ok-taken.taken))
    (rest_stays a b g rest c.in_ok-whole.ensures.keeps c.in_ok-grow.ensures.0 c.requires.rest) c.in_ok-taken.ensures.makes))
    (subst (λ T. Makes d e (sized (Seq taken (Table T c.args.writes))) c.table_behind.result) values c.table_behind.ensures.makes)
