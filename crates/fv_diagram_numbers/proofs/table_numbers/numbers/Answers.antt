use Rattle.std.proofs.Common.{◌≡◌, length, ◌++◌, [], ◌∷◌, ◌∙◌, ap, sym, refl, arith, rules, SFits, w32, to_z-of_z, ℤ}
use Rattle.fv_diagram.specs.Words.{argument}
use Rattle.fv_diagram.specs.Arena.{tree_of}
use Rattle.fv_diagram_numbers.specs.headline.Numbers.{silent}
use Rattle.fv_diagram_numbers.proofs.lemmas.Closed.{runs_alone}
use Rattle.fv_diagram_numbers.proofs.Numbered.{as_many, frames, ran_none, ran_on}
use Rattle.fv_diagram_numbers.proofs.table_numbers.numbers.Goals as goal

pub new-requires-clause-well : goal.new-requires-clause-well
new-requires-clause-well c =
    let d = tree_of c.args.diagrams.now c.args.head in
    c.composed_is_well.ensures d c.requires.composed (runs_alone d c.requires.fixed).plain

pub new-requires-clause-closed : goal.new-requires-clause-closed
new-requires-clause-closed c = (runs_alone (tree_of c.args.diagrams.now c.args.head) c.requires.fixed).closed

pub loop-i-init : goal.loop-i-init
loop-i-init c =
    let d = tree_of c.args.diagrams.now c.args.head in
    record {
      ran = ran_none c.in_ok-stepper.stepper d c.in_ok-numbers.numbers.items (c.answers_each.ensures d) c.in_ok-stepper.ensures c.in_ok-numbers.ensures.items;
      out = refl;
    }

pub step-requires-clause-controls : goal.step-requires-clause-controls
step-requires-clause-controls c =
    let r = runs_alone (tree_of c.args.diagrams.now c.args.head) c.requires.fixed in
    omega (arith, c.loop-i.invariant.ran.stands.reads, r.controls)

pub step-requires-clause-frame : goal.step-requires-clause-frame
step-requires-clause-frame c =
    let r = runs_alone (tree_of c.args.diagrams.now c.args.head) c.requires.fixed in
    sym (c.loop-i.invariant.ran.stands.takes ∙ r.takes_none)

pub step-requires-clause-out : goal.step-requires-clause-out
step-requires-clause-out c = c.loop-i.invariant.out ∙ sym (c.loop-i.invariant.ran.stands.gives ∙ c.requires.two)

pub loop-i-preserved : goal.loop-i-preserved
loop-i-preserved c =
    let d = tree_of c.args.diagrams.now c.args.head in
    let n = c.loop-i.i in
    let ran = c.loop-i.invariant.ran in
    let out = c.step.new.out in
    let f : SFits w32 (argument out 1) = search rules in
    record {
      ran = ran_on c.loop-i.stepper c.step.new.self d n c.loop-i.numbers.items c.push.new.self.items out (runs_alone d c.requires.fixed).controls
          (c.answers_alike.ensures d) (c.answers_one_more.ensures d) ran (c.in_ok-step.ensures.stands d (frames n) (frames n) ran.stands)
          (c.in_ok-step.ensures.answer d (frames n) (frames n) silent ran.stands)
          (c.in_ok-push.ensures.items ∙ ap (λ (x : ℤ). c.loop-i.numbers.items ++ x ∷ []) (to_z-of_z f));
      out = search rules;
    }

pub returns-clause-many : goal.returns-clause-many
returns-clause-many c =
    let d = tree_of c.args.diagrams.now c.args.head in
    let n = c.loop-i.i in
    let all : n ≡ c.args.count = let h = c.loop-i-test.false in omega arith in
    ap length c.loop-i.invariant.ran.same ∙ as_many d n (c.answers_each.ensures d) ∙ all
