use Rattle.std.proofs.Common.{ℕ, Result, inl, refl, sym, subst, ◌∙◌}
use Rattle.fv_diagram.specs.Arena.{Arena, ChildrenBelow, count_of, tree_with}
use Rattle.fv_rules.specs.declared.refusal.EvalRefusal.{EvalRefusal}
use Rattle.fv_rules.specs.Puts.{Puts}
use Rattle.fv_eval_drawing.specs.Makes.{AddsDiagrams, Canvas}
use Rattle.fv_eval_drawing.proofs.Remembered.{put_extends, put_composed, still_remembers}
use Rattle.fv_eval_drawing.proofs.Wired.{still_inside, still_wires}
use Rattle.fv_eval_drawing.proofs.diagrams.Drawing.put_anew.Goals as goal
use Rattle.fv_eval_drawing.proofs.diagrams.Drawing.put_anew.Goals.{in-Ok+then-number-lt-MOST_DIAGRAMS, in-Ok+else-number-lt-MOST_DIAGRAMS, in-Err}

pub returns-clause-puts : goal.returns-clause-puts
returns-clause-puts c =
    let n = c.args.node.now in
    let Is : Result ℕ EvalRefusal → Type 0 = λ r. Puts c.put.new.diagrams (tree_with c.args.self.now.diagrams n) r in
    let is : Is c.put.result =
    subst (λ (x : Canvas). Puts c.put.new.diagrams (tree_with x.diagrams n) c.put.result) c.self.view_is c.put.ensures.put in
    elim c.match-put.branch [
      | in-Ok+then-number-lt-MOST_DIAGRAMS w ↦ subst Is (w.in-Ok.is ∙ sym w.result-is) is
      | in-Ok+else-number-lt-MOST_DIAGRAMS w ↦ subst Is (sym w.result-is) (inl w.from.ensures)
      | in-Err w ↦ subst Is (w.in-Err.is ∙ sym w.result-is) is
    ]

pub returns-clause-adds : goal.returns-clause-adds
returns-clause-adds c =
    let canvas : Arena → Canvas = λ a. record { diagrams = a; tables = c.self.inside.tables } in
    let a = c.self.inside.diagrams in
    let b = c.put.new.diagrams in
    let grown = put_extends (canvas a) (canvas b) c.args.node.now c.put.result c.put.ensures.added c.put.ensures.err c.put.ensures.keeps in
    subst (λ (x : Canvas). AddsDiagrams x (canvas b)) c.self.view_is (record { keeps = grown; tables = refl })

pub invariant_of-self : goal.invariant_of-self
invariant_of-self c =
    let canvas : Arena → Canvas = λ a. record { diagrams = a; tables = c.self.inside.tables } in
    let a = c.self.inside.diagrams in
    let b = c.put.new.diagrams in
    let n = c.args.node.now in
    let below = subst (λ (x : Canvas). ChildrenBelow (count_of x.diagrams) n) (sym c.self.view_is) c.requires.children in
    let grown = put_extends (canvas a) (canvas b) n c.put.result c.put.ensures.added c.put.ensures.err c.put.ensures.keeps in (
      put_composed a b n c.put.result c.self.invariant.0 below c.put.ensures.added c.put.ensures.composed c.put.ensures.err,
      still_remembers (canvas a) (canvas b) c.self.inside.numbers grown c.self.invariant.1,
      still_wires (canvas a) (canvas b) c.self.inside.wires grown c.self.invariant.2,
      still_inside (canvas a) (canvas b) c.self.inside.recent grown c.self.invariant.3,
    )
