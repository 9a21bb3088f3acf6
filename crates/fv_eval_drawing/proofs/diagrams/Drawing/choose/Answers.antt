use Rattle.std.proofs.Common.{All, refl, sym, subst}
use Rattle.fv_diagram.specs.Arena.{Arena}
use Rattle.fv_eval_patterns.specs.Trials.{Recalls}
use Rattle.fv_eval_drawing.specs.Makes.{AddsDiagrams, Canvas, IsThere}
use Rattle.fv_eval_drawing.proofs.Remembered.{adds_extends, adds_composed, there_valid}
use Rattle.fv_eval_drawing.proofs.Wired.{still_inside, still_wires}
use Rattle.fv_eval_drawing.proofs.diagrams.Drawing.choose.Goals as goal

pub choose-requires-clause-valid : goal.choose-requires-clause-valid
choose-requires-clause-valid c =
    let a = c.self.inside.diagrams in
    let us = c.args.arguments.now in
    there_valid a us c.self.invariant.0 (subst (λ (x : Canvas). All (IsThere x.diagrams) us) (sym c.self.view_is) c.requires.there)

pub returns-clause-adds : goal.returns-clause-adds
returns-clause-adds c =
    let canvas : Arena → Canvas = λ a. record { diagrams = a; tables = c.self.inside.tables } in
    let b = canvas c.choose.new.diagrams in
    let grown = adds_extends (canvas c.self.inside.diagrams) b c.choose.ensures.adds in
    subst (λ (x : Canvas). AddsDiagrams x b) c.self.view_is (record { keeps = grown; tables = refl })

pub invariant_of-self : goal.invariant_of-self
invariant_of-self c =
    let canvas : Arena → Canvas = λ a. record { diagrams = a; tables = c.self.inside.tables } in
    let a = c.self.inside.diagrams in
    let b = c.choose.new.diagrams in
    let grown = adds_extends (canvas a) (canvas b) c.choose.ensures.adds in (
      adds_composed a b c.choose.ensures.adds c.self.invariant.0,
      c.choose.ensures.known,
      still_wires (canvas a) (canvas b) c.self.inside.wires grown c.self.invariant.2,
      still_inside (canvas a) (canvas b) c.self.inside.recent grown c.self.invariant.3,
    )

pub choose-requires-clause-recalls : goal.choose-requires-clause-recalls
choose-requires-clause-recalls c =
    subst (λ (x : Canvas). Recalls c.args.text.now x.diagrams c.args.trials.now) (sym c.self.view_is) c.requires.recalls
