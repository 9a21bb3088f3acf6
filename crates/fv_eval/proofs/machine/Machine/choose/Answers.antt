use Rattle.std.proofs.Common.{All, sym, subst}
use Rattle.fv_eval_drawing.specs.Makes.{IsThere as IsDrawn}
use Rattle.fv_eval.proofs.Completing.{ChoosesOf, choice_shows, taken_drawn}
use Rattle.fv_eval.proofs.Moves.{chosen_grew}
use Rattle.fv_eval.proofs.machine.Machine.choose.Goals as goal

pub choose-requires-clause-there : goal.choose-requires-clause-there
choose-requires-clause-there c =
    let m = c.args.self.now in
    subst (λ xs. All (IsDrawn m.drawing.diagrams) xs) (sym c.as_slice.ensures.value)
    (taken_drawn c.args.text.now m c.args.count c.args.last c.args.argument c.in_ok-all.all.items c.push.new.self.items
    c.in_ok-all.ensures c.in_ok-push.ensures.items c.requires.taken c.requires.argument)

pub choose-requires-clause-recalls : goal.choose-requires-clause-recalls
choose-requires-clause-recalls c = c.requires.knows.0

pub returns-clause-grew : goal.returns-clause-grew
returns-clause-grew c =
    chosen_grew c.args.text.now c.args.self.now c.choose.new.self c.choose.new.trials c.in_ok-choice.ensures.adds c.in_ok-choice.ensures.recalls

pub returns-clause-chosen : goal.returns-clause-chosen
returns-clause-chosen c =
    let p = c.args.text.now in
    let m = c.args.self.now in
    let new = c.choose.new.self in
    let o = c.in_ok-choice in
    choice_shows p m new c.args.ruled c.args.count c.args.last c.args.argument c.in_ok-all.all.items c.push.new.self.items o.choice
    c.in_ok-all.ensures c.in_ok-push.ensures.items
    (subst (λ xs. ChoosesOf p m.drawing.diagrams new.diagrams c.args.ruled xs o.choice) c.as_slice.ensures.value o.ensures.chosen)
