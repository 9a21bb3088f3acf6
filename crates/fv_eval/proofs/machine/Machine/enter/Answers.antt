use Rattle.std.proofs.Common.{◌≡◌, Err, ap, subst, ◌∙◌}
use Rattle.fv_parse.specs.headline.Trees.{label_of}
use Rattle.fv_diagram.specs.declared.control.ControlInfo.{ControlInfo}
use Rattle.fv_rules.specs.headline.Steps.{control}
use Rattle.fv_rules.specs.headline.Rules.{flat}
use Rattle.fv_rules.specs.Machine.{given}
use Rattle.fv_eval_drawing.specs.Controls.{info_of}
use Rattle.fv_eval.specs.declared.machine.Machine as code_machine
use Rattle.fv_eval.specs.inner.Continuations.{Steps}
use Rattle.fv_eval.proofs.Controlled.{control_refused, entered_goes}
use Rattle.fv_eval.proofs.machine.Machine.enter.Goals.{After-named}
use Rattle.fv_eval.proofs.machine.Machine.enter.Goals as goal

-- the control that is entered is the one that the text says
as_spelled : (c : After-named) → c.named.result ≡ info_of c.args.range.now (label_of c.args.tree.now.tokens c.args.label)
as_spelled c = c.named.ensures ∙ ap (info_of c.args.range.now) (c.in_ok-name.ensures ∙ c.label.ensures)

pub returns-in-Ok : goal.returns-in-Ok
returns-in-Ok c =
    let p = c.args.tree.now in
    let m = c.args.self.now in
    let n = c.give_control.new.self in
    let r = c.give_control.result in
    let same = as_spelled (goal.at.returns-in-Ok c).After-named in
    subst (λ (x : ControlInfo). Steps p m n r (λ Fs s. given (flat (control x) s) Fs)) same
    (entered_goes p m n r c.enter.new.self c.keep.new.self c.args.label c.in-Ok.number c.named.result (record {
      enters = c.in-Ok.ensures.enters;
      name = ap (λ (x : ControlInfo). x.label) same;
      number = c.in-Ok.ensures.label;
      stay = c.in-Ok.ensures.keeps;
      kept = c.keep.ensures p c.enter.new.self;
    }) (c.give_control.ensures p))

pub returns-in-Err : goal.returns-in-Err
returns-in-Err c =
    let p = c.args.tree.now in
    let m = c.args.self.now in
    let n : code_machine.Machine = record m { controls = c.enter.new.self } in
    subst (λ (x : ControlInfo). Steps p m n (Err c.in-Err.refusal) (λ Fs s. given (flat (control x) s) Fs)) (as_spelled (goal.at.returns-in-Err c).After-named)
    (control_refused p m n c.enter.new.self c.named.result c.in-Err.refusal c.in-Err.ensures.enters)
