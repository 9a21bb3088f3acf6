-- A control that was entered.
use Rattle.std.proofs.Common.{inl, inr, ◌≡◌, ℕ, List, Option, Result, Ok, Err, refl, sym, ap, subst}
use Rattle.fv_parse.specs.Trees.{Parsed}
use Rattle.fv_diagram.specs.headline.Diagram.{Control}
use Rattle.fv_diagram.specs.declared.control.ControlInfo.{ControlInfo}
use Rattle.fv_parse.specs.headline.Trees.{label_of}
use Rattle.fv_rules.specs.declared.refusal.EvalRefusal.{EvalRefusal}
use Rattle.fv_rules.specs.headline.Values.{Flat}
use Rattle.fv_rules.specs.headline.Steps.{after, give, control}
use Rattle.fv_rules.specs.headline.Rules.{flat}
use Rattle.fv_rules.specs.Machine.{Config, Continuation, Give, Running, given}
use Rattle.fv_eval.specs.declared.continuation.Focus as code_focus
use Rattle.fv_eval.specs.declared.machine.Machine as code_machine
use Rattle.fv_eval_drawing.specs.Controls.{AreLabelled, Enters, HasLabel}
use Rattle.fv_eval.specs.inner.Continuations.{Goes, Steps, state_of}

-- what comes where a control is given
given_so : (m : code_machine.Machine) (cs : List ControlInfo) (k : ℕ) (c : ControlInfo) (Fs : List Continuation) → Enters m.controls cs c (Ok k)
    → Running (Give (Flat (Control k))) Fs (record (state_of m) { controls = cs }) ≡ given (flat (control c) (state_of m)) Fs
given_so m cs k c Fs e = sym (ap (λ o. given (after o (λ x. give (Flat x))) Fs) (e (state_of m) refl))

-- a control that was met is given again
pub met_goes : (p : Parsed) (m n : code_machine.Machine) (r : Result code_focus.Focus EvalRefusal) (k : ℕ) (c : ControlInfo)
    → (AreLabelled p m.controls m.labels → Enters m.controls m.controls c (Ok k))
    → Steps p m n r (λ Fs s. Running (Give (Flat (Control k))) Fs s) → Steps p m n r (λ Fs s. given (flat (control c) s) Fs)
met_goes p m n r k c e h Fs kept = subst (λ (x : Config). Goes p n r x) (given_so m m.controls k c Fs (e kept.0.2)) (h Fs kept)

-- what is known of a control that was entered
pub record IsEntered (p : Parsed) (m : code_machine.Machine) (cs : List ControlInfo) (ls : List (Option ℕ)) (label k : ℕ) (c : ControlInfo) : Type 0 where
  pub enters : Enters m.controls cs c (Ok k)
  pub name : c.label ≡ label_of p.tokens label
  pub number : HasLabel cs c.label k
  pub stay : (name : List ℕ) (j : ℕ) → HasLabel m.controls name j → HasLabel cs name j
  pub kept : AreLabelled p cs m.labels → HasLabel cs (label_of p.tokens label) k → AreLabelled p cs ls

-- it is given, and its label is kept
pub entered_goes : (p : Parsed) (m n : code_machine.Machine) (r : Result code_focus.Focus EvalRefusal) (cs : List ControlInfo) (ls : List (Option ℕ))
    (label k : ℕ) (c : ControlInfo) → IsEntered p m cs ls label k c
    → Steps p (record m { controls = cs; labels = ls }) n r (λ Fs s. Running (Give (Flat (Control k))) Fs s)
    → Steps p m n r (λ Fs s. given (flat (control c) s) Fs)
entered_goes p m n r cs ls label k c is h Fs kept =
    let labels = is.kept (λ i j e. is.stay (label_of p.tokens i) j (kept.0.2 i j e)) (subst (λ (name : List ℕ). HasLabel cs name k) is.name is.number) in
    subst (λ (x : Config). Goes p n r x) (given_so m cs k c Fs is.enters) (h Fs ((kept.0.0, kept.0.1, labels), kept.1))

-- it was refused
pub control_refused : (p : Parsed) (m n : code_machine.Machine) (cs : List ControlInfo) (c : ControlInfo) (r : EvalRefusal) → Enters m.controls cs c (Err r)
    → Steps p m n (Err r) (λ Fs s. given (flat (control c) s) Fs)
control_refused p m n cs c r (inl h) Fs kept = inl h
control_refused p m n cs c r (inr h) Fs kept = inr (ap (λ o. given (after o (λ x. give (Flat x))) Fs) (h (state_of m) refl))
