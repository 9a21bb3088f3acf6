-- How the labels of controls are kept, and what entering a control answers.
use Rattle.std.specs.Prelude.{◌≡◌, ◌⊎◌, ℕ, List, map, Option, Some, Result, Ok, Err, Vec, slice_get}
use Rattle.std.specs.declared.alloc.Global.{Global}
use Rattle.fv_parse.specs.headline.Trees.{label_of}
use Rattle.fv_parse.specs.Trees.{Parsed}
use Rattle.fv_diagram.specs.headline.Diagram.{Control}
use Rattle.fv_diagram.specs.declared.control.ControlInfo.{ControlInfo}
use Rattle.fv_rules.specs.declared.refusal.EvalRefusal.{EvalRefusal}
use Rattle.fv_rules.specs.declared.refusal.EvalRefusal.TheVariants.{NoMemory}
use Rattle.fv_eval_drawing.specs.declared.controls.Range.{Range}
use Rattle.fv_rules.specs.headline.Steps.{State, control, labelled}

-- the keys are the labels of the controls, in their order
abbrev pub AreLabels : List (Vec ℕ Global) → List ControlInfo → Type 0
AreLabels keys cs = map (λ (key : Vec ℕ Global). key.items) keys ≡ map (λ (c : ControlInfo). c.label) cs

-- The control's number, and the controls after it, are what the rules give; or it is refused so, or memory ran out.
abbrev pub Enters : (old new : List ControlInfo) → ControlInfo → Result ℕ EvalRefusal → Type 0
Enters old new c (Ok k) = (s : State) → s.controls ≡ old → control c s ≡ Ok (Control k, record s { controls = new })
Enters old new c (Err e) = (e ≡ NoMemory) ⊎ ((s : State) → s.controls ≡ old → control c s ≡ Err e)

-- the first control with this label has this number
pub record HasLabel (cs : List ControlInfo) (label : List ℕ) (k : ℕ) : Type 0 where
  pub info : ControlInfo
  pub first : labelled 0 cs label ≡ Some (k, info)
  pub at : slice_get cs k ≡ Some info

-- a control with its label
abbrev pub info_of : Range → List ℕ → ControlInfo
info_of r label = record { kind = r.kind; label = label; init = r.init; min = r.min; max = r.max }

-- the numbers that are kept, by string tokens of a text, are of controls with these labels
abbrev pub AreLabelled : Parsed → List ControlInfo → List (Option ℕ) → Type 0
AreLabelled p cs ns = (n k : ℕ) → slice_get ns n ≡ Some (Some k) → HasLabel cs (label_of p.tokens n) k
