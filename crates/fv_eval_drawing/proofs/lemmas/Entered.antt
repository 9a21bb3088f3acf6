-- Controls that are entered.
use Rattle.std.proofs.Common.{◌≡◌, ℕ, ◌<◌, ◌&&◌, Bool, true, false, List, [], ◌∷◌, ◌++◌, length, Option, Some, None, Result, Ok, Err, refl}
use Rattle.std.proofs.Common.{sym, ap, ◌∙◌, inl, inr, arith, get_or, zero, suc}
use Rattle.std.specs.Prelude.{slice_get, int_le, if◌then◌else◌, MatchResult}
use Rattle.std.proofs.lemmas.Option.{slice_get_within}
use Rattle.fv_diagram.specs.declared.control.ControlInfo.{ControlInfo}
use Rattle.fv_diagram.specs.headline.Diagram.{Control}
use Rattle.fv_rules.specs.headline.Steps.{State, control, entered, is_alike, labelled}
use Rattle.fv_rules.specs.declared.refusal.EvalRefusal.{EvalRefusal}
use Rattle.fv_rules.specs.declared.refusal.EvalRefusal.TheVariants.{ControlBounds, ControlClash, NoMemory}
use Rattle.fv_eval_drawing.specs.Controls.{Enters}
use Rattle.fv_eval_drawing.proofs.Keys.{IsFound}

-- the control that was found
pub numbered_some : (cs : List ControlInfo) (i : ℕ) (q : Option (ℕ × ControlInfo)) → IsFound 0 cs (Some i) q
    → (o : ControlInfo) × (q ≡ Some (i, o)) × (slice_get cs i ≡ Some o)
numbered_some cs i None h = absurd h
numbered_some cs i (Some kc) h = (kc.1, ap (λ (k : ℕ). Some (k, kc.1)) (omega (arith, h.0)), h.1)

-- none was
pub numbered_none : (cs : List ControlInfo) (q : Option (ℕ × ControlInfo)) → IsFound 0 cs None q → q ≡ None
numbered_none cs None h = refl
numbered_none cs (Some kc) h = absurd h

-- the place is in the list
pub numbered_inside : (cs : List ControlInfo) (i : ℕ) (q : Option (ℕ × ControlInfo)) → IsFound 0 cs (Some i) q → i < length cs
numbered_inside cs i q h = let f = numbered_some cs i q h in slice_get_within cs i f.0 f.2

-- a control in bounds, whose label the control at a place has
pub record Meets (cs : List ControlInfo) (c x : ControlInfo) (i : ℕ) : Type 0 where
  pub bounds : (int_le c.min c.init && int_le c.init c.max) ≡ true
  pub found : IsFound 0 cs (Some i) (labelled 0 cs c.label)
  pub at : slice_get cs i ≡ Some x

met : (cs : List ControlInfo) (c x : ControlInfo) (i : ℕ) (s : State) → Meets cs c x i → s.controls ≡ cs
    → control c s ≡ (if is_alike c x then Ok (Control i, s) else Err (ControlClash c.label))
met cs c x i s m e =
    let f = numbered_some cs i (labelled 0 cs c.label) m.found in
    let same : f.0 ≡ x = let g = m.at in let q : Some f.0 ≡ Some x = sym f.2 ∙ g in cc in
    ap (λ (t : Bool). if t then entered c s (labelled 0 s.controls c.label) else Err (ControlBounds c.label)) m.bounds
    ∙ ap (λ xs. entered c s (labelled 0 xs c.label)) e
    ∙ ap (entered c s) f.1
    ∙ ap (λ (o : ControlInfo). if is_alike c o then Ok (Control i, s) else Err (ControlClash c.label)) same

pub met_alike : (cs : List ControlInfo) (c x : ControlInfo) (i : ℕ) → Meets cs c x i → is_alike c x ≡ true
    → (r : Result ℕ EvalRefusal) → MatchResult r (λ n. n ≡ i) (λ q. q ≡ NoMemory) → Enters cs cs c r
met_alike cs c x i m a (Ok k) h = λ s e.
    met cs c x i s m e ∙ ap (λ (t : Bool). if t then Ok (Control i, s) else Err (ControlClash c.label)) a
    ∙ ap (λ (j : ℕ). Ok (Control j, s)) (sym h) ∙ ap (λ xs. Ok (Control k, record s { controls = xs })) e
met_alike cs c x i m a (Err q) h = inl h

pub met_unlike : (cs : List ControlInfo) (c x : ControlInfo) (i : ℕ) → Meets cs c x i → is_alike c x ≡ false → Enters cs cs c (Err (ControlClash c.label))
met_unlike cs c x i m a = inr (λ s e. met cs c x i s m e ∙ ap (λ (t : Bool). if t then Ok (Control i, s) else Err (ControlClash c.label)) a)

-- a control whose label is new
pub met_none : (cs : List ControlInfo) (c : ControlInfo) (k : ℕ) → (int_le c.min c.init && int_le c.init c.max) ≡ true
    → IsFound 0 cs None (labelled 0 cs c.label) → k ≡ length cs → Enters cs (cs ++ c ∷ []) c (Ok k)
met_none cs c k b none l = λ s e.
    ap (λ (t : Bool). if t then entered c s (labelled 0 s.controls c.label) else Err (ControlBounds c.label)) b
    ∙ ap (λ xs. entered c s (labelled 0 xs c.label)) e
    ∙ ap (entered c s) (numbered_none cs (labelled 0 cs c.label) none)
    ∙ ap (λ (xs : List ControlInfo). Ok (Control (length xs), record s { controls = xs ++ c ∷ [] })) e
    ∙ ap (λ (n : ℕ). Ok (Control n, record s { controls = cs ++ c ∷ [] })) (sym l)

-- what is read at a place
pub get_within : {A : Type 0} (xs : List A) (i : ℕ) (x : A) → i < length xs → x ≡ get_or xs i x → slice_get xs i ≡ Some x
get_within [] i x l e = absurd (omega arith)
get_within (y ∷ ys) zero x l e = ap Some (sym e)
get_within (y ∷ ys) (suc i) x l e = get_within ys i x (omega arith) e
