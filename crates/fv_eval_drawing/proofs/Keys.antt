-- A label that is looked up among the labels that are kept.
use Rattle.std.proofs.Common.{◌≡◌, ℕ, suc, ◌+◌, Bool, true, false, not, cond, List, [], ◌∷◌, ◌++◌, map, nat_lt, length, Option, Some, None, refl, sym, ap}
use Rattle.std.proofs.Common.{◌∙◌, subst, arith, Vec}
use Rattle.std.specs.Prelude.{bytes_eq, slice_get, if◌then◌else◌}
use Rattle.std.specs.List.{position, position_or_len, list_any}
use Rattle.std.specs.declared.alloc.Global.{Global}
use Rattle.std.proofs.lemmas.Cmp.{nat_list_eq_equiv}
use Rattle.std.proofs.lemmas.List.{map_push}
use Rattle.std.proofs.lemmas.Grind.{common_steps}
use Rattle.indexmap.specs.IndexSet.{insert_key}
use Rattle.fv_diagram.specs.declared.control.ControlInfo.{ControlInfo}
use Rattle.fv_rules.specs.headline.Steps.{labelled}
use Rattle.fv_eval_drawing.specs.Controls.{AreLabels}

-- the index of the control that was found, whose number is k more; or none was found
abbrev pub IsFound : ℕ → List ControlInfo → Option ℕ → Option (ℕ × ControlInfo) → Type 0
IsFound k cs None None = Unit {0}
IsFound k cs (Some i) (Some kc) = (k + i ≡ kc.0) × (slice_get cs i ≡ Some kc.1)
IsFound k cs o q = ⊥

further : (k : ℕ) (c : ControlInfo) (cs : List ControlInfo) (b : Bool) (i j : ℕ) (q : Option (ℕ × ControlInfo)) → suc i ≡ j
    → IsFound (suc k) cs (cond b (Some i) None) q → IsFound k (c ∷ cs) (cond b (Some j) None) q
further k c cs true i j None e h = h
further k c cs true i j (Some kc) e h = (omega (arith, h.0, e), ap (slice_get (c ∷ cs)) (sym e) ∙ h.1)
further k c cs false i j None e h = h
further k c cs false i j (Some kc) e h = h

-- the first control, or else one after it
first_or_further : (k n i : ℕ) (c : ControlInfo) (cs : List ControlInfo) (b : Bool) (q : Option (ℕ × ControlInfo))
    → IsFound (suc k) cs (cond (nat_lt i n) (Some i) None) q
    → IsFound k (c ∷ cs) (cond (nat_lt (cond (not b) (1 + i) 0) (suc n)) (Some (cond (not b) (1 + i) 0)) None) (if b then Some (k, c) else q)
first_or_further k n i c cs true q h =
    let less : true ≡ nat_lt 0 (suc n) = grind (arith, common_steps) in
    subst (λ b. IsFound k (c ∷ cs) (cond b (Some 0) None) (Some (k, c))) less (omega arith, refl)
first_or_further k n i c cs false q h =
    let less : nat_lt i n ≡ nat_lt (1 + i) (suc n) = grind (arith, common_steps) in
    subst (λ b. IsFound k (c ∷ cs) (cond b (Some (1 + i)) None) q) less (further k c cs (nat_lt i n) i (1 + i) q (omega arith) h)

-- where the first key is that is the label, there is the first control with this label
pub found : (k : ℕ) (keys : List (Vec ℕ Global)) (cs : List ControlInfo) (label : List ℕ) → AreLabels keys cs
    → IsFound k cs (position (λ (key : Vec ℕ Global). bytes_eq label key.items) keys) (labelled k cs label)
found k [] [] label e = tt
found k [] (c ∷ cs) label e = absurd cc
found k (key ∷ keys) [] label e = absurd cc
found k (key ∷ keys) (c ∷ cs) label e =
    let same : key.items ≡ c.label = cc in
    let rest : AreLabels keys cs = cc in
    let test : bytes_eq label key.items ≡ bytes_eq c.label label = ap (bytes_eq label) same ∙ nat_list_eq_equiv.symm label c.label in
    let n = length keys in
    let i = position_or_len (λ (key : Vec ℕ Global). bytes_eq label key.items) keys in
    subst (λ b. IsFound k (c ∷ cs) (cond (nat_lt (cond (not b) (1 + i) 0) (suc n)) (Some (cond (not b) (1 + i) 0)) None) (labelled k (c ∷ cs) label)) (sym test)
    (first_or_further k n i c cs (bytes_eq c.label label) (labelled (suc k) cs label) (found (suc k) keys cs label rest))

-- a label more
pub added : (keys : List (Vec ℕ Global)) (cs : List ControlInfo) (label : Vec ℕ Global) (c : ControlInfo) → AreLabels keys cs → label.items ≡ c.label
    → list_any (λ (key : Vec ℕ Global). bytes_eq c.label key.items) keys ≡ false
    → AreLabels (insert_key (λ (x y : Vec ℕ Global). bytes_eq x.items y.items) keys label) (cs ++ c ∷ [])
added keys cs label c e same none =
    let absent : list_any (λ (key : Vec ℕ Global). bytes_eq label.items key.items) keys ≡ false =
    subst (λ (t : List ℕ). list_any (λ (key : Vec ℕ Global). bytes_eq t key.items) keys ≡ false) (sym same) none in
    let items = λ (key : Vec ℕ Global). key.items in
    let named = λ (c : ControlInfo). c.label in
    ap (λ (b : Bool). map items (if b then keys else keys ++ label ∷ [])) absent
    ∙ map_push items keys label ∙ ap (λ ls. ls ++ label.items ∷ []) e ∙ ap (λ (l : List ℕ). map named cs ++ l ∷ []) same ∙ sym (map_push named cs c)
