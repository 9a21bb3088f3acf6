-- Controls whose labels are known.
use Rattle.std.proofs.Common.{◌≡◌, ℕ, suc, ◌+◌, ◌&&◌, Bool, true, false, List, [], ◌∷◌, ◌++◌, length, Option, Some, None, Result, Ok, Err}
use Rattle.std.proofs.Common.{refl, sym, ap, ◌∙◌, subst, arith}
use Rattle.std.specs.Prelude.{bytes_eq, int_le, slice_get, IfOk, MatchResult, if◌then◌else◌}
use Rattle.std.proofs.lemmas.Cmp.{nat_list_eq_equiv}
use Rattle.std.proofs.lemmas.Option.{none-some}
use Rattle.fv_diagram.specs.declared.control.ControlInfo.{ControlInfo}
use Rattle.fv_rules.specs.declared.refusal.EvalRefusal.{EvalRefusal}
use Rattle.fv_rules.specs.declared.refusal.EvalRefusal.TheVariants.{NoMemory}
use Rattle.fv_rules.specs.headline.Steps.{is_alike, labelled}
use Rattle.fv_eval_scopes.proofs.lemmas.Grown.{last_place, place_stays}
use Rattle.fv_eval_drawing.specs.Controls.{Enters, HasLabel}
use Rattle.fv_eval_drawing.proofs.Keys.{IsFound}
use Rattle.fv_eval_drawing.proofs.lemmas.Entered.{met_alike, numbered_none, numbered_some}

-- a control that was found is found where one more is there
on_either : (b : Bool) (j : ℕ) (o : ControlInfo) (q r : Option (ℕ × ControlInfo)) (x : ℕ × ControlInfo) → (q ≡ Some x → r ≡ Some x)
    → (if b then Some (j, o) else q) ≡ Some x → (if b then Some (j, o) else r) ≡ Some x
on_either true j o q r x f e = e
on_either false j o q r x f e = f e

labelled_on : (j : ℕ) (cs : List ControlInfo) (c : ControlInfo) (label : List ℕ) (x : ℕ × ControlInfo)
    → labelled j cs label ≡ Some x → labelled j (cs ++ c ∷ []) label ≡ Some x
labelled_on j [] c label x e = absurd (none-some x e)
labelled_on j (o ∷ cs) c label x e =
    on_either (bytes_eq o.label label) j o (labelled (suc j) cs label) (labelled (suc j) (cs ++ c ∷ []) label) x (labelled_on (suc j) cs c label x) e

pub label_stays : (cs : List ControlInfo) (c : ControlInfo) (label : List ℕ) (k : ℕ) → HasLabel cs label k → HasLabel (cs ++ c ∷ []) label k
label_stays cs c label k h = record {
  info = h.info;
  first = labelled_on 0 cs c label (k, h.info) h.first;
  at = place_stays cs c k h.info h.at;
}

-- a control whose label is new
last_either : (b : Bool) (j : ℕ) (o : ControlInfo) (q r : Option (ℕ × ControlInfo)) (x : ℕ × ControlInfo) → (q ≡ None → r ≡ Some x)
    → (if b then Some (j, o) else q) ≡ None → (if b then Some (j, o) else r) ≡ Some x
last_either true j o q r x f e = absurd (none-some (j, o) (sym e))
last_either false j o q r x f e = f e

labelled_last : (j : ℕ) (cs : List ControlInfo) (c : ControlInfo) → labelled j cs c.label ≡ None
    → labelled j (cs ++ c ∷ []) c.label ≡ Some (j + length cs, c)
labelled_last j [] c e =
    ap (λ (b : Bool). if b then Some (j, c) else None) (nat_list_eq_equiv.refl c.label) ∙ ap (λ (k : ℕ). Some (k, c)) (omega arith)
labelled_last j (o ∷ cs) c e =
    last_either (bytes_eq o.label c.label) j o (labelled (suc j) cs c.label) (labelled (suc j) (cs ++ c ∷ []) c.label) (j + suc (length cs), c)
    (λ q. labelled_last (suc j) cs c q ∙ ap (λ (k : ℕ). Some (k, c)) (omega arith)) e

pub label_comes : (cs : List ControlInfo) (c : ControlInfo) (k : ℕ) → IsFound 0 cs None (labelled 0 cs c.label) → k ≡ length cs
    → HasLabel (cs ++ c ∷ []) c.label k
label_comes cs c k none n =
    let e = numbered_none cs (labelled 0 cs c.label) none in
    subst (λ (i : ℕ). HasLabel (cs ++ c ∷ []) c.label i) (sym n) (record {
      info = c;
      first = labelled_last 0 cs c e ∙ ap (λ (i : ℕ). Some (i, c)) (omega arith);
      at = last_place cs c;
    })

-- a control whose label was found
pub label_found : (cs : List ControlInfo) (label : List ℕ) (i : ℕ) → IsFound 0 cs (Some i) (labelled 0 cs label) → (r : Result ℕ EvalRefusal)
    → MatchResult r (λ n. n ≡ i) (λ q. q ≡ NoMemory) → IfOk r (HasLabel cs label)
label_found cs label i found (Err q) h = tt
label_found cs label i found (Ok k) h =
    let f = numbered_some cs i (labelled 0 cs label) found in
    subst (λ (n : ℕ). HasLabel cs label n) (sym h) (record { info = f.0; first = f.1; at = f.2 })

-- a control that is entered again
pub again : (cs : List ControlInfo) (c x : ControlInfo) (k : ℕ) → (int_le c.min c.init && int_le c.init c.max) ≡ true → HasLabel cs c.label k
    → slice_get cs k ≡ Some x → is_alike c x ≡ true → Enters cs cs c (Ok k)
again cs c x k b h e a =
    met_alike cs c x k (record {
      bounds = b;
      found = subst (λ (q : Option (ℕ × ControlInfo)). IsFound 0 cs (Some k) q) (sym h.first) (omega arith, h.at);
      at = e;
    }) a (Ok k) refl
