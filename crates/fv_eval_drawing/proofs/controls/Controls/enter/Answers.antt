use Rattle.std.proofs.Common.{◌≡◌, ◌&&◌, ◌++◌, ◌∷◌, [], ℕ, length, get_or, true, false, Ok, List, rules, subst, sym, arith}
use Rattle.std.proofs.Common.{Vec}
use Rattle.std.proofs.lemmas.Grind.{common_steps}
use Rattle.std.specs.Prelude.{int_le, bytes_eq}
use Rattle.std.specs.List.{list_any}
use Rattle.std.specs.declared.alloc.Global.{Global}
use Rattle.indexmap.specs.IndexSet.{insert_key}
use Rattle.fv_diagram.specs.declared.control.ControlInfo.{ControlInfo}
use Rattle.fv_rules.specs.headline.Steps.{is_alike, labelled}
use Rattle.fv_eval_drawing.specs.Controls.{AreLabels, Enters, HasLabel}
use Rattle.fv_eval_drawing.proofs.Keys.{IsFound, found, added}
use Rattle.fv_eval_drawing.proofs.lemmas.Entered.{met_alike, met_unlike, met_none, numbered_inside, get_within}
use Rattle.fv_eval_drawing.proofs.lemmas.Again.{label_comes, label_found, label_stays}
use Rattle.fv_eval_drawing.proofs.controls.Controls.enter.Goals.{After-get_index_of}
use Rattle.fv_eval_drawing.proofs.controls.Controls.enter.Goals as goal

-- the place that was looked up is the control's, which the rules find
looked_up : (c : After-get_index_of) → IsFound 0 c.args.self.now c.get_index_of.result (labelled 0 c.args.self.now c.args.info.label)
looked_up c =
    let cs = c.self.inside.list.items in
    subst (λ cs. IsFound 0 cs c.get_index_of.result (labelled 0 cs c.args.info.label)) c.self.view_is
    (subst (λ t. IsFound 0 cs c.get_index_of.result (labelled 0 cs t)) c.bytes.ensures
    (subst (λ o. IsFound 0 cs o (labelled 0 cs c.bytes.result.now)) (sym c.get_index_of.ensures.index)
    (found 0 c.self.inside.labels.keys cs c.bytes.result.now c.self.invariant)))

-- it is in bounds
in_bounds : (c : After-get_index_of) → (int_le c.args.info.min c.args.info.init && int_le c.args.info.init c.args.info.max) ≡ true
in_bounds c = search rules

pub returns-then-not-is_alike-clause-enters : goal.returns-then-not-is_alike-clause-enters
returns-then-not-is_alike-clause-enters c =
    let cs = c.args.self.now in
    let x = c.index.result.now in
    let at = (goal.at.returns-then-not-is_alike-clause-enters c).After-get_index_of in
    let n = subst (λ o. IsFound 0 cs o (labelled 0 cs c.args.info.label)) c.in-Some.is (looked_up at) in
    let e : x ≡ get_or cs c.in-Some.i x = rw (← c.self.view_is) c.index.ensures in
    let a : is_alike c.args.info x ≡ false = search rules in
    met_unlike cs c.args.info x c.in-Some.i
    (record { bounds = in_bounds at; found = n; at = get_within cs c.in-Some.i x (numbered_inside cs c.in-Some.i _ n) e }) a

pub returns-else-not-is_alike-clause-enters : goal.returns-else-not-is_alike-clause-enters
returns-else-not-is_alike-clause-enters c =
    let cs = c.args.self.now in
    let x = c.index.result.now in
    let at = (goal.at.returns-else-not-is_alike-clause-enters c).After-get_index_of in
    let n = subst (λ o. IsFound 0 cs o (labelled 0 cs c.args.info.label)) c.in-Some.is (looked_up at) in
    let e : x ≡ get_or cs c.in-Some.i x = rw (← c.self.view_is) c.index.ensures in
    let a : is_alike c.args.info x ≡ true = search rules in
    met_alike cs c.args.info x c.in-Some.i
    (record { bounds = in_bounds at; found = n; at = get_within cs c.in-Some.i x (numbered_inside cs c.in-Some.i _ n) e }) a
    c.number.result c.number.ensures

pub returns-else-not-is_alike-clause-label : goal.returns-else-not-is_alike-clause-label
returns-else-not-is_alike-clause-label c =
    let cs = c.args.self.now in
    let at = (goal.at.returns-else-not-is_alike-clause-label c).After-get_index_of in
    let n = subst (λ o. IsFound 0 cs o (labelled 0 cs c.args.info.label)) c.in-Some.is (looked_up at) in
    label_found cs c.args.info.label c.in-Some.i n c.number.result c.number.ensures

-- ---- a label that is new

pub invariant_of-self-then-is_err : goal.invariant_of-self-then-is_err
invariant_of-self-then-is_err c =
    let k : c.insert.new.self.keys ≡ c.self.inside.labels.keys = grind (arith, common_steps) in
    let l : c.pop.new.self.items ≡ c.self.inside.list.items = grind (arith, common_steps) in
    subst (λ (ks : List (Vec ℕ Global)). AreLabels ks c.pop.new.self.items) (sym k)
    (subst (λ (cs : List ControlInfo). AreLabels c.self.inside.labels.keys cs) (sym l) c.self.invariant)

pub invariant_of-self-else-is_err : goal.invariant_of-self-else-is_err
invariant_of-self-else-is_err c =
    let keys = c.self.inside.labels.keys in
    let label = c.in_ok-label-in-None.label in
    let k : c.insert.new.self.keys ≡ insert_key (λ (x y : Vec ℕ Global). bytes_eq x.items y.items) keys label = grind (arith, common_steps) in
    let l : c.push.new.self.items ≡ c.self.inside.list.items ++ c.args.info ∷ [] = search rules in
    let same : label.items ≡ c.args.info.label = search rules in
    let none : list_any (λ (key : Vec ℕ Global). bytes_eq c.args.info.label key.items) keys ≡ false =
    subst (λ (t : List ℕ). list_any (λ (key : Vec ℕ Global). bytes_eq t key.items) keys ≡ false) c.bytes.ensures (sym c.in-None.ensures.found) in
    subst (λ (ks : List (Vec ℕ Global)). AreLabels ks c.push.new.self.items) (sym k)
    (subst (λ (cs : List ControlInfo). AreLabels (insert_key (λ (x y : Vec ℕ Global). bytes_eq x.items y.items) keys label) cs) (sym l)
    (added keys c.self.inside.list.items label c.args.info c.self.invariant same none))

pub returns-else-is_err-clause-enters : goal.returns-else-is_err-clause-enters
returns-else-is_err-clause-enters c =
    let cs = c.args.self.now in
    let info = c.args.info in
    let l : c.push.new.self.items ≡ cs ++ info ∷ [] = search rules in
    let at = (goal.at.returns-else-is_err-clause-enters c).After-get_index_of in
    let n = subst (λ o. IsFound 0 cs o (labelled 0 cs info.label)) c.in-None.is (looked_up at) in
    let i : c.in_ok-i-in-None.i ≡ length cs = search rules in
    subst (λ (new : List ControlInfo). Enters cs new info (Ok c.in_ok-i-in-None.i)) (sym l) (met_none cs info c.in_ok-i-in-None.i (in_bounds at) n i)

pub returns-else-is_err-clause-label : goal.returns-else-is_err-clause-label
returns-else-is_err-clause-label c =
    let cs = c.args.self.now in
    let info = c.args.info in
    let l : c.push.new.self.items ≡ cs ++ info ∷ [] = search rules in
    let at = (goal.at.returns-else-is_err-clause-label c).After-get_index_of in
    let n = subst (λ o. IsFound 0 cs o (labelled 0 cs info.label)) c.in-None.is (looked_up at) in
    let i : c.in_ok-i-in-None.i ≡ length cs = search rules in
    subst (λ (new : List ControlInfo). HasLabel new info.label c.in_ok-i-in-None.i) (sym l) (label_comes cs info c.in_ok-i-in-None.i n i)

pub returns-else-is_err-clause-keeps : goal.returns-else-is_err-clause-keeps
returns-else-is_err-clause-keeps c =
    let cs = c.args.self.now in
    let l : c.push.new.self.items ≡ cs ++ c.args.info ∷ [] = search rules in
    λ label k h. subst (λ (new : List ControlInfo). HasLabel new label k) (sym l) (label_stays cs c.args.info label k h)
