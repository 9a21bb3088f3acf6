-- Code that obeys does so over lanes that are numbered anew.
use Rattle.std.proofs.Common.{◌≡◌, inl, inr, ℕ, ◌<◌, ◌≤◌, List, [], ◌∷◌, ◌++◌, length, map, refl, sym, ap, ◌∙◌, subst, ℤ, Bool, true}
use Rattle.std.specs.Prelude.{◌||◌, ◌==◌, slice_index}
use Rattle.std.proofs.lemmas.Bool.{cases_eq, eq-eqb, ne_eqb, lt-ltb, ltb-true}
use Rattle.fv_loopcode.specs.Words.{argument}
use Rattle.fv_loopcode.specs.declared.step.Step.{Step}
use Rattle.fv_loopcode.specs.declared.step.Step.TheVariants as step
use Rattle.fv_loopcode.specs.headline.Lanes.{back_by}
use Rattle.fv_loopcode.specs.headline.State.{Finds}
use Rattle.fv_loopcode.specs.headline.Code.{step_value}
use Rattle.fv_loopcode.specs.headline.Obeys.{Roles, Place, OfLane, OfCells, with_place, nothing, StepObeys, done_after, Obeys}
use Rattle.fv_loopcode.specs.Obeys.{Content, number_at, finds_at, cells_after}
use Rattle.fv_engine_codes.specs.Renumbered.{renumbered, roles_over, is_among, content_over, IsNamed, Places, RenumberedCodeObeys}

module _ (r : Roles) (f : Content) (place : ℕ → ℕ) (locals : List ℕ) (own : ℕ) (p : Places r place locals own) (held input : ℕ → ℤ) (index : ℕ) where
  abbrev here : Finds
  here = finds_at f index

  abbrev there : Finds
  there = finds_at (content_over locals f) index

  abbrev next : ℕ → List ℤ
  next = cells_after f index

  abbrev own_of : Roles
  own_of = roles_over r own (length locals)

  -- the number at a distance back, by the new number
  same_number : (l b : ℕ) → IsNamed r l → there.load (place l) b ≡ here.load l b
  same_number l b t = ap (λ (m : ℕ). number_at f index m b) (p.back l t)

  -- which places were changed, by the new numbers
  pub record Same (done new : Place → Bool) : Type 0 where
    pub lanes : (k : ℕ) → k < own → new (OfLane k) ≡ done (OfLane (slice_index locals k))
    pub cells : (k : ℕ) → new (OfCells k) ≡ done (OfCells k)

  appended_same : (done new : Place → Bool) (l : ℕ) → r.own (OfLane l) ≡ true → Same done new
      → Same (with_place (OfLane l) done) (with_place (OfLane (place l)) new)
  appended_same done new l o s = record {
    lanes = λ k m. elim (cases_eq k (place l)) [
      | inl e ↦ ap (λ b. b || new (OfLane k)) (eq-eqb k (place l) e)
          ∙ sym (ap (λ b. b || done (OfLane (slice_index locals k))) (eq-eqb (slice_index locals k) l (ap (slice_index locals) e ∙ p.back l (inl o))))
      | inr n ↦ ap (λ b. b || new (OfLane k)) (ne_eqb k (place l) n) ∙ s.lanes k m
          ∙ sym (ap (λ b. b || done (OfLane (slice_index locals k))) (ne_eqb (slice_index locals k) l (λ e. n (sym (p.forth k m) ∙ ap place e))))
    ];
    cells = s.cells;
  }

  written_same : (done new : Place → Bool) (c : ℕ) → Same done new → Same (with_place (OfCells c) done) (with_place (OfCells c) new)
  written_same done new c s = record {
    lanes = s.lanes;
    cells = λ k. ap (λ b. (k == c) || b) (s.cells k);
  }

  -- one step
  pub data One (done new : Place → Bool) (now : List ℤ) (s : Step) : Type 0 where
    Each : StepObeys own_of (content_over locals f).history there next new (argument now) (renumbered place s)
        → Same (done_after done s) (done_after new (renumbered place s))
        → step_value held input there (argument now) (renumbered place s) ≡ step_value held input here (argument now) s → One done new now s

  one : (done new : Place → Bool) (now : List ℤ) (s : Step) → Same done new
      → StepObeys r f.history here next done (argument now) s → One done new now s
  one done new now (step.Number n) same o = Each tt same refl
  one done new now (step.Held k) same o = Each tt same refl
  one done new now (step.Input i) same o = Each tt same refl
  one done new now (step.Point op args) same o = Each tt same refl
  one done new now (step.Load lane back max) same o =
      let b : ℕ = back_by max (argument now back) in
      let t : IsNamed r lane = inr o.0 in
      let at : slice_index locals (place lane) ≡ lane = p.back lane t in
      Each (
        lt-ltb (place lane) (length locals) (p.there lane t),
        subst (λ (m : ℕ). b ≤ f.history m) (sym at) o.1,
        (λ mine.
            let m : place lane < own = ltb-true (place lane) own mine in
            let mine_too : r.own (OfLane lane) ≡ true = sym (ap (λ (l : ℕ). r.own (OfLane l)) at) ∙ p.own_lane (place lane) m in
            elim (o.2 mine_too) [
              | inl d ↦ inl (same.lanes (place lane) m ∙ ap (λ (l : ℕ). done (OfLane l)) at ∙ d)
              | inr late ↦ inr late
            ]),
      ) same (same_number lane b t)
  one done new now (step.Append lane value) same o =
      let m : place lane < own = p.owned lane o.0 in
      let at : slice_index locals (place lane) ≡ lane = p.back lane (inl o.0) in
      Each (
        lt-ltb (place lane) own m,
        same.lanes (place lane) m ∙ ap (λ (l : ℕ). done (OfLane l)) at ∙ o.1,
        same_number lane 0 (inl o.0) ∙ o.2,
      ) (appended_same done new lane o.0 same) refl
  one done new now (step.Read table arg) same o = Each o same refl
  one done new now (step.Write cells args) same o = Each (o.0, same.cells cells ∙ o.1, o.2, o.3) (written_same done new cells same) refl

  each_done : (done new : Place → Bool) → Same done new → ((q : Place) → r.own q ≡ true → done q ≡ true)
      → (q : Place) → is_among r own q ≡ true → new q ≡ true
  each_done done new same o (OfLane k) m =
      let l : k < own = ltb-true k own m in same.lanes k l ∙ o (OfLane (slice_index locals k)) (p.own_lane k l)
  each_done done new same o (OfCells k) m = same.cells k ∙ o (OfCells k) m

  obey_all : (done new : Place → Bool) (now : List ℤ) (steps : List Step) → Same done new
      → Obeys r f.history here next held input done now steps
      → Obeys own_of (content_over locals f).history there next held input new now (map (renumbered place) steps)
  obey_all done new now [] same o = each_done done new same o
  obey_all done new now (s ∷ ss) same o = elim (one done new now s same o.0) [
    | Each obeys after value ↦ (
      obeys,
      subst (λ (x : ℤ). Obeys own_of (content_over locals f).history there next held input (done_after new (renumbered place s)) (now ++ x ∷ [])
          (map (renumbered place) ss))
          (sym value)
          (obey_all (done_after done s) (done_after new (renumbered place s)) (now ++ step_value held input here (argument now) s ∷ []) ss after o.1),
    )
  ]

pub renumbered_obey : RenumberedCodeObeys
renumbered_obey r f place locals own held input index steps p o =
    obey_all r f place locals own p held input index nothing nothing [] steps (record { lanes = λ k m. refl; cells = λ k. refl }) o
