-- What code that fits loads, reads and names.
use Rattle.std.proofs.Common.{◌≡◌, inl, inr, ℕ, zero, suc, ◌+◌, ◌<◌, ◌≤◌, List, [], ◌∷◌, ◌++◌, length, map, get_or, refl, sym, ap, ◌∙◌, subst, arith, pos}
use Rattle.std.proofs.Common.{Bool, true, false}
use Rattle.std.specs.Prelude.{◌||◌, nat_eq, All}
use Rattle.std.proofs.lemmas.Bool.{eq-eqb, ne_eqb, cases_eq, cases_lt}
use Rattle.std.proofs.lemmas.List.{length_push, length-map}
use Rattle.std.proofs.lemmas.List.Elements.{All-nil, All-cons, All-contains}
use Rattle.fv_num.specs.declared.op.Op.{Op}
use Rattle.fv_signal.specs.declared.signal.Signal.TheVariants as signal
use Rattle.fv_signal.specs.headline.Value.{Graph, table_of}
use Rattle.fv_loopcode.specs.declared.step.Step.{Step}
use Rattle.fv_loopcode.specs.declared.step.Step.TheVariants as step
use Rattle.fv_loopcode.specs.declared.counts.Counts.{Counts}
use Rattle.fv_loopcode.specs.headline.State.{list_at}
use Rattle.fv_loopcode.specs.headline.Code.{NamesHeld, NamesInput}
use Rattle.fv_loopcode.specs.Code.{IsValid}
use Rattle.fv_loopcode.specs.headline.Obeys.{Roles, Place, OfLane, OfCells, done_after}
use Rattle.fv_analysis.specs.headline.Stands.{StandsAt}
use Rattle.fv_split_plan.specs.headline.Fits.{Names}
use Rattle.fv_split_plan.specs.Fits.{Mean, Value, Literal, mean_at, LoadFits, OfDelay, OfBack, OfNow, PointFits, OfPoint, OfStill}
use Rattle.fv_split_plan.specs.Fits.{WriteFits, StepFits, CodeFits}
use Rattle.fv_split_plan.specs.headline.View.{PlanView, lane_info, loads_lane}
use Rattle.fv_split_plan.specs.headline.Plans.{LoadsWithin, NamesChannel}
use Rattle.fv_split_plan.proofs.lemmas.FitsLemmas.{map_get}

module _ (g : Graph) (p : Names) (r q : Roles) (own : (l : Place) → q.own l ≡ r.own l) where
  load_fits : (done : Place → Bool) (ms : List Mean) (lane back max : ℕ) (m : Mean) →
      LoadFits g p r done ms lane back max m → LoadFits g p q done ms lane back max m
  load_fits done ms lane back max m (OfDelay s x d n lx ld ex ed few mine e) = OfDelay s x d n lx ld ex ed few (λ h. mine (sym (own (OfLane lane)) ∙ h)) e
  load_fits done ms lane back max m (OfBack s group i n lx ex eb one few e) = OfBack s group i n lx ex eb one few e
  load_fits done ms lane back max m (OfNow there eb none other e) = OfNow there eb none (own (OfLane lane) ∙ other) e

  or_right : (b : Bool) {c : Bool} → c ≡ true → (b || c) ≡ true
  or_right true e = refl
  or_right false e = e

  write_fits : (done : Place → Bool) (ms : List Mean) (cells : ℕ) (args : List ℕ) (m : Mean) →
      WriteFits g p r done ms cells args m → WriteFits g p q done ms cells args m
  write_fits done ms cells args m h = record {
    own = own (OfCells cells) ∙ h.own;
    waits = h.waits;
    table = h.table;
    items = h.items;
    w = h.w;
    x = h.x;
    place = h.place;
    stands = h.stands;
    w_within = h.w_within;
    x_within = h.x_within;
    place_within = h.place_within;
    operands = h.operands;
    is = h.is;
  }

  -- the same code, for roles that load just what the steps load
  pub fits_loaded : (done : Place → Bool) (ms : List Mean) (steps : List Step) → ((l : ℕ) → loads_lane l steps ≡ true → q.loaded l ≡ true) →
      CodeFits g p r done ms steps → CodeFits g p q done ms steps
  fits_loaded done ms [] ld h = λ l o. h l (sym (own l) ∙ o)
  fits_loaded done ms (step.Number n ∷ ss) ld h = (h.0, h.1, fits_loaded done (ms ++ h.0 ∷ []) ss ld h.2)
  fits_loaded done ms (step.Held k ∷ ss) ld h = (h.0, h.1, fits_loaded done (ms ++ h.0 ∷ []) ss ld h.2)
  fits_loaded done ms (step.Input i ∷ ss) ld h = (h.0, h.1, fits_loaded done (ms ++ h.0 ∷ []) ss ld h.2)
  fits_loaded done ms (step.Point op args ∷ ss) ld h = (h.0, h.1, fits_loaded done (ms ++ h.0 ∷ []) ss ld h.2)
  fits_loaded done ms (step.Load lane back max ∷ ss) ld h = (
    h.0,
    (ld lane (ap (λ b. b || loads_lane lane ss) (eq-eqb lane lane refl)), load_fits done ms lane back max h.0 h.1.1),
    fits_loaded done (ms ++ h.0 ∷ []) ss (λ l e. ld l (or_right (nat_eq l lane) e)) h.2,
  )
  fits_loaded done ms (step.Append lane value ∷ ss) ld h =
      (h.0, (own (OfLane lane) ∙ h.1.0, h.1.1, h.1.2, h.1.3), fits_loaded (done_after done (step.Append lane value)) (ms ++ h.0 ∷ []) ss ld h.2)
  fits_loaded done ms (step.Read table arg ∷ ss) ld h = (h.0, h.1, fits_loaded done (ms ++ h.0 ∷ []) ss ld h.2)
  fits_loaded done ms (step.Write cells args ∷ ss) ld h =
      (h.0, write_fits done ms cells args h.0 h.1, fits_loaded (done_after done (step.Write cells args)) (ms ++ h.0 ∷ []) ss ld h.2)

-- a register that means a signal is there, and one that means a number other than 0
mean_there : (ms : List Mean) (w s : ℕ) → mean_at ms w ≡ Value s → w < length ms
mean_there ms w s e = elim (cases_lt w (length ms)) [ inl l ↦ l | inr l ↦ absurd (none ms w l e) ]
  where
    none : (ms : List Mean) (w : ℕ) → length ms ≤ w → mean_at ms w ≡ Value s → ⊥
    none [] w l e = cc
    none (m ∷ ms) zero l e = absurd (omega arith)
    none (m ∷ ms) (suc w) l e = none ms w (omega arith) e

one_there : (ms : List Mean) (w : ℕ) → mean_at ms w ≡ Literal (pos 1) → w < length ms
one_there ms w e = elim (cases_lt w (length ms)) [ inl l ↦ l | inr l ↦ absurd (none ms w l e) ]
  where
    none : (ms : List Mean) (w : ℕ) → length ms ≤ w → mean_at ms w ≡ Literal (pos 1) → ⊥
    none [] w l e = let nought : ℕ = 0 in let one : ℕ = 1 in let z : nought ≡ one = cc in omega (arith, z)
    none (m ∷ ms) zero l e = absurd (omega arith)
    none (m ∷ ms) (suc w) l e = none ms w (omega arith) e

module _ (g : Graph) (p : Names) (r : Roles) where
  -- what the code loads, it may load
  pub loads_may : (done : Place → Bool) (ms : List Mean) (steps : List Step) →
      CodeFits g p r done ms steps → (l : ℕ) → loads_lane l steps ≡ true → r.loaded l ≡ true
  loads_may done ms [] h l e = absurd cc
  loads_may done ms (step.Number n ∷ ss) h l e = loads_may done (ms ++ h.0 ∷ []) ss h.2 l e
  loads_may done ms (step.Held k ∷ ss) h l e = loads_may done (ms ++ h.0 ∷ []) ss h.2 l e
  loads_may done ms (step.Input i ∷ ss) h l e = loads_may done (ms ++ h.0 ∷ []) ss h.2 l e
  loads_may done ms (step.Point op args ∷ ss) h l e = loads_may done (ms ++ h.0 ∷ []) ss h.2 l e
  loads_may done ms (step.Load lane back max ∷ ss) h l e = elim (cases_eq l lane) [
    | inl z ↦ ap r.loaded z ∙ h.1.0
    | inr z ↦ loads_may done (ms ++ h.0 ∷ []) ss h.2 l (sym (ap (λ b. b || loads_lane l ss) (ne_eqb l lane z)) ∙ e)
  ]
  loads_may done ms (step.Append lane value ∷ ss) h l e = loads_may (done_after done (step.Append lane value)) (ms ++ h.0 ∷ []) ss h.2 l e
  loads_may done ms (step.Read table arg ∷ ss) h l e = loads_may done (ms ++ h.0 ∷ []) ss h.2 l e
  loads_may done ms (step.Write cells args ∷ ss) h l e = loads_may (done_after done (step.Write cells args)) (ms ++ h.0 ∷ []) ss h.2 l e

  -- what holds of each step that fits
  each_step : (P : Step → Type 0) → ((done : Place → Bool) (ms : List Mean) (s : Step) (m : Mean) → StepFits g p r done ms s m → P s) →
      (done : Place → Bool) (ms : List Mean) (steps : List Step) → CodeFits g p r done ms steps → All P steps
  each_step P one done ms [] h = All-nil P
  each_step P one done ms (s ∷ ss) h = All-cons P s ss (one done ms s h.0 h.1) (each_step P one (done_after done s) (ms ++ h.0 ∷ []) ss h.2)

  -- it names held values that are counted
  abbrev IsCounted : Step → Type 0
  IsCounted (step.Held k) = k < p.count
  IsCounted _ = Unit {0}

  step_counted : (done : Place → Bool) (ms : List Mean) (s : Step) (m : Mean) → StepFits g p r done ms s m → IsCounted s
  step_counted done ms (step.Held k) m h = h.0
  step_counted done ms _ m h = tt

  pub held_counted : (done : Place → Bool) (ms : List Mean) (steps : List Step) → CodeFits g p r done ms steps → (k : ℕ) → NamesHeld steps k → k < p.count
  held_counted done ms steps h k n = All-contains IsCounted steps (step.Held k) (each_step IsCounted step_counted done ms steps h) n

  -- and channels that the graph names
  abbrev HasChannel : Step → Type 0
  HasChannel (step.Input i) = NamesChannel g i
  HasChannel _ = Unit {0}

  step_has_channel : (done : Place → Bool) (ms : List Mean) (s : Step) (m : Mean) → StepFits g p r done ms s m → HasChannel s
  step_has_channel done ms (step.Input i) m h = record { place = h.0; is = h.1 }
  step_has_channel done ms _ m h = tt

  pub inputs_named : (done : Place → Bool) (ms : List Mean) (steps : List Step) → CodeFits g p r done ms steps → (i : ℕ) → NamesInput steps i → NamesChannel g i
  inputs_named done ms steps h i n = All-contains HasChannel steps (step.Input i) (each_step HasChannel step_has_channel done ms steps h) n

  load_short : (done : Place → Bool) (ms : List Mean) (lane back max : ℕ) (m : Mean) → LoadFits g p r done ms lane back max m → max ≤ p.history lane
  load_short done ms lane back max m (OfDelay s x d n lx ld ex ed few mine e) = few
  load_short done ms lane back max m (OfBack s group i n lx ex eb one few e) = omega (arith, one, few)
  load_short done ms lane back max m (OfNow there eb none other e) = omega (arith, none)

  -- its loads are of lanes of the plan, and go no further back than their histories, and its tables and cells are the plan's
  module _ (v : PlanView) (lanes : (l : ℕ) → r.loaded l ≡ true → (l < length v.lanes) × (p.history l ≡ (lane_info v l).history))
      (tables : v.tables ≡ g.tables) (cells : (k : ℕ) → r.own (OfCells k) ≡ true → k < length v.cells) where
    step_within : (done : Place → Bool) (ms : List Mean) (s : Step) (m : Mean) → StepFits g p r done ms s m → LoadsWithin v s
    step_within done ms (step.Load lane back max) m h =
        let k = lanes lane h.0 in
        let f = load_short done ms lane back max m h.1 in
        (k.0, omega (arith, k.1, f))
    step_within done ms (step.Read table arg) m h = subst (λ ts. 0 < length (list_at ts table)) (sym tables) h.items
    step_within done ms (step.Write k args) m h = cells k h.own
    step_within done ms _ m h = tt

    pub loads_within : (done : Place → Bool) (ms : List Mean) (steps : List Step) → CodeFits g p r done ms steps → All (LoadsWithin v) steps
    loads_within done ms steps h = each_step (LoadsWithin v) step_within done ms steps h

  point_below : (ms : List Mean) (op : Op) (args : List ℕ) (m : Mean) → PointFits g ms op args m → All (λ a. a < length ms) args
  point_below ms op args m (OfPoint s os n within there same e) = there
  point_below ms op args m (OfStill s x d w n lx eo ea ew e) =
      let l = mean_there ms w _ ew in
      let P : ℕ → Type 0 = λ a. a < length ms in
      subst (All P) (sym ea) (All-cons P w (w ∷ w ∷ w ∷ []) l (All-cons P w (w ∷ w ∷ []) l (All-cons P w (w ∷ []) l (All-cons P w [] l (All-nil P)))))

  load_below : (done : Place → Bool) (ms : List Mean) (lane back max : ℕ) (m : Mean) → LoadFits g p r done ms lane back max m → back < length ms
  load_below done ms lane back max m (OfDelay s x d n lx ld ex ed few mine e) = mean_there ms back _ ed
  load_below done ms lane back max m (OfBack s group i n lx ex eb one few e) = one_there ms back eb
  load_below done ms lane back max m (OfNow there eb none other e) = there

  -- a register of the operands of a write is there
  write_below : (ms : List Mean) (args : List ℕ) (a b c : ℕ) → map (mean_at ms) args ≡ Value a ∷ Value b ∷ Value c ∷ [] → All (λ w. w < length ms) args
  write_below ms args a b c e k d l =
      mean_there ms (get_or args k d) (get_or (a ∷ b ∷ c ∷ []) k d)
      (sym (map_get (mean_at ms) args k d) ∙ ap (λ xs. get_or xs k (mean_at ms d)) e ∙ below_three k d (omega (arith, l, three)))
    where
      three : length args ≡ 3
      three = sym (length-map args (mean_at ms)) ∙ ap length e

      below_three : (k d : ℕ) → k < 3 → get_or (Value a ∷ Value b ∷ Value c ∷ []) k (mean_at ms d) ≡ Value (get_or (a ∷ b ∷ c ∷ []) k d)
      below_three zero d l = refl
      below_three (suc zero) d l = refl
      below_three (suc (suc zero)) d l = refl
      below_three (suc (suc (suc k))) d l = absurd (omega arith)

  -- each step reads earlier registers, and what it names is there
  module _ (n : Counts) (owned : (l : ℕ) → r.own (OfLane l) ≡ true → l < n.lanes) (seen : (l : ℕ) → r.loaded l ≡ true → l < n.lanes)
      (listed : (t : ℕ) → 0 < length (table_of g t) → t < n.tables) (held : (k : ℕ) → r.own (OfCells k) ≡ true → k < n.cells) where
    step_valid : (done : Place → Bool) (ms : List Mean) (s : Step) (m : Mean) → StepFits g p r done ms s m → IsValid (length ms) n s
    step_valid done ms (step.Number z) m h = (tt, tt)
    step_valid done ms (step.Held k) m h = (tt, tt)
    step_valid done ms (step.Input i) m h = (tt, tt)
    step_valid done ms (step.Point op args) m h = (tt, point_below ms op args m h)
    step_valid done ms (step.Load lane back max) m h = (seen lane h.0, load_below done ms lane back max m h.1)
    step_valid done ms (step.Append lane value) m h = (owned lane h.0, mean_there ms value _ h.2)
    step_valid done ms (step.Read table arg) m h = (listed table h.items, mean_there ms arg _ h.operand)
    step_valid done ms (step.Write cells args) m h = (held cells h.own, write_below ms args _ _ _ h.operands)

    pub code_valid : (done : Place → Bool) (ms : List Mean) (steps : List Step) → CodeFits g p r done ms steps → (i : ℕ) (d : Step) → i < length steps →
        IsValid (length ms + i) n (get_or steps i d)
    code_valid done ms [] h i d l = absurd (omega arith)
    code_valid done ms (s ∷ ss) h zero d l = let z : length ms ≡ length ms + 0 = omega arith in subst (λ k. IsValid k n s) z (step_valid done ms s h.0 h.1)
    code_valid done ms (s ∷ ss) h (suc i) d l =
        let z : length (ms ++ h.0 ∷ []) + i ≡ length ms + suc i = omega (arith, length_push ms h.0) in
        subst (λ k. IsValid k n (get_or ss i d)) z (code_valid (done_after done s) (ms ++ h.0 ∷ []) ss h.2 i d (omega arith))
