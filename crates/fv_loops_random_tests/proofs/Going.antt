-- Code that passes the test may run.
use Rattle.std.proofs.Common.{◌≡◌, ◌≢◌, ◌⊎◌, inl, inr, ℕ, zero, suc, ◌+◌, ◌-◌, ◌*◌, ◌<◌, ◌≤◌, List, [], ◌∷◌, ◌++◌, length, get_or, set, drop}
use Rattle.std.proofs.Common.{refl, sym, ap, ◌∙◌, subst, arith, ℤ, pos, negsuc, ◌≤ℤ◌, min}
use Rattle.std.proofs.lemmas.List.{length-set, length_push, get_or-set_same, get_or-set_other, get_or_append_left, get_or_push, drop_more, drop_all}
use Rattle.std.proofs.lemmas.Int.{ints}
use Rattle.std.proofs.lemmas.Bool.{cases_eq}
use Rattle.std.proofs.Math.Nat.{mul-le-mul_right, suc-mul}
use Rattle.fv_num.specs.headline.Words.{argument}
use Rattle.fv_num.specs.headline.Tables.{written, place}
use Rattle.fv_loopcode.specs.declared.step.Step.{Step}
use Rattle.fv_loopcode.specs.declared.step.Step.TheVariants as step
use Rattle.fv_loopcode.specs.headline.Lanes.{Lane, no_lane, lane_of, appended, back_by}
use Rattle.fv_loopcode.specs.Lanes.{HasSample}
use Rattle.fv_loopcode.specs.headline.State.{State, list_at, with_sample, with_item, finds}
use Rattle.fv_loopcode.specs.headline.Code.{step_value, three_of, state_after, Pass, stepped, passed, opening, ran}
use Rattle.fv_loopcode.specs.Code.{MayStep, MayPass, MayRun, AreOrdered, OperandsBelow, HasItems}
use Rattle.fv_loops_random_tests.specs.MayGo.{IsAppended, GoesBack, IsInTime, HasUpTo, MayDo, MayGo}

-- how far back a number says is no more than the greatest, and at least 1 where both are
back_upto : (max : ℕ) (z : ℤ) → back_by max z ≤ max
back_upto max (pos d) = omega arith
back_upto max (negsuc d) = omega arith

back_one : (max : ℕ) (z : ℤ) → 1 ≤ max → pos 1 ≤ℤ z → 1 ≤ back_by max z
back_one max (pos d) m h = omega (arith, ints)
back_one max (negsuc d) m h = absurd (omega (arith, ints))

-- the step appends this lane
abbrev Appends : Step → ℕ → Type 0
Appends (step.Number n) l = ⊥
Appends (step.Held k) l = ⊥
Appends (step.Input k) l = ⊥
Appends (step.Point op args) l = ⊥
Appends (step.Load lane back max) l = ⊥
Appends (step.Append lane value) l = lane ≡ l
Appends (step.Read table arg) l = ⊥
Appends (step.Write cells args) l = ⊥

module _ (steps : List Step) (base : State) (from count : ℕ) (go : MayGo steps base from count) (ordered : AreOrdered steps) where
  -- what a lane b has after n samples and i steps of the next one, where it was a
  record GrownLane (n i l : ℕ) (a b : Lane) : Type 0 where
    history : b.history ≡ a.history
    room : a.room ≤ b.room + (n * length steps + i)
    long : length a.items ≤ length b.items
    grown : IsAppended steps (length steps) l → n + length a.items ≤ length b.items
    now : IsAppended steps i l → suc n + length a.items ≤ length b.items

  -- what a state has then
  record Grown (n i : ℕ) (s : State) : Type 0 where
    lanes : length s.lanes ≡ length base.lanes
    tables : s.tables ≡ base.tables
    cells : length s.cells ≡ length base.cells
    items : (k : ℕ) → 0 < length (list_at base.cells k) → 0 < length (list_at s.cells k)
    each : (l : ℕ) → l < length base.lanes → GrownLane n i l (lane_of base.lanes l) (lane_of s.lanes l)

  -- what a pass has then
  record Underway (n i : ℕ) (p : Pass) : Type 0 where
    many : length p.numbers ≡ i
    numbers : (j : ℕ) (z : ℤ) → j < i → ((d : Step) → get_or steps j d ≡ step.Number z) → argument p.numbers j ≡ z
    state : Grown n i p.state

  -- a step that does not append the lane leaves it as it is
  stays : (n i l : ℕ) (a b : Lane) (s : Step) (d : Step) → get_or steps i d ≡ s → (Appends s l → ⊥) → GrownLane n i l a b → GrownLane n (i + 1) l a b
  stays n i l a b s d is other g = record {
    history = g.history;
    room = (let r = g.room in omega arith);
    long = g.long;
    grown = g.grown;
    now = λ x. elim (cases_eq x.place i) [
      | inl e ↦ absurd (other (subst (λ y. Appends y l) (sym (x.is d) ∙ ap (λ j. get_or steps j d) e ∙ is) refl))
      | inr e ↦ g.now (record { place = x.place; value = x.value; before = (let y = x.before in omega arith); there = x.there; is = x.is })
    ];
  }

  -- an appended sample is one more
  grows : (n i l : ℕ) (a b : Lane) (x : ℤ) → GrownLane n i l a b → GrownLane n (i + 1) l a (appended b x)
  grows n i l a b x g =
      let more = length_push b.items x in
      record {
        history = g.history;
        room = (let r = g.room in omega arith);
        long = (let r = g.long in omega arith);
        grown = λ y. let r = g.grown y in omega arith;
        now = λ y. let r = g.grown (record { place = y.place; value = y.value; before = y.there; there = y.there; is = y.is }) in omega arith;
      }

  -- a step that appends no lane
  still : (n i : ℕ) (s : State) (one : Step) (d : Step) → get_or steps i d ≡ one → ((l : ℕ) → Appends one l → ⊥) → Grown n i s → Grown n (i + 1) s
  still n i s one d is none g = record {
    lanes = g.lanes;
    tables = g.tables;
    cells = g.cells;
    items = g.items;
    each = λ l there. stays n i l (lane_of base.lanes l) (lane_of s.lanes l) one d is (none l) (g.each l there);
  }

  grown_more : (n i : ℕ) (s : State) (register : ℕ → ℤ) (one : Step) (d : Step) → get_or steps i d ≡ one → MayDo steps base from count i one →
      Grown n i s → Grown n (i + 1) (state_after s register one)
  grown_more n i s register (step.Number x) d is may g = still n i s (step.Number x) d is (λ l e. e) g
  grown_more n i s register (step.Held k) d is may g = still n i s (step.Held k) d is (λ l e. e) g
  grown_more n i s register (step.Input k) d is may g = still n i s (step.Input k) d is (λ l e. e) g
  grown_more n i s register (step.Point op args) d is may g = still n i s (step.Point op args) d is (λ l e. e) g
  grown_more n i s register (step.Load lane back max) d is may g = still n i s (step.Load lane back max) d is (λ l e. e) g
  grown_more n i s register (step.Read table arg) d is may g = still n i s (step.Read table arg) d is (λ l e. e) g
  grown_more n i s register (step.Append lane value) d is may g =
      let next = appended (lane_of s.lanes lane) (register value) in
      record {
        lanes = length-set s.lanes lane next ∙ g.lanes;
        tables = g.tables;
        cells = g.cells;
        items = g.items;
        each = λ l there. elim (cases_eq l lane) [
          | inl e ↦ subst (λ q. GrownLane n (i + 1) q (lane_of base.lanes q) (lane_of (set s.lanes lane next) q)) (sym e)
              (subst (GrownLane n (i + 1) lane (lane_of base.lanes lane))
              (sym (get_or-set_same s.lanes lane next no_lane (subst (λ m. lane < m) (sym g.lanes) may)))
              (grows n i lane (lane_of base.lanes lane) (lane_of s.lanes lane) (register value) (g.each lane may)))
          | inr e ↦ subst (GrownLane n (i + 1) l (lane_of base.lanes l)) (sym (get_or-set_other s.lanes lane l next no_lane e))
              (stays n i l (lane_of base.lanes l) (lane_of s.lanes l) (step.Append lane value) d is (λ same. e (sym same)) (g.each l there))
        ];
      }
  grown_more n i s register (step.Write cells args) d is may g =
      let w = three_of register args 0 in
      let x = three_of register args 1 in
      let next = written (list_at s.cells cells) w x in
      record {
        lanes = g.lanes;
        tables = g.tables;
        cells = length-set s.cells cells next ∙ g.cells;
        items = λ k some. elim (cases_eq k cells) [
          | inl e ↦ subst (λ q. 0 < length (list_at (set s.cells cells next) q)) (sym e)
              (subst (λ y. 0 < length y) (sym (get_or-set_same s.cells cells next [] (subst (λ m. cells < m) (sym g.cells) may.0)))
              (subst (λ m. 0 < m) (sym (length-set (list_at s.cells cells) (place (length (list_at s.cells cells)) w) x)) (g.items cells may.1)))
          | inr e ↦ subst (λ y. 0 < length y) (sym (get_or-set_other s.cells cells k next [] e)) (g.items k some)
        ];
        each = λ l there. stays n i l (lane_of base.lanes l) (lane_of s.lanes l) (step.Write cells args) d is (λ e. e) (g.each l there);
      }

  module _ (n : ℕ) (less : n < count) where
    -- a load finds its sample
    found : (i lane back max : ℕ) (z : ℤ) (b : Lane) → max ≤ (lane_of base.lanes lane).history →
        HasUpTo base lane (from + count) ⊎ (HasUpTo base lane from × IsInTime steps i lane back max) → (GoesBack steps back max → 1 ≤ back_by max z) →
        GrownLane n i lane (lane_of base.lanes lane) b → HasSample b (from + n) (back_by max z)
    found i lane back max z b upto has far g =
        let h = g.history in
        let least = back_upto max z in
        record {
          not_before = omega arith;
          written = elim has [
            | inl full ↦ (let r = g.long in omega arith)
            | inr some ↦ elim some.1 [
              | inl before ↦ (let r = g.now before in let f = some.0 in omega arith)
              | inr goes ↦ (let r = g.grown goes.1 in let f = some.0 in let one = far goes.0 in omega arith)
            ]
          ];
        }

    -- there is room for one more
    room_left : (i : ℕ) → i < length steps → (a b : ℕ) → count * length steps ≤ a → a ≤ b + (n * length steps + i) → 1 ≤ b
    room_left i there a b has room =
        let most : suc n * length steps ≤ count * length steps = mul-le-mul_right {m = suc n} {n = count} (length steps) (omega arith) in
        let same : suc n * length steps ≡ n * length steps + length steps = suc-mul n (length steps) in
        omega arith

    may_step : (i : ℕ) → i < length steps → (p : Pass) → Underway n i p → (one : Step) → OperandsBelow i one → MayDo steps base from count i one →
        MayStep p.state (from + n) (argument p.numbers) one
    may_step i there p u (step.Number x) below may = tt
    may_step i there p u (step.Held k) below may = tt
    may_step i there p u (step.Input k) below may = tt
    may_step i there p u (step.Point op args) below may = tt
    may_step i there p u (step.Load lane back max) below may =
        let g = u.state in (
          subst (λ m. lane < m) (sym g.lanes) may.0,
          found i lane back max (argument p.numbers back) (lane_of p.state.lanes lane) may.1 may.2
              (λ goes. back_one max (argument p.numbers back) goes.far (subst (λ y. pos 1 ≤ℤ y) (sym (u.numbers back goes.by below goes.is)) goes.positive))
              (g.each lane may.0),
        )
    may_step i there p u (step.Append lane value) below may =
        let g = u.state in (
          subst (λ m. lane < m) (sym g.lanes) may,
          room_left i there (lane_of base.lanes lane).room (lane_of p.state.lanes lane).room (go.room lane may) (g.each lane may).room,
        )
    may_step i there p u (step.Read table arg) below may = subst (λ y. HasItems y table) (sym u.state.tables) may
    may_step i there p u (step.Write cells args) below may =
        let g = u.state in (subst (λ m. cells < m) (sym g.cells) may.0, g.items cells may.1)

    module _ (held input : ℕ → ℤ) where
      -- the register of a number has it
      numbers_more : (i : ℕ) (d : Step) (p : Pass) → Underway n i p →
          (j : ℕ) (z : ℤ) → j < i + 1 → ((d : Step) → get_or steps j d ≡ step.Number z) →
          argument (stepped held input (from + n) p (get_or steps i d)).numbers j ≡ z
      numbers_more i d p u j z below is =
          let x = step_value held input (finds p.state (from + n)) (argument p.numbers) (get_or steps i d) in
          elim (cases_eq j i) [
            | inl e ↦ get_or_push p.numbers x (pos 0) j (u.many ∙ sym e)
                ∙ ap (step_value held input (finds p.state (from + n)) (argument p.numbers)) (ap (λ q. get_or steps q d) (sym e) ∙ is d)
            | inr e ↦ get_or_append_left p.numbers (x ∷ []) (pos 0) j (let m = u.many in omega arith) ∙ u.numbers j z (omega arith) is
          ]

      more : (i : ℕ) (d : Step) → i < length steps → (p : Pass) → Underway n i p → Underway n (i + 1) (stepped held input (from + n) p (get_or steps i d))
      more i d there p u = record {
        many = length_push p.numbers _ ∙ (let m = u.many in omega arith);
        numbers = numbers_more i d p u;
        state = grown_more n i p.state (argument p.numbers) (get_or steps i d) d refl (go.each i d there) u.state;
      }

      -- each step that is left may be done, and the lanes have grown then
      pass_may : (left i : ℕ) → i + left ≡ length steps → (p : Pass) → Underway n i p →
          MayPass held input (from + n) p (drop i steps) × Grown n (length steps) (passed held input (from + n) p (drop i steps)).state
      pass_may zero i long p u =
          subst (λ l. MayPass held input (from + n) p l × Grown n (length steps) (passed held input (from + n) p l).state)
          (sym (drop_all i steps (omega arith)))
          (tt, subst (λ m. Grown n m p.state) (omega arith) u.state)
      pass_may (suc left) i long p u =
          let d = step.Held 0 in
          let there : i < length steps = omega arith in
          let rest = pass_may left (i + 1) (omega arith) (stepped held input (from + n) p (get_or steps i d)) (more i d there p u) in
          subst (λ l. MayPass held input (from + n) p l × Grown n (length steps) (passed held input (from + n) p l).state)
          (sym (drop_more steps i d there))
          ((may_step i there p u (get_or steps i d) (ordered i d there) (go.each i d there), rest.0), rest.1)

  -- a sample more
  next_sample : (n : ℕ) (s : State) → Grown n (length steps) s → Grown (suc n) 0 s
  next_sample n s g = record {
    lanes = g.lanes;
    tables = g.tables;
    cells = g.cells;
    items = g.items;
    each = λ l there. let x = g.each l there in record {
      history = x.history;
      room = (let r = x.room in let same : suc n * length steps ≡ n * length steps + length steps = suc-mul n (length steps) in omega arith);
      long = x.long;
      grown = x.now;
      now = λ y. absurd (let z = y.before in omega arith);
    };
  }

  begins : Grown 0 0 base
  begins = record {
    lanes = refl;
    tables = refl;
    cells = refl;
    items = λ k some. some;
    each = λ l there. record {
      history = refl;
      room = omega arith;
      long = omega arith;
      grown = λ y. omega arith;
      now = λ y. absurd (let z = y.before in omega arith);
    };
  }

  opens : (n : ℕ) (s : State) → Grown n 0 s → Underway n 0 (opening s)
  opens n s g = record { many = refl; numbers = λ j z below is. absurd (omega arith); state = g }

  module _ (held : ℕ → ℤ) (inputs : ℕ → ℕ → ℤ) where
    grown_at : (n : ℕ) → n ≤ count → Grown n 0 (ran steps held inputs from n base)
    grown_at zero upto = begins
    grown_at (suc n) upto =
        let s = ran steps held inputs from n base in
        next_sample n (passed held (inputs (from + n)) (from + n) (opening s) steps).state
        (pass_may n (omega arith) held (inputs (from + n)) (length steps) 0 (omega arith) (opening s) (opens n s (grown_at n (omega arith)))).1

    pub goes : MayRun steps held inputs from count base
    goes n less =
        let s = ran steps held inputs from n base in
        (pass_may n less held (inputs (from + n)) (length steps) 0 (omega arith) (opening s) (opens n s (grown_at n (omega arith)))).0
