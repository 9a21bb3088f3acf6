-- What is told is just what the codes load, each once.
use Rattle.std.proofs.Common.{◌≡◌, ◌≢◌, ◌⊎◌, inl, inr, ℕ, zero, suc, ◌+◌, ◌*◌, ◌<◌, ◌≤◌, List, [], ◌∷◌, ◌++◌, length, get_or, refl, sym, ap, ap₂, ◌∙◌, subst}
use Rattle.std.proofs.Common.{arith, Bool, true, false}
use Rattle.std.specs.Prelude.{All, Vec, Option, None, Some, replicate, slice_set, nat_eq, if◌then◌else◌, ◌==◌, ◌&&◌, ◌||◌}
use Rattle.std.specs.declared.alloc.Global.{Global}
use Rattle.std.proofs.lemmas.Bool.{and_parts, cases_eq, eq-eqb, eqb-true, ne_eqb, cond-true, cond-false}
use Rattle.std.proofs.lemmas.List.{length-set, length-replicate, get_or-set_same, get_or-set_other}
use Rattle.std.proofs.lemmas.List.Elements.{All-head, All-tail, All-get_or}
use Rattle.fv_outside.specs.declared.tasks.Reads.{Reads}
use Rattle.fv_outside.specs.headline.Tasks.{bit, total, reads_loop}
use Rattle.fv_components.specs.headline.Reach.{at}
use Rattle.fv_loopcode.specs.declared.step.Step.{Step}
use Rattle.fv_loopcode.specs.declared.step.Step.TheVariants as step
use Rattle.fv_split_plan.specs.Separated.{lane_at}
use Rattle.fv_split_plan.specs.headline.View.{loads_lane}
use Rattle.fv_split_code.specs.Emitted.{code_in}
use Rattle.fv_split.specs.inner.ToldReads.{ReadsSoFar, was_told, with_read, LoadsAmong, reads_of_steps, reads_of_loops}

-- ---- lists of reads

-- the read is this pair
abbrev pub is_pair : (j i : ℕ) → Reads → Bool
is_pair j i r = (r.reader == j) && (r.source == i)

or_assoc : (a b c : Bool) → (a || b) || c ≡ a || (b || c)
or_assoc true b c = refl
or_assoc false b c = refl

or_true : (a : Bool) → a || true ≡ true
or_true true = refl
or_true false = refl

or_false : (a : Bool) → a || false ≡ a
or_false true = refl
or_false false = refl

or_cases : (a b : Bool) → a || b ≡ true → (a ≡ true) ⊎ (b ≡ true)
or_cases true b e = inl refl
or_cases false b e = inr e

reads_push : (rs : List Reads) (x : Reads) (j i : ℕ) → reads_loop (rs ++ x ∷ []) j i ≡ reads_loop rs j i || is_pair j i x
reads_push [] x j i = or_false (is_pair j i x)
reads_push (r ∷ rs) x j i = ap (λ b. is_pair j i r || b) (reads_push rs x j i) ∙ sym (or_assoc (is_pair j i r) (reads_loop rs j i) (is_pair j i x))

total_push : (f : Reads → ℕ) (rs : List Reads) (x : Reads) → total f (rs ++ x ∷ []) ≡ total f rs + f x
total_push f [] x = omega arith
total_push f (r ∷ rs) x = let h = total_push f rs x in omega (arith, h)

-- a pair that is not told counts nothing
total_none : (rs : List Reads) (j i : ℕ) → reads_loop rs j i ≡ false → total (λ r. bit (is_pair j i r)) rs ≡ 0
total_none [] j i e = refl
total_none (r ∷ rs) j i e = go (is_pair j i r) refl e (λ z. total_none rs j i z)
  where
    go : (b : Bool) → is_pair j i r ≡ b → b || reads_loop rs j i ≡ false → (reads_loop rs j i ≡ false → total (λ r. bit (is_pair j i r)) rs ≡ 0) →
        total (λ r. bit (is_pair j i r)) (r ∷ rs) ≡ 0
    go true f e more = absurd cc
    go false f e more = ap (λ b. bit b + total (λ r. bit (is_pair j i r)) rs) f ∙ (let h = more e in omega (arith, h))

-- each told pair is told
told_at : (rs : List Reads) (k : ℕ) (d : Reads) → k < length rs → reads_loop rs (get_or rs k d).reader (get_or rs k d).source ≡ true
told_at [] k d l = absurd (omega arith)
told_at (r ∷ rs) zero d l = ap (λ b. b || reads_loop rs r.reader r.source) (ap₂ (λ a b. a && b) (eq-eqb r.reader r.reader refl) (eq-eqb r.source r.source refl))
told_at (r ∷ rs) (suc k) d l = ap (λ b. is_pair (get_or rs k d).reader (get_or rs k d).source r || b) (told_at rs k d (omega arith))
    ∙ or_true (is_pair (get_or rs k d).reader (get_or rs k d).source r)

-- ---- what is told so far

-- just the pairs with P are told, each once, and of loop j, which is told last, each loop knows whether it reads it
pub record IsTold (P : ℕ → ℕ → Type 0) (j loops : ℕ) (t : ReadsSoFar) : Type 0 where
  pub long : length t.last ≡ loops
  pub valid : (r i : ℕ) → reads_loop t.reads r i ≡ true → P r i
  pub all : (r i : ℕ) → P r i → reads_loop t.reads r i ≡ true
  pub once : (r i : ℕ) → total (λ x. bit (is_pair r i x)) t.reads ≤ 1
  pub marks : (i : ℕ) → was_told (lane_at t.last i) j ≡ true → reads_loop t.reads j i ≡ true
  pub marked : (i : ℕ) → reads_loop t.reads j i ≡ true → was_told (lane_at t.last i) j ≡ true
  pub before : (i r : ℕ) → lane_at t.last i ≡ Some r → r ≤ j

-- the same pairs, said otherwise
same_told : (P Q : ℕ → ℕ → Type 0) (j loops : ℕ) (t : ReadsSoFar) →
    ((r i : ℕ) → P r i → Q r i) → ((r i : ℕ) → Q r i → P r i) → IsTold P j loops t → IsTold Q j loops t
same_told P Q j loops t f h k = record {
  long = k.long;
  valid = λ r i e. f r i (k.valid r i e);
  all = λ r i q. k.all r i (h r i q);
  once = k.once;
  marks = k.marks;
  marked = k.marked;
  before = k.before;
}

-- the pairs of one source more
abbrev WithSource : (P : ℕ → ℕ → Type 0) → (j i : ℕ) → ℕ → ℕ → Type 0
WithSource P j i r k = P r k ⊎ ((r ≡ j) × (k ≡ i) × (i ≢ j))

module _ (P : ℕ → ℕ → Type 0) (j i loops : ℕ) (t : ReadsSoFar) (h : IsTold P j loops t) (l : i < loops) where
  -- it is the loop itself, or was told before
  known : (i ≢ j → reads_loop t.reads j i ≡ true) → IsTold (WithSource P j i) j loops t
  known told = record {
    long = h.long;
    valid = λ r k e. inl (h.valid r k e);
    all = λ r k q. elim q [
      | inl y ↦ h.all r k y
      | inr y ↦ ap₂ (reads_loop t.reads) y.0 y.1 ∙ told y.2
    ];
    once = h.once;
    marks = h.marks;
    marked = h.marked;
    before = h.before;
  }

  abbrev pair : Reads
  pair = record { reader = j; source = i }

  abbrev more : ReadsSoFar
  more = record { reads = t.reads ++ pair ∷ []; last = slice_set t.last i (Some j) }

  -- it is told now
  told_now : i ≢ j → was_told (lane_at t.last i) j ≡ false → IsTold (WithSource P j i) j loops more
  told_now d unmarked = record {
    long = length-set t.last i (Some j) ∙ h.long;
    valid = λ r k e. elim (or_cases (reads_loop t.reads r k) (is_pair r k pair) (sym (reads_push t.reads pair r k) ∙ e)) [
      | inl y ↦ inl (h.valid r k y)
      | inr y ↦ inr (is_reader r k y, is_source r k y, d)
    ];
    all = λ r k q. reads_push t.reads pair r k ∙ elim q [
      | inl y ↦ ap (λ b. b || is_pair r k pair) (h.all r k y)
      | inr y ↦ ap (λ b. reads_loop t.reads r k || b) (ap₂ (λ a b. a && b) (eq-eqb j r (sym y.0)) (eq-eqb i k (sym y.1))) ∙ or_true (reads_loop t.reads r k)
    ];
    once = once;
    marks = λ k e. elim (cases_eq k i) [
      | inl z ↦ ap (reads_loop more.reads j) z ∙ told
      | inr z ↦ reads_push t.reads pair j k ∙ ap (λ b. b || is_pair j k pair) (h.marks k (sym (ap (λ o. was_told o j) (other k z)) ∙ e))
    ];
    marked = λ k e. elim (cases_eq k i) [
      | inl z ↦ ap (λ o. was_told o j) (ap (lane_at more.last) z ∙ mine) ∙ eq-eqb j j refl
      | inr z ↦ ap (λ o. was_told o j) (other k z) ∙ h.marked k (left k z (sym (reads_push t.reads pair j k) ∙ e))
    ];
    before = λ k r e. elim (cases_eq k i) [
      | inl z ↦ let y : j ≡ r = some_is (sym (ap (lane_at more.last) z ∙ mine) ∙ e) in omega (arith, y)
      | inr z ↦ h.before k r (sym (other k z) ∙ e)
    ];
  }
    where
      some_is : {a b : ℕ} → Some a ≡ Some b → a ≡ b
      some_is {a} {b} e = cc

      mine : lane_at more.last i ≡ Some j
      mine = get_or-set_same t.last i (Some j) None (omega (arith, h.long))

      other : (k : ℕ) → k ≢ i → lane_at more.last k ≡ lane_at t.last k
      other k z = get_or-set_other t.last i k (Some j) None z

      told : reads_loop more.reads j i ≡ true
      told = reads_push t.reads pair j i ∙ ap (λ b. reads_loop t.reads j i || b) (ap₂ (λ a b. a && b) (eq-eqb j j refl) (eq-eqb i i refl))
          ∙ or_true (reads_loop t.reads j i)

      is_reader : (r k : ℕ) → is_pair r k pair ≡ true → r ≡ j
      is_reader r k e = sym (eqb-true j r (and_parts (j == r) (i == k) e).0)

      is_source : (r k : ℕ) → is_pair r k pair ≡ true → k ≡ i
      is_source r k e = sym (eqb-true i k (and_parts (j == r) (i == k) e).1)

      left : (k : ℕ) → k ≢ i → reads_loop t.reads j k || is_pair j k pair ≡ true → reads_loop t.reads j k ≡ true
      left k z e = elim (or_cases (reads_loop t.reads j k) (is_pair j k pair) e) [ inl y ↦ y | inr y ↦ absurd (z (is_source j k y)) ]

      fresh : reads_loop t.reads j i ≡ false
      fresh = go (reads_loop t.reads j i) refl
        where
          go : (b : Bool) → reads_loop t.reads j i ≡ b → b ≡ false
          go true e = absurd (let z = sym unmarked ∙ h.marked i e in cc)
          go false e = refl

      once : (r k : ℕ) → total (λ x. bit (is_pair r k x)) more.reads ≤ 1
      once r k = go (is_pair r k pair) refl
        where
          pushed : total (λ x. bit (is_pair r k x)) more.reads ≡ total (λ x. bit (is_pair r k x)) t.reads + bit (is_pair r k pair)
          pushed = total_push (λ x. bit (is_pair r k x)) t.reads pair

          go : (b : Bool) → is_pair r k pair ≡ b → total (λ x. bit (is_pair r k x)) more.reads ≤ 1
          go true e =
              let z = total_none t.reads r k (ap₂ (reads_loop t.reads) (is_reader r k e) (is_source r k e) ∙ fresh) in
              omega (arith, pushed, ap bit e, z)
          go false e = let z = h.once r k in omega (arith, pushed, ap bit e, z)

  pub told_more : IsTold (WithSource P j i) j loops (with_read j i t)
  told_more = elim (cases_eq i j) [
    | inl e ↦
        subst (IsTold (WithSource P j i) j loops) (sym (cond-true (nat_eq i j || was_told (lane_at t.last i) j) t more (ap (λ b. b || was_told
        (lane_at t.last i) j) (eq-eqb i j e))))
        (known (λ d. absurd (d e)))
    | inr d ↦ go d (was_told (lane_at t.last i) j) refl
  ]
    where
      go : i ≢ j → (b : Bool) → was_told (lane_at t.last i) j ≡ b → IsTold (WithSource P j i) j loops (with_read j i t)
      go d true e =
          subst (IsTold (WithSource P j i) j loops) (sym (cond-true (nat_eq i j || was_told (lane_at t.last i) j) t more (ap (λ b. nat_eq i j || b) e
          ∙ or_true (nat_eq i j))))
          (known (λ z. h.marks i e))
      go d false e =
          subst (IsTold (WithSource P j i) j loops)
          (sym (cond-false (nat_eq i j || was_told (lane_at t.last i) j) t more (ap₂ (λ a b. a || b) (ne_eqb i j d) e)))
          (told_now d e)

-- ---- the steps of a loop

-- the steps load a lane of loop i
pub record LoadsFrom (owners : List ℕ) (i : ℕ) (steps : List Step) : Type 0 where
  pub lane : ℕ
  pub loads : loads_lane lane steps ≡ true
  pub owner : at owners lane ≡ i

-- the pairs of loop j's steps more
abbrev WithSteps : (P : ℕ → ℕ → Type 0) → (owners : List ℕ) → (j : ℕ) → List Step → ℕ → ℕ → Type 0
WithSteps P owners j steps r k = P r k ⊎ ((r ≡ j) × (k ≢ j) × LoadsFrom owners k steps)

module _ (owners : List ℕ) (j loops : ℕ) (owned : All (λ k. k < loops) owners) where
  -- a step that loads nothing
  skip : (P : ℕ → ℕ → Type 0) (s : Step) (ss : List Step) (t : ReadsSoFar) → ((l : ℕ) → loads_lane l (s ∷ ss) ≡ loads_lane l ss) →
      IsTold (WithSteps P owners j ss) j loops t →
      IsTold (WithSteps P owners j (s ∷ ss)) j loops t
  skip P s ss t e h = same_told (WithSteps P owners j ss) (WithSteps P owners j (s ∷ ss)) j loops t
      (λ r k q. elim q [ inl y ↦ inl y | inr y ↦ inr (y.0, y.1, record { lane = y.2.lane; loads = e y.2.lane ∙ y.2.loads; owner = y.2.owner }) ])
      (λ r k q. elim q [ inl y ↦ inl y | inr y ↦ inr (y.0, y.1, record { lane = y.2.lane; loads = sym (e y.2.lane) ∙ y.2.loads; owner = y.2.owner }) ]) h

  pub steps_told : (P : ℕ → ℕ → Type 0) (steps : List Step) (t : ReadsSoFar) → All (λ s. LoadsAmong (length owners) s) steps → IsTold P j loops t →
      IsTold (WithSteps P owners j steps) j loops (reads_of_steps owners j t steps)
  steps_told P [] t a h = same_told P (WithSteps P owners j []) j loops t (λ r k q. inl q) (λ r k q. elim q [
    | inl y ↦ y
    | inr y ↦ absurd (let z : false ≡ true =
        y.2.loads in cc)
  ]) h
  steps_told P (step.Number n ∷ ss) t a h =
      skip P (step.Number n) ss _ (λ l. refl) (steps_told P ss t (All-tail (LoadsAmong (length owners)) (step.Number n) ss a) h)
  steps_told P (step.Held n ∷ ss) t a h = skip P (step.Held n) ss _ (λ l. refl) (steps_told P ss t (All-tail (LoadsAmong (length owners)) (step.Held n) ss a) h)
  steps_told P (step.Input n ∷ ss) t a h =
      skip P (step.Input n) ss _ (λ l. refl) (steps_told P ss t (All-tail (LoadsAmong (length owners)) (step.Input n) ss a) h)
  steps_told P (step.Point op args ∷ ss) t a h = skip P (step.Point op args) ss _ (λ l. refl) (steps_told P ss t (All-tail (LoadsAmong (length owners))
      (step.Point op args) ss a) h)
  steps_told P (step.Append lane value ∷ ss) t a h = skip P (step.Append lane value) ss _ (λ l. refl) (steps_told P ss t (All-tail (LoadsAmong (length owners))
      (step.Append lane value) ss a) h)
  steps_told P (step.Read table arg ∷ ss) t a h = skip P (step.Read table arg) ss _ (λ l. refl) (steps_told P ss t (All-tail (LoadsAmong (length owners))
      (step.Read table arg) ss a) h)
  steps_told P (step.Write cells args ∷ ss) t a h = skip P (step.Write cells args) ss _ (λ l. refl) (steps_told P ss t (All-tail (LoadsAmong (length owners))
      (step.Write cells args) ss a) h)
  steps_told P (step.Load lane back max ∷ ss) t a h =
      let source = at owners lane in
      let there : lane < length owners = All-head (LoadsAmong (length owners)) (step.Load lane back max) ss a in
      let l : source < loops = All-get_or (λ k. k < loops) owners lane 0 there owned in
      let one = told_more P j source loops t h l in
      let rest = steps_told (WithSource P j source) ss (with_read j source t) (All-tail (LoadsAmong (length owners)) (step.Load lane back max) ss a) one in
      same_told (WithSteps (WithSource P j source) owners j ss) (WithSteps P owners j (step.Load lane back max ∷ ss)) j loops (reads_of_steps owners j
      (with_read j source t) ss)
      (λ r k q. elim q [
        | inl y ↦ elim y [
          | inl z ↦ inl z
          | inr z ↦ inr (
            z.0,
            (λ e. z.2 (sym z.1 ∙ e)),
            record { lane = lane; loads = ap (λ b. b || loads_lane lane ss) (eq-eqb lane lane refl); owner = sym z.1 },
          )
        ]
        | inr y ↦ inr (
          y.0,
          y.1,
          record {
            lane = y.2.lane;
            loads = ap (λ b. nat_eq y.2.lane lane || b) y.2.loads ∙ or_true (nat_eq y.2.lane lane);
            owner =
                y.2.owner;
          },
        )
      ])
      (λ r k q. elim q [
        | inl y ↦ inl (inl y)
        | inr y ↦ elim (cases_eq y.2.lane lane) [
          | inl z ↦ let e : source ≡ k = ap (at owners) (sym z) ∙ y.2.owner in inl (inr (y.0, sym e, (λ w. y.1 (sym e ∙ w))))
          | inr z ↦ inr (
            y.0,
            y.1,
            record {
              lane = y.2.lane;
              loads = sym (ap (λ b. b || loads_lane y.2.lane ss) (ne_eqb y.2.lane lane z)) ∙ y.2.loads;
              owner =
                  y.2.owner;
            },
          )
        ]
      ])
      rest

-- ---- all loops

-- loop r is among the first n, and loads a lane of the other loop i
pub record LoopReads (owners : List ℕ) (codes : List (Vec Step Global)) (n r i : ℕ) : Type 0 where
  pub below : r < n
  pub other : i ≢ r
  pub loads : LoadsFrom owners i (code_in codes r)

module _ (owners : List ℕ) (codes : List (Vec Step Global)) (owned : All (λ k. k < length codes) owners) (named : (j : ℕ) →
    All (λ s. LoadsAmong (length owners) s) (code_in codes j)) where
  abbrev loops : ℕ
  loops = length codes

  -- nothing is told
  nothing : IsTold (LoopReads owners codes 0) 0 loops (reads_of_loops owners codes 0)
  nothing = record {
    long = length-replicate loops None;
    valid = λ r i e. absurd (let z : false ≡ true = e in cc);
    all = λ r i q. absurd (let b = q.below in omega arith);
    once = λ r i. omega arith;
    marks = λ i e. absurd (let z = sym (ap (λ o. was_told o 0) (none loops i)) ∙ e in cc);
    marked = λ i e. absurd (let z : false ≡ true = e in cc);
    before = λ i r e. absurd (let z = sym (none loops i) ∙ e in cc);
  }
    where
      none : (n i : ℕ) → lane_at (replicate n None) i ≡ None
      none zero i = refl
      none (suc n) zero = refl
      none (suc n) (suc i) = none n i

  -- the next loop was told nothing yet
  next : (P : ℕ → ℕ → Type 0) (j : ℕ) (t : ReadsSoFar) → ((r i : ℕ) → P r i → r ≤ j) → IsTold P j loops t → IsTold P (suc j) loops t
  next P j t low h = record {
    long = h.long;
    valid = h.valid;
    all = h.all;
    once = h.once;
    marks = λ i e. absurd (none i (lane_at t.last i) refl e);
    marked = λ i e. absurd (let z = low (suc j) i (h.valid (suc j) i e) in omega arith);
    before = λ i r e. let z = h.before i r e in omega arith;
  }
    where
      none : (i : ℕ) (o : Option ℕ) → lane_at t.last i ≡ o → was_told o (suc j) ≡ true → ⊥
      none i None z e = cc
      none i (Some r) z e = let y = h.before i r z in let w = eqb-true r (suc j) e in omega arith

  pub all_told : (n : ℕ) → IsTold (LoopReads owners codes n) n loops (reads_of_loops owners codes n)
  all_told zero = nothing
  all_told (suc n) =
      let h = steps_told owners n loops owned (LoopReads owners codes n) (code_in codes n) (reads_of_loops owners codes n) (named n) (all_told n) in
      next (LoopReads owners codes (suc n)) n (reads_of_loops owners codes (suc n)) (λ r i q. let b = q.below in omega arith)
      (same_told (WithSteps (LoopReads owners codes n) owners n (code_in codes n)) (LoopReads owners codes (suc n)) n loops
      (reads_of_loops owners codes (suc n))
      (λ r i q. elim q [
        | inl y ↦ record { below = (let b = y.below in omega arith); other = y.other; loads = y.loads }
        | inr y ↦ record { below = omega (arith, y.0); other = (λ e. y.1 (e ∙ y.0)); loads = subst (λ k. LoadsFrom owners i (code_in codes k)) (sym y.0) y.2 }
      ])
      (λ r i q. elim (cases_eq r n) [
        | inl e ↦ inr (e, (λ z. q.other (z ∙ sym e)), subst (λ k. LoadsFrom owners i (code_in codes k)) e q.loads)
        | inr e ↦ inl (record { below = (let b = q.below in omega arith); other = q.other; loads = q.loads })
      ]) h)

-- ---- how many pairs there are

-- the sum of f below n
abbrev sum_to : (n : ℕ) → (ℕ → ℕ) → ℕ
sum_to zero f = 0
sum_to (suc n) f = sum_to n f + f n

sum_add : (n : ℕ) (f h : ℕ → ℕ) → sum_to n (λ k. f k + h k) ≡ sum_to n f + sum_to n h
sum_add zero f h = refl
sum_add (suc n) f h = let z = sum_add n f h in omega (arith, z)

sum_ge : (n k : ℕ) (f : ℕ → ℕ) → k < n → f k ≤ sum_to n f
sum_ge zero k f l = absurd (omega arith)
sum_ge (suc n) k f l = elim (cases_eq k n) [
  | inl e ↦ let z : f k ≡ f n = ap f e in omega (arith, z)
  | inr e ↦ let z = sum_ge n k f (omega arith) in omega (arith, z)
]

sum_le : (n c : ℕ) (f : ℕ → ℕ) → ((k : ℕ) → f k ≤ c) → sum_to n f ≤ n * c
sum_le zero c f h = omega arith
sum_le (suc n) c f h = let z = sum_le n c f h in let y = h n in let w : suc n * c ≡ n * c + c = omega arith in omega (arith, z, y, w)

sum_same : (n : ℕ) (f h : ℕ → ℕ) → ((k : ℕ) → f k ≡ h k) → sum_to n f ≡ sum_to n h
sum_same zero f h e = refl
sum_same (suc n) f h e = ap₂ (λ a b. a + b) (sum_same n f h e) (e n)

-- a pair of numbers below n
abbrev IsBelow : ℕ → Reads → Type 0
IsBelow n r = (r.reader < n) × (r.source < n)

-- pairs of numbers below n are no more than all of their counts
counted : (n : ℕ) (rs : List Reads) → All (IsBelow n) rs → length rs ≤ sum_to n (λ j. sum_to n (λ i. total (λ r. bit (is_pair j i r)) rs))
counted n [] a = omega arith
counted n (x ∷ rs) a =
    let h = counted n rs (All-tail (IsBelow n) x rs a) in
    let w = All-head (IsBelow n) x rs a in
    let mine : ℕ → ℕ = λ j. sum_to n (λ i. bit (is_pair j i x)) in
    let rest : ℕ → ℕ = λ j. sum_to n (λ i. total (λ r. bit (is_pair j i r)) rs) in
    let split = sum_same n (λ j. sum_to n (λ i. total (λ r. bit (is_pair j i r)) (x ∷ rs))) (λ j. mine j + rest j) (λ j. sum_add n (λ i. bit (is_pair j i x))
    (λ i. total (λ r. bit (is_pair j i r)) rs)) in
    let one = sum_ge n x.source (λ i. bit (is_pair x.reader i x)) w.1 in
    let is : bit (is_pair x.reader x.source x) ≡ 1 = ap bit (ap₂ (λ a b. a && b) (eq-eqb x.reader x.reader refl) (eq-eqb x.source x.source refl)) in
    let all = sum_ge n x.reader mine w.0 in
    omega (arith, h, split, sum_add n mine rest, one, is, all)

-- where each of them is told once, they are few
pub few_pairs : (n : ℕ) (rs : List Reads) → ((j i : ℕ) → reads_loop rs j i ≡ true → (j < n) × (i < n)) → ((j i : ℕ) → total (λ r. bit (is_pair j i r)) rs ≤ 1) →
    length rs ≤ n * n
few_pairs n rs low once =
    let c = counted n rs (λ k d l. low (get_or rs k d).reader (get_or rs k d).source (told_at rs k d l)) in
    let b = sum_le n n (λ j. sum_to n (λ i. total (λ r. bit (is_pair j i r)) rs)) (λ j. let z =
    sum_le n 1 (λ i. total (λ r. bit (is_pair j i r)) rs) (once j) in omega (arith, z)) in
    omega (arith, c, b)

-- ---- the lists of last readers stay as long

length_with : (j i : ℕ) (t : ReadsSoFar) → length (with_read j i t).last ≡ length t.last
length_with j i t =
    let more : ReadsSoFar = record { reads = t.reads ++ record { reader = j; source = i } ∷ []; last = slice_set t.last i (Some j) } in
    elim (nat_eq i j || was_told (lane_at t.last i) j) as (λ b. length (if b then t else more).last ≡ length t.last) [
      | true ↦ refl
      | false ↦ length-set t.last i (Some j)
    ]

pub length_steps : (owners : List ℕ) (j : ℕ) (t : ReadsSoFar) (steps : List Step) → length (reads_of_steps owners j t steps).last ≡ length t.last
length_steps owners j t [] = refl
length_steps owners j t (step.Number n ∷ ss) = length_steps owners j t ss
length_steps owners j t (step.Held k ∷ ss) = length_steps owners j t ss
length_steps owners j t (step.Input i ∷ ss) = length_steps owners j t ss
length_steps owners j t (step.Point op args ∷ ss) = length_steps owners j t ss
length_steps owners j t (step.Load lane back max ∷ ss) = length_steps owners j (with_read j (at owners lane) t) ss ∙ length_with j (at owners lane) t
length_steps owners j t (step.Append lane value ∷ ss) = length_steps owners j t ss
length_steps owners j t (step.Read table arg ∷ ss) = length_steps owners j t ss
length_steps owners j t (step.Write cells args ∷ ss) = length_steps owners j t ss

pub length_all : (owners : List ℕ) (codes : List (Vec Step Global)) (n : ℕ) → length (reads_of_loops owners codes n).last ≡ length codes
length_all owners codes zero = length-replicate (length codes) None
length_all owners codes (suc n) = length_steps owners n (reads_of_loops owners codes n) (code_in codes n) ∙ length_all owners codes n
