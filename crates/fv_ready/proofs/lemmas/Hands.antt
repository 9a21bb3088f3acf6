-- What a seat has in hand: each step keeps it, and it can be given back at any moment.
use Rattle.std.proofs.Common.{◌≡◌, ℕ, zero, suc, ◌+◌, ◌<◌, Bool, true, false, cond, ◌&&◌, ◌||◌, ◌⊎◌, inl, inr, ⊎_elim, List, [], ◌∷◌}
use Rattle.std.proofs.Common.{◌++◌, length, refl, sym, ap, ◌∙◌, subst, arith, ◌==◌, eq-eqb, ne_eqb}
use Rattle.std.proofs.Common.{ltb, ltb-true, Option, Some, None, append-nil, append_assoc, length-append}
use mathlib.Core.Logic.{dite}
use native.Mathlib.Decide.{ℕ_discrete}
use Rattle.fv_graph.specs.Tasks.{bit}
use Rattle.fv_graph.specs.TasksBeside.{times}
use Rattle.fv_graph.specs.Net.{Net}
use Rattle.fv_graph.specs.Graph.{Graph}
use Rattle.fv_graph.specs.Wires.{Wires, IsWires}
use Rattle.fv_graph.proofs.lemmas.Counts.{bit_le, bit_same, bit_apart, bit_true, bit_one, bit_swap, bit_right, both_true, total_append}
use Rattle.fv_ready.specs.declared.view.Deed.{Deed}
use Rattle.fv_ready.specs.declared.view.Deed.TheVariants.{Stamped, Arrived, Saw, Claimed}
use Rattle.fv_ready.specs.declared.view.About.{About}
use Rattle.fv_ready.specs.declared.view.View.{View}
use Rattle.fv_ready.specs.Rule.{wins, starts, finishes, arrives, done_by, noted, last_from, last_won, places, Each, Fits, Took, IsFresh, going}
use Rattle.fv_ready.specs.Shown.{OwesNothing}
use Rattle.fv_ready.specs.Carried.{slot_at, with_slot, but_slot, MayHold, IsFree, IsBusy, AreHanded, IsMine, HasKey}
use Rattle.fv_ready.proofs.lemmas.Taking.{places_append}

-- the task that was won last, after one deed more
last_more : (o : Option ℕ) (ds : List Deed) (d : Deed) → last_from o (ds ++ d ∷ []) ≡ last_from (last_from o ds) (d ∷ [])
last_more o [] d = refl
last_more o (Stamped k u b ∷ ds) d = last_more o ds d
last_more o (Arrived e c ∷ ds) d = last_more o ds d
last_more o (Saw u c ∷ ds) d = last_more o ds d
last_more o (Claimed u b ∷ ds) d = last_more (cond b (Some u) o) ds d

pub done_noted : {C : Type 0} (f : Deed → ℕ) (v : View C) (d : Deed) → done_by f (noted v d) ≡ done_by f v + f d
done_noted f v d = let r = total_append f v.deeds (d ∷ []) in omega arith

module _ {S : Type 0} where
  each_append : (P : ℕ → S → Type 0) (xs ys : List (ℕ × S)) → Each P xs → Each P ys → Each P (xs ++ ys)
  each_append P [] ys a b = b
  each_append P (x ∷ xs) ys a b = (a.0, each_append P xs ys a.1 b)

  each_map : (P Q : ℕ → S → Type 0) (xs : List (ℕ × S)) → ((e : ℕ) (x : S) → P e x → Q e x) → Each P xs → Each Q xs
  each_map P Q [] f a = tt
  each_map P Q (x ∷ xs) f a = (f x.0 x.1 a.0, each_map P Q xs f a.1)

  each_both : (P Q : ℕ → S → Type 0) (xs : List (ℕ × S)) → Each P xs → Each Q xs → Each (λ e x. P e x × Q e x) xs
  each_both P Q [] a b = tt
  each_both P Q (x ∷ xs) a b = ((a.0, b.0), each_both P Q xs a.1 b.1)

  pub each_left : (P : ℕ → S → Type 0) (xs ys : List (ℕ × S)) → Each P (xs ++ ys) → Each P xs
  each_left P [] ys a = tt
  each_left P (x ∷ xs) ys a = (a.0, each_left P xs ys a.1)

  pub each_right : (P : ℕ → S → Type 0) (xs ys : List (ℕ × S)) → Each P (xs ++ ys) → Each P ys
  each_right P [] ys a = a
  each_right P (x ∷ xs) ys a = each_right P xs ys a.1

  -- of the places alone
  each_places : (P : ℕ → Type 0) (xs : List (ℕ × S)) → ((e : ℕ) → 0 < times e (places xs) → P e) → Each (λ e _. P e) xs
  each_places P [] f = tt
  each_places P (x ∷ xs) f = let o = bit_same x.0 x.0 refl in (f x.0 (omega arith), each_places P xs (λ e h. f e (omega arith)))

  -- where the first slot of an edge stands
  pub record At (c : List (ℕ × S)) (e : ℕ) : Type 0 where
    pub xs : List (ℕ × S)
    pub x : S
    pub ys : List (ℕ × S)
    pub is : c ≡ xs ++ (e, x) ∷ ys
    pub first : times e (places xs) ≡ 0

  pub find_at : (c : List (ℕ × S)) (e : ℕ) → 0 < times e (places c) → At c e
  find_at [] e pos = absurd (omega arith)
  find_at (x ∷ xs) e pos = dite (ℕ_discrete x.0 e)
      (λ s. record { xs = []; x = x.1; ys = xs; is = ap (λ k. (k, x.1) ∷ xs) s; first = refl })
      (λ n. let o = bit_apart x.0 e n in let r = find_at xs e (omega arith) in
      record { xs = x ∷ r.xs; x = r.x; ys = r.ys; is = ap (λ l. x ∷ l) r.is; first = let f = r.first in omega arith })

  -- a list is cut where its places are
  pub record Cut (c : List (ℕ × S)) (es fs : List ℕ) : Type 0 where
    pub front : List (ℕ × S)
    pub back : List (ℕ × S)
    pub is : c ≡ front ++ back
    pub front_at : places front ≡ es
    pub back_at : places back ≡ fs

  pub cut_at : (c : List (ℕ × S)) (es fs : List ℕ) → places c ≡ es ++ fs → Cut c es fs
  cut_at c [] fs h = record { front = []; back = c; is = refl; front_at = refl; back_at = h }
  cut_at [] (e ∷ es) fs h = absurd (cc)
  cut_at (x ∷ xs) (e ∷ es) fs h = let r = cut_at xs es fs (cc) in
      record {
        front = x ∷ r.front;
        back = r.back;
        is = ap (λ l. x ∷ l) r.is;
        front_at = (λ i. (let q : x.0 ≡ e = cc in
            q) i ∷ r.front_at i);
        back_at = r.back_at;
      }

  pub long_places : (xs : List (ℕ × S)) → length (places xs) ≡ length xs
  long_places [] = refl
  long_places (x ∷ xs) = ap suc (long_places xs)

module _ {C : Type 0} where
  pub slot_first : (xs : List (ℕ × Option C)) (e : ℕ) (x : Option C) (ys : List (ℕ × Option C)) → times e (places xs) ≡ 0 → slot_at (xs ++ (e, x) ∷ ys) e ≡ x
  slot_first [] e x ys h = ap (λ b. cond b x (slot_at ys e)) (eq-eqb e e refl)
  slot_first (y ∷ xs) e x ys h = dite (ℕ_discrete y.0 e) (λ s. let o = bit_same y.0 e s in absurd (omega arith))
      (λ n. ap (λ b. cond b y.1 (slot_at (xs ++ (e, x) ∷ ys) e)) (ne_eqb y.0 e n) ∙ slot_first xs e x ys (let o = bit_apart y.0 e n in omega arith))

  pub with_first : (xs : List (ℕ × Option C)) (e : ℕ) (x y : Option C) (ys : List (ℕ × Option C)) → times e (places xs) ≡ 0 → with_slot
      (xs ++ (e, x) ∷ ys) e y ≡ xs ++ (e, y) ∷ ys
  with_first [] e x y ys h = ap (λ b. cond b ((e, y) ∷ ys) ((e, x) ∷ with_slot ys e y)) (eq-eqb e e refl)
  with_first (z ∷ xs) e x y ys h = dite (ℕ_discrete z.0 e) (λ s. let o = bit_same z.0 e s in absurd (omega arith))
      (λ n. ap (λ b. cond b ((e, y) ∷ (xs ++ (e, x) ∷ ys)) (z ∷ with_slot (xs ++ (e, x) ∷ ys) e y)) (ne_eqb z.0 e n) ∙ ap (λ l. z ∷ l)
      (with_first xs e x y ys (let o = bit_apart z.0 e n in omega arith)))

  pub but_first : (xs : List (ℕ × Option C)) (e : ℕ) (x : Option C) (ys : List (ℕ × Option C)) → times e (places xs) ≡ 0 → but_slot
      (xs ++ (e, x) ∷ ys) e ≡ xs ++ ys
  but_first [] e x ys h = ap (λ b. cond b ys ((e, x) ∷ but_slot ys e)) (eq-eqb e e refl)
  but_first (z ∷ xs) e x ys h = dite (ℕ_discrete z.0 e) (λ s. let o = bit_same z.0 e s in absurd (omega arith))
      (λ n. ap (λ b. cond b (xs ++ (e, x) ∷ ys) (z ∷ but_slot (xs ++ (e, x) ∷ ys) e)) (ne_eqb z.0 e n) ∙ ap (λ l. z ∷ l)
      (but_first xs e x ys (let o = bit_apart z.0 e n in omega arith)))

  pub places_with : (c : List (ℕ × Option C)) (e : ℕ) (y : Option C) → places (with_slot c e y) ≡ places c
  places_with [] e y = refl
  places_with (x ∷ xs) e y = dite (ℕ_discrete x.0 e)
      (λ s. ap (λ b. places (cond b ((e, y) ∷ xs) (x ∷ with_slot xs e y))) (eq-eqb x.0 e s) ∙ ap (λ k. k ∷ places xs) (sym s))
      (λ n. ap (λ b. places (cond b ((e, y) ∷ xs) (x ∷ with_slot xs e y))) (ne_eqb x.0 e n) ∙ ap (λ l. x.0 ∷ l) (places_with xs e y))

  each_with : (P : ℕ → Option C → Type 0) (c : List (ℕ × Option C)) (e : ℕ) (y : Option C) → Each P c → P e y → Each P (with_slot c e y)
  each_with P [] e y h p = tt
  each_with P (x ∷ xs) e y h p = dite (ℕ_discrete x.0 e)
      (λ s. subst (λ b. Each P (cond b ((e, y) ∷ xs) (x ∷ with_slot xs e y))) (sym (eq-eqb x.0 e s)) (p, h.1))
      (λ n. subst (λ b. Each P (cond b ((e, y) ∷ xs) (x ∷ with_slot xs e y))) (sym (ne_eqb x.0 e n)) (h.0, each_with P xs e y h.1 p))

  -- where each edge stands once, each slot is the one that its edge finds
  slots_are : (pre c : List (ℕ × Option C)) → ((e : ℕ) → times e (places (pre ++ c)) < 2) → Each (λ e x. slot_at (pre ++ c) e ≡ x) c
  slots_are pre [] h = tt
  slots_are pre (x ∷ xs) h =
      let more = append_assoc pre (x ∷ []) xs in
      let split = ap (times x.0) (places_append pre (x ∷ xs)) in
      let sum = total_append (λ y. bit (y == x.0)) (places pre) (x.0 ∷ places xs) in let o = bit_same x.0 x.0 refl in let l = h x.0 in (
        slot_first pre x.0 x.1 xs (omega arith),
        subst (λ (l : List (ℕ × Option C)). Each (λ e x. slot_at l e ≡ x) xs) more
            (slots_are (pre ++ x ∷ []) xs (λ e. subst (λ (l : List (ℕ × Option C)). times e (places l) < 2) (sym more) (h e))),
      )

or_case : (a b : Bool) → (a || b) ≡ true → (a ≡ true) ⊎ (b ≡ true)
or_case true b e = inl refl
or_case false b e = inr e

none_some : {C : Type 0} (p : C) → None ≡ Some p → ⊥
none_some p e = cc

some_positive : (k : ℕ) → bit (ltb 0 k) ≡ 1 → 0 < k
some_positive zero e = absurd (omega arith)
some_positive (suc k) e = omega arith

module _ {C Key : Type 0} (wires : Graph → Wires) (edge_of : C → ℕ) (key_of : C → Key) (a : About C) where
  abbrev n : Net
  n = (wires a.tasks.value).net

  may_fit : (e : ℕ) (x : Option C) → Fits wires edge_of key_of a e x → MayHold wires edge_of key_of a e x
  may_fit e x f = λ p is. subst (λ q. (edge_of q ≡ e) × (key_of q ≡ key_of a.sample.value)) (let s : f.0 ≡ p = cc in s) (f.2, f.3)

  pub may_none : (e : ℕ) (x : Option C) → x ≡ None → MayHold wires edge_of key_of a e x
  may_none e x nothing = λ p is. absurd (none_some p (sym nothing ∙ is))

  fits_of : (e : ℕ) (x : Option C) → MayHold wires edge_of key_of a e x → (p : C) → x ≡ Some p → Fits wires edge_of key_of a e x
  fits_of e x m p is = (p, is, (m p is).0, (m p is).1)

  -- what a seat without a task owes
  pub free_owes : (v : View C) → IsFree wires edge_of key_of a v [] → OwesNothing n v
  free_owes v h = (h.finished, λ e. let o = h.owed e in omega arith)

  -- a deed that is no claim that is won, no finish and no arrival
  pub free_noted : (v : View C) (c : List (ℕ × Option C)) (d : Deed) → ((t : ℕ) → wins t d ≡ 0) → ((t : ℕ) → finishes t d ≡ 0) →
      ((e : ℕ) → arrives e d ≡ 0) → IsFree wires edge_of key_of a v c → IsFree wires edge_of key_of a (noted v d) c
  free_noted v c d no_win no_finish no_arrival h = record {
    finished = λ t. let p = done_noted (finishes t) v d in let q = done_noted (wins t) v d in let x = no_finish t in let y = no_win t in
        let z = h.finished t in omega arith;
    owed = λ e. let p = done_noted (arrives e) v d in let f = done_noted (finishes (n.source e)) v d in let x = no_arrival e in
        let y = no_finish (n.source e) in
        let same : done_by (finishes (n.source e)) (noted v d) ≡ done_by (finishes (n.source e)) v = omega arith in
        let g = ap (λ k. bit (n.is_inner e && ltb 0 k)) same in let o = h.owed e in omega arith;
    full = h.full;
  }

  -- the order of the slots of a free seat does not matter
  pub free_turned : (v : View C) (xs ys : List (ℕ × Option C)) → IsFree wires edge_of key_of a v (xs ++ ys) → IsFree wires edge_of key_of a v (ys ++ xs)
  free_turned v xs ys h = record {
    finished = h.finished;
    owed = λ e. let o = h.owed e in let p = ap (times e) (places_append xs ys) in let q = ap (times e) (places_append ys xs) in
        let k = total_append (λ y. bit (y == e)) (places xs) (places ys) in let l = total_append (λ y. bit (y == e)) (places ys) (places xs) in omega arith;
    full = let P : ℕ → Option C → Type 0 = λ e x. Fits wires edge_of key_of a e x in each_append P ys xs (each_right P xs ys h.full) (each_left P xs ys h.full);
  }

  pub busy_won : (v : View C) (c : List (ℕ × Option C)) (t : ℕ) (b : Bool) → IsBusy wires edge_of key_of a t b v c → done_by (wins t) v ≡ 1
  busy_won v c t b h = let f = h.finished t in let u = h.unfinished in let o = bit_same t t refl in omega arith

  pub busy_none : (v : View C) (c : List (ℕ × Option C)) (t : ℕ) (b : Bool) → IsBusy wires edge_of key_of a t b v c → (e : ℕ) → n.source e
      ≡ t → done_by (arrives e) v ≡ 0
  busy_none v c t b h e s = h.arrived e ∙ ap (λ k. bit (n.is_inner e && ltb 0 k)) (ap (λ k. done_by (finishes k) v) s ∙ h.unfinished) ∙
      bit_right (n.is_inner e) false refl

  -- a deed that is no claim, no finish and no arrival
  pub busy_noted : (v : View C) (c : List (ℕ × Option C)) (t : ℕ) (b b' : Bool) (d : Deed) → ((u : ℕ) → wins u d ≡ 0) →
      ((u : ℕ) → finishes u d ≡ 0) → ((e : ℕ) → arrives e d ≡ 0) → ((o : Option ℕ) → last_from o (d ∷ []) ≡ o)
      → bit b + starts t d ≡ bit b' → IsBusy wires edge_of key_of a t b v c → IsBusy wires edge_of key_of a t b' (noted v d) c
  busy_noted v c t b b' d no_win no_finish no_arrival last more h = record {
    there = h.there;
    last = last_more None v.deeds d ∙ last (last_won v.deeds) ∙ h.last;
    finished = λ u. let p = done_noted (finishes u) v d in let q = done_noted (wins u) v d in let x = no_finish u in let y = no_win u in
        let z = h.finished u in omega arith;
    unfinished = let p = done_noted (finishes t) v d in let x = no_finish t in let z = h.unfinished in omega arith;
    started = let p = done_noted (starts t) v d in let z = h.started in omega arith;
    arrived = λ e. let p = done_noted (arrives e) v d in let f = done_noted (finishes (n.source e)) v d in let x = no_arrival e in
        let y = no_finish (n.source e) in
        let same : done_by (finishes (n.source e)) (noted v d) ≡ done_by (finishes (n.source e)) v = omega arith in
        let g = ap (λ k. bit (n.is_inner e && ltb 0 k)) same in let o = h.arrived e in omega arith;
    at = h.at;
    may = h.may;
  }

  -- a won claim
  pub claim_busy : (v : View C) (c : List (ℕ × Option C)) (t : ℕ) → t < n.tasks → OwesNothing n v → IsFresh t v → Took wires edge_of key_of
      a ((wires a.tasks.value).inward t) ((wires a.tasks.value).outward t) [] c
      → IsBusy wires edge_of key_of a t false (noted v (Claimed t true)) c
  claim_busy v c t there owes fresh took = let d = Claimed t true in let o = bit_same t t refl in
      let q : c ≡ took.0 ++ took.1 = took.2 ∙ ap (λ l. took.0 ++ l) (append-nil took.1) in record {
        there = there;
        last = last_more None v.deeds d;
        finished = λ u. let p = done_noted (finishes u) v d in let w = done_noted (wins u) v d in let z = owes.0 u in omega arith;
        unfinished = let p = done_noted (finishes t) v d in let z = owes.0 t in let f = fresh.0 in omega arith;
        started = let p = done_noted (starts t) v d in let f = fresh.1 in omega arith;
        arrived = λ e. let p = done_noted (arrives e) v d in let f = done_noted (finishes (n.source e)) v d in
            let same : done_by (finishes (n.source e)) (noted v d) ≡ done_by (finishes (n.source e)) v = omega arith in
            let g = ap (λ k. bit (n.is_inner e && ltb 0 k)) same in let r = owes.1 e in omega arith;
        at = ap places q ∙ places_append took.0 took.1 ∙ (λ i. took.3 i ++ took.4 i);
        may = subst (λ l. Each (λ e x. MayHold wires edge_of key_of a e x) l) (sym q)
            (each_append (λ e x. MayHold wires edge_of key_of a e x) took.0 took.1
            (each_map (λ e x. Fits wires edge_of key_of a e x) (λ e x. MayHold wires edge_of key_of a e x) took.0 may_fit took.5)
            (each_map (λ e x. x ≡ None) (λ e x. MayHold wires edge_of key_of a e x) took.1 may_none took.6));
      }

  -- an exchange of the slot of an edge: `receive` leaves nothing there, `hand` the edge's parcel
  pub exchange_busy : (v : View C) (c : List (ℕ × Option C)) (t : ℕ) (b : Bool) (e : ℕ) (y : Option C) → IsBusy wires edge_of key_of a t b
      v c → MayHold wires edge_of key_of a e y → IsBusy wires edge_of key_of a t b v (with_slot c e y)
  exchange_busy v c t b e y h m = record {
    there = h.there;
    last = h.last;
    finished = h.finished;
    unfinished = h.unfinished;
    started = h.started;
    arrived = h.arrived;
    at = places_with c e y ∙ h.at;
    may = each_with (λ e x. MayHold wires edge_of key_of a e x) c e y h.may m;
  }

  -- an arrival gives the slot in front back
  pub arrive_free : (v : View C) (e : ℕ) (x : Option C) (rest : List (ℕ × Option C)) (k : ℕ) → IsFree wires edge_of key_of a v
      ((e, x) ∷ rest) → IsFree wires edge_of key_of a (noted v (Arrived e k)) rest
  arrive_free v e x rest k h = let d = Arrived e k in record {
    finished = λ t. let p = done_noted (finishes t) v d in let q = done_noted (wins t) v d in let z = h.finished t in omega arith;
    owed = λ f. let p = done_noted (arrives f) v d in let q = done_noted (finishes (n.source f)) v d in
        let same : done_by (finishes (n.source f)) (noted v d) ≡ done_by (finishes (n.source f)) v = omega arith in
        let g = ap (λ k. bit (n.is_inner f && ltb 0 k)) same in let o = h.owed f in omega arith;
    full = h.full.1;
  }

  -- what is known of an edge that a free seat owes
  pub record IsOwed (v : View C) (e : ℕ) : Type 0 where
    pub inner : n.is_inner e ≡ true
    pub done : 0 < done_by (finishes (n.source e)) v
    pub new : done_by (arrives e) v ≡ 0
    pub once : (c : List (ℕ × Option C)) → IsFree wires edge_of key_of a v c → times e (places c) ≡ 1

  pub is_owed : (v : View C) (c : List (ℕ × Option C)) (e : ℕ) → IsFree wires edge_of key_of a v c → 0 < times e (places c) → IsOwed v e
  is_owed v c e h pos = let o = h.owed e in let l = bit_le (n.is_inner e && ltb 0 (done_by (finishes (n.source e)) v)) in
      let one : bit (n.is_inner e && ltb 0 (done_by (finishes (n.source e)) v)) ≡ 1 = omega arith in
      let b = both_true (n.is_inner e) (ltb 0 (done_by (finishes (n.source e)) v))
      (bit_true (n.is_inner e && ltb 0 (done_by (finishes (n.source e)) v)) (omega arith)) in record {
        inner = b.0;
        done = ltb-true 0 (done_by (finishes (n.source e)) v) b.1;
        new = omega arith;
        once = λ c' h'. let o' = h'.owed e in omega arith;
      }

  -- the edges of a task
  module _ (ws : IsWires (wires a.tasks.value)) where
    pub out_edge : (t e : ℕ) → t < n.tasks → 0 < times e ((wires a.tasks.value).outward t) → (n.source e ≡ t) ×
        ((n.is_inner e || (wires a.tasks.value).is_exit e) ≡ true)
    out_edge t e there pos = let w = wires a.tasks.value in let o = ws.outward_once t e there in
        let b = both_true (w.net.is_inner e || w.is_exit e) (w.net.source e == t)
        (bit_true ((w.net.is_inner e || w.is_exit e) && (w.net.source e == t)) (omega arith)) in
        (bit_one (w.net.source e) t (let z : bit (w.net.source e == t) ≡ 1 = ap bit b.1 in omega arith), b.0)

    pub in_edge : (t e : ℕ) → t < n.tasks → 0 < times e ((wires a.tasks.value).inward t) → (n.reader e ≡ t) ×
        ((n.is_inner e || (wires a.tasks.value).is_entry e) ≡ true)
    in_edge t e there pos = let w = wires a.tasks.value in let o = ws.inward_once t e there in
        let b = both_true (w.net.is_inner e || w.is_entry e) (w.net.reader e == t)
        (bit_true ((w.net.is_inner e || w.is_entry e) && (w.net.reader e == t)) (omega arith)) in
        (bit_one (w.net.reader e) t (let z : bit (w.net.reader e == t) ≡ 1 = ap bit b.1 in omega arith), b.0)

    -- no edge goes into a task and out of it
    pub edge_once : (t e : ℕ) → t < n.tasks → times e ((wires a.tasks.value).inward t ++ (wires a.tasks.value).outward t) < 2
    edge_once t e there = let w = wires a.tasks.value in let s = total_append (λ y. bit (y == e)) (w.inward t) (w.outward t) in
        let i = ws.inward_once t e there in let o = ws.outward_once t e there in
        let li = bit_le ((w.net.is_inner e || w.is_entry e) && (w.net.reader e == t)) in
        let lo = bit_le ((w.net.is_inner e || w.is_exit e) && (w.net.source e == t)) in
        dite (ℕ_discrete (times e (w.inward t)) 0) (λ z. omega arith) (λ z. dite (ℕ_discrete (times e (w.outward t)) 0) (λ y. omega arith)
        (λ y. absurd (both (in_edge t e there (omega arith)) (out_edge t e there (omega arith)))))
      where
        both : (n.reader e ≡ t) × ((n.is_inner e || (wires a.tasks.value).is_entry e) ≡ true) → (n.source e ≡ t) ×
            ((n.is_inner e || (wires a.tasks.value).is_exit e) ≡ true) → ⊥
        both p q = let w = wires a.tasks.value in
            let inner : n.is_inner e ≡ true → ⊥ = λ is. let r = ws.is_net.rises e is in let r0 = r.0 in let p0 = p.0 in let q0 = q.0 in omega arith in
            ⊎_elim inner (λ (en : w.is_entry e ≡ true). ⊎_elim inner (λ (ex : w.is_exit e ≡ true). let x = ap bit en in
            let y = ap bit ex in let z = ws.apart e in omega arith) (or_case (n.is_inner e) (w.is_exit e) q.1)) (or_case (n.is_inner e) (w.is_entry e) p.1)

    pub busy_once : (v : View C) (c : List (ℕ × Option C)) (t : ℕ) (b : Bool) → IsBusy wires edge_of key_of a t b v c → (e : ℕ) → times e (places c) < 2
    busy_once v c t b h e = subst (λ l. times e l < 2) (sym h.at) (edge_once t e h.there)

    -- what a seat has it may give back at any moment
    pub free_mine : (v : View C) (c : List (ℕ × Option C)) → IsFree wires edge_of key_of a v c → Each
        (λ e _. IsMine wires edge_of key_of a v e) c × Each (λ _ x. HasKey wires edge_of key_of a v x) c
    free_mine v c h = let w = wires a.tasks.value in (
      each_places (λ e. IsMine wires edge_of key_of a v e) c (λ e pos. let o = is_owed v c e h pos in let r = ws.is_net.rises e o.inner in
          let r0 = r.0 in let r1 = r.1 in let f = h.finished (n.source e) in let d = o.done in
          let there : n.source e < n.tasks = omega arith in (
            n.source e,
            there,
            omega arith,
            inr (
              (let k = ws.outward_once (n.source e) e there in let s = bit_same (n.source e) (n.source e) refl in
                  let one = ap (λ b. bit ((b || w.is_exit e) && (n.source e == n.source e))) o.inner in omega arith),
              o.new,
              (λ ex. let x = ap bit ex in let y = ap bit o.inner in let z = ws.apart e in absurd (omega arith)),
            ),
          )),
      each_map (λ e x. Fits wires edge_of key_of a e x) (λ _ x. HasKey wires edge_of key_of a v x) c (λ e x f p is. (may_fit e x f p is).1) h.full,
    )

    pub busy_mine : (v : View C) (c : List (ℕ × Option C)) (t : ℕ) (b : Bool) → IsBusy wires edge_of key_of a t b v c → Each
        (λ e _. IsMine wires edge_of key_of a v e) c × Each (λ _ x. HasKey wires edge_of key_of a v x) c
    busy_mine v c t b h = let w = wires a.tasks.value in (
      each_places (λ e. IsMine wires edge_of key_of a v e) c (λ e pos. (
        t,
        h.there,
        (let o = busy_won v c t b h in omega arith),
        (let s : times e (places c) ≡ times e (w.inward t) + times e (w.outward t) = ap (times e) h.at ∙ total_append (λ y. bit (y == e))
            (w.inward t) (w.outward t) in
            dite (ℕ_discrete (times e (w.inward t)) 0) (λ z. let p : 0 < times e (w.outward t) = omega arith in
            inr (p, busy_none v c t b h e (out_edge t e h.there p).0, (λ _. h.unfinished))) (λ z. inl (omega arith))),
      )),
      each_map (λ e x. MayHold wires edge_of key_of a e x) (λ _ x. HasKey wires edge_of key_of a v x) c (λ e x m p is. (m p is).1) h.may,
    )

    -- the slots of a task whose outward edges are all handed: those that go back at its finish, and those that are owed then
    module _ (v : View C) (c : List (ℕ × Option C)) (t : ℕ) (b : Bool) (h : IsBusy wires edge_of key_of a t b v c)
        (handed : AreHanded wires edge_of key_of a t c) (exits : List ℕ) (outward_is : (wires a.tasks.value).outward t ≡ exits ++ n.feeds t) where
      pub cut : Cut c ((wires a.tasks.value).inward t ++ exits) (n.feeds t)
      cut = cut_at c ((wires a.tasks.value).inward t ++ exits) (n.feeds t)
          (h.at ∙ ap (λ l. (wires a.tasks.value).inward t ++ l) outward_is ∙ sym (append_assoc ((wires a.tasks.value).inward t) exits (n.feeds t)))

      out_times : (e : ℕ) → times e ((wires a.tasks.value).outward t) ≡ times e exits + times e (n.feeds t)
      out_times e = ap (times e) outward_is ∙ total_append (λ y. bit (y == e)) exits (n.feeds t)

      each_fits : (e : ℕ) (x : Option C) → 0 < times e ((wires a.tasks.value).outward t) → slot_at c e ≡ x → MayHold wires edge_of key_of a
          e x → Fits wires edge_of key_of a e x
      each_fits e x pos is m = let p = handed e pos in fits_of e x m p.0 (sym is ∙ p.1)

      pub owed_full : Each (λ e x. Fits wires edge_of key_of a e x) cut.back
      owed_full =
          let P : ℕ → Option C → Type 0 = λ e x. MayHold wires edge_of key_of a e x in
          let Q : ℕ → Option C → Type 0 = λ e x. slot_at c e ≡ x in
          let R : ℕ → Option C → Type 0 = λ e x. 0 < times e ((wires a.tasks.value).outward t) in
          let ps = each_right P cut.front cut.back (subst (Each P) cut.is h.may) in
          let qs = each_right Q cut.front cut.back (subst (Each Q) cut.is (slots_are [] c (busy_once v c t b h))) in
          let rs = each_places (λ e. 0 < times e ((wires a.tasks.value).outward t)) cut.back (λ e pos. let q = ap (times e) cut.back_at in
          let o = out_times e in omega arith) in
          each_map (λ e x. R e x × (Q e x × P e x)) (λ e x. Fits wires edge_of key_of a e x) cut.back
          (λ e x k. each_fits e x k.0 k.1.0 k.1.1) (each_both R (λ e x. Q e x × P e x) cut.back rs (each_both Q P cut.back qs ps))

      -- the exit edge is among those that go back
      pub exit_back : (e : ℕ) → (wires a.tasks.value).is_exit e ≡ true → n.source e ≡ t → 0 < times e (places cut.front)
      exit_back e ex s = let w = wires a.tasks.value in let o = ws.outward_once t e h.there in let f = ws.is_net.feeds_once t e h.there in
          let ot = out_times e in
          let z = ws.apart e in let x = ap bit ex in let same = bit_same (n.source e) t s in
          let inner : n.is_inner e ≡ false = not_inner (n.is_inner e) (λ is. let y = ap bit is in omega arith) in
          let one : bit ((n.is_inner e || w.is_exit e) && (n.source e == t)) ≡ bit (n.source e == t) = (λ i. bit ((inner i || ex i) && (n.source e == t))) in
          let none' : bit (n.is_inner e && (n.source e == t)) ≡ 0 = ap (λ b. bit (b && (n.source e == t))) inner in
          let fr = ap (times e) cut.front_at ∙ total_append (λ y. bit (y == e)) (w.inward t) exits in omega arith
        where
          not_inner : (b : Bool) → (b ≡ true → ⊥) → b ≡ false
          not_inner true f = absurd (f refl)
          not_inner false f = refl

      pub exit_full : (e : ℕ) (x : Option C) → (wires a.tasks.value).is_exit e ≡ true → n.source e ≡ t → slot_at c e ≡ x → MayHold wires
          edge_of key_of a e x → Fits wires edge_of key_of a e x
      exit_full e x ex s is m = each_fits e x (let w = wires a.tasks.value in let o = ws.outward_once t e h.there in let same = bit_same (n.source e) t s in
          let one : bit ((n.is_inner e || w.is_exit e) && (n.source e == t)) ≡ bit (n.source e == t) = ap
          (λ b. bit (b && (n.source e == t))) (wide (n.is_inner e) (w.is_exit e) ex) in omega arith) is m
        where
          wide : (x y : Bool) → y ≡ true → (x || y) ≡ true
          wide true y q = refl
          wide false y q = q

      pub long_front : going wires edge_of key_of a t ≡ length cut.front
      long_front = let w = wires a.tasks.value in
          let l = ap length outward_is ∙ length-append exits (n.feeds t) in
          let f = sym (long_places cut.front) ∙ ap length cut.front_at ∙ length-append (w.inward t) exits in omega arith

      -- after the finish the seat is free
      pub finish_free : (k : ℕ) → IsFree wires edge_of key_of a (noted v (Stamped k t false)) cut.back
      finish_free k = let d = Stamped k t false in record {
        finished = λ u. let p = done_noted (finishes u) v d in let q = done_noted (wins u) v d in let z = h.finished u in omega arith;
        owed = λ e. let p = done_noted (arrives e) v d in let q = done_noted (finishes (n.source e)) v d in
            let r = ap (times e) cut.back_at in let f = ws.is_net.feeds_once t e h.there in let o = h.arrived e in
            dite (ℕ_discrete (n.source e) t)
            (λ s. let so = bit_same (n.source e) t s in let sw = bit_swap (n.source e) t in let un = ap (λ i. done_by (finishes i) v) s in
            let u0 = h.unfinished in let none' = busy_none v c t b h e s in
            let one : done_by (finishes (n.source e)) (noted v d) ≡ 1 = omega arith in
            let now : bit (n.is_inner e && ltb 0 (done_by (finishes (n.source e)) (noted v d))) ≡ bit (n.is_inner e && true) = ap
            (λ i. bit (n.is_inner e && ltb 0 i)) one in
            let fe : bit (n.is_inner e && (n.source e == t)) ≡ bit (n.is_inner e && true) = ap (λ c. bit (n.is_inner e && c))
            (bit_true (n.source e == t) (omega arith)) in omega arith)
            (λ ne. let so = bit_apart (n.source e) t ne in let so' = bit_apart t (n.source e) (λ s. ne (sym s)) in
            let fz = bit_right (n.is_inner e) (n.source e == t) so in
            let sa : done_by (finishes (n.source e)) (noted v d) ≡ done_by (finishes (n.source e)) v = omega arith in
            let now = ap (λ i. bit (n.is_inner e && ltb 0 i)) sa in omega arith);
        full = owed_full;
      }
