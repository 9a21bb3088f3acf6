-- The deques of a crew: what is dealt, and the holds on them.
use Rattle.std.proofs.Common.{◌≡◌, ◌≢◌, ℕ, zero, suc, ◌+◌, ◌<◌, ◌≤◌, Bool, true, false, cond, ltb, List, [], ◌∷◌, ◌++◌, map, length, get_or, set, take}
use Rattle.std.proofs.Common.{replicate, refl, sym, ap, ◌∙◌, subst, arith, ◌==◌, All, length-set, length-append}
use Rattle.std.specs.Global.{Vec}
use mathlib.Core.Logic.{dite}
use native.Mathlib.Decide.{dec_le}
use Rattle.std.proofs.lemmas.List.{length-map, take_more, map_push, length-replicate, get_or-replicate}
use Rattle.fv_outside.specs.headline.Tasks.{bit, total}
use Rattle.fv_outside.specs.Tasks.{times}
use Rattle.fv_graph.proofs.lemmas.Counts.{get_set, get_map, bit_apart, total_append}
use Rattle.fv_steal.specs.declared.handles.TaskDeque.{TaskDeque}
use Rattle.fv_steal.specs.declared.handles.Victim.{Victim}
use Rattle.fv_steal.specs.Deques.{account_of, lies_at, robs, taken_by}
use Rattle.fv_steal.specs.inner.Made.{puts_of, rest_of, rests_of, kept_of, HasLent, HaveLent}

-- a room that all deques have
pub rooms : (ds : List TaskDeque) (n room : ℕ) → rests_of ds ≡ replicate n (room, 0, []) → (t : ℕ) → t < room → All (λ d. t < d.room) ds
rooms ds n room is t low k d l =
    let long : length (rests_of ds) ≡ n = ap length is ∙ length-replicate n (room, 0, []) in
    let m = length-map ds rest_of in
    let e : (get_or ds k d).room ≡ room = ap (λ (r : ℕ × ℕ × List ℕ). r.0) (sym (get_map rest_of ds k d (rest_of d) l) ∙ ap (λ rs. get_or rs k (rest_of d)) is
    ∙ get_or-replicate n k (room, 0, []) (rest_of d) (omega arith)) in omega arith

-- no later task was put
pub fresh_after : (b : Bool) (ds es : List (List ℕ)) (w t : ℕ) → w < length ds → ((v x : ℕ) → t ≤ x → times x (get_or ds v []) ≡ 0)
    → es ≡ cond b (set ds w (get_or ds w [] ++ t ∷ [])) ds → (v x : ℕ) → t + 1 ≤ x → times x (get_or es v []) ≡ 0
fresh_after true ds es w t h fresh is v x l =
    subst (λ xs. times x (get_or xs v []) ≡ 0) (sym is) (get_set (λ z. times x z ≡ 0) ds w v (get_or ds w [] ++ t ∷ []) [] h
    (λ _. let f = fresh w x (omega arith) in let a = total_append (λ y. bit (y == x)) (get_or ds w []) (t ∷ []) in
    let b = bit_apart t x (λ e. omega arith) in omega arith)
    (λ _. fresh v x (omega arith)))
fresh_after false ds es w t h fresh is v x l = subst (λ xs. times x (get_or xs v []) ≡ 0) (sym is) (fresh v x (omega arith))

no_bit : (j : ℕ) → bit (ltb j 0) ≡ 0
no_bit j = grind arith

-- no hold is given out yet
pub none_lent : (old : List TaskDeque) → HasLent 0 old old []
none_lent old = record {
  count = refl;
  kept = refl;
  lent = λ j d l. let b = no_bit j in omega arith;
  holds = refl;
  none = λ x. refl;
}

module _ (k : ℕ) (old now : List TaskDeque) (vs : List Victim) (h : HasLent k old now vs) (there : k < length old) (r d : TaskDeque) (v : Victim)
    (room : d.room ≡ (get_or now k r).room) (place : lies_at d ≡ lies_at (get_or now k r))
    (kept : ((account_of d).put ≡ (account_of (get_or now k r)).put) × ((account_of d).taken ≡ (account_of (get_or now k r)).taken))
    (lent : (robs v ≡ lies_at (get_or now k r)) × (taken_by v ≡ []) × ((account_of d).lent ≡ (account_of (get_or now k r)).lent + 1)) where
  low : k < length now
  low = let c = h.count in omega arith

  -- which deque it is
  place_old : lies_at (get_or now k r) ≡ lies_at (get_or old k r)
  place_old = ap (λ (q : ℕ × List ℕ × List ℕ × (Rattle.atomic_blocks.specs.Lent.RowsId × Rattle.std.specs.Global.Global)). q.3)
      (sym (get_map kept_of now k r (kept_of r) low) ∙ ap (λ l. get_or l k (kept_of r)) h.kept ∙ get_map kept_of old k r (kept_of r) there)

  pub one_lent : HasLent (k + 1) old (set now k d) (vs ++ v ∷ [])
  one_lent = record {
    count = length-set now k d ∙ h.count;
    kept = map_each_set ∙ h.kept;
    lent = λ j e l. get_set (λ (u : TaskDeque). (account_of u).lent ≡ (account_of (get_or old j e)).lent + bit (ltb j (k + 1))) now k j d e low
        (λ q. let a = lent.2 in let o = h.lent k r there in let s : (account_of (get_or old j e)).lent ≡ (account_of (get_or old k r)).lent =
        ap (λ i. (account_of (get_or old i e)).lent) q ∙ ap (λ (u : TaskDeque). (account_of u).lent) (Rattle.fv_steal.proofs.Giving.same_or old k e r there) in
        let b = bits_at k in let c : bit (ltb j (k + 1)) ≡ 1 = ap (λ i. bit (ltb i (k + 1))) q ∙ b.1 in let z = b.0 in omega arith)
        (λ ne. let o = h.lent j e l in let b = bits_apart j k ne in omega arith);
    holds = map_push robs vs v ∙ ap (λ l. l ++ robs v ∷ []) h.holds ∙ ap (λ p. take k (map lies_at old) ++ p ∷ []) (lent.0 ∙ place_old
        ∙ sym (get_map lies_at old k r (lies_at r) there))
        ∙ sym (take_more (map lies_at old) k (lies_at r) (let m = length-map old lies_at in omega arith));
    none = λ x. let a = total_append (λ (u : Victim). times x (taken_by u)) vs (v ∷ []) in let n = h.none x in let t = ap (times x) lent.1 in omega arith;
  }
    where
      bits_at : (k : ℕ) → (bit (ltb k k) ≡ 0) × (bit (ltb k (k + 1)) ≡ 1)
      bits_at k = (grind arith, grind arith)

      bits_apart : (j k : ℕ) → j ≢ k → bit (ltb j (k + 1)) ≡ bit (ltb j k)
      bits_apart j k ne = grind arith

      map_each_set : map kept_of (set now k d) ≡ map kept_of now
      map_each_set = Rattle.fv_steal.proofs.Boards.map_set_same kept_of now k d r low
          (λ i. (room i, kept.1 i, kept.0 i, place i))

pub all_push : {X : Type 0} (P : X → Type 0) (xs : List X) (x : X) → All P xs → P x → All P (xs ++ x ∷ [])
all_push P [] x h p zero d l = p
all_push P [] x h p (suc k) d l = absurd (omega arith)
all_push P (y ∷ ys) x h p zero d l = h 0 y (omega arith)
all_push P (y ∷ ys) x h p (suc k) d l = all_push P ys x (λ i e j. h (suc i) e (omega arith)) p k d (omega arith)

map_through : {X Y Z : Type 0} (f : X → Y) (g : Y → Z) (xs : List X) → map (λ x. g (f x)) xs ≡ map g (map f xs)
map_through f g [] = refl
map_through f g (x ∷ xs) = ap (λ l. g (f x) ∷ l) (map_through f g xs)

abbrev pub Kept : Type 0
Kept = ℕ × List ℕ × List ℕ × (Rattle.atomic_blocks.specs.Lent.RowsId × Rattle.std.specs.Global.Global)

pub kept_places : (old new : List TaskDeque) → map kept_of new ≡ map kept_of old → map lies_at new ≡ map lies_at old
kept_places old new h = map_through kept_of (λ (q : Kept). q.3) new ∙ ap (map (λ (q : Kept). q.3)) h ∙ sym (map_through kept_of (λ (q : Kept). q.3) old)

pub kept_puts : (old new : List TaskDeque) → map kept_of new ≡ map kept_of old → puts_of new ≡ puts_of old
kept_puts old new h = map_through kept_of (λ (q : Kept). q.2) new ∙ ap (map (λ (q : Kept). q.2)) h ∙ sym (map_through kept_of (λ (q : Kept). q.2) old)

all_bits : (j k : ℕ) → j < k → bit (ltb j k) ≡ 1
all_bits j k l = grind arith

-- the holds of no worker are given out yet
pub none_have : (old : List TaskDeque) → HaveLent 0 old old []
none_have old = record {
  count = refl;
  kept = refl;
  lent = λ j d l. omega arith;
  long = refl;
  holds = λ k d l. absurd (omega arith);
  none = λ k d l. absurd (omega arith);
}

pub one_has : (k : ℕ) (old now new : List TaskDeque) (vss : List (Vec Victim)) (vs : Vec Victim) → HaveLent k old now vss
    → HasLent (length now) now new vs.items
    → HaveLent (k + 1) old new (vss ++ vs ∷ [])
one_has k old now new vss vs h g = record {
  count = g.count ∙ h.count;
  kept = g.kept ∙ h.kept;
  lent = λ j d l. let c = h.count in let a = g.lent j d (omega arith) in let b = all_bits j (length now) (omega arith) in let o = h.lent j d l in omega arith;
  long = let a = length-append vss (vs ∷ []) in let l = h.long in omega arith;
  holds = all_push (λ (v : Vec Victim). map robs v.items ≡ map lies_at old) vss vs h.holds
      (g.holds ∙ ap (λ n. take n (map lies_at now)) (sym (length-map now lies_at)) ∙ take_length (map lies_at now) ∙ kept_places old now h.kept);
  none = all_push (λ (v : Vec Victim). (x : ℕ) → total (λ u. times x (taken_by u)) v.items ≡ 0) vss vs h.none g.none;
}
  where
    take_length : {X : Type 0} (xs : List X) → take (length xs) xs ≡ xs
    take_length [] = refl
    take_length (x ∷ xs) = ap (λ l. x ∷ l) (take_length xs)

pub most_more : (f g : ℕ → ℕ) (i most new : ℕ) → ((t : ℕ) → t < i → (f t ≤ most) × (g t ≤ most)) → most ≤ new → f i ≤ new → g i ≤ new
    → (t : ℕ) → t < i + 1 → (f t ≤ new) × (g t ≤ new)
most_more f g i most new h m a b t l = dite (dec_le (suc t) i)
    (λ k. let p = h t k in let p0 = p.0 in let p1 = p.1 in (omega arith, omega arith))
    (λ n. let e : i ≡ t = omega arith in (subst (λ j. f j ≤ new) e a, subst (λ j. g j ≤ new) e b))
