-- One hold goes back.
use Rattle.std.proofs.Common.{◌≡◌, ◌≢◌, ℕ, zero, suc, ◌+◌, ◌-◌, ◌<◌, ◌≤◌, leb, true, List, [], ◌∷◌, ◌++◌, map, length, take, get_or, set, refl, sym, ap}
use Rattle.std.proofs.Common.{◌∙◌, subst, arith, ◌==◌, length-set, length-append, vec_len}
use Rattle.std.specs.Global.{Vec}
use Rattle.std.proofs.lemmas.List.{map_push, take_more, same_from_push, length-map}
use mathlib.Core.Logic.{dite}
use native.Mathlib.Decide.{dec_le}
use Rattle.fv_outside.specs.headline.Tasks.{bit, total}
use Rattle.fv_outside.specs.Tasks.{times}
use Rattle.fv_graph.proofs.lemmas.Counts.{total_set, total_append, get_set, get_map}
use Rattle.fv_steal.specs.declared.rule.Account.{Account}
use Rattle.fv_steal.specs.declared.handles.TaskDeque.{TaskDeque}
use Rattle.fv_steal.specs.declared.handles.Victim.{Victim}
use Rattle.fv_steal.specs.Balance.{account}
use Rattle.fv_steal.specs.Deques.{account_of, lies_at, robs, taken_by}
use Rattle.fv_steal.specs.declared.worker.Worker.{Worker}
use Rattle.fv_steal.specs.Crews.{took}
use Rattle.fv_steal.specs.inner.Gathers.{places, SameRest, Keeps, HasGiven}

-- a member loses its last hold, and one gets it back: no total changes
pub moved : {X : Type 0} (f : X → ℕ) (xs : List X) (i j n : ℕ) (a b d : X) → i < length xs → j < length xs → f a + n ≡ f (get_or xs i d)
    → f b ≡ f (get_or (set xs i a) j d) + n → total f (set (set xs i a) j b) ≡ total f xs
moved f xs i j n a b d hi hj less more =
    let p = total_set f xs i a d hi in let q = total_set f (set xs i a) j b d (let l = length-set xs i a in omega arith) in omega arith

pub rest_then : {C : Type 0} (x y z : Worker C) → SameRest x y → SameRest y z → SameRest x z
rest_then x y z h k = (k.0 ∙ h.0, k.1 ∙ h.1, k.2 ∙ h.2, k.3 ∙ h.3)

pub leb_bit : (a b : ℕ) → a ≤ b → bit (leb a b) ≡ 1
leb_bit a b h = grind arith

leb_none : (a b : ℕ) → b < a → bit (leb a b) ≡ 0
leb_none a b h = grind arith

module _ {C : Type 0} (w left : ℕ) (old now : List (Worker C)) (h : HasGiven w (left + 1) old now) (there : w < length old) (low : left < length old)
    (lent : (d : Worker C) → 0 < (account_of (get_or old left d).deque).lent) (a : Worker C) (vs : List Victim) (victim : Victim)
    (kept : (d : Worker C) → a.deque ≡ (get_or now w d).deque) (popped : (d : Worker C)
    → (get_or now w d).victims.items ≡ vs ++ victim ∷ []) (rest : a.victims.items ≡ vs)
    (rest_a : (d : Worker C) → SameRest (get_or now w d) a) where
  abbrev mid : List (Worker C)
  mid = set now w a

  long : length mid ≡ length old
  long = length-set now w a ∙ h.count

  low_now : w < length now
  low_now = let c = h.count in omega arith

  -- the hold is on the deque of member `left`
  both : (d : Worker C) → (map robs vs ≡ take left (places old)) × (robs victim ≡ lies_at (get_or old left d).deque)
  both d = let e : map robs vs ++ robs victim ∷ [] ≡ take left (places old) ++ lies_at (get_or old left d).deque ∷ [] =
      sym (map_push robs vs victim) ∙ ap (map robs) (sym (popped d)) ∙ h.mine d
      ∙ take_more (places old) left (lies_at (get_or old left d).deque) (let l = length-map old (λ (m : Worker C). lies_at m.deque) in omega arith)
      ∙ ap (λ k. take left (places old) ++ k ∷ []) (get_map (λ (m : Worker C). lies_at m.deque) old left d (lies_at (get_or old left d).deque) low) in
      same_from_push (map robs vs) (take left (places old)) (robs victim) (lies_at (get_or old left d).deque) e

  at_w : (d : Worker C) → get_or mid w d ≡ a
  at_w d = get_set (λ m. m ≡ a) now w w a d low_now (λ _. refl) (λ ne. absurd (ne refl))

  keeps_mid : (i : ℕ) (d : Worker C) → i < length old → Keeps (get_or old i d) (get_or mid i d)
  keeps_mid i d l = get_set (Keeps (get_or old i d)) now w i a d low_now
      (λ e. let k = h.keeps i d l in record {
        put = ap (λ x. (account_of x).put) (kept d) ∙ ap (λ j. (account_of (get_or now j d).deque).put) (sym e) ∙ k.put;
        room = ap (λ (x : TaskDeque). x.room) (kept d) ∙ ap (λ j. (get_or now j d).deque.room) (sym e) ∙ k.room;
        place = ap lies_at (kept d) ∙ ap (λ j. lies_at (get_or now j d).deque) (sym e) ∙ k.place;
        rest = rest_then (get_or old i d) (get_or now w d) a (subst (λ j. SameRest (get_or old i d) (get_or now j d)) e k.rest) (rest_a d);
      })
      (λ ne. h.keeps i d l)

  lent_mid : (i : ℕ) (d : Worker C) → i < length old → (account_of (get_or mid i d).deque).lent + bit (leb (left + 1) i) ≡ (account_of
      (get_or old i d).deque).lent
  lent_mid i d l = get_set (λ m. (account_of m.deque).lent + bit (leb (left + 1) i) ≡ (account_of (get_or old i d).deque).lent) now w i a d low_now
      (λ e. let k = h.lent i d l in let p = ap (λ x. (account_of x).lent) (kept d) in
      let q : (account_of (get_or now i d).deque).lent ≡ (account_of (get_or now w d).deque).lent = ap (λ j. (account_of (get_or now j d).deque).lent) e in
      omega arith)
      (λ ne. h.lent i d l)

  -- what `take_back` asks
  pub is_at : (d : Worker C) → robs victim ≡ lies_at (get_or mid left d).deque
  is_at d = (both d).1 ∙ sym (keeps_mid left d low).place

  module _ (b : Worker C) (same : (d : Worker C) → b.victims ≡ (get_or mid left d).victims) (room : (d : Worker C)
      → b.deque.room ≡ (get_or mid left d).deque.room)
      (place : (d : Worker C) → lies_at b.deque ≡ lies_at (get_or mid left d).deque)
      (took_back : (d : Worker C) → account_of b.deque ≡ account true ((account_of (get_or mid left d).deque).lent - 1) (account_of
      (get_or mid left d).deque).held
      (account_of (get_or mid left d).deque).put ((account_of (get_or mid left d).deque).taken ++ taken_by victim))
      (rest_b : (d : Worker C) → SameRest (get_or mid left d) b) where
    low_mid : left < length mid
    low_mid = let m = long in omega arith

    keeps_b : (d : Worker C) → Keeps (get_or old left d) b
    keeps_b d = let k = keeps_mid left d low in record {
      put = ap (λ (k : Account). k.put) (took_back d) ∙ k.put;
      room = room d ∙ k.room;
      place = place d ∙ k.place;
      rest = rest_then (get_or old left d) (get_or mid left d) b k.rest (rest_b d);
    }

    lent_b : (d : Worker C) → (account_of b.deque).lent + 1 ≡ (account_of (get_or old left d).deque).lent
    lent_b d = let m = lent_mid left d low in let z = leb_none (left + 1) left (omega arith) in let p = ap (λ (k : Account). k.lent) (took_back d) in
        let s = lent d in omega arith

    pub given_on : HasGiven w left old (set mid left b)
    given_on = record {
      count = length-set mid left b ∙ long;
      took_all = λ x. moved (λ u. took u x) now w left (times x (taken_by victim)) a b a low_now (let c = h.count in omega arith)
          (let p = ap (λ k. times x (account_of k).taken) (kept a) in let q = ap (λ k. total (λ v. times x (taken_by v)) k) rest in
          let r = ap (λ k. total (λ v. times x (taken_by v)) k) (popped a) in let s = total_append (λ v. times x (taken_by v)) vs (victim ∷ []) in omega arith)
          (let p = ap (λ (k : Account). times x k.taken) (took_back a) in let q = ap (λ (k : Vec Victim). total (λ v. times x (taken_by v)) k.items) (same a) in
          let r = total_append (λ y. bit (y == x)) (account_of (get_or mid left a).deque).taken (taken_by victim) in omega arith)
          ∙ h.took_all x;
      keeps = λ i d l. get_set (Keeps (get_or old i d)) mid left i b d low_mid
          (λ e. subst (λ j. Keeps (get_or old j d) b) (sym e) (keeps_b d)) (λ ne. keeps_mid i d l);
      others = λ i d l apart. get_set (λ (m : Worker C). m.victims ≡ (get_or old i d).victims) mid left i b d low_mid
          (λ e. same d ∙ ap (λ j. (get_or mid j d).victims) (sym e)
          ∙ get_set (λ (m : Worker C). m.victims ≡ (get_or old i d).victims) now w i a d low_now (λ q. absurd (apart q)) (λ _. h.others i d l apart))
          (λ ne. get_set (λ (m : Worker C). m.victims ≡ (get_or old i d).victims) now w i a d low_now (λ q. absurd (apart q)) (λ _. h.others i d l apart));
      mine = λ d. get_set (λ (m : Worker C). map robs m.victims.items ≡ take left (places old)) mid left w b d low_mid
          (λ e. ap (λ (k : Vec Victim). map robs k.items) (same d) ∙ ap (λ j. map robs (get_or mid j d).victims.items) (sym e)
          ∙ ap (λ (m : Worker C). map robs m.victims.items) (at_w d) ∙ ap (map robs) rest ∙ (both d).0)
          (λ ne. ap (λ (m : Worker C). map robs m.victims.items) (at_w d) ∙ ap (map robs) rest ∙ (both d).0);
      lent = λ i d l. get_set (λ (m : Worker C). (account_of m.deque).lent + bit (leb left i) ≡ (account_of (get_or old i d).deque).lent) mid left i b d low_mid
          (λ e. let k = lent_b d in let o = leb_bit left i (omega arith) in
          let q : (account_of (get_or old i d).deque).lent ≡ (account_of (get_or old left d).deque).lent = ap (λ j. (account_of
          (get_or old j d).deque).lent) e in omega arith)
          (λ ne. let m = lent_mid i d l in dite (dec_le left i)
          (λ le. let o = leb_bit left i le in let p = leb_bit (left + 1) i (omega arith) in omega arith)
          (λ gt. let o = leb_none left i (omega arith) in let p = leb_none (left + 1) i (omega arith) in omega arith));
    }

-- what stands at a place does not hang on the default
pub same_or : {X : Type 0} (xs : List X) (i : ℕ) (d e : X) → i < length xs → get_or xs i d ≡ get_or xs i e
same_or [] i d e h = absurd (omega arith)
same_or (x ∷ xs) zero d e h = refl
same_or (x ∷ xs) (suc i) d e h = same_or xs i d e (omega arith)

-- One turn of the loop, as the loop has it.
module _ {C : Type 0} (w left : ℕ) (old now : List (Worker C)) (r r' : Worker C) (q : Vec Victim) (victim : Victim) (there : w < length old)
    (given : (d : Worker C) → HasGiven w (length (get_or now w d).victims.items) old now) (low : (d : Worker C)
    → length (get_or now w d).victims.items ≤ length old)
    (lent : (i : ℕ) (d : Worker C) → i < length old → 0 < (account_of (get_or old i d).deque).lent)
    (pop : (get_or now w r).victims.items ≡ q.items ++ victim ∷ [])
    (len : left ≡ vec_len (get_or (set now w (record {
      number = (get_or now w r).number;
      seat = (get_or now w r).seat;
      deque =
          (get_or now w r).deque;
      victims = q;
      parcels = (get_or now w r).parcels;
      lines = (get_or now w r).lines;
    })) w r').victims) where
  abbrev popped_one : Worker C
  popped_one = record {
    number = (get_or now w r).number;
    seat = (get_or now w r).seat;
    deque = (get_or now w r).deque;
    victims = q;
    parcels =
        (get_or now w r).parcels;
    lines = (get_or now w r).lines;
  }

  abbrev between : List (Worker C)
  between = set now w popped_one

  there_now : w < length now
  there_now = let c = (given r).count in omega arith

  left_is : left ≡ length q.items
  left_is = let l = get_set (λ (m : Worker C). vec_len m.victims ≡ vec_len q) now w w popped_one r' there_now (λ _. refl) (λ ne. absurd (ne refl)) in
      let o = q.ok.0 in let e = len in omega arith

  one_more : length (get_or now w r).victims.items ≡ left + 1
  one_more = let p = ap length pop in let l = left_is in let a = length-append q.items (victim ∷ []) in omega arith

  has : HasGiven w (left + 1) old now
  has = subst (λ n. HasGiven w n old now) one_more (given r)

  low_left : left < length old
  low_left = let l = low r in let o = one_more in omega arith

  kept_all : (d : Worker C) → popped_one.deque ≡ (get_or now w d).deque
  kept_all d = ap (λ (m : Worker C). m.deque) (same_or now w r d there_now)

  popped_all : (d : Worker C) → (get_or now w d).victims.items ≡ q.items ++ victim ∷ []
  popped_all d = ap (λ (m : Worker C). m.victims.items) (same_or now w d r there_now) ∙ pop

  rest_one : (d : Worker C) → SameRest (get_or now w d) popped_one
  rest_one d = subst (λ m. SameRest m popped_one) (same_or now w r d there_now) (refl, refl, refl, refl)

  pub loop_at : (d : Worker C) → robs victim ≡ lies_at (get_or between left d).deque
  loop_at = is_at w left old now has there low_left (λ d. lent left d low_left) popped_one q.items victim kept_all popped_all refl rest_one

  low_between : left < length between
  low_between = let l = length-set now w popped_one in let c = has.count in let o = low_left in omega arith

  module _ (rv : Worker C) (dq : TaskDeque) (room : dq.room ≡ (get_or between left rv).deque.room) (place : lies_at dq ≡ lies_at (get_or between left rv).deque)
      (took_back : account_of dq ≡ account true ((account_of (get_or between left rv).deque).lent - 1) (account_of (get_or between left rv).deque).held
      (account_of (get_or between left rv).deque).put ((account_of (get_or between left rv).deque).taken ++ taken_by victim)) where
    abbrev given_one : Worker C
    given_one = record {
      number = (get_or between left rv).number;
      seat = (get_or between left rv).seat;
      deque = dq;
      victims =
          (get_or between left rv).victims;
      parcels = (get_or between left rv).parcels;
      lines = (get_or between left rv).lines;
    }

    abbrev after : List (Worker C)
    after = set between left given_one

    any : (d : Worker C) → get_or between left rv ≡ get_or between left d
    any d = same_or between left rv d low_between

    loop_given : HasGiven w left old after
    loop_given = given_on w left old now has there low_left (λ d. lent left d low_left) popped_one q.items victim kept_all popped_all refl rest_one given_one
        (λ d. ap (λ (m : Worker C). m.victims) (any d)) (λ d. room ∙ ap (λ (m : Worker C). m.deque.room) (any d)) (λ d. place
        ∙ ap (λ (m : Worker C). lies_at m.deque) (any d))
        (λ d. took_back ∙ ap (λ (m : Worker C). account true ((account_of m.deque).lent - 1) (account_of m.deque).held (account_of m.deque).put
        ((account_of m.deque).taken ++ taken_by victim)) (any d))
        (λ d. subst (λ m. SameRest m given_one) (any d) (refl, refl, refl, refl))

    mine_left : (d : Worker C) → length (get_or after w d).victims.items ≡ left
    mine_left d = let z = get_set (λ (m : Worker C). length m.victims.items ≡ length q.items) now w w popped_one d there_now (λ _. refl) (λ ne. absurd
        (ne refl)) in
        get_set (λ (m : Worker C). length m.victims.items ≡ left) between left w given_one d low_between
        (λ e. ap (λ (m : Worker C). length m.victims.items) (any d) ∙ ap (λ j. length (get_or between j d).victims.items) (sym e) ∙ z ∙ sym left_is)
        (λ ne. z ∙ sym left_is)

    pub loop_given_on : (d : Worker C) → HasGiven w (length (get_or after w d).victims.items) old after
    loop_given_on d = subst (λ n. HasGiven w n old after) (sym (mine_left d)) loop_given

    pub loop_low : (d : Worker C) → length (get_or after w d).victims.items ≤ length old
    loop_low d = let m = mine_left d in let l = low_left in omega arith

    pub loop_less : total (λ (m : Worker C). length m.victims.items) after < total (λ (m : Worker C). length m.victims.items) now
    loop_less = let f : Worker C → ℕ = λ m. length m.victims.items in let a = total_set f now w popped_one r there_now in
        let b = total_set f between left given_one rv low_between in let o = one_more in let l = left_is in omega arith

pub no_items : {X : Type 0} (xs ys : List X) → length xs ≡ 0 → length ys ≡ 0 → xs ≡ ys
no_items [] [] a b = refl
no_items (x ∷ xs) ys a b = absurd (omega arith)
no_items [] (y ∷ ys) a b = absurd (omega arith)

-- The end of the loop: the last pop found nothing.
module _ {C : Type 0} (w : ℕ) (old now : List (Worker C)) (r : Worker C) (q : Vec Victim) (there : w < length old)
    (given : (d : Worker C) → HasGiven w (length (get_or now w d).victims.items) old now) (none : length (get_or now w r).victims.items ≡ 0)
    (same : q.items ≡ (get_or now w r).victims.items) where
  abbrev last_one : Worker C
  last_one = record {
    number = (get_or now w r).number;
    seat = (get_or now w r).seat;
    deque = (get_or now w r).deque;
    victims = q;
    parcels =
        (get_or now w r).parcels;
    lines = (get_or now w r).lines;
  }

  low_last : w < length now
  low_last = let c = (given r).count in omega arith

  at_last : (P : Worker C → Type 0) (i : ℕ) (d : Worker C) → (i ≡ w → P last_one) → (i ≢ w → P (get_or now i d)) → P (get_or (set now w last_one) i d)
  at_last P i d a b = get_set P now w i last_one d low_last a b

  back : (i : ℕ) (d : Worker C) → i ≡ w → get_or now w r ≡ get_or now i d
  back i d e = same_or now w r d low_last ∙ ap (λ j. get_or now j d) (sym e)

  pub loop_done : HasGiven w 0 old (set now w last_one)
  loop_done = let h = subst (λ n. HasGiven w n old now) none (given r) in record {
    count = length-set now w last_one ∙ h.count;
    took_all = λ x. (let a = total_set (λ u. took u x) now w last_one r low_last in let q = ap (λ k. total (λ v. times x (taken_by v)) k) same in
        let b : took last_one x ≡ took (get_or now w r) x = omega arith in let g : total (λ u. took u x) (set now w last_one) ≡ total
        (λ u. took u x) now = omega arith in g) ∙ h.took_all x;
    keeps = λ i d l. at_last (Keeps (get_or old i d)) i d
        (λ e. let k = subst (λ m. Keeps (get_or old i d) m) (sym (back i d e)) (h.keeps i d l) in
        record { put = k.put; room = k.room; place = k.place; rest = k.rest }) (λ ne. h.keeps i d l);
    others = λ i d l apart. at_last (λ (m : Worker C). m.victims ≡ (get_or old i d).victims) i d (λ e. absurd (apart e)) (λ ne. h.others i d l apart);
    mine = λ d. at_last (λ (m : Worker C). map robs m.victims.items ≡ take 0 (places old)) w d
        (λ e. ap (map robs) same ∙ ap (λ (m : Worker C). map robs m.victims.items) (back w d refl) ∙ h.mine d) (λ ne. h.mine d);
    lent = λ i d l. at_last (λ (m : Worker C). (account_of m.deque).lent + bit (leb 0 i) ≡ (account_of (get_or old i d).deque).lent) i d
        (λ e. let b = ap (λ (m : Worker C). (account_of m.deque).lent) (back i d e) in let k = h.lent i d l in omega arith) (λ ne. h.lent i d l);
  }
