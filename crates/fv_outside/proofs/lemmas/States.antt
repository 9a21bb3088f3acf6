-- Relations between states of a desk go on from one call to the next.
use Rattle.std.proofs.Common.{◌≡◌, ℕ, ◌+◌, ◌≤◌, ◌<◌, List, [], ◌∷◌, ◌++◌, length, take, drop, sym, ◌∙◌, ap, arith, subst, append_assoc, refl, get_or}
use Rattle.std.proofs.Common.{zero, suc, length-take, length-append}
use denote.Ref.{Bor}
use Rattle.std.proofs.lemmas.List.{append-nil, take_all, drop_all, take-append-le, drop_at}
use Rattle.std.proofs.lemmas.Slice.{take-put_mid_below}
use Rattle.std.proofs.Math.Seq.{take-append_seam, drop-append_seam, take-add}
use borrow.Rule.Slice.PartMut.{put_mid, post_of}
use Rattle.std.proofs.lemmas.Bool.{false_from_ne_true, eqb-true}
use Rattle.std.specs.Prelude.{IsTrue, All, false, ◌==◌}
use Rattle.fv_base.specs.headline.Lists.{IsPrefixOf}
use Rattle.fv_base.proofs.lemmas.Lists.{prefix_refl}
use Rattle.fv_outside.specs.headline.Desk.{DeskState, GoesOn, HasFault, IsUnfailing}
use Rattle.fv_outside.specs.Desk.{KeepsQuiet, fails_now, fails_next, Appends, Takes, TakesSome, joined}
use Rattle.fv_base.specs.declared.role.Role.{Role}

-- where the later state tells, the earlier one did
pub told_before : {a b : DeskState} → GoesOn a b → IsTrue a.tells → IsTrue b.tells
told_before p t = subst IsTrue (sym p.tells) t

pub goes_on_self : (a : DeskState) → GoesOn a a
goes_on_self a = record {
  tells = refl;
  beneath = refl;
  files = λ _. refl;
  room = λ _ r. refl;
  failing = λ _ r. refl;
  calls = λ _ r. omega arith;
  faults = λ r. omega arith;
}

pub goes_on_then : {a b c : DeskState} → GoesOn a b → GoesOn b c → GoesOn a c
goes_on_then {a} {b} {c} p q = record {
  tells = q.tells ∙ p.tells;
  beneath = q.beneath ∙ p.beneath;
  files = λ t. q.files (told_before p t) ∙ p.files t;
  room = λ t r. q.room (told_before p t) r ∙ p.room t r;
  failing = λ t r. q.failing (told_before p t) r ∙ p.failing t r;
  calls = λ t r. let x = p.calls t r in let y = q.calls (told_before p t) r in omega arith;
  faults = λ r. let x = p.faults r in let y = q.faults r in omega arith;
}

pub quiet_self : (a : DeskState) → KeepsQuiet a a
quiet_self a = record { goes_on = goes_on_self a; written = λ t r. refl; begins = λ r. refl }

pub quiet_then : {a b c : DeskState} → KeepsQuiet a b → KeepsQuiet b c → KeepsQuiet a c
quiet_then p q = record {
  goes_on = goes_on_then p.goes_on q.goes_on;
  written = λ t r. q.written (told_before p.goes_on t) r ∙ p.written t r;
  begins = λ r. q.begins r ∙ p.begins r;
}

-- a fault counts from any earlier state on, and up to any later one
pub fault_earlier : {a b : DeskState} (c : DeskState) (role : Role) → GoesOn a b → HasFault role b c → HasFault role a c
fault_earlier c role p h = let x = p.faults role in omega arith

pub fault_later : {b c : DeskState} (a : DeskState) (role : Role) → GoesOn b c → HasFault role a b → HasFault role a c
fault_later a role p h = let x = p.faults role in omega arith

-- the bytes so far and n more are all that there were, so these are its first ones
pub front_is : (all front rest : List ℕ) (n : ℕ) → all ≡ front ++ rest → n ≡ length front → (front ≡ take n all) × (rest ≡ drop n all)
front_is all front rest n e m = rw (e, m) (sym (take-append_seam front rest), sym (drop-append_seam front rest))

-- where none is left, the bytes so far are all
pub all_is : (all front rest : List ℕ) (n : ℕ) → all ≡ front ++ rest → rest ≡ [] → length front ≤ n → (front ≡ take n all) × (rest ≡ drop n all)
all_is all front rest n e none m =
    let whole : all ≡ front = e ∙ ap (λ w. front ++ w) none ∙ append-nil front in
    rw (whole, none) (sym (take_all n front m), sym (drop_all n front m))

pub appends_nothing : (role : Role) (a : DeskState) → Appends role [] a a
appends_nothing role a = record {
  goes_on = goes_on_self a;
  begins = λ r. refl;
  requests = refl;
  other_faults = λ r n. refl;
  others = λ t r n. refl;
  left = λ t r. refl;
  appended = λ t. sym (append-nil (a.written role));
}

pub appends_then : {role : Role} {xs ys : List ℕ} {a b c : DeskState} → Appends role xs a b → Appends role ys b c → Appends role (xs ++ ys) a c
appends_then {role} {xs} {ys} {a} p q = record {
  goes_on = goes_on_then p.goes_on q.goes_on;
  begins = λ r. q.begins r ∙ p.begins r;
  requests = q.requests ∙ p.requests;
  other_faults = λ r n. q.other_faults r n ∙ p.other_faults r n;
  others = λ t r n. q.others (told_before p.goes_on t) r n ∙ p.others t r n;
  left = λ t r. q.left (told_before p.goes_on t) r ∙ p.left t r;
  appended = λ t. q.appended (told_before p.goes_on t) ∙ ap (λ w. w ++ ys) (p.appended t) ∙ append_assoc (a.written role) xs ys;
}

pub takes_nothing : (role : Role) (a : DeskState) → Takes role [] a a
takes_nothing role a = record {
  goes_on = goes_on_self a;
  written = λ t r. refl;
  begins = λ r. refl;
  requests = refl;
  other_faults = λ r n. refl;
  others = λ t r n. refl;
  taken = λ t. refl;
}

pub takes_then : {role : Role} {xs ys : List ℕ} {a b c : DeskState} → Takes role xs a b → Takes role ys b c → Takes role (xs ++ ys) a c
takes_then {role} {xs} {ys} {a} {b} {c} p q = record {
  goes_on = goes_on_then p.goes_on q.goes_on;
  written = λ t r. q.written (told_before p.goes_on t) r ∙ p.written t r;
  begins = λ r. q.begins r ∙ p.begins r;
  requests = q.requests ∙ p.requests;
  other_faults = λ r n. q.other_faults r n ∙ p.other_faults r n;
  others = λ t r n. q.others (told_before p.goes_on t) r n ∙ p.others t r n;
  taken = λ t. p.taken t ∙ ap (λ w. xs ++ w) (q.taken (told_before p.goes_on t)) ∙ sym (append_assoc xs ys (c.left role));
}

pub takes_some : {role : Role} {xs : List ℕ} {a b : DeskState} → Takes role xs a b → TakesSome role a b
takes_some {xs = xs} p = record { bytes = xs; takes = p }

pub some_then : {role : Role} {xs : List ℕ} {a b c : DeskState} → Takes role xs a b → TakesSome role b c → TakesSome role a c
some_then {xs = xs} p q = record { bytes = xs ++ q.bytes; takes = takes_then p q.takes }

pub some_all : {role : Role} {a b c : DeskState} → TakesSome role a b → TakesSome role b c → TakesSome role a c
some_all p q = record { bytes = p.bytes ++ q.bytes; takes = takes_then p.takes q.takes }

-- what was taken is no writing
pub takes_quiet : {role : Role} {xs : List ℕ} {a b : DeskState} → Takes role xs a b → KeepsQuiet a b
takes_quiet p = record { goes_on = p.goes_on; written = p.written; begins = p.begins }

pub some_quiet : {role : Role} {a b : DeskState} → TakesSome role a b → KeepsQuiet a b
some_quiet p = takes_quiet p.takes

-- for the functions that call a desk again and again
pub ruleset steps = (
  quiet_self,
  quiet_then,
  appends_nothing,
  appends_then,
  takes_nothing,
  takes_then,
  takes_some,
  some_then,
  takes_quiet,
  some_quiet,
  fault_earlier,
  fault_later,
  goes_on_self,
  goes_on_then,
)

-- ---- where no later call of the role is told to fail
under_all : (a b : ℕ) (ns : List ℕ) → a ≤ b → All (λ n. n < a) ns → All (λ n. n < b) ns
under_all a b ns le h = λ k d l. let less = h k d l in omega arith

-- a later state of it is one too
pub unfailing_later : {a b : DeskState} (role : Role) → GoesOn a b → IsTrue a.tells → IsUnfailing role a → IsUnfailing role b
unfailing_later {a} {b} role p t h =
    subst (λ (ns : List ℕ). All (λ n. n < b.calls role) ns) (sym (p.failing t role))
    (under_all (a.calls role) (b.calls role) (a.failing role) (p.calls t role) h)

none_now : (calls : ℕ) (ns : List ℕ) → All (λ n. n < calls) ns → fails_now calls ns ≡ false
none_now calls [] h = refl
none_now calls (n ∷ ns) h =
    let less : n < calls = h 0 0 (omega arith) in
    let other : (n == calls) ≡ false = false_from_ne_true (n == calls) (λ e. let same : n ≡ calls = eqb-true n calls e in absurd (omega arith)) in
    rw other (none_now calls ns (λ k d l. h (suc k) d (omega arith)))

-- and its next call is none that fails
pub answers_next : {a b : DeskState} (role : Role) → GoesOn a b → IsTrue a.tells → IsUnfailing role a → fails_next role b ≡ false
answers_next {b = b} role p t h = none_now (b.calls role) (b.failing role) (unfailing_later role p t h)

-- a part of a buffer was written from its front: what the buffer holds up to there
pub part_front : (xs ys : List ℕ) (a n k : ℕ) → a ≤ length xs → n ≤ length ys → take (a + n) (put_mid a k xs ys) ≡ take a xs ++ take n ys
part_front xs ys a n k h m =
    let front : take a (put_mid a k xs ys) ≡ take a xs = take-put_mid_below a k xs ys a (omega arith) h in
    let back : drop a (put_mid a k xs ys) ≡ ys ++ post_of a k xs = drop_at (take a xs) (ys ++ post_of a k xs) a
    (let e = length-take a xs in omega (arith, e)) in
    take-add a n (put_mid a k xs ys) ∙ ap (λ w. w ++ take n (drop a (put_mid a k xs ys))) front ∙ ap (λ w. take a xs ++ take n w) back
    ∙ ap (λ w. take a xs ++ w) (take-append-le n ys (post_of a k xs) m)

-- what is a part from the front of one piece is, after the pieces before it, a part from the front of all of them
pub joined_part : (pieces : List (Bor (List ℕ))) (i : ℕ) (d : Bor (List ℕ)) (part : List ℕ) → i < length pieces
    → IsPrefixOf part (get_or pieces i d).now → IsPrefixOf (joined (take i pieces) ++ part) (joined pieces)
joined_part [] i d part h p = absurd (omega arith)
joined_part (x ∷ xs) zero d part h p = record { rest = p.rest ++ joined xs; is = ap (λ w. w ++ joined xs) p.is ∙ append_assoc part p.rest (joined xs) }
joined_part (x ∷ xs) (suc i) d part h p =
    let q = joined_part xs i d part (omega arith) p in
    record {
      rest = q.rest;
      is = ap (λ w. x.now ++ w) q.is ∙ sym (append_assoc x.now (joined (take i xs) ++ part) q.rest)
          ∙ ap (λ w. w ++ q.rest) (sym (append_assoc x.now (joined (take i xs)) part));
    }

-- and no longer than they are
pub joined_room : (pieces : List (Bor (List ℕ))) (i : ℕ) (d : Bor (List ℕ)) → i < length pieces
    → length (joined (take i pieces)) + length (get_or pieces i d).now ≤ length (joined pieces)
joined_room pieces i d h =
    let p = joined_part pieces i d (get_or pieces i d).now h (prefix_refl (get_or pieces i d).now) in
    let e = ap length p.is in
    omega (arith, length-append (joined (take i pieces) ++ (get_or pieces i d).now) p.rest, length-append (joined (take i pieces)) (get_or pieces i d).now)
