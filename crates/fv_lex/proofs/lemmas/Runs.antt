-- Runs of bytes, the ends of strings and comments, and the numbers of digits.
use Rattle.std.proofs.Common.{◌≡◌, ℕ, suc, ◌+◌, ◌-◌, ◌*◌, ◌≤◌, Bool, true, false, cond, ◌&&◌, List, [], ◌∷◌, ◌++◌, length, get_or, take, drop, refl, sym, ap}
use Rattle.std.proofs.Common.{subst, ◌∙◌, arith}
use Rattle.std.specs.List.{list_all, prefix_len}
use Rattle.std.proofs.lemmas.Bool.{and_parts}
use Rattle.fv_base.specs.headline.Digits.{decimal_after}

-- a test, as the choice that hangs on it went
pub either : {A : Type 0} {y : A} (Q : Type 0) (b : Bool) (u v : A) → (b ≡ true → u ≡ y → Q) → (b ≡ false → v ≡ y → Q) → cond b u v ≡ y → Q
either Q true u v f g e = f refl e
either Q false u v f g e = g refl e

-- the first byte after a run does not belong to it
abbrev pub Stops : (ℕ → Bool) → List ℕ → Type 0
Stops p [] = Unit {0}
Stops p (b ∷ bs) = p b ≡ false

-- `prefix_len` by successors, at which lists compute
pub prefix_len-cons : (p : ℕ → Bool) (b : ℕ) (bs : List ℕ) → prefix_len p (b ∷ bs) ≡ cond (p b) (suc (prefix_len p bs)) 0
prefix_len-cons p b bs = let more : 1 + prefix_len p bs ≡ suc (prefix_len p bs) = omega arith in ap (λ n. cond (p b) n 0) more

pub prefix_len-passes : (p : ℕ → Bool) (b : ℕ) (bs : List ℕ) → p b ≡ true → prefix_len p (b ∷ bs) ≡ suc (prefix_len p bs)
prefix_len-passes p b bs e = prefix_len-cons p b bs ∙ ap (λ v. cond v (suc (prefix_len p bs)) 0) e

all_case : (p : ℕ → Bool) (b : ℕ) (bs : List ℕ) (v : Bool)
    → p b ≡ v → list_all p (take (prefix_len p bs) bs) ≡ true → list_all p (take (cond v (suc (prefix_len p bs)) 0) (b ∷ bs)) ≡ true
all_case p b bs true e ih = rw (e, ih) refl
all_case p b bs false e ih = refl

pub list_all-prefix_len : (p : ℕ → Bool) (bs : List ℕ) → list_all p (take (prefix_len p bs) bs) ≡ true
list_all-prefix_len p [] = refl
list_all-prefix_len p (b ∷ bs) =
    subst (λ n. list_all p (take n (b ∷ bs)) ≡ true) (sym (prefix_len-cons p b bs)) (all_case p b bs (p b) refl (list_all-prefix_len p bs))

stops_case : (p : ℕ → Bool) (b : ℕ) (bs : List ℕ) (v : Bool)
    → p b ≡ v → Stops p (drop (prefix_len p bs) bs) → Stops p (drop (cond v (suc (prefix_len p bs)) 0) (b ∷ bs))
stops_case p b bs true e ih = ih
stops_case p b bs false e ih = e

pub run_stops : (p : ℕ → Bool) (bs : List ℕ) → Stops p (drop (prefix_len p bs) bs)
run_stops p [] = tt
run_stops p (b ∷ bs) = subst (λ n. Stops p (drop n (b ∷ bs))) (sym (prefix_len-cons p b bs)) (stops_case p b bs (p b) refl (run_stops p bs))

pub run_is : (p : ℕ → Bool) (body rest : List ℕ) → list_all p body ≡ true → Stops p rest → prefix_len p (body ++ rest) ≡ length body
run_is p [] [] e h = refl
run_is p [] (b ∷ rest) e h = rw h refl
run_is p (b ∷ body) rest e h =
    let both = and_parts (p b) (list_all p body) e in prefix_len-passes p b (body ++ rest) both.0 ∙ ap suc (run_is p body rest both.1 h)

pub run_short : (p : ℕ → Bool) (bs : List ℕ) → prefix_len p bs ≤ length bs
run_short p [] = omega arith
run_short p (b ∷ bs) = subst (λ n. n ≤ suc (length bs)) (sym (prefix_len-cons p b bs)) (go (p b) (run_short p bs))
  where
    go : (v : Bool) → prefix_len p bs ≤ length bs → cond v (suc (prefix_len p bs)) 0 ≤ suc (length bs)
    go true h = omega arith
    go false h = omega arith

-- a run with a byte that does not belong to it
and_false : (v w : Bool) → w ≡ false → (v && w) ≡ false
and_false true w e = e
and_false false w e = refl

pub list_all_stops : (p : ℕ → Bool) (body : List ℕ) (c : ℕ) (more : List ℕ) → p c ≡ false → list_all p (body ++ c ∷ more) ≡ false
list_all_stops p [] c more h = rw h refl
list_all_stops p (b ∷ body) c more h = and_false (p b) (list_all p (body ++ c ∷ more)) (list_all_stops p body c more h)

pub list_all_more : (p : ℕ → Bool) (body : List ℕ) (c : ℕ) → list_all p body ≡ true → p c ≡ true → list_all p (body ++ c ∷ []) ≡ true
list_all_more p [] c e h = rw h refl
list_all_more p (b ∷ body) c e h = let both = and_parts (p b) (list_all p body) e in rw (both.0, list_all_more p body c both.1 h) refl

-- ---- numbers
pub decimal_after-ge : (n : ℕ) (ds : List ℕ) → n ≤ decimal_after n ds
decimal_after-ge n [] = omega arith
decimal_after-ge n (d ∷ ds) = omega (arith, decimal_after-ge (n * 10 + (d - 48)) ds)

pub decimal_after-first : (n : ℕ) (ds : List ℕ) → 1 ≤ length ds → n * 10 + (get_or ds 0 0 - 48) ≤ decimal_after n ds
decimal_after-first n [] h = absurd (omega arith)
decimal_after-first n (d ∷ ds) h = decimal_after-ge (n * 10 + (d - 48)) ds
