-- Pairs that are sorted, each of which was given once, rise.
use Rattle.std.proofs.Common.{◌≡◌, ℕ, zero, suc, ◌+◌, ◌-◌, ◌<◌, ◌≤◌, Bool, true, false, ◌&&◌, List, [], ◌∷◌, length, get_or}
use Rattle.std.proofs.Common.{refl, sym, ap, ◌∙◌, arith, ltb, lt-ltb, ◌==◌, eq-eqb, slice_index_or}
use Rattle.std.specs.List.{sum_by}
use Rattle.std.specs.List.Sorted.{IsPermutation, IsNonDecreasingBy}
use Rattle.std.proofs.lemmas.List.Sorted.{sum_by-IsPermutation}
use Rattle.std.proofs.lemmas.List.Sums.{sum_by-cons}
use mathlib.Core.Logic.{dite}
use native.Mathlib.Decide.{ℕ_discrete}
use Rattle.fv_outside.specs.headline.Tasks.{bit, total, reads_loop}
use Rattle.fv_outside.specs.declared.tasks.Reads.{Reads}
use Rattle.fv_graph.specs.Graph.{no_reads, is_before, ArePairs, IsGraph}
use Rattle.fv_graph.proofs.lemmas.Counts.{both_true, both_of, eq_of, either_left, either_right, total_at, bools_agree}
use Rattle.fv_graph.proofs.lemmas.ReadsLemmas.{IsAt, loop_at, loop_place}

-- how often a pair stands in a list
abbrev pub copies : ℕ → ℕ → List Reads → ℕ
copies j i rs = total (λ r. bit ((r.reader == j) && (r.source == i))) rs

total_sum : {X : Type 0} (f : X → ℕ) (xs : List X) → total f xs ≡ sum_by f xs
total_sum f [] = refl
total_sum f (x ∷ xs) = ap (λ n. f x + n) (total_sum f xs) ∙ sym (sum_by-cons f x xs)

pub same_copies : (xs ys : List Reads) → IsPermutation xs ys → (j i : ℕ) → copies j i ys ≡ copies j i xs
same_copies xs ys p j i = let f : Reads → ℕ = λ r. bit ((r.reader == j) && (r.source == i)) in
    total_sum f ys ∙ sum_by-IsPermutation f xs ys p ∙ sym (total_sum f xs)

total_two : {X : Type 0} (f : X → ℕ) (xs : List X) (j k : ℕ) (d : X) → j < k → k < length xs → f (get_or xs j d) + f (get_or xs k d) ≤ total f xs
total_two f [] j k d l h = absurd (omega arith)
total_two f (x ∷ xs) zero zero d l h = absurd (omega arith)
total_two f (x ∷ xs) zero (suc k) d l h = let a = total_at f xs k d (omega arith) in omega arith
total_two f (x ∷ xs) (suc j) zero d l h = absurd (omega arith)
total_two f (x ∷ xs) (suc j) (suc k) d l h = let a = total_two f xs j k d (omega arith) (omega arith) in omega arith

is_pair : (r : Reads) (j i : ℕ) → r.reader ≡ j → r.source ≡ i → bit ((r.reader == j) && (r.source == i)) ≡ 1
is_pair r j i a b = ap bit (both_of (r.reader == j) (r.source == i) (eq-eqb r.reader j a) (eq-eqb r.source i b))

pub copied : (rs : List Reads) (j i k : ℕ) → IsAt rs j i k → 0 < copies j i rs
copied rs j i k h = let a = total_at (λ (r : Reads). bit ((r.reader == j) && (r.source == i))) rs k no_reads h.there in
    let b = is_pair (get_or rs k no_reads) j i h.reader h.source in omega arith

found_first : (b : Bool) (r : Reads) (rs : List Reads) (j i : ℕ) → ((r.reader == j) && (r.source == i)) ≡ b
    → (0 < copies j i rs → (k : ℕ) × IsAt rs j i k) → 0 < bit b + copies j i rs → (k : ℕ) × IsAt (r ∷ rs) j i k
found_first true r rs j i e f h = let b = both_true (r.reader == j) (r.source == i) e in
    (0, record { there = omega arith; reader = eq_of r.reader j b.0; source = eq_of r.source i b.1 })
found_first false r rs j i e f h = let q = f (omega arith) in
    (suc q.0, record { there = let l = q.1.there in omega arith; reader = q.1.reader; source = q.1.source })

pub found : (rs : List Reads) (j i : ℕ) → 0 < copies j i rs → (k : ℕ) × IsAt rs j i k
found [] j i h = absurd (omega arith)
found (r ∷ rs) j i h = found_first ((r.reader == j) && (r.source == i)) r rs j i refl (found rs j i) h

pub same_loops : (xs ys : List Reads) → IsPermutation xs ys → (j i : ℕ) → reads_loop ys j i ≡ reads_loop xs j i
same_loops xs ys p j i = let c = same_copies xs ys p j i in bools_agree (reads_loop ys j i) (reads_loop xs j i)
    (λ h. let k = loop_place ys j i h in let n = copied ys j i k.0 k.1 in let m = found xs j i (omega arith) in
    loop_at xs j i m.0 m.1.there m.1.reader m.1.source)
    (λ h. let k = loop_place xs j i h in let n = copied xs j i k.0 k.1 in let m = found ys j i (omega arith) in
    loop_at ys j i m.0 m.1.there m.1.reader m.1.source)

-- ys are the pairs xs, sorted by reader and then by source
pub record AreSorted (xs ys : List Reads) : Type 0 where
  pub permutation : IsPermutation xs ys
  pub readers : IsNonDecreasingBy (λ (r : Reads). r.reader) ys
  pub sources : (k : ℕ) (d : Reads) → k + 1 < length ys → (slice_index_or ys k d).reader ≡ (slice_index_or ys (k + 1) d).reader
      → (slice_index_or ys k d).source ≤ (slice_index_or ys (k + 1) d).source

module _ (xs ys : List Reads) (sorted : AreSorted xs ys) where
  -- of one reader, the sources do not fall
  sources_rise : (n j : ℕ) → j + n < length ys → (get_or ys j no_reads).reader ≡ (get_or ys (j + n) no_reads).reader
      → (get_or ys j no_reads).source ≤ (get_or ys (j + n) no_reads).source
  sources_rise zero j h e = let q : (get_or ys j no_reads).source ≡ (get_or ys (j + 0) no_reads).source =
      ap (λ k. (get_or ys k no_reads).source) (omega arith) in omega arith
  sources_rise (suc n) j h e =
      let l : (get_or ys (j + suc n) no_reads).reader ≡ (get_or ys (j + n + 1) no_reads).reader = ap (λ k. (get_or ys k no_reads).reader) (omega arith) in
      let m : (get_or ys (j + suc n) no_reads).source ≡ (get_or ys (j + n + 1) no_reads).source = ap (λ k. (get_or ys k no_reads).source) (omega arith) in
      let a = sorted.readers j (j + n) no_reads (omega arith) (omega arith) in
      let b = sorted.readers (j + n) (j + n + 1) no_reads (omega arith) (omega arith) in
      let r = sources_rise n j (omega arith) (omega arith) in
      let s = sorted.sources (j + n) no_reads (omega arith) (omega arith) in omega arith

  pub rising : ((j i : ℕ) → copies j i ys < 2) → (j k : ℕ) → j < k → k < length ys → is_before (get_or ys j no_reads) (get_or ys k no_reads) ≡ true
  rising once j k l h =
      let a = get_or ys j no_reads in let b = get_or ys k no_reads in
      let le = sorted.readers j k no_reads (omega arith) h in
      dite (ℕ_discrete a.reader b.reader)
      (λ e. let q : (get_or ys (j + (k - j)) no_reads) ≡ b = ap (λ m. get_or ys m no_reads) (omega arith) in
      let qr = ap (λ (r : Reads). r.reader) q in let qs = ap (λ (r : Reads). r.source) q in
      let s = sources_rise (k - j) j (omega arith) (omega arith) in
      either_right (ltb a.reader b.reader) ((a.reader == b.reader) && ltb a.source b.source)
      (both_of (a.reader == b.reader) (ltb a.source b.source) (eq-eqb a.reader b.reader e)
      (lt-ltb a.source b.source (dite (ℕ_discrete a.source b.source)
      (λ same. let t = total_two (λ (r : Reads). bit ((r.reader == b.reader) && (r.source == b.source))) ys j k no_reads l h in
      let x = is_pair a b.reader b.source e same in let y = is_pair b b.reader b.source refl refl in let o = once b.reader b.source in absurd (omega arith))
      (λ ne. omega arith)))))
      (λ ne. either_left (ltb a.reader b.reader) ((a.reader == b.reader) && ltb a.source b.source) (lt-ltb a.reader b.reader (omega arith)))

-- sorted pairs of which each was given once make a graph
pub makes_graph : (loops vectors : ℕ) (xs ys : List Reads) → 0 < loops → 0 < vectors → ArePairs loops xs → AreSorted xs ys
    → IsGraph (record { loops = loops; vectors = vectors; reads = ys })
makes_graph loops vectors xs ys some also given sorted = record {
  some_loop = some;
  some_vector = also;
  in_order = λ k h. let r = get_or ys k no_reads in
      let c = same_copies xs ys sorted.permutation r.reader r.source in
      let n = copied ys r.reader r.source k (record { there = h; reader = refl; source = refl }) in
      let m = found xs r.reader r.source (omega arith) in let o = given.in_order m.0 m.1.there in
      let a = o.0 in let b = o.1 in let e = m.1.reader in let f = m.1.source in (omega arith, omega arith);
  rising = λ j k l h. rising xs ys sorted (λ j i. let c = same_copies xs ys sorted.permutation j i in let o = given.once j i in omega arith) j k l h;
}
