-- Lists of edges, one after another.
use Rattle.std.proofs.Common.{◌≡◌, ℕ, zero, suc, ◌+◌, ◌-◌, ◌*◌, ◌<◌, ◌≤◌, List, [], ◌∷◌, ◌++◌, map, length, take, drop, get_or}
use Rattle.std.proofs.Common.{refl, sym, ap, ◌∙◌, subst, arith, suc-mul, length-append, length-drop}
use Rattle.std.proofs.lemmas.List.{take-append-le, drop-append-le, take-map, drop-map, length-map, get_or_append_left, get_or_push, length_push, take_all}
use Rattle.std.proofs.Math.Seq.{drop-append-add}
use mathlib.Core.Logic.{dite}
use native.Mathlib.Decide.{ℕ_discrete}
use Rattle.fv_graph.specs.inner.Lists.{HasPart, AreFirst, AreLists, again}

part_grows : (xs ys zs : List ℕ) (a b : ℕ) → HasPart xs a b zs → HasPart (xs ++ ys) a b zs
part_grows xs ys zs a b h = record {
  rises = h.rises;
  within = let l = length-append xs ys in let w = h.within in omega arith;
  is = ap (take (b - a)) (drop-append-le a xs ys (let r = h.rises in let w = h.within in omega arith))
      ∙ take-append-le (b - a) (drop a xs) ys (let d = length-drop a xs in let r = h.rises in let w = h.within in omega arith) ∙ h.is;
}

part_after : (xs ys zs : List ℕ) (a b : ℕ) → HasPart ys a b zs → HasPart (xs ++ ys) (length xs + a) (length xs + b) zs
part_after xs ys zs a b h = record {
  rises = let r = h.rises in omega arith;
  within = let l = length-append xs ys in let w = h.within in omega arith;
  is = let e : (length xs + b) - (length xs + a) ≡ b - a = omega arith in
      ap (λ n. take n (drop (length xs + a) (xs ++ ys))) e ∙ ap (take (b - a)) (drop-append-add xs ys a) ∙ h.is;
}

part_all : (xs : List ℕ) → HasPart xs 0 (length xs) xs
part_all xs = record { rises = omega arith; within = omega arith; is = take_all (length xs - 0) xs (omega arith) }

part_mapped : (f : ℕ → ℕ) (xs zs : List ℕ) (a b : ℕ) → HasPart xs a b zs → HasPart (map f xs) a b (map f zs)
part_mapped f xs zs a b h = record {
  rises = h.rises;
  within = let l = length-map xs f in let w = h.within in omega arith;
  is = ap (take (b - a)) (drop-map f a xs) ∙ take-map f (b - a) (drop a xs) ∙ ap (map f) h.is;
}

part_at : (xs zs : List ℕ) (a b c d : ℕ) → HasPart xs a b zs → a ≡ c → b ≡ d → HasPart xs c d zs
part_at xs zs a b c d h e f = subst (λ (p : ℕ × ℕ). HasPart xs p.0 p.1 zs) (λ i. (e i, f i)) h

-- one list more
module _ (list : ℕ → List ℕ) (n : ℕ) (begins edges more : List ℕ) (h : AreFirst list n begins edges) (is : more ≡ list n) where
  abbrev all : List ℕ
  all = begins ++ length (edges ++ more) ∷ []

  old : (k : ℕ) → k < n + 1 → get_or all k 0 ≡ get_or begins k 0
  old k l = get_or_append_left begins (length (edges ++ more) ∷ []) 0 k (let g = h.long in omega arith)

  last : get_or all (n + 1) 0 ≡ length (edges ++ more)
  last = get_or_push begins (length (edges ++ more)) 0 (n + 1) h.long

  pub first_next : AreFirst list (n + 1) (begins ++ length (edges ++ more) ∷ []) (edges ++ more)
  first_next = record {
    long = length_push begins (length (edges ++ more)) ∙ ap (λ k. k + 1) h.long;
    end = last;
    each = λ j l. dite (ℕ_discrete j n)
        (λ e. subst (HasPart (edges ++ more) (get_or all j 0) (get_or all (j + 1) 0)) (is ∙ ap list (sym e))
        (part_at (edges ++ more) more (length edges + 0) (length edges + length more) (get_or all j 0) (get_or all (j + 1) 0)
        (part_after edges more more 0 (length more) (part_all more))
        (let o = old j (omega arith) in let q = h.end in let p : get_or begins j 0 ≡ get_or begins n 0 = ap (λ k. get_or begins k 0) e in omega arith)
        (let o : get_or all (j + 1) 0 ≡ get_or all (n + 1) 0 = ap (λ k. get_or all (k + 1) 0) e in
        let p = last in let a = length-append edges more in omega arith)))
        (λ ne. part_at (edges ++ more) (list j) (get_or begins j 0) (get_or begins (j + 1) 0) (get_or all j 0) (get_or all (j + 1) 0)
        (part_grows edges more (list j) (get_or begins j 0) (get_or begins (j + 1) 0) (h.each j (omega arith)))
        (sym (old j (omega arith))) (sym (old (j + 1) (omega arith))));
  }

-- ---- vector after vector
length_again : (first : List ℕ) (s n : ℕ) → length (again first s n) ≡ n * length first
length_again first s zero = omega arith
length_again first s (suc n) =
    let r = length_again first s n in let a = length-append (again first s n) (map (λ e. n * s + e) first) in
    let m = length-map first (λ e. n * s + e) in let p = suc-mul n (length first) in omega arith

again_part : (first zs : List ℕ) (s a b : ℕ) → HasPart first a b zs → (n v : ℕ) → v < n
    → HasPart (again first s n) (v * length first + a) (v * length first + b) (map (λ e. v * s + e) zs)
again_part first zs s a b h zero v l = absurd (omega arith)
again_part first zs s a b h (suc n) v l = dite (ℕ_discrete v n)
    (λ e. subst (λ k. HasPart (again first s (suc n)) (k * length first + a) (k * length first + b) (map (λ e. k * s + e) zs)) (sym e)
    (let g = length_again first s n in part_at (again first s (suc n)) (map (λ e. n * s + e) zs) (length (again first s n) + a)
    (length (again first s n) + b) (n * length first + a) (n * length first + b)
    (part_after (again first s n) (map (λ e. n * s + e) first) (map (λ e. n * s + e) zs) a b (part_mapped (λ e. n * s + e) first zs a b h))
    (omega arith) (omega arith)))
    (λ ne. part_grows (again first s n) (map (λ e. n * s + e) first) (map (λ e. v * s + e) zs) (v * length first + a) (v * length first + b)
    (again_part first zs s a b h n v (omega arith)))

pub again_one : (first : List ℕ) (s : ℕ) → again first s 1 ≡ first
again_one [] s = refl
again_one (x ∷ xs) s = let e : 0 * s + x ≡ x = omega arith in ap (λ (p : ℕ × List ℕ). p.0 ∷ p.1) (λ i. (e i, again_one xs s i))

pub again_long : (first : List ℕ) (s n : ℕ) → 0 < n → length first ≤ length (again first s n)
again_long first s zero h = absurd (omega arith)
again_long first s (suc n) h = let g = length_again first s (suc n) in let p = suc-mul n (length first) in omega arith

pub take_again : (first : List ℕ) (s n : ℕ) → 0 < n → take (length first) (again first s n) ≡ first
take_again first s zero h = absurd (omega arith)
take_again first s (suc zero) h = ap (take (length first)) (again_one first s) ∙ take_all (length first) first (omega arith)
take_again first s (suc (suc n)) h =
    take-append-le (length first) (again first s (suc n)) (map (λ e. suc n * s + e) first) (again_long first s (suc n) (omega arith))
    ∙ take_again first s (suc n) (omega arith)

pub lists_made : (list : ℕ → List ℕ) (loops m s : ℕ) (begins first : List ℕ) → AreFirst list loops begins first
    → AreLists (λ v j. map (λ e. v * s + e) (list j)) m loops (length first) begins (again first s m)
lists_made list loops m s begins first h = record {
  long = h.long;
  each = λ v j l k. again_part first (list j) s (get_or begins j 0) (get_or begins (j + 1) 0) (h.each j k) m v l;
}
