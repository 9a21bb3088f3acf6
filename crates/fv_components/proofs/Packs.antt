-- Rows that lie one after another.
use Rattle.std.proofs.Common.{◌≡◌, ℕ, zero, suc, ◌+◌, ◌-◌, ◌<◌, ◌≤◌, List, [], ◌∷◌, ◌++◌, length, get_or, take, drop, refl, sym, ap, ◌∙◌, arith}
use Rattle.std.specs.Prelude.{slice_range}
use Rattle.std.proofs.lemmas.List.{get_or_read, length-append, length-drop, take-append-le, drop-append-le}
use Rattle.std.proofs.Math.Seq.{drop-append_seam}
use Rattle.std.proofs.lemmas.List.{take_all}
use Rattle.fv_components.specs.Packed.{end_of, cut, AreStarts}
use Rattle.fv_components.specs.Reach.{next_of}

pub length_cut : (starts numbers : List ℕ) → length (cut starts numbers) ≡ length starts
length_cut [] numbers = refl
length_cut (a ∷ bs) numbers = ap suc (length_cut bs numbers)

-- a row, from where it begins to where it ends
cut_row : (starts numbers : List ℕ) (i : ℕ) → i < length starts →
    next_of (cut starts numbers) i ≡ slice_range numbers (get_or starts i 0) (end_of (drop (suc i) starts) (length numbers))
cut_row [] numbers i l = absurd (omega arith)
cut_row (a ∷ bs) numbers zero l = refl
cut_row (a ∷ bs) numbers (suc i) l = cut_row bs numbers i (omega arith)

-- the rows are as many as their beginnings
pub starts_of : (starts numbers : List ℕ) (rows : List (List ℕ)) (i : ℕ) → cut starts numbers ≡ rows → i < length rows → i < length starts
starts_of starts numbers rows i e l = omega (arith, l, ap length e, length_cut starts numbers)

-- it ends inside
ends_inside : (starts : List ℕ) (all : ℕ) → AreStarts starts all → end_of starts all ≤ all
ends_inside [] all s = omega arith
ends_inside (b ∷ bs) all s = let h = ends_inside bs all s.1 in omega (arith, s.0)

starts_from : (starts : List ℕ) (all i : ℕ) → AreStarts starts all → AreStarts (drop i starts) all
starts_from [] all zero s = s
starts_from [] all (suc i) s = s
starts_from (a ∷ bs) all zero s = s
starts_from (a ∷ bs) all (suc i) s = starts_from bs all i s.1

begins_before : (starts : List ℕ) (all i : ℕ) → i < length starts → AreStarts starts all →
    get_or starts i 0 ≤ end_of (drop (suc i) starts) all
begins_before [] all i l s = absurd (omega arith)
begins_before (a ∷ bs) all zero l s = s.0
begins_before (a ∷ bs) all (suc i) l s = begins_before bs all i (omega arith) s.1

-- a row that is read from its beginning to its end
pub record IsRow (starts numbers : List ℕ) (i start end : ℕ) : Type 0 where
  pub rises : start ≤ end
  pub inside : end ≤ length numbers
  pub is : slice_range numbers start end ≡ next_of (cut starts numbers) i

pub row_read : (starts numbers : List ℕ) (i start end : ℕ) → AreStarts starts (length numbers) → i < length starts → start ≡ get_or starts i start →
    end ≡ end_of (drop (i + 1) starts) (length numbers) → IsRow starts numbers i start end
row_read starts numbers i start end s l is ends =
    let n = length numbers in
    let e : start ≡ get_or starts i 0 = get_or_read starts i start l is 0 in
    let z : i + 1 ≡ suc i = omega arith in
    let f : end ≡ end_of (drop (suc i) starts) n = ends ∙ ap (λ k. end_of (drop k starts) n) z in
    record {
      rises = omega (arith, e, f, begins_before starts n i l s);
      inside = omega (arith, f, ends_inside (drop (suc i) starts) n (starts_from starts n (suc i) s));
      is = ap (λ a. slice_range numbers a end) e ∙ ap (slice_range numbers (get_or starts i 0)) f ∙ sym (cut_row starts numbers i l);
    }

-- ---- one row more

end_more : (starts : List ℕ) (n m : ℕ) → end_of (starts ++ n ∷ []) m ≡ end_of starts n
end_more [] n m = refl
end_more (b ∷ bs) n m = refl

pub starts_more : (starts : List ℕ) (n m : ℕ) → n ≤ m → AreStarts starts n → AreStarts (starts ++ n ∷ []) m
starts_more [] n m l s = (l, tt)
starts_more (a ∷ bs) n m l s = (omega (arith, s.0, end_more bs n m), starts_more bs n m l s.1)

-- a row inside stays under more numbers
range_stays : (xs ys : List ℕ) (a e : ℕ) → a ≤ e → e ≤ length xs → slice_range (xs ++ ys) a e ≡ slice_range xs a e
range_stays xs ys a e l m =
    ap (take (e - a)) (drop-append-le a xs ys (omega arith)) ∙ take-append-le (e - a) (drop a xs) ys (omega (arith, length-drop a xs))

pub cut_more : (starts numbers row : List ℕ) → AreStarts starts (length numbers) →
    cut (starts ++ length numbers ∷ []) (numbers ++ row) ≡ cut starts numbers ++ row ∷ []
cut_more [] numbers row s =
    ap (λ xs. xs ∷ []) (ap (take (length (numbers ++ row) - length numbers)) (drop-append_seam numbers row)
    ∙ take_all (length (numbers ++ row) - length numbers) row (omega (arith, length-append numbers row)))
cut_more (a ∷ bs) numbers row s =
    let n = length numbers in
    let e : end_of (bs ++ n ∷ []) (length (numbers ++ row)) ≡ end_of bs n = end_more bs n (length (numbers ++ row)) in
    ap (λ k. slice_range (numbers ++ row) a k ∷ cut (bs ++ n ∷ []) (numbers ++ row)) e
    ∙ ap (λ xs. xs ∷ cut (bs ++ n ∷ []) (numbers ++ row)) (range_stays numbers row a (end_of bs n) s.0 (ends_inside bs n s.1))
    ∙ ap (λ xss. slice_range numbers a (end_of bs n) ∷ xss) (cut_more bs numbers row s.1)
