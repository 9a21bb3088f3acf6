-- The outputs of the parts of a diagram, and the first parts that have a wanted number of outputs.
use Rattle.std.proofs.Common.{◌≡◌, ◌⊎◌, ◌≤◌, ◌<◌, ℕ, zero, suc, ◌+◌, ◌-◌, List, [], ◌∷◌, ◌++◌, length, take, refl, sym, ap, ◌∙◌, subst, arith, inl, inr}
use Rattle.fv_diagram.specs.headline.Diagram.{Diagram, Primitive, Constant, Control, Slot, Wave, Table, Bind, Par, Seq, Split, Merge, Rec, outputs}
use Rattle.fv_diagram_numbers.specs.headline.Heads.{all_outputs, cut, parts}
use Rattle.fv_diagram_numbers.specs.HeadLaws.{IsCut, CutsAreFewest}

outputs_append : (ds es : List Diagram) → all_outputs (ds ++ es) ≡ all_outputs ds + all_outputs es
outputs_append [] es = omega arith
outputs_append (d ∷ ds) es = omega (arith, outputs_append ds es)

-- the parts of a diagram have its outputs
pub parts_outputs : (d : Diagram) → all_outputs (parts d) ≡ outputs d
parts_outputs (Par a b) = outputs_append (parts a) (parts b) ∙ omega (arith, parts_outputs a, parts_outputs b)
parts_outputs (Primitive p) = omega arith
parts_outputs (Constant n) = omega arith
parts_outputs (Control k) = omega arith
parts_outputs (Slot s) = omega arith
parts_outputs (Wave w) = omega arith
parts_outputs (Table T writes) = omega arith
parts_outputs (Bind s a) = omega arith
parts_outputs (Seq a b) = omega arith
parts_outputs (Split a b) = omega arith
parts_outputs (Merge a b) = omega arith
parts_outputs (Rec a b) = omega arith

-- the first parts and the others have all of them
pub cut_outputs : (n : ℕ) (ds : List Diagram) → all_outputs (cut n ds).0 + all_outputs (cut n ds).1 ≡ all_outputs ds
cut_outputs zero ds = omega arith
cut_outputs (suc n) [] = refl
cut_outputs (suc n) (d ∷ ds) = omega (arith, cut_outputs (suc n - outputs d) ds)

-- ---- the first parts are as few as may be

more_cut : (n : ℕ) (d : Diagram) (ds these rest : List Diagram) → IsCut (suc n - outputs d) ds these rest → IsCut (suc n) (d ∷ ds) (d ∷ these) rest
more_cut n d ds these rest h = record { whole = ap (λ xs. d ∷ xs) h.whole; enough = enough h.enough; fewest = fewest }
  where
    enough : (suc n - outputs d ≤ all_outputs these) ⊎ (rest ≡ []) → (suc n ≤ outputs d + all_outputs these) ⊎ (rest ≡ [])
    enough (inl l) = inl (omega (arith, l))
    enough (inr e) = inr e

    fewest : (i : ℕ) → i < suc (length these) → all_outputs (take i (d ∷ these)) < suc n
    fewest zero l = omega arith
    fewest (suc i) l = let f = h.fewest i (omega (arith, l)) in omega (arith, f)

cut_is : (n : ℕ) (ds : List Diagram) → IsCut n ds (cut n ds).0 (cut n ds).1
cut_is zero ds = record { whole = refl; enough = inl (omega arith); fewest = λ i l. absurd (omega (arith, l)) }
cut_is (suc n) [] = record { whole = refl; enough = inr refl; fewest = λ i l. absurd (omega (arith, l)) }
cut_is (suc n) (d ∷ ds) = let r = cut (suc n - outputs d) ds in more_cut n d ds r.0 r.1 (cut_is (suc n - outputs d) ds)

cut_alone : (n : ℕ) (ds these rest : List Diagram) → IsCut n ds these rest → cut n ds ≡ (these, rest)
cut_alone zero ds [] rest h = ap (λ xs. ([], xs)) h.whole
cut_alone zero ds (e ∷ es) rest h = let f = h.fewest 0 (omega arith) in absurd (omega (arith, f))
cut_alone (suc n) [] [] rest h = ap (λ xs. ([], xs)) h.whole
cut_alone (suc n) [] (e ∷ es) rest h = let w = h.whole in absurd cc
cut_alone (suc n) (d ∷ ds) [] rest h = none h.enough
  where
    none : (suc n ≤ 0) ⊎ (rest ≡ []) → cut (suc n) (d ∷ ds) ≡ ([], rest)
    none (inl l) = absurd (omega (arith, l))
    none (inr e) = let w = h.whole ∙ e in absurd cc
cut_alone (suc n) (d ∷ ds) (e ∷ es) rest h =
    let w = h.whole in
    let first : d ≡ e = cc in
    let others : ds ≡ es ++ rest = cc in
    let one : outputs d ≡ outputs e = ap outputs first in
    let r : cut (suc n - outputs d) ds ≡ (es, rest) = cut_alone (suc n - outputs d) ds es rest (record {
      whole = others;
      enough = enough one h.enough;
      fewest = λ i l. let f = h.fewest (suc i) (omega (arith, l)) in omega (arith, f, one);
    }) in
    ap (λ (q : List Diagram × List Diagram). (d ∷ q.0, q.1)) r ∙ ap (λ x. (x ∷ es, rest)) first
  where
    enough : outputs d ≡ outputs e → (suc n ≤ outputs e + all_outputs es) ⊎ (rest ≡ []) → (suc n - outputs d ≤ all_outputs es) ⊎ (rest ≡ [])
    enough o (inl l) = inl (omega (arith, l, o))
    enough o (inr q) = inr q

pub cuts_are_fewest : CutsAreFewest
cuts_are_fewest n ds these rest = (
  λ e. subst (λ (q : List Diagram × List Diagram). IsCut n ds q.0 q.1) e (cut_is n ds),
  cut_alone n ds these rest,
)
