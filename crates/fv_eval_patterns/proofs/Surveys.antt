-- Rows that tell which nodes of the text may match diagrams.
use Rattle.std.proofs.Common.{◌≡◌, ◌⊎◌, inl, inr, ℕ, ◌+◌, ◌<◌, ◌≤◌, arith, Bool, true, false, List, []}
use Rattle.std.proofs.Common.{◌∷◌, ◌++◌, length, get_or, Option, Some, None, set, refl, sym, ap, subst, ◌∙◌}
use Rattle.std.specs.Prelude.{slice_get}
use Rattle.std.proofs.lemmas.List.{get_or_append_left, get_or_past, get_or_push, length-append, length-set, get_or-set_same, get_or-set_other}
use Rattle.std.proofs.lemmas.Option.{none-some, same_Some, slice_get_within, slice_get_read, get_or_from_slice_get}
use Rattle.std.proofs.lemmas.Bool.{false≢true, cases_eq, cases_lt}
use Rattle.fv_parse.specs.Trees.{Parsed, size_of}
use Rattle.fv_parse_grammar.specs.headline.Tree as tree
use Rattle.fv_diagram.specs.headline.Diagram.{Diagram}
use Rattle.fv_diagram.specs.Arena.{Arena, count_of, tree_of}
use Rattle.fv_rules.specs.headline.Values.{Flat}
use Rattle.fv_rules.specs.headline.Matching.{matched}
use Rattle.fv_parse.specs.Arena.{trees}
use Rattle.fv_parse_tree.proofs.lemmas.Arenas.{length_trees}
use Rattle.fv_eval_patterns.specs.Bits.{has}
use Rattle.fv_eval_patterns.proofs.BitSets.{none_has}
use Rattle.fv_eval_patterns.specs.declared.shapes.Shape.{Shape}
use Rattle.fv_eval_patterns.specs.declared.shapes.Shape.TheVariants.{Number, Plain, Composed}
use Rattle.fv_eval_patterns.specs.declared.survey.ShapeRow.{ShapeRow}
use Rattle.fv_eval_patterns.specs.Surveyed.{Surveyed}
use Rattle.fv_eval_patterns.specs.Shapes.{Denies, IsRowed, IsShape, IsShapeRow, IsSurvey, HasNoOther, IsSeen, Never, Within, marked}

-- ---- where diagrams were added

pub survey_grow : (p : Parsed) (a b : Arena) → count_of a ≤ count_of b → ((i : ℕ) → i < count_of a → tree_of b i ≡ tree_of a i) → (s : Surveyed)
    → IsSurvey p a s → IsSurvey p b s
survey_grow p a b longer same s h = record {
  steps = h.steps;
  diagrams = λ i r e.
      let old = h.diagrams i r e in
      let l = old.diagram in
      record { diagram = omega (arith, l, longer); there = old.there; tells = subst (Denies p s.rows r) (sym (same i l)) old.tells };
}

-- ---- where rows were added

marked_before : (rows more : List (List ℕ)) (r x : ℕ) → r < length rows → marked (rows ++ more) r x ≡ marked rows r x
marked_before rows more r x l = ap (λ w. has w x) (get_or_append_left rows more [] r l)

denies_more : (p : Parsed) (rows more : List (List ℕ)) (r : ℕ) (d : Diagram) → r < length rows → Denies p rows r d → Denies p (rows ++ more) r d
denies_more p rows more r d l h x e = h x (sym (marked_before rows more r x l) ∙ e)

denies_less : (p : Parsed) (rows more : List (List ℕ)) (r : ℕ) (d : Diagram) → r < length rows → Denies p (rows ++ more) r d → Denies p rows r d
denies_less p rows more r d l h x e = h x (marked_before rows more r x l ∙ e)

-- a shape whose rows were there is what it was
pub shape_less : (p : Parsed) (rows more : List (List ℕ)) (s : Shape) (d : Diagram) → Within (length rows) s → IsShape p (rows ++ more) s d
    → IsShape p rows s d
shape_less p rows more (Number n) d w h = h
shape_less p rows more Plain d w h = h
shape_less p rows more (Composed o l r) d w h = record {
  unnumbered = h.unnumbered;
  left = h.left;
  right = h.right;
  is = h.is;
  tells_left = denies_less p rows more l h.left w.0 h.tells_left;
  tells_right = denies_less p rows more r h.right w.1 h.tells_right;
}

pub within_more : (rows more : List (List ℕ)) (s : Shape) → Within (length rows) s → Within (length (rows ++ more)) s
within_more rows more (Number n) w = w
within_more rows more Plain w = w
within_more rows more (Composed o l r) w =
    let e = length-append rows more in let wl = w.0 in let wr = w.1 in (omega (arith, e, wl), omega (arith, e, wr))

step_more : (p : Parsed) (rows more : List (List ℕ)) (f : ShapeRow) → IsShapeRow p rows f → IsShapeRow p (rows ++ more) f
step_more p rows more f h =
    let e = length-append rows more in
    let l = h.there in
    record {
      within = within_more rows more f.shape h.within;
      there = omega (arith, e, l);
      tells = λ d s. denies_more p rows more f.row d l (h.tells d (shape_less p rows more f.shape d h.within s));
    }

pub survey_more : (p : Parsed) (a : Arena) (s : Surveyed) (rows more : List (List ℕ)) → rows ≡ s.rows ++ more → IsSurvey p a s
    → IsSurvey p a (record s { rows = rows })
survey_more p a s rows more e h =
    subst (λ (us : List (List ℕ)). IsSurvey p a (record s { rows = us })) (sym e) (record {
      steps = λ i f g. step_more p s.rows more f (h.steps i f g);
      diagrams = λ i r g.
          let old = h.diagrams i r g in
          let n = length-append s.rows more in
          let l = old.there in
          record { diagram = old.diagram; there = omega (arith, n, l); tells = denies_more p s.rows more r (tree_of a i) l old.tells };
    })

-- ---- a new row

-- what is not in a larger set was not in the smaller one
pub was_out : (old new : List ℕ) (x : ℕ) → ((j : ℕ) → has old j ≡ true → has new j ≡ true) → has new x ≡ false → has old x ≡ false
was_out old new x keeps e = go (has old x) refl
  where
    go : (b : Bool) → has old x ≡ b → b ≡ false
    go false f = refl
    go true f = absurd (false≢true (sym e ∙ keeps x f))

-- what a row says as far as it is made
abbrev pub IsRowTo : Parsed → List (List ℕ) → Shape → ℕ → List ℕ → Type 0
IsRowTo p rows s n row = (x : ℕ) → x < n → has row x ≡ false → (d : Diagram) → IsShape p rows s d → Never p x d

-- a node that may match
pub row_with : (p : Parsed) (rows : List (List ℕ)) (s : Shape) (i : ℕ) (old new : List ℕ) → ((j : ℕ) → has old j ≡ true → has new j ≡ true)
    → has new i ≡ true → IsRowTo p rows s i old → IsRowTo p rows s (i + 1) new
row_with p rows s i old new keeps added h x l e = go (cases_lt x i)
  where
    go : (x < i) ⊎ (i ≤ x) → (d : Diagram) → IsShape p rows s d → Never p x d
    go (inl m) = h x m (was_out old new x keeps e)
    go (inr g) =
        let same : i ≡ x = omega (arith, l, g) in
        absurd (false≢true (sym e ∙ subst (λ j. has new j ≡ true) same added))

-- a node that does not
pub row_without : (p : Parsed) (rows : List (List ℕ)) (s : Shape) (i : ℕ) (row : List ℕ) → ((d : Diagram) → IsShape p rows s d → Never p i d)
    → IsRowTo p rows s i row → IsRowTo p rows s (i + 1) row
row_without p rows s i row never h x l e = go (cases_lt x i)
  where
    go : (x < i) ⊎ (i ≤ x) → (d : Diagram) → IsShape p rows s d → Never p x d
    go (inl m) = h x m e
    go (inr g) =
        let same : i ≡ x = omega (arith, l, g) in subst (λ j. (d : Diagram) → IsShape p rows s d → Never p j d) same never

-- there is no node after the last one
never_past : (p : Parsed) (x : ℕ) (d : Diagram) → size_of p ≤ x → Never p x d
never_past p x d l bs =
    let n = length_trees p.entries in
    ap (λ t. matched p.tokens t (Flat d) bs) (get_or_past (trees p.entries) x tree.End (omega (arith, n, l)))

pub whole_row : (p : Parsed) (rows : List (List ℕ)) (s : Shape) (n : ℕ) (row : List ℕ) → size_of p ≤ n → IsRowTo p rows s n row → (x : ℕ)
    → has row x ≡ false → (d : Diagram) → IsShape p rows s d → Never p x d
whole_row p rows s n row all h x e d is = go (cases_lt x n)
  where
    go : (x < n) ⊎ (n ≤ x) → Never p x d
    go (inl l) = h x l e d is
    go (inr g) = never_past p x d (omega (arith, all, g))

-- no row has what follows the last one
pub marked_past : (rows : List (List ℕ)) (r x : ℕ) → length rows ≤ r → false ≡ marked rows r x
marked_past rows r x l = sym (ap (λ w. has w x) (get_or_past rows r [] l) ∙ none_has x)

-- a row that is among the rows now tells of a shape
pub new_step : (p : Parsed) (rows now more : List (List ℕ)) (s : Shape) (made : List ℕ) (r : ℕ) → now ≡ rows ++ more → Within (length rows) s
    → (r < length now) × (get_or now r [] ≡ made) → ((x : ℕ) → has made x ≡ false → (d : Diagram) → IsShape p rows s d → Never p x d)
    → IsShapeRow p now (record { shape = s; row = r })
new_step p rows now more s made r e within is never = record {
  within = subst (λ (us : List (List ℕ)). Within (length us) s) (sym e) (within_more rows more s within);
  there = is.0;
  tells = λ d h x out.
      never x (ap (λ w. has w x) (sym is.1) ∙ out) d
      (shape_less p rows more s d within (subst (λ (us : List (List ℕ)). IsShape p us s d) e h));
}

shape_more : (p : Parsed) (rows more : List (List ℕ)) (s : Shape) (d : Diagram) → Within (length rows) s → IsShape p rows s d
    → IsShape p (rows ++ more) s d
shape_more p rows more (Number n) d w h = h
shape_more p rows more Plain d w h = h
shape_more p rows more (Composed o l r) d w h = record {
  unnumbered = h.unnumbered;
  left = h.left;
  right = h.right;
  is = h.is;
  tells_left = denies_more p rows more l h.left w.0 h.tells_left;
  tells_right = denies_more p rows more r h.right w.1 h.tells_right;
}

-- the row of a shape tells of a diagram that has it
pub step_rows : (p : Parsed) (a : Arena) (rows now more : List (List ℕ)) (i : ℕ) (s : Shape) (r : ℕ) → now ≡ rows ++ more → IsSeen p a rows i s
    → IsShapeRow p now (record { shape = s; row = r }) → IsRowed p a now i r
step_rows p a rows now more i s r e seen step = record {
  diagram = seen.diagram;
  there = step.there;
  tells =
      step.tells (tree_of a i)
      (subst (λ (us : List (List ℕ)). IsShape p us s (tree_of a i)) (sym e) (shape_more p rows more s (tree_of a i) seen.within seen.is));
}

-- ---- lists of options

pub other_none : {A : Type 0} (xs : List (Option A)) (j : ℕ) (y : A) → slice_get (xs ++ None ∷ []) j ≡ Some (Some y) → slice_get xs j ≡ Some (Some y)
other_none {A} xs j y e = go (cases_lt j (length xs))
  where
    within : j < length xs + 1
    within = omega (arith, slice_get_within (xs ++ None ∷ []) j (Some y) e, length-append xs (None ∷ []))

    at : Some y ≡ get_or (xs ++ None ∷ []) j (Some y)
    at = sym (get_or_from_slice_get (xs ++ None ∷ []) j (Some y) (Some y) e)

    go : (j < length xs) ⊎ (length xs ≤ j) → slice_get xs j ≡ Some (Some y)
    go (inl l) = slice_get_read xs (length xs) j (Some y) refl l (at ∙ get_or_append_left xs (None ∷ []) (Some y) j l)
    go (inr g) =
        let is : Some y ≡ None = at ∙ get_or_push xs None (Some y) j (omega (arith, g, within)) in
        absurd (none-some y (sym is))

pub put_there : {A : Type 0} (old xs : List (Option A)) (i : ℕ) (x : A) → i < length xs
    → ((j : ℕ) (y : A) → slice_get xs j ≡ Some (Some y) → slice_get old j ≡ Some (Some y)) → HasNoOther old (set xs i (Some x)) i x
put_there {A} old xs i x l h j y e = go (cases_eq j i)
  where
    within : j < length xs
    within = omega (arith, slice_get_within (set xs i (Some x)) j (Some y) e, length-set xs i (Some x))

    at : Some y ≡ get_or (set xs i (Some x)) j (Some y)
    at = sym (get_or_from_slice_get (set xs i (Some x)) j (Some y) (Some y) e)

    go : (j ≡ i) ⊎ (j ≡ i → ⊥) → (slice_get old j ≡ Some (Some y)) ⊎ ((j ≡ i) × (y ≡ x))
    go (inl same) =
        let is : Some y ≡ Some x = at ∙ ap (λ k. get_or (set xs i (Some x)) k (Some y)) same ∙ get_or-set_same xs i (Some x) (Some y) l in
        inr (same, same_Some y x is)
    go (inr apart) =
        inl (h j y (slice_get_read xs (length xs) j (Some y) refl within (at ∙ get_or-set_other xs i j (Some x) (Some y) apart)))

pub steps_put : (p : Parsed) (a : Arena) (rows : List (List ℕ)) (ds : List (Option ℕ)) (old new : List (Option ShapeRow)) (i : ℕ) (f : ShapeRow)
    → HasNoOther old new i f → IsSurvey p a (record { rows = rows; steps = old; diagrams = ds }) → IsShapeRow p rows f
    → IsSurvey p a (record { rows = rows; steps = new; diagrams = ds })
steps_put p a rows ds old new i f put h is = record {
  steps = λ j g e. go j g (put j g e);
  diagrams = h.diagrams;
}
  where
    go : (j : ℕ) (g : ShapeRow) → (slice_get old j ≡ Some (Some g)) ⊎ ((j ≡ i) × (g ≡ f)) → IsShapeRow p rows g
    go j g (inl e) = h.steps j g e
    go j g (inr e) = subst (IsShapeRow p rows) (sym e.1) is

pub diagrams_put : (p : Parsed) (a : Arena) (rows : List (List ℕ)) (fs : List (Option ShapeRow)) (old new : List (Option ℕ)) (i r : ℕ)
    → HasNoOther old new i r → IsSurvey p a (record { rows = rows; steps = fs; diagrams = old }) → IsRowed p a rows i r
    → IsSurvey p a (record { rows = rows; steps = fs; diagrams = new })
diagrams_put p a rows fs old new i r put h is = record {
  steps = h.steps;
  diagrams = λ j q e. go j q (put j q e);
}
  where
    go : (j q : ℕ) → (slice_get old j ≡ Some (Some q)) ⊎ ((j ≡ i) × (q ≡ r)) → IsRowed p a rows j q
    go j q (inl e) = h.diagrams j q e
    go j q (inr e) = subst (λ k. IsRowed p a rows k q) (sym e.0) (subst (λ k. IsRowed p a rows i k) (sym e.1) is)
