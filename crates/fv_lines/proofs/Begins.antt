-- One lane more begins.
use Rattle.std.proofs.Common.{◌≡◌, ℕ, zero, suc, ◌+◌, ◌<◌, List, [], ◌∷◌, ◌++◌, length}
use Rattle.std.proofs.Common.{sum, take, drop, get_or, refl, sym, ap, ap₂, ◌∙◌, subst, arith, ℤ, inl, inr}
use Rattle.std.specs.Prelude.{slice_index}
use Rattle.std.proofs.lemmas.Bool.{cases_lt}
use Rattle.std.proofs.lemmas.List.{length-append, length-map, get_or-map, get_or_append_left, drop-drop}
use Rattle.std.proofs.Math.Seq.{get_or-append_seam}
use Rattle.fv_pool.specs.Layout.{part}
use Rattle.fv_lines.specs.Solo.{start_at}
use Rattle.fv_lines.proofs.lemmas.Parts.{place_more}
use Rattle.fv_lines.specs.declared.shape.LaneShape.{LaneShape}
use Rattle.fv_lines.specs.declared.shape.LaneState.{LaneState}
use Rattle.fv_lines.specs.declared.writer.LaneWriter.{LaneWriter}
use Rattle.fv_lines.specs.Cut.{lengths_by, MayBegin, IsBegun, AreBegun}

pub get_any : {X : Type 0} (xs : List X) (i : ℕ) (d e : X) → i < length xs → get_or xs i d ≡ get_or xs i e
get_any [] i d e h = absurd (omega arith)
get_any (x ∷ xs) zero d e h = refl
get_any (x ∷ xs) (suc i) d e h = get_any xs i d e (omega arith)

module _ (shapes : List LaneShape) (states : List LaneState) (frames : ℕ) (cells : List ℤ) (may : MayBegin shapes states frames cells)
    (i : ℕ) (x : LaneShape) (s : LaneState) (there : i < length shapes) (x_is : get_or shapes i x ≡ x) (s_is : get_or states i s ≡ s) where
  abbrev lengths : List ℕ
  lengths = lengths_by shapes

  abbrev before : ℕ
  before = sum (take i lengths)

  len_is : slice_index lengths i ≡ x.len
  len_is = get_or-map (λ (z : LaneShape). z.len) shapes i x 0 there ∙ ap (λ (z : LaneShape). z.len) x_is

  start_is : start_at states i ≡ s.start
  start_is = get_or-map (λ (z : LaneState). z.start) states i s 0 (let c = may.count in omega arith) ∙ ap (λ (z : LaneState). z.start) s_is

  -- its part is cut off from what is left
  pub part_is : (left items : List ℤ) (len : ℕ) → len ≡ x.len → left ≡ drop before cells → items ≡ take len left → items ≡ part lengths i cells
  part_is left items len l e is = is ∙ ap₂ (λ (n : ℕ) (ys : List ℤ). take n ys) (l ∙ sym len_is) e

  pub left_next : (left rest : List ℤ) (len : ℕ) → len ≡ x.len → left ≡ drop before cells → rest ≡ drop len left
      → rest ≡ drop (sum (take (i + 1) lengths)) cells
  left_next left rest len l e is =
      let many : i < length lengths = let m = length-map shapes (λ (z : LaneShape). z.len) in omega arith in
      is ∙ ap₂ (λ (n : ℕ) (ys : List ℤ). drop n ys) (l ∙ sym len_is) e ∙ drop-drop (slice_index lengths i) before cells
      ∙ ap (λ (n : ℕ). drop n cells) (sym (place_more lengths i many))

  pub begun_more : (ws : List LaneWriter) (w : LaneWriter) → AreBegun shapes states frames cells i ws → IsBegun x s.start frames (part lengths i cells) w
      → AreBegun shapes states frames cells (i + 1) (ws ++ w ∷ [])
  begun_more ws w h b = record {
    count = let c = h.count in omega (arith, length-append ws (w ∷ []));
    each = λ k d e l. elim (cases_lt k i) [
      | inl low ↦ subst (IsBegun (get_or shapes k d) (start_at states k) frames (part lengths k cells))
          (sym (get_or_append_left ws (w ∷ []) e k (let c = h.count in omega arith))) (h.each k d e low)
      | inr high ↦
          let z : k ≡ i = omega arith in
          let at : get_or (ws ++ w ∷ []) k e ≡ w = ap (λ (n : ℕ). get_or (ws ++ w ∷ []) n e) (z ∙ sym h.count) ∙ get_or-append_seam ws w [] e in
          let shape : get_or shapes k d ≡ x = ap (λ (n : ℕ). get_or shapes n d) z ∙ get_any shapes i d x there ∙ x_is in
          subst (λ (u : LaneWriter). IsBegun (get_or shapes k d) (start_at states k) frames (part lengths k cells) u) (sym at)
          (subst (λ (y : LaneShape). IsBegun y (start_at states k) frames (part lengths k cells) w) (sym shape)
          (subst (λ (n : ℕ). IsBegun x n frames (part lengths k cells) w) (sym start_is ∙ ap (start_at states) (sym z))
          (subst (λ (n : ℕ). IsBegun x s.start frames (part lengths n cells) w) (sym z) b)))
    ];
  }
