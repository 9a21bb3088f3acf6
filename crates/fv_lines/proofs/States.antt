-- The states, while lanes end from the last one on.
use Rattle.std.proofs.Common.{◌≡◌, ◌≢◌, ℕ, ◌+◌, ◌<◌, ◌≤◌, List, [], ◌∷◌, ◌++◌, length, map, set, get_or, refl, sym, ap, ◌∙◌, subst, arith, inl, inr}
use Rattle.std.proofs.lemmas.Bool.{cases_lt}
use Rattle.std.proofs.lemmas.List.{length-append, length-map, length-set, map-set, get_or_append_left, get_or-set_other, get_or-set_same}
use Rattle.std.proofs.Math.Seq.{get_or-append_seam}
use Rattle.fv_lines.specs.Solo.{start_at}
use Rattle.fv_lines.specs.declared.shape.LaneState.{LaneState}
use Rattle.fv_lines.specs.declared.writer.LaneWriter.{LaneWriter}

start_set : (states : List LaneState) (n : ℕ) (s : LaneState) → n < length states → start_at (set states n s) n ≡ s.start
start_set states n s l =
    ap (λ (xs : List ℕ). get_or xs n 0) (map-set (λ (x : LaneState). x.start) states n s)
    ∙ get_or-set_same (map (λ (x : LaneState). x.start) states) n s.start 0 (omega (arith, length-map states (λ (x : LaneState). x.start)))

start_kept : (states : List LaneState) (n i : ℕ) (s : LaneState) → i ≢ n → start_at (set states n s) i ≡ start_at states i
start_kept states n i s ne =
    ap (λ (xs : List ℕ). get_or xs i 0) (map-set (λ (x : LaneState). x.start) states n s)
    ∙ get_or-set_other (map (λ (x : LaneState). x.start) states) n i s.start 0 ne

-- The first of all lanes are left, and the states of the others have what is to hold of them.
pub record AreLeft (P : LaneWriter → ℕ → Type 0) (all left : List LaneWriter) (states : List LaneState) : Type 0 where
  pub count : length states ≡ length all
  pub fewer : length left ≤ length all
  pub same : (i : ℕ) (d : LaneWriter) → i < length left → get_or left i d ≡ get_or all i d
  pub ended : (i : ℕ) (d : LaneWriter) → length left ≤ i → i < length all → P (get_or all i d) (start_at states i)

module _ (P : LaneWriter → ℕ → Type 0) (all : List LaneWriter) where
  pub all_left : (states : List LaneState) → length states ≡ length all → AreLeft P all all states
  all_left states count = record { count = count; fewer = omega arith; same = λ i d l. refl; ended = λ i d l m. absurd (omega arith) }

  -- one lane fewer
  pub one_fewer : (left : List LaneWriter) (w : LaneWriter) (states : List LaneState) (n : ℕ) (s : LaneState) → n ≡ length left
      → AreLeft P all (left ++ w ∷ []) states → P w s.start → AreLeft P all left (set states n s)
  one_fewer left w states n s at h is =
      let long : length (left ++ w ∷ []) ≡ length left + 1 = length-append left (w ∷ []) in
      record {
        count = length-set states n s ∙ h.count;
        fewer = let f = h.fewer in omega arith;
        same = λ i d l. sym (get_or_append_left left (w ∷ []) d i l) ∙ h.same i d (omega arith);
        ended = λ i d l m. elim (cases_lt (length left) i) [
          | inl above ↦ subst (P (get_or all i d)) (sym (start_kept states n i s (λ e. omega arith))) (h.ended i d (omega arith) m)
          | inr low ↦
              let e : i ≡ n = omega arith in
              let w_is : get_or all i d ≡ w = sym (h.same i d (omega arith)) ∙ ap (λ (k : ℕ). get_or (left ++ w ∷ []) k d) (e ∙ at)
              ∙ get_or-append_seam left w [] d in
              subst (λ (x : LaneWriter). P x (start_at (set states n s) i)) (sym w_is)
              (subst (P w) (sym (ap (start_at (set states n s)) e ∙ start_set states n s (let c = h.count in let f = h.fewer in omega arith))) is)
        ];
      }

  -- what holds of all lanes holds of the last that is left
  pub last_left : (Q : LaneWriter → Type 0) (left : List LaneWriter) (w : LaneWriter) (states : List LaneState) → AreLeft P all (left ++ w ∷ []) states
      → ((i : ℕ) (d : LaneWriter) → i < length all → Q (get_or all i d)) → Q w
  last_left Q left w states h all_have =
      let long : length (left ++ w ∷ []) ≡ length left + 1 = length-append left (w ∷ []) in
      subst Q (sym (h.same (length left) w (omega arith)) ∙ get_or-append_seam left w [] w) (all_have (length left) w (let f = h.fewer in omega arith))
