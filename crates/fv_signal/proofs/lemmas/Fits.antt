-- The values of a graph have 32 bits.
use Rattle.std.proofs.Common.{◌≡◌, ℕ, zero, suc, ◌-◌, ◌<◌, ◌≤◌, List, [], ◌∷◌, length, take, map, get_or, replicate, All, refl, sym, subst, arith, ℤ, pos}
use Rattle.std.proofs.Common.{negsuc, inl, inr, true, false, if◌then◌else◌, nat_le, nat_eq, FitsSigned, w32}
use Rattle.std.proofs.lemmas.Bool.{cases_lt}
use Rattle.std.proofs.lemmas.Int.{ints}
use Rattle.std.proofs.lemmas.List.Elements.{All-head, All-tail}
use Rattle.std.proofs.lemmas.List.{length-replicate, get_or-replicate}
use Rattle.fv_num.specs.declared.op.Op.{Op}
use Rattle.fv_num.specs.headline.Words.{argument, apply_of, inputs_of}
use Rattle.fv_num.specs.headline.Frames.{Frame, Stream, column, back, carried}
use Rattle.fv_num.specs.headline.Tables.{place, last_written}
use Rattle.fv_num.specs.headline.Interval.{IsWithin, IsSpan, full, point, span_at}
use Rattle.fv_num.proofs.lemmas.Closed.{holds, closed}
use Rattle.fv_signal.specs.declared.signal.Signal.{Signal}
use Rattle.fv_signal.specs.declared.signal.Signal.TheVariants.{Input, Const, Control, Point, Delay, Back, Member, Read, Write}
use Rattle.fv_signal.specs.headline.Value.{Graph, definition, table_of, back_by, signal_at, value, OperandsBelow, NamesWithin, IsOrdered, IsClosed, HaveNumbers}
use Rattle.fv_signal.proofs.lemmas.Values.{values_are_given}

zero_fits : FitsSigned w32 (pos 0)
zero_fits = omega (arith, ints)

pub full_of : (z : ℤ) → FitsSigned w32 z → IsSpan full × IsWithin full z
full_of z f = (
  record { ordered = omega (arith, ints); lo_fits = omega (arith, ints); hi_fits = omega (arith, ints) },
  record { above = omega (arith, ints); below = omega (arith, ints) },
)

back_fits : (x : Stream) (t : ℕ) (d : ℤ) → ((u : ℕ) → u ≤ t → FitsSigned w32 (x u)) → FitsSigned w32 (back x t d)
back_fits x t (pos d) h = elim (nat_le d t) as (λ b. FitsSigned w32 (if b then x (t - d) else pos 0)) [ true ↦ h (t - d) (omega arith) | false ↦ zero_fits ]
back_fits x t (negsuc d) h = zero_fits

-- what was written last, or the table's own number
written_fits : (T : List ℤ) (w x : Stream) (i t : ℕ) → ((j : ℕ) → FitsSigned w32 (argument T j)) → ((u : ℕ) → u ≤ t → FitsSigned w32 (x u))
    → FitsSigned w32 (last_written T w x i t)
written_fits T w x i zero f h = elim (nat_eq (place (length T) (w 0)) i) as (λ b. FitsSigned w32 (if b then x 0 else argument T i))
    [ true ↦ h 0 (omega arith) | false ↦ f i ]
written_fits T w x i (suc t) f h =
    elim (nat_eq (place (length T) (w (suc t))) i) as (λ b. FitsSigned w32 (if b then x (suc t) else last_written T w x i t)) [
      | true ↦ h (suc t) (omega arith)
      | false ↦ written_fits T w x i t f (λ u l. h u (omega arith))
    ]

-- the numbers of a list's items
items_fit : (f : ℕ → ℤ) (n s : ℕ) (ws : List ℕ) (i : ℕ) → All (λ a. a < s) ws → ((a : ℕ) → a < s → FitsSigned w32 (f a)) →
    FitsSigned w32 (argument (take n (map f ws)) i)
items_fit f zero s ws i a h = zero_fits
items_fit f (suc n) s [] i a h = zero_fits
items_fit f (suc n) s (w ∷ ws) zero a h = h w (All-head (λ a. a < s) w ws a)
items_fit f (suc n) s (w ∷ ws) (suc i) a h = items_fit f n s ws i (All-tail (λ a. a < s) w ws a) h

point_fits : (op : Op) (z : List ℤ) → ((i : ℕ) → FitsSigned w32 (argument z i)) → FitsSigned w32 (apply_of op z)
point_fits op z h =
    let n = inputs_of op in
    let I = replicate n full in
    let wide : length I ≡ n = length-replicate n full in
    let at : (i : ℕ) → i < length I → span_at I i ≡ full = λ i l. get_or-replicate n i full (point (pos 0)) (omega (arith, wide)) in
    let spans : (i : ℕ) → i < length I → IsSpan (span_at I i) = λ i l. subst IsSpan (sym (at i l)) (full_of (pos 0) zero_fits).0 in
    let s = closed op I wide spans in
    let w = holds op I wide spans z (λ i l. subst (λ x. IsWithin x (argument z i)) (sym (at i l)) (full_of (argument z i) (h i)).1) in
    omega (arith, ints, s.lo_fits, s.hi_fits, w.above, w.below)

module _ (F : Graph) (ordered : IsOrdered F) (shut : IsClosed F) (X : List Frame) (c : ℕ → Stream) (small : (i t : ℕ) → FitsSigned w32 (column X i t))
    (controls : (k t : ℕ) → FitsSigned w32 (c k t))
    (numbers : (s : ℕ) (n : ℤ) → s < length F.signals → get_or F.signals s (Const (pos 0)) ≡ Const n → FitsSigned w32 n)
    (tables : HaveNumbers F.tables) where
  -- the values before time t have 32 bits
  abbrev FitBefore : ℕ → Type 0
  FitBefore t = (s u : ℕ) → s < length F.signals → u < t → FitsSigned w32 (value F s X c u)

  fit_upto : (t : ℕ) → FitBefore t → (x : ℕ) → x < length F.signals → FitsSigned w32 (value F x X c t) → (u : ℕ) → u ≤ t
      → FitsSigned w32 (value F x X c u)
  fit_upto t b x l now u m = elim (cases_lt u t) [
    | inl k ↦ b x u l k
    | inr k ↦ let f : t ≡ u = omega arith in subst (λ w. FitsSigned w32 (value F x X c w)) f now
  ]

  node_fits : (t s : ℕ) (x : Signal) → s < length F.signals → get_or F.signals s (Const (pos 0)) ≡ x → OperandsBelow F s x → NamesWithin F x → FitBefore t →
      ((r : ℕ) → r < s → FitsSigned w32 (value F r X c t)) → FitsSigned w32 (signal_at F X c (λ r. value F r X c) x t)
  node_fits t s (Input k) l e o n b h = small k t
  node_fits t s (Const z) l e o n b h = numbers s z l e
  node_fits t s (Control k) l e o n b h = controls k t
  node_fits t s (Point op args) l e o n b h =
      point_fits op (take (inputs_of op) (carried (λ r. value F r X c) args t)) (λ i. items_fit (λ r. value F r X c t) (inputs_of op) s args i o h)
  node_fits t s (Delay x d max) l e o n b h =
      back_fits (λ u. value F x X c u) t (pos (back_by max (value F d X c t))) (fit_upto t b x (omega (arith, o.0)) (h x o.0))
  node_fits zero s (Back group k) l e o n b h = zero_fits
  node_fits (suc t) s (Back group k) l e o n b h = b (definition F group k) t n.2 (omega arith)
  node_fits t s (Member group k) l e o n b h = h (definition F group k) o
  node_fits t s (Read table r) l e o n b h = tables table (place (length (table_of F table)) (value F r X c t))
  node_fits t s (Write table w x r) l e o n b h =
      let T = table_of F table in
      written_fits T (λ u. value F w X c u) (λ u. value F x X c u) (place (length T) (value F r X c t)) t (tables table)
      (fit_upto t b x (omega (arith, o.1)) (h x o.1))

  fits_at : (t : ℕ) → FitBefore t → (n s : ℕ) → s < length F.signals → s < n → FitsSigned w32 (value F s X c t)
  fits_at t b zero s l m = absurd (omega arith)
  fits_at t b (suc n) s l m =
      let d = Const (pos 0) in
      subst (FitsSigned w32) (sym (values_are_given F ordered X c s d t l))
      (node_fits t s (get_or F.signals s d) l refl (ordered s d l) (shut s d l) b (λ r k. fits_at t b n r (omega arith) (omega arith)))

  fits_before : (t : ℕ) → FitBefore t
  fits_before zero s u l m = absurd (omega arith)
  fits_before (suc t) s u l m = elim (cases_lt u t) [
    | inl k ↦ fits_before t s u l k
    | inr k ↦ let e : t ≡ u = omega arith in subst (λ w. FitsSigned w32 (value F s X c w)) e (fits_at t (fits_before t) (suc s) s l (omega arith))
  ]

  pub values_fit : (s t : ℕ) → s < length F.signals → FitsSigned w32 (value F s X c t)
  values_fit s t l = fits_before (suc t) s t l (omega arith)
