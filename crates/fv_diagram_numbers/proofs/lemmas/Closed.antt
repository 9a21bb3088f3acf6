-- What is closed has no free slot, no control and no table primitive.
use Rattle.std.proofs.Common.{inl, inr, ◌≡◌, ◌⊎◌, ℕ, ◌+◌, Bool, true, false, ◌&&◌, ◌||◌, not, nat_eq, List, [], ◌∷◌, refl, sym, ap, ◌∙◌, arith}
use Rattle.std.specs.List.{list_any}
use Rattle.std.proofs.lemmas.Bool.{and_parts, and_from, or_parts, cases_eq, eq-eqb, ne_eqb, eqb-true}
use Rattle.fv_diagram.specs.headline.Diagram.{Diagram, Primitive, Constant, Control, Slot, Wave, Table, Bind, Par, Seq, Split, Merge, Rec, inputs}
use Rattle.fv_diagram.specs.headline.Diagram.{has_table_primitive, is_table_primitive}
use Rattle.fv_diagram.specs.Diagram.{control_bound, IsFree, HasNoFreeSlot}
use Rattle.fv_diagram_numbers.specs.headline.Heads.{is_closed, is_fixed}
use Rattle.fv_diagram_numbers.specs.HeadLaws.{DependsOnNothing, FixedDependsOnNothing}

not_true : (b : Bool) → not b ≡ true → b ≡ false
not_true true h = absurd (cc)
not_true false h = refl

-- one of the slots is s
abbrev bound_in : List ℕ → ℕ → Bool
bound_in bound s = list_any (λ b. nat_eq b s) bound

other_first : (k s : ℕ) (rest : Bool) → (s ≡ k → ⊥) → (nat_eq k s || rest) ≡ true → rest ≡ true
other_first k s rest n h = ap (λ b. b || rest) (sym (ne_eqb k s (λ e. n (sym e)))) ∙ h

-- a free slot is among those that are bound outside
free_bound : (s : ℕ) (bound : List ℕ) (d : Diagram) → is_closed bound d ≡ true → IsFree s d → bound_in bound s ≡ true
free_bound s bound (Primitive p) h f = absurd f
free_bound s bound (Constant n) h f = absurd f
free_bound s bound (Control k) h f = absurd f
free_bound s bound (Slot k) h f = ap (bound_in bound) f ∙ h
free_bound s bound (Wave w) h f = absurd f
free_bound s bound (Table T writes) h f = absurd f
free_bound s bound (Bind k a) h f = other_first k s (bound_in bound s) f.1 (free_bound s (k ∷ bound) a h f.0)
free_bound s bound (Par a b) h (inl f) = free_bound s bound a (and_parts (is_closed bound a) (is_closed bound b) h).0 f
free_bound s bound (Par a b) h (inr f) = free_bound s bound b (and_parts (is_closed bound a) (is_closed bound b) h).1 f
free_bound s bound (Seq a b) h (inl f) = free_bound s bound a (and_parts (is_closed bound a) (is_closed bound b) h).0 f
free_bound s bound (Seq a b) h (inr f) = free_bound s bound b (and_parts (is_closed bound a) (is_closed bound b) h).1 f
free_bound s bound (Split a b) h (inl f) = free_bound s bound a (and_parts (is_closed bound a) (is_closed bound b) h).0 f
free_bound s bound (Split a b) h (inr f) = free_bound s bound b (and_parts (is_closed bound a) (is_closed bound b) h).1 f
free_bound s bound (Merge a b) h (inl f) = free_bound s bound a (and_parts (is_closed bound a) (is_closed bound b) h).0 f
free_bound s bound (Merge a b) h (inr f) = free_bound s bound b (and_parts (is_closed bound a) (is_closed bound b) h).1 f
free_bound s bound (Rec a b) h (inl f) = free_bound s bound a (and_parts (is_closed bound a) (is_closed bound b) h).0 f
free_bound s bound (Rec a b) h (inr f) = free_bound s bound b (and_parts (is_closed bound a) (is_closed bound b) h).1 f

no_controls : (bound : List ℕ) (d : Diagram) → is_closed bound d ≡ true → control_bound d ≡ 0
no_controls bound (Primitive p) h = refl
no_controls bound (Constant n) h = refl
no_controls bound (Control k) h = absurd (cc)
no_controls bound (Slot s) h = refl
no_controls bound (Wave w) h = refl
no_controls bound (Table T writes) h = refl
no_controls bound (Bind s a) h = no_controls (s ∷ bound) a h
no_controls bound (Par a b) h =
    let both = and_parts (is_closed bound a) (is_closed bound b) h in omega (arith, no_controls bound a both.0, no_controls bound b both.1)
no_controls bound (Seq a b) h =
    let both = and_parts (is_closed bound a) (is_closed bound b) h in omega (arith, no_controls bound a both.0, no_controls bound b both.1)
no_controls bound (Split a b) h =
    let both = and_parts (is_closed bound a) (is_closed bound b) h in omega (arith, no_controls bound a both.0, no_controls bound b both.1)
no_controls bound (Merge a b) h =
    let both = and_parts (is_closed bound a) (is_closed bound b) h in omega (arith, no_controls bound a both.0, no_controls bound b both.1)
no_controls bound (Rec a b) h =
    let both = and_parts (is_closed bound a) (is_closed bound b) h in omega (arith, no_controls bound a both.0, no_controls bound b both.1)

neither : (x y : Bool) → x ≡ false → y ≡ false → (x || y) ≡ false
neither x y h g = ap (λ b. b || y) h ∙ g

no_table : (bound : List ℕ) (d : Diagram) → is_closed bound d ≡ true → has_table_primitive d ≡ false
no_table bound (Primitive p) h = not_true (is_table_primitive p) h
no_table bound (Constant n) h = refl
no_table bound (Control k) h = refl
no_table bound (Slot s) h = refl
no_table bound (Wave w) h = refl
no_table bound (Table T writes) h = refl
no_table bound (Bind s a) h = no_table (s ∷ bound) a h
no_table bound (Par a b) h =
    let both = and_parts (is_closed bound a) (is_closed bound b) h in
    neither (has_table_primitive a) (has_table_primitive b) (no_table bound a both.0) (no_table bound b both.1)
no_table bound (Seq a b) h =
    let both = and_parts (is_closed bound a) (is_closed bound b) h in
    neither (has_table_primitive a) (has_table_primitive b) (no_table bound a both.0) (no_table bound b both.1)
no_table bound (Split a b) h =
    let both = and_parts (is_closed bound a) (is_closed bound b) h in
    neither (has_table_primitive a) (has_table_primitive b) (no_table bound a both.0) (no_table bound b both.1)
no_table bound (Merge a b) h =
    let both = and_parts (is_closed bound a) (is_closed bound b) h in
    neither (has_table_primitive a) (has_table_primitive b) (no_table bound a both.0) (no_table bound b both.1)
no_table bound (Rec a b) h =
    let both = and_parts (is_closed bound a) (is_closed bound b) h in
    neither (has_table_primitive a) (has_table_primitive b) (no_table bound a both.0) (no_table bound b both.1)

-- what is fixed can be run alone
pub runs_alone : (d : Diagram) → is_fixed d ≡ true → DependsOnNothing d
runs_alone d h =
    let both = and_parts (nat_eq (inputs d) 0) (is_closed [] d) h in record {
      takes_none = eqb-true (inputs d) 0 both.0;
      closed = λ s f. let e = free_bound s [] d both.1 f in absurd (cc);
      controls = no_controls [] d both.1;
      plain = no_table [] d both.1;
    }

-- a bound slot stays bound under one more bind
more_bound : (k s : ℕ) (rest : Bool) → (s ≡ k → ⊥) ⊎ (s ≡ k) → ((s ≡ k → ⊥) → rest ≡ true) → (nat_eq k s || rest) ≡ true
more_bound k s rest (inl n) h = ap (λ b. b || rest) (ne_eqb k s (λ e. n (sym e))) ∙ h n
more_bound k s rest (inr e) h = ap (λ b. b || rest) (eq-eqb k s (sym e))

-- a diagram is closed where each free slot is bound outside, and no control and no table primitive is in it
closed_if : (bound : List ℕ) (d : Diagram) → ((s : ℕ) → IsFree s d → bound_in bound s ≡ true) → control_bound d ≡ 0 → has_table_primitive d ≡ false
    → is_closed bound d ≡ true
closed_if bound (Primitive p) f c t = ap not t
closed_if bound (Constant n) f c t = refl
closed_if bound (Control k) f c t = absurd (omega (arith, c))
closed_if bound (Slot s) f c t = f s refl
closed_if bound (Wave w) f c t = refl
closed_if bound (Table T writes) f c t = refl
closed_if bound (Bind k a) f c t =
    closed_if (k ∷ bound) a (λ s free. more_bound k s (bound_in bound s) (elim (cases_eq s k) [ inl e ↦ inr e | inr n ↦ inl n ]) (λ n. f s (free, n))) c t
closed_if bound (Par a b) f c t =
    let o = or_parts (has_table_primitive a) (has_table_primitive b) t in
    and_from (is_closed bound a) (is_closed bound b) (closed_if bound a (λ s free. f s (inl free)) (omega (arith, c)) o.0)
    (closed_if bound b (λ s free. f s (inr free)) (omega (arith, c)) o.1)
closed_if bound (Seq a b) f c t =
    let o = or_parts (has_table_primitive a) (has_table_primitive b) t in
    and_from (is_closed bound a) (is_closed bound b) (closed_if bound a (λ s free. f s (inl free)) (omega (arith, c)) o.0)
    (closed_if bound b (λ s free. f s (inr free)) (omega (arith, c)) o.1)
closed_if bound (Split a b) f c t =
    let o = or_parts (has_table_primitive a) (has_table_primitive b) t in
    and_from (is_closed bound a) (is_closed bound b) (closed_if bound a (λ s free. f s (inl free)) (omega (arith, c)) o.0)
    (closed_if bound b (λ s free. f s (inr free)) (omega (arith, c)) o.1)
closed_if bound (Merge a b) f c t =
    let o = or_parts (has_table_primitive a) (has_table_primitive b) t in
    and_from (is_closed bound a) (is_closed bound b) (closed_if bound a (λ s free. f s (inl free)) (omega (arith, c)) o.0)
    (closed_if bound b (λ s free. f s (inr free)) (omega (arith, c)) o.1)
closed_if bound (Rec a b) f c t =
    let o = or_parts (has_table_primitive a) (has_table_primitive b) t in
    and_from (is_closed bound a) (is_closed bound b) (closed_if bound a (λ s free. f s (inl free)) (omega (arith, c)) o.0)
    (closed_if bound b (λ s free. f s (inr free)) (omega (arith, c)) o.1)

-- just what depends on nothing is fixed
pub fixed_depends_on_nothing : FixedDependsOnNothing
fixed_depends_on_nothing d = (
  runs_alone d,
  λ h. and_from (nat_eq (inputs d) 0) (is_closed [] d) (eq-eqb (inputs d) 0 h.takes_none) (closed_if [] d (λ s f. absurd (h.closed s f)) h.controls h.plain),
)

-- diagrams that are fixed are so side by side
pub fixed_beside : (a b : Diagram) → is_fixed a ≡ true → is_fixed b ≡ true → is_fixed (Par a b) ≡ true
fixed_beside a b h g =
    let p = and_parts (nat_eq (inputs a) 0) (is_closed [] a) h in
    let q = and_parts (nat_eq (inputs b) 0) (is_closed [] b) g in
    let i : inputs a + inputs b ≡ 0 = omega (arith, eqb-true (inputs a) 0 p.0, eqb-true (inputs b) 0 q.0) in
    ap (λ n. nat_eq n 0 && (is_closed [] a && is_closed [] b)) i ∙ ap (λ c. c && is_closed [] b) p.1 ∙ q.1
