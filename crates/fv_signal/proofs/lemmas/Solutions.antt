-- Streams that the nodes give are the values.
use Rattle.std.proofs.Common.{◌≡◌, ℕ, zero, suc, ◌<◌, ◌≤◌, List, [], ◌∷◌, length, map, get_or, refl, sym, ap, ap₂, ◌∙◌, subst, arith, inl, inr, pos, All, true}
use Rattle.std.proofs.lemmas.Bool.{cases_lt}
use Rattle.std.proofs.lemmas.List.{get_or_append_left, length-append}
use Rattle.std.proofs.lemmas.List.Elements.{All-head, All-tail}
use Rattle.fv_num.specs.headline.Words.{apply_of, inputs_of}
use Rattle.fv_num.specs.headline.Frames.{Frame, Stream, back, delayed}
use Rattle.fv_signal.specs.declared.signal.Signal.{Signal}
use Rattle.fv_signal.specs.declared.signal.Signal.TheVariants.{Input, Const, Control, Point, Delay, Back, Member, Read, Write}
use Rattle.fv_signal.specs.headline.Value.{Graph, definition, table_of, back_by, signal_at, value, OperandsBelow, IsOrdered, NamesWithin, IsClosed}
use Rattle.fv_signal.specs.Value.{Solves, SolutionsAreValues}
use Rattle.fv_signal.specs.Value.{ReadsOnly, AreClosedSet, SolvesOn, SolutionsAreValuesOn, ValuesLookBack, GrowthKeepsValues}
use Rattle.fv_num.specs.headline.Tables.{read_at, written_at}
use Rattle.fv_num.proofs.lemmas.Valued.{valuation_same}
use Rattle.fv_signal.proofs.lemmas.Values.{back_same, delayed_same, upto_now, written_same, values_are_given}
use Rattle.std.specs.Prelude.{take}

-- the operands that an operation takes
taken_same : {B : Type 0} (n i : ℕ) (P : ℕ → Type 0) (f h : ℕ → B) (args : List ℕ) → All (λ a. a < i) args → All P (take n args)
    → ((r : ℕ) → r < i → P r → f r ≡ h r) → take n (map f args) ≡ take n (map h args)
taken_same zero i P f h args b q same = refl
taken_same (suc n) i P f h [] b q same = refl
taken_same (suc n) i P f h (a ∷ args) b q same =
    ap₂ (λ x xs. x ∷ xs) (same a (All-head (λ a. a < i) a args b) (All-head P a (take n args) q))
    (taken_same n i P f h args (All-tail (λ a. a < i) a args b) (All-tail P a (take n args) q) same)

module _ (g : Graph) (ordered : IsOrdered g) (closed : IsClosed g) (P : ℕ → Type 0) (among : AreClosedSet g P) (X : List Frame) (c v : ℕ → Stream)
    (solves : SolvesOn g P X c v) where
  abbrev w : ℕ → Stream
  w s t = value g s X c t

  -- they agree before a time, and below a signal at that time
  abbrev AgreeBefore : ℕ → Type 0
  AgreeBefore t = (r u : ℕ) → r < length g.signals → P r → u < t → v r u ≡ w r u

  abbrev AgreeBelow : (i t : ℕ) → Type 0
  AgreeBelow i t = (r : ℕ) → r < i → P r → v r t ≡ w r t

  -- so they do at one time and for one signal
  here : (i t : ℕ) (s : Signal) → OperandsBelow g i s → NamesWithin g s → ReadsOnly g P s → i ≤ length g.signals → AgreeBefore t → AgreeBelow i t
      → signal_at g X c v s t ≡ signal_at g X c w s t
  here i t (Input k) h d o m p q = refl
  here i t (Const n) h d o m p q = refl
  here i t (Control k) h d o m p q = refl
  here i t (Point op args) h d o m p q = ap (apply_of op) (taken_same (inputs_of op) i P (λ r. v r t) (λ r. w r t) args h o q)
  here i t (Delay x y max) h d o m p q =
      back_same (v x) (w x) t (pos (back_by max (v y t))) (λ u l. elim (cases_lt u t) [
        | inl n ↦ p x u (omega (arith, h.0)) o.0 n
        | inr n ↦ let e : t ≡ u = omega arith in subst (λ k. v x k ≡ w x k) e (q x h.0 o.0)
      ])
      ∙ ap (λ k. back (w x) t (pos (back_by max k))) (q y h.1 o.1)
  here i t (Back group k) h d o m p q = delayed_same (v (definition g group k)) (w (definition g group k)) t (λ u l. p (definition g group k) u d.2 o l)
  here i t (Member group k) h d o m p q = q (definition g group k) h o
  here i t (Read table r) h d o m p q = ap (read_at (table_of g table)) (q r h o)
  here i t (Write table a x r) h d o m p q =
      let same : (s : ℕ) → s < i → P s → (u : ℕ) → u ≤ t → v s u ≡ w s u = λ s l k. upto_now (v s) (w s) t (λ u n. p s u (omega (arith, l)) k n) (q s l k) in
      written_same (table_of g table) (v a) (w a) (v x) (w x) (v r) (w r) t (same a h.0 o.0) (same x h.1 o.1) (q r h.2 o.2)

  none : Signal
  none = Const (pos 0)

  -- up to time t, and at time t below signal n
  upto : (t : ℕ) → AgreeBefore t → (n : ℕ) → n ≤ length g.signals → AgreeBelow n t
  unfolding none
  upto t p zero l r m o = absurd (omega arith)
  upto t p (suc n) l r m o = elim (cases_lt r n) [
    | inl k ↦ upto t p n (omega arith) r k o
    | inr k ↦
        let e : r ≡ n = omega arith in let there : n < length g.signals = omega arith in let on = subst P e o in
        subst (λ x. v x t ≡ w x t) (sym e)
        (solves n none t there on
        ∙ here n t (get_or g.signals n none) (ordered n none there) (closed n none there) (among n none there on) (omega arith) p (upto t p n (omega arith))
        ∙ sym (values_are_given g ordered X c n none t there))
  ]

  before : (t : ℕ) → AgreeBefore t
  before zero r u m o l = absurd (omega arith)
  before (suc t) r u m o l = elim (cases_lt u t) [
    | inl k ↦ before t r u m o k
    | inr k ↦ let e : t ≡ u = omega arith in subst (λ x. v r x ≡ w r x) e (upto t (before t) (length g.signals) (omega arith) r m o)
  ]

  pub agree : (s t : ℕ) → s < length g.signals → P s → v s t ≡ w s t
  agree s t l o = before (suc t) s t l o (omega arith)

pub solutions_are_values_on : (g : Graph) → SolutionsAreValuesOn g
solutions_are_values_on g ordered closed among set X c v solves s t l o = agree g ordered closed (λ s. among s ≡ true) set X c v solves s t l o

-- each signal is one of all
abbrev Any : ℕ → Type 0
Any s = Unit {0}

reads_any : (g : Graph) (s : Signal) → ReadsOnly g Any s
reads_any g (Input k) = tt
reads_any g (Const n) = tt
reads_any g (Control k) = tt
reads_any g (Point op args) = λ k d l. tt
reads_any g (Delay x d max) = (tt, tt)
reads_any g (Back group k) = tt
reads_any g (Member group k) = tt
reads_any g (Read table r) = tt
reads_any g (Write table w x r) = (tt, tt, tt)

pub solutions_are_values : (g : Graph) → SolutionsAreValues g
solutions_are_values g ordered closed X c v solves s t l =
    agree g ordered closed Any (λ s d l o. reads_any g (get_or g.signals s d)) X c v (λ s d t l o. solves s d t l) s t l tt

pub values_look_back : (g : Graph) → ValuesLookBack g
values_look_back g X Y c d n p q s t l = valuation_same (signal_at g X c) (signal_at g Y d) g.signals n same s t l
  where
    same : (v : ℕ → Stream) (r : Signal) (u : ℕ) → u < n → signal_at g X c v r u ≡ signal_at g Y d v r u
    same v (Input i) u m = p i u m
    same v (Const k) u m = refl
    same v (Control k) u m = q k u m
    same v (Point op args) u m = refl
    same v (Delay x y max) u m = refl
    same v (Back group i) u m = refl
    same v (Member group i) u m = refl
    same v (Read table k) u m = refl
    same v (Write table w x k) u m = refl

pub growth_keeps_values : (g h : Graph) → GrowthKeepsValues g h
growth_keeps_values g h ordered closed grows e X c s t l = solutions_are_values g ordered closed X c v solves s t l
  where
    v : ℕ → Stream
    v s t = value h s X c t

    there : (s : ℕ) → s < length g.signals → s < length h.signals
    there s l = omega (arith, ap length e.signals, length-append g.signals e.more)

    node_same : (s : Signal) (t : ℕ) → NamesWithin g s → signal_at h X c v s t ≡ signal_at g X c v s t
    node_same (Input k) t n = refl
    node_same (Const k) t n = refl
    node_same (Control k) t n = refl
    node_same (Point op args) t n = refl
    node_same (Delay x d max) t n = refl
    node_same (Back group i) t n = ap (λ k. delayed (v k) t) (e.definitions group i n.0 n.1)
    node_same (Member group i) t n = ap (λ k. v k t) (e.definitions group i n.0 n.1)
    node_same (Read table k) t n = ap (λ T. read_at T (v k t)) (e.tables table n)
    node_same (Write table w x k) t n = ap (λ T. written_at T (v w) (v x) t (v k t)) (e.tables table n)

    solves : Solves g X c v
    solves s d t l =
        values_are_given h grows X c s d t (there s l)
        ∙ ap (λ n. signal_at h X c v n t) (ap (λ ss. get_or ss s d) e.signals ∙ get_or_append_left g.signals e.more d s l)
        ∙ node_same (get_or g.signals s d) t (closed s d l)
