-- A rebuilt graph's images have the values of the signals.
use Rattle.std.proofs.Common.{◌≡◌, ℕ, zero, suc, ◌+◌, ◌-◌, ◌<◌, ◌≤◌, List, [], ◌∷◌, length, take, map, get_or, refl, sym, ap, ap₂, ◌∙◌, subst, arith, inl}
use Rattle.std.proofs.Common.{inr, ℤ, pos, negsuc, All, Some, None, true, false, if◌then◌else◌, nat_le, Bool, FitsSigned, w32}
use Rattle.std.specs.Prelude.{Option}
use Rattle.std.proofs.lemmas.Int.{ints, clamps}
use Rattle.std.proofs.lemmas.Bool.{cases_lt, le-leb, lt-leb}
use Rattle.std.proofs.lemmas.List.{get_or_default, get_or-map, get_or-take, take-map, length-take}
use Rattle.std.proofs.lemmas.List.Elements.{All-head, All-tail, All-get_or, All-from_get_or}
use Rattle.fv_num.specs.declared.op.Op.{Op}
use Rattle.fv_num.specs.headline.Words.{argument, apply_of, inputs_of}
use Rattle.fv_num.specs.headline.Frames.{Frame, Stream, back, carried, delayed}
use Rattle.fv_signal.specs.declared.signal.Signal.{Signal}
use Rattle.fv_signal.specs.declared.signal.Signal.TheVariants.{Input, Const, Control, Point, Delay, Back, Member, Read, Write}
use Rattle.fv_num.specs.headline.Tables.{read_at, written_at}
use Rattle.fv_signal.specs.headline.Value.{Graph, signal_at, value, OperandsBelow, HasNumber, IsGraph, back_by}
use Rattle.fv_signal.proofs.lemmas.Values.{back_same, values_are_given}
use Rattle.fv_simplify.specs.Choices.{Agrees}
use Rattle.fv_simplify.specs.Nodes.{node, number_at, known, before, numbers}
use Rattle.fv_simplify.specs.Reducible.{AreSmall}
use Rattle.fv_simplify.specs.Rebuilt.{base, AsNumber, AsOperand, AsItself, IsDelayImage, AtOnce, LateNothing, Late, Nothing, Varying, IsImage}
use Rattle.fv_simplify.specs.Rebuilt.{IsRebuilt}
use Rattle.fv_simplify.proofs.lemmas.Choices.{choice_is, choice_within}
use Rattle.fv_signal.proofs.lemmas.Solutions.{agree}
use Rattle.fv_signal.proofs.lemmas.Fits.{values_fit}
use Rattle.fv_simplify.proofs.lemmas.Origins.{number_node, arg_on, delay_on, tight, Taken, Itself, Over, base_cases}

-- to go back no sample, and to go back twice
back_none : (x : Stream) (t : ℕ) → back x t (pos 0) ≡ x t
back_none x t = let e : t - 0 ≡ t = omega arith in ap (λ b. if b then x (t - 0) else pos 0) (le-leb 0 t (omega arith)) ∙ ap x e

back_there : (x : Stream) (t d : ℕ) → d ≤ t → back x t (pos d) ≡ x (t - d)
back_there x t d l = ap (λ b. if b then x (t - d) else pos 0) (le-leb d t l)

back_early : (x : Stream) (t d : ℕ) → t < d → back x t (pos d) ≡ pos 0
back_early x t d l = ap (λ b. if b then x (t - d) else pos 0) (lt-leb d t l)

back_twice : (x : Stream) (t m k : ℕ) → back (λ u. back x u (pos m)) t (pos k) ≡ back x t (pos (m + k))
back_twice x t m k = elim (cases_lt t k) [
  | inl a ↦ back_early (λ u. back x u (pos m)) t k a ∙ sym (back_early x t (m + k) (omega arith))
  | inr a ↦
      back_there (λ u. back x u (pos m)) t k a
      ∙ elim (cases_lt (t - k) m) [
        | inl b ↦ back_early x (t - k) m b ∙ sym (back_early x t (m + k) (omega (arith, a, b)))
        | inr b ↦ let e : t - k - m ≡ t - (m + k) = omega (arith, a, b) in back_there x (t - k) m b ∙ ap x e
            ∙ sym (back_there x t (m + k) (omega (arith, a, b)))
      ]
]

-- 0 some samples ago
back_nothing : (x : Stream) (t k : ℕ) → ((u : ℕ) → x u ≡ pos 0) → back x t (pos k) ≡ pos 0
back_nothing x t k h = go (nat_le k t)
  where
    go : (b : Bool) → (if b then x (t - k) else pos 0) ≡ pos 0
    go true = h (t - k)
    go false = refl

-- operands that are written there
before_cases : (m : Option ℤ) (ms : Option (List ℤ)) (ns : List ℤ) → before m ms ≡ Some ns → (n : ℤ) × (rest : List ℤ) × (m ≡ Some n) × (ms ≡ Some rest)
    × (n ∷ rest ≡ ns)
before_cases None ms ns h = absurd cc
before_cases (Some n) None ns h = absurd cc
before_cases (Some n) (Some rest) ns h = (n, rest, refl, refl, (let e : n ∷ rest ≡ ns = cc in e))

module _ (g f : Graph) (p : ℕ → ℕ) (room : ℕ → Option ℕ) (P : ℕ → Type 0) (whole : IsGraph g) (h : IsRebuilt g f p room P) (X : List Frame) (c : ℕ → Stream)
    (small : AreSmall X c) where
  abbrev val : ℕ → Stream
  val r t = value f r X c t

  abbrev v : ℕ → Stream
  v s t = value f (p s) X c t

  pub at_node : (i t : ℕ) (n : Signal) → i < length f.signals → node f i ≡ n → val i t ≡ signal_at f X c (λ r. value f r X c) n t
  at_node i t n l e = values_are_given f h.graph.ordered X c i (Const (pos 0)) t l ∙ ap (λ m. signal_at f X c (λ r. value f r X c) m t) e

  fits : (i t : ℕ) → i < length f.signals → FitsSigned w32 (val i t)
  fits i t l = values_fit f h.graph.ordered h.graph.closed X c small.frames small.controls
      (λ s n m e. subst HasNumber e (h.graph.numbers s (Const (pos 0)) m)) h.graph.tables i t l

  pub number_is : (i t : ℕ) (n : ℤ) → i < length f.signals → number_at f i ≡ Some n → val i t ≡ n
  number_is i t n l e = at_node i t (Const n) l (number_node (node f i) n e)

  numbers_are : (args : List ℕ) (ns : List ℤ) (t : ℕ) → All (λ a. a < length f.signals) args → numbers f args ≡ Some ns
      → carried (λ r. value f r X c) args t ≡ ns
  numbers_are [] ns t a e = (let z : [] ≡ ns = cc in z)
  numbers_are (i ∷ args) ns t a e =
      let r = before_cases (number_at f i) (numbers f args) ns e in
      ap₂ (λ x xs. x ∷ xs) (number_is i t r.0 (All-head (λ a. a < length f.signals) i args a) r.2)
      (numbers_are args r.1 t (All-tail (λ a. a < length f.signals) i args a) r.3) ∙ r.4

  agrees : (ws : List ℕ) (t : ℕ) → All (λ a. a < length f.signals) ws → Agrees (known f ws) (carried (λ r. value f r X c) ws t)
  agrees [] t a i n e = absurd cc
  agrees (w ∷ ws) t a zero n e = number_is w t n (All-head (λ a. a < length f.signals) w ws a) e
  agrees (w ∷ ws) t a (suc i) n e = agrees ws t (All-tail (λ a. a < length f.signals) w ws a) i n e

  fit_all : (ws : List ℕ) (t : ℕ) → All (λ a. a < length f.signals) ws → (j : ℕ) → FitsSigned w32 (argument (carried (λ r. value f r X c) ws t) j)
  fit_all [] t a j = omega (arith, ints)
  fit_all (w ∷ ws) t a zero = fits w t (All-head (λ a. a < length f.signals) w ws a)
  fit_all (w ∷ ws) t a (suc j) = fit_all ws t (All-tail (λ a. a < length f.signals) w ws a) j

  -- what is taken of a signal
  back_self : (m : ℕ) → back_by m (pos m) ≡ m
  back_self m = omega arith

  based : (x t : ℕ) (r : Option ℕ) → x < length f.signals → Taken f r x → ((base f r x).0 < length f.signals)
      × (val x t ≡ back (val (base f r x).0) t (pos (base f r x).1))
  based x t r l (Itself e) = subst (λ b. (b.0 < length f.signals) × (val x t ≡ back (val b.0) t (pos b.1))) (sym e) (l, sym (back_none (val x) t))
  based x t r l (Over s by m z q e k a b i) =
      let below = subst (OperandsBelow f x) e (h.graph.ordered x (Const (pos 0)) l) in
      let exact = ((tight g f p room P whole h x s by m l e).1 z k).0 in
      subst (λ b. (b.0 < length f.signals) × (val x t ≡ back (val b.0) t (pos b.1))) (sym i) (
        omega (arith, below.0),
        at_node x t (Delay s by m) l e ∙ ap (λ d. back (val s) t (pos (back_by m d))) (number_is by t z (omega (arith, below.1)) k ∙ exact)
            ∙ ap (λ n. back (val s) t (pos n)) (back_self m),
      )

  map_twice : (args : List ℕ) (t : ℕ) → carried (λ r. value f r X c) (map p args) t ≡ carried (λ s t. value f (p s) X c t) args t
  map_twice [] t = refl
  map_twice (a ∷ args) t = ap (λ xs. value f (p a) X c t ∷ xs) (map_twice args t)

  -- the operands of an operation
  carried_is : (n : ℕ) (args : List ℕ) (t : ℕ) → carried (λ r. value f r X c) (take n (map p args)) t ≡ take n (carried (λ s t. value f (p s) X c t) args t)
  carried_is n args t = sym (take-map (λ r. value f r X c t) n (map p args)) ∙ ap (take n) (map_twice args t)

  ops_there : (s : ℕ) (op : Op) (args : List ℕ) → s < length g.signals → P s → node g s ≡ Point op args → inputs_of op ≤ length args
      → All (λ a. a < length f.signals) (take (inputs_of op) (map p args))
  ops_there s op args l o e wide =
      let n = inputs_of op in
      All-from_get_or (λ a. a < length f.signals) (take n (map p args)) 0
      (λ i m.
      let k : i < n = omega (arith, m, length-take n (map p args)) in
      let on = arg_on g f p room P whole h s op args i l o e k wide in
      subst (λ a. a < length f.signals) (sym (get_or-take n (map p args) i 0 k ∙ get_or-map p args i 0 0 (omega arith)))
      (h.there (get_or args i 0) (omega (arith, on.0)) on.1))

  -- a delay by a number
  by_number : (s x d most t : ℕ) (z : ℤ) → s < length g.signals → P s → node g s ≡ Delay x d most → number_at f (p d) ≡ Some z
      → back (v x) t (pos (back_by most (v d t))) ≡ back (v x) t (pos (back_by most z))
  by_number s x d most t z l o e q =
      let on = delay_on g f p room P whole h s x d most l o e in
      ap (λ k. back (v x) t (pos (back_by most k))) (number_is (p d) t z (h.there d (omega (arith, on.0.1)) on.1.1) q)

  delays : (s x d most : ℕ) → s < length g.signals → P s → node g s ≡ Delay x d most → IsDelayImage f (room x) (p x) (p d) most (p s) → (t : ℕ)
      → v s t ≡ back (v x) t (pos (back_by most (v d t)))
  delays s x d most l o e (AtOnce z q k i) t =
      ap (λ r. val r t) i ∙ sym (back_none (v x) t) ∙ ap (λ n. back (v x) t (pos n)) (sym k) ∙ sym (by_number s x d most t z l o e q)
  delays s x d most l o e (LateNothing z q k w i) t =
      let on = delay_on g f p room P whole h s x d most l o e in
      let there = h.there x (omega (arith, on.0.0)) on.1.0 in
      let taken = base_cases f (room x) (p x) (node f (p x)) refl in
      let b = base f (room x) (p x) in
      let none : (u : ℕ) → val b.0 u ≡ pos 0 = λ u. at_node b.0 u (Const (pos 0)) (based (p x) u (room x) there taken).0 w in
      let late : (u : ℕ) → v x u ≡ pos 0 = λ u. (based (p x) u (room x) there taken).1 ∙ back_nothing (val b.0) u b.1 none in
      ap (λ r. val r t) i ∙ none t ∙ sym (back_nothing (v x) t (back_by most z) late) ∙ sym (by_number s x d most t z l o e q)
  delays s x d most l o e (Late z k q m w u i) t =
      let on = delay_on g f p room P whole h s x d most l o e in
      let there = h.there x (omega (arith, on.0.0)) on.1.0 in
      let taken = base_cases f (room x) (p x) (node f (p x)) refl in
      let b = base f (room x) (p x) in
      let n = b.1 + back_by most z in
      let image = h.there s l o in
      let below = subst (OperandsBelow f (p s)) i (h.graph.ordered (p s) (Const (pos 0)) image) in
      at_node (p s) t (Delay b.0 k n) image i
      ∙ ap (λ j. back (val b.0) t (pos (back_by n j))) (at_node k t (Const (pos n)) (omega (arith, image, below.1)) u)
      ∙ ap (λ m. back (val b.0) t (pos m)) (back_self n)
      ∙ sym (back_twice (val b.0) t b.1 (back_by most z))
      ∙ sym (back_same (v x) (λ j. back (val b.0) j (pos b.1)) t (pos (back_by most z)) (λ j a. (based (p x) j (room x) there taken).1))
      ∙ sym (by_number s x d most t z l o e q)
  delays s x d most l o e (Nothing q w i) t =
      let on = delay_on g f p room P whole h s x d most l o e in
      let there = h.there x (omega (arith, on.0.0)) on.1.0 in
      let none : (u : ℕ) → v x u ≡ pos 0 = λ u. at_node (p x) u (Const (pos 0)) there w in
      ap (λ r. val r t) i ∙ none t ∙ sym (back_nothing (v x) t (back_by most (v d t)) none)
  delays s x d most l o e (Varying q w i) t = at_node (p s) t (Delay (p x) (p d) most) (h.there s l o) i

  gives : (s : ℕ) → s < length g.signals → P s → (n : Signal) → node g s ≡ n → IsImage g f p room n (p s) → (t : ℕ) → v s t ≡ signal_at g X c v n t
  gives s l o (Input k) e i t = at_node (p s) t (Input k) (h.there s l o) i
  gives s l o (Const z) e i t = at_node (p s) t (Const z) (h.there s l o) i
  gives s l o (Control k) e i t = at_node (p s) t (Control k) (h.there s l o) i
  gives s l o (Back group k) e i t = at_node (p s) t (Back group k) (h.there s l o) i.0 ∙ ap (λ r. delayed (val r) t) i.1
  gives s l o (Member group k) e i t = ap (λ r. val r t) i
  gives s l o (Read table r) e i t =
      at_node (p s) t (Read table (p r)) (h.there s l o) i ∙ ap (λ ts. read_at (get_or ts table []) (v r t)) h.tables
  gives s l o (Write table w x r) e i t =
      at_node (p s) t (Write table (p w) (p x) (p r)) (h.there s l o) i ∙ ap (λ ts. written_at (get_or ts table []) (v w) (v x) t (v r t)) h.tables
  gives s l o (Point op args) e (wide, AsItself q r i) t =
      at_node (p s) t (Point op (map p args)) (h.there s l o) i ∙ ap (λ xs. apply_of op (take (inputs_of op) xs)) (map_twice args t)
  gives s l o (Point op args) e (wide, AsNumber ns q i) t =
      let n = inputs_of op in
      let there = ops_there s op args l o e wide in
      at_node (p s) t (Const (apply_of op ns)) (h.there s l o) i ∙ ap (apply_of op) (sym (numbers_are (take n (map p args)) ns t there q) ∙ carried_is n args t)
  gives s l o (Point op args) e (wide, AsOperand j q i) t =
      let n = inputs_of op in
      let there = ops_there s op args l o e wide in
      let ws = take n (map p args) in
      let m = choice_within op (known f ws) j q in
      let at : argument (carried (λ r. value f r X c) ws t) j ≡ v (get_or args j 0) t =
      ap (λ xs. argument xs j) (carried_is n args t) ∙ get_or-take n (carried (λ s t. value f (p s) X c t) args t) j (pos 0) m
      ∙ get_or-map (λ s. v s t) args j 0 (pos 0) (omega arith) in
      ap (λ r. val r t) (i ∙ get_or-map p args j 0 0 (omega arith))
      ∙ sym at ∙ sym (choice_is op (known f ws) (carried (λ r. value f r X c) ws t) j (agrees ws t there) (fit_all ws t there) q)
      ∙ ap (apply_of op) (carried_is n args t)
  gives s l o (Delay x d most) e i t = delays s x d most l o e i t

  -- the values of all images
  pub same : (s t : ℕ) → s < length g.signals → P s → value f (p s) X c t ≡ value g s X c t
  same s t l o = agree g whole.ordered whole.closed P h.closed X c v (λ r d u m on.
      let e : node g r ≡ get_or g.signals r d = get_or_default g.signals r (Const (pos 0)) d m in
      gives r m on (get_or g.signals r d) e (subst (λ n. IsImage g f p room n (p r)) e (h.images r m on)) u) s t l o

  -- and of the outputs
  pub same_outputs : (j t : ℕ) → j < length g.outputs → value f (get_or f.outputs j 0) X c t ≡ value g (get_or g.outputs j 0) X c t
  same_outputs j t l =
      ap (λ r. val r t) (ap (λ os. get_or os j 0) h.outputs ∙ get_or-map p g.outputs j 0 0 l)
      ∙ same (get_or g.outputs j 0) t (whole.outputs j l) (All-get_or P g.outputs j 0 l h.needed)
