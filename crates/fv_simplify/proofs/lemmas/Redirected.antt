-- A graph that reads the images of a folding is a graph, and keeps the values of its signals.
use Rattle.std.proofs.Common.{◌≡◌, ℕ, zero, suc, ◌<◌, List, [], ◌∷◌, length, take, map, get_or, refl, sym, ap, ◌∙◌, subst, arith, ℤ, pos, All}
use Rattle.std.proofs.lemmas.List.{get_or-map, get_or_default, length-map}
use Rattle.std.proofs.lemmas.List.Elements.{All-get_or, All-from_get_or}
use Rattle.fv_num.specs.headline.Words.{apply_of, inputs_of}
use Rattle.fv_num.specs.headline.Frames.{Frame, Stream, back, delayed, carried}
use Rattle.fv_num.specs.headline.Tables.{read_at}
use Rattle.fv_signal.specs.declared.signal.Signal.{Signal}
use Rattle.fv_signal.specs.declared.signal.Signal.TheVariants.{Input, Const, Control, Point, Delay, Back, Member, Read, Write}
use Rattle.fv_signal.specs.headline.Value.{Graph, members, definition, table_of, back_by, signal_at, value, OperandsBelow, IsOrdered, NamesWithin}
use Rattle.fv_signal.specs.headline.Value.{HasNumber, IsGraph}
use Rattle.fv_signal.specs.Value.{Solves}
use Rattle.fv_signal.proofs.lemmas.Values.{back_same, written_same, map_same, values_are_given}
use Rattle.fv_signal.proofs.lemmas.Solutions.{solutions_are_values}
use Rattle.fv_analysis.specs.headline.Stands.{node}
use Rattle.fv_simplify.specs.Folding.{reading, IsFolding}
use Rattle.fv_simplify.specs.Folded.{with_images, redirected, FoldedValues, RedirectedIsGraph, RedirectedKeepsValues}

module _ (g : Graph) (p : ℕ → ℕ) (whole : IsGraph g) (fold : IsFolding g p) where
  abbrev h : Graph
  h = redirected g p

  none : Signal
  none = Const (pos 0)

  -- the definitions of a group's members
  pub definition_is : (group k : ℕ) → group < length g.groups → k < length (members g group) → definition h group k ≡ p (definition g group k)
  definition_is group k a b =
      ap (λ xs. get_or xs k 0) (get_or-map (map p) g.groups group [] [] a) ∙ get_or-map p (members g group) k 0 0 b

  pub node_is : (s : ℕ) (d : Signal) → s < length g.signals → get_or h.signals s d ≡ with_images p (node g s)
  node_is s d l = get_or-map (with_images p) g.signals s (Const (pos 0)) d l

  pub operands_below : (i : ℕ) (n : Signal) → i < length g.signals → OperandsBelow g i n → NamesWithin g n → OperandsBelow h i (with_images p n)
  operands_below i (Input k) l b c = tt
  operands_below i (Const n) l b c = tt
  operands_below i (Control k) l b c = tt
  operands_below i (Point op args) l b c = all args b
    where
      all : (xs : List ℕ) → All (λ a. a < i) xs → All (λ a. a < i) (map p xs)
      all xs o = All-from_get_or (λ a. a < i) (map p xs) 0 (λ j m.
          let k : j < length xs = omega (arith, m, length-map xs p) in
          let at : get_or xs j 0 < i = All-get_or (λ a. a < i) xs j 0 k o in
          let e = fold.earlier (get_or xs j 0) (omega (arith, at, l)) in
          subst (λ a. a < i) (sym (get_or-map p xs j 0 0 k)) (omega (arith, at, e)))
  operands_below i (Delay x d most) l b c =
      let ex = fold.earlier x (omega (arith, b.0, l)) in let ed = fold.earlier d (omega (arith, b.1, l)) in
      (omega (arith, b.0, ex), omega (arith, b.1, ed))
  operands_below i (Back group k) l b c = tt
  operands_below i (Member group k) l b c =
      let e = fold.earlier (definition g group k) c.2 in
      subst (λ n. n < i) (sym (definition_is group k c.0 c.1)) (omega (arith, b, e))
  operands_below i (Read table r) l b c = let e = fold.earlier r (omega (arith, b, l)) in omega (arith, b, e)
  operands_below i (Write table w x r) l b c =
      let ew = fold.earlier w (omega (arith, b.0, l)) in
      let ex = fold.earlier x (omega (arith, b.1, l)) in
      let er = fold.earlier r (omega (arith, b.2, l)) in
      (omega (arith, b.0, ew), omega (arith, b.1, ex), omega (arith, b.2, er))

  pub there : (s : ℕ) → s < length h.signals → s < length g.signals
  there s l = omega (arith, l, length-map g.signals (with_images p))

  pub ordered : IsOrdered h
  ordered i d l =
      let m = there i l in
      subst (OperandsBelow h i) (sym (node_is i d m)) (operands_below i (node g i) m (whole.ordered i (Const (pos 0)) m) (whole.closed i (Const (pos 0)) m))

  members_long : (group : ℕ) → group < length g.groups → length (members h group) ≡ length (members g group)
  members_long group a = ap length (get_or-map (map p) g.groups group [] [] a) ∙ length-map (members g group) p

  -- what is there stays there
  image_there : (s : ℕ) → s < length g.signals → p s < length h.signals
  image_there s l = let e = fold.earlier s l in omega (arith, e, l, length-map g.signals (with_images p))

  names_within : (n : Signal) → NamesWithin g n → NamesWithin h (with_images p n)
  names_within (Input k) w = tt
  names_within (Const n) w = tt
  names_within (Control k) w = tt
  names_within (Point op args) w = tt
  names_within (Delay x d most) w = tt
  names_within (Back group k) w = (
    omega (arith, w.0, length-map g.groups (map p)),
    omega (arith, w.1, members_long group w.0),
    subst (λ r. r < length h.signals) (sym (definition_is group k w.0 w.1)) (image_there (definition g group k) w.2),
  )
  names_within (Member group k) w = (
    omega (arith, w.0, length-map g.groups (map p)),
    omega (arith, w.1, members_long group w.0),
    subst (λ r. r < length h.signals) (sym (definition_is group k w.0 w.1)) (image_there (definition g group k) w.2),
  )
  names_within (Read table r) w = w
  names_within (Write table a x r) w = w

  has_number : (n : Signal) → HasNumber n → HasNumber (with_images p n)
  has_number (Input k) w = tt
  has_number (Const n) w = w
  has_number (Control k) w = tt
  has_number (Point op args) w = tt
  has_number (Delay x d most) w = tt
  has_number (Back group k) w = tt
  has_number (Member group k) w = tt
  has_number (Read table r) w = tt
  has_number (Write table a x r) w = tt

  pub is_graph : IsGraph h
  is_graph = record {
    ordered = ordered;
    closed = λ i d l. let m = there i l in subst (NamesWithin h) (sym (node_is i d m)) (names_within (node g i) (whole.closed i (Const (pos 0)) m));
    defined = λ group i a b.
        let m : group < length g.groups = omega (arith, a, length-map g.groups (map p)) in
        let k : i < length (members g group) = omega (arith, b, members_long group m) in
        subst (λ r. r < length h.signals) (sym (definition_is group i m k)) (image_there (definition g group i) (whole.defined group i m k));
    outputs = λ j l.
        let m : j < length g.outputs = omega (arith, l, length-map g.outputs p) in
        subst (λ r. r < length h.signals) (sym (get_or-map p g.outputs j 0 0 m)) (image_there (get_or g.outputs j 0) (whole.outputs j m));
    numbers = λ i d l. let m = there i l in subst HasNumber (sym (node_is i d m)) (has_number (node g i) (whole.numbers i (Const (pos 0)) m));
    tables = whole.tables;
  }

  -- what a node with images gives, by what it reads
  abbrev gives : (X : List Frame) → (c : ℕ → Stream) → (v : ℕ → Stream) → Signal → ℕ → ℤ
  gives X c v (Input k) t = signal_at g X c v (Input k) t
  gives X c v (Const n) t = signal_at g X c v (Const n) t
  gives X c v (Control k) t = signal_at g X c v (Control k) t
  gives X c v (Point op args) t = signal_at g X c v (Point op args) t
  gives X c v (Delay x d most) t = signal_at g X c v (Delay x d most) t
  gives X c v (Back group k) t = delayed (v k) t
  gives X c v (Member group k) t = v k t
  gives X c v (Read table r) t = signal_at g X c v (Read table r) t
  gives X c v (Write table w x r) t = signal_at g X c v (Write table w x r) t

  module _ (X : List Frame) (c : ℕ → Stream) where
    abbrev v : ℕ → Stream
    v s t = value h s X c t

    by_reading : (n : Signal) (t : ℕ) → NamesWithin g n → signal_at h X c v (with_images p n) t ≡ gives X c v (reading g p p n) t
    by_reading (Input k) t w = refl
    by_reading (Const n) t w = refl
    by_reading (Control k) t w = refl
    by_reading (Point op args) t w = refl
    by_reading (Delay x d most) t w = refl
    by_reading (Back group k) t w = ap (λ r. delayed (v r) t) (definition_is group k w.0 w.1)
    by_reading (Member group k) t w = ap (λ r. v r t) (definition_is group k w.0 w.1)
    by_reading (Read table r) t w = refl
    by_reading (Write table a x r) t w = refl

    given : (s t : ℕ) → s < length g.signals → v s t ≡ gives X c v (reading g p p (node g s)) t
    given s t l =
        let m : s < length h.signals = omega (arith, l, length-map g.signals (with_images p)) in
        values_are_given h ordered X c s (Const (pos 0)) t m
        ∙ ap (λ n. signal_at h X c v n t) (node_is s (Const (pos 0)) l)
        ∙ by_reading (node g s) t (whole.closed s (Const (pos 0)) l)

    -- an image has the signal's value
    pub same : (s t : ℕ) → s < length g.signals → v (p s) t ≡ v s t
    same s t l =
        let e = fold.earlier s l in
        given (p s) t (omega (arith, e, l)) ∙ ap (λ n. gives X c v n t) (fold.alike s l) ∙ sym (given s t l)

    -- so the operands may be read as well
    at_operands : (i : ℕ) (n : Signal) (t : ℕ) → i < length g.signals → OperandsBelow g i n → NamesWithin g n
        → gives X c v (reading g p p n) t ≡ signal_at g X c v n t
    at_operands i (Input k) t l b w = refl
    at_operands i (Const n) t l b w = refl
    at_operands i (Control k) t l b w = refl
    at_operands i (Point op args) t l b w =
        ap (λ xs. apply_of op (take (inputs_of op) xs))
        (twice args ∙ map_same i (λ a. v (p a) t) (λ a. v a t) args b (λ a m. same a t (omega (arith, m, l))))
      where
        twice : (xs : List ℕ) → carried v (map p xs) t ≡ map (λ a. v (p a) t) xs
        twice [] = refl
        twice (a ∷ xs) = ap (λ ys. v (p a) t ∷ ys) (twice xs)
    at_operands i (Delay x d most) t l b w =
        back_same (v (p x)) (v x) t (pos (back_by most (v (p d) t))) (λ u m. same x u (omega (arith, b.0, l)))
        ∙ ap (λ k. back (v x) t (pos (back_by most k))) (same d t (omega (arith, b.1, l)))
    at_operands i (Back group k) zero l b w = refl
    at_operands i (Back group k) (suc t) l b w = same (definition g group k) t w.2
    at_operands i (Member group k) t l b w = same (definition g group k) t w.2
    at_operands i (Read table r) t l b w = ap (read_at (table_of g table)) (same r t (omega (arith, b, l)))
    at_operands i (Write table a x r) t l b w =
        written_same (table_of g table) (v (p a)) (v a) (v (p x)) (v x) (v (p r)) (v r) t
        (λ u m. same a u (omega (arith, b.0, l))) (λ u m. same x u (omega (arith, b.1, l))) (same r t (omega (arith, b.2, l)))

    solves : Solves g X c v
    solves s d t l =
        let e : node g s ≡ get_or g.signals s d = get_or_default g.signals s (Const (pos 0)) d l in
        given s t l ∙ at_operands s (node g s) t l (whole.ordered s (Const (pos 0)) l) (whole.closed s (Const (pos 0)) l)
        ∙ ap (λ n. signal_at g X c v n t) e

    -- the values are those of the graph
    pub keeps : (s t : ℕ) → s < length g.signals → v s t ≡ value g s X c t
    keeps s t l = solutions_are_values g whole.ordered whole.closed X c v solves s t l

    pub folded : (s t : ℕ) → s < length g.signals → value g (p s) X c t ≡ value g s X c t
    folded s t l = let e = fold.earlier s l in sym (keeps (p s) t (omega (arith, e, l))) ∙ same s t l ∙ keeps s t l

pub folded_values : (g : Graph) → FoldedValues g
folded_values g p whole fold X c s t l = folded g p whole fold X c s t l

pub redirected_keeps_values : (g : Graph) → RedirectedKeepsValues g
redirected_keeps_values g p whole fold X c s t l = keeps g p whole fold X c s t l

pub redirected_is_graph : (g : Graph) → RedirectedIsGraph g
redirected_is_graph g p whole fold = is_graph g p whole fold
