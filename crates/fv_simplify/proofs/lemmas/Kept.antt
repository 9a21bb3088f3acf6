-- What a graph keeps that reads the images of a folding.
use Rattle.std.proofs.Common.{◌≡◌, ℕ, zero, suc, ◌<◌, ◌≤◌, List, [], ◌∷◌, length, take, map, get_or, refl, sym, ap, ap₂, ◌∙◌, subst, arith, inl, inr, ℤ}
use Rattle.std.proofs.Common.{pos, All, Some, None, if◌then◌else◌}
use mathlib.Core.Path.{fun_ext}
use Rattle.std.proofs.lemmas.Bool.{eq-eqb, cases_eq}
use Rattle.std.proofs.lemmas.List.{get_or-map, length-map, take-map}
use Rattle.std.proofs.lemmas.List.Elements.{All-head, All-tail, All-get_or, All-from_get_or, All-take}
use Rattle.fv_num.specs.declared.op.Op.{Op}
use Rattle.fv_num.specs.headline.Words.{inputs_of}
use Rattle.fv_num.specs.headline.Frames.{Frame, Stream}
use Rattle.fv_num.specs.headline.Interval.{IsWithin}
use Rattle.fv_signal.specs.declared.signal.Signal.{Signal}
use Rattle.fv_signal.specs.declared.signal.Signal.TheVariants.{Input, Const, Control, Point, Delay, Back, Member, Read, Write}
use Rattle.fv_signal.specs.headline.Value.{Graph, value, OperandsBelow, IsGraph, AreAtMost}
use Rattle.fv_simplify.specs.Choices.{choice}
use Rattle.fv_simplify.specs.Nodes.{node, StandsAt, number, number_at, known, before, numbers}
use Rattle.fv_signal.specs.Value.{StayWithin}
use Rattle.fv_simplify.specs.Reducible.{far, farthest, reach, limit}
use Rattle.fv_simplify.specs.Rebuilt.{IsMarked, IsFolded}
use Rattle.fv_simplify.proofs.lemmas.Origins.{number_node}
use Rattle.fv_simplify.proofs.lemmas.Reaches.{farthest_least}
use Rattle.fv_simplify.proofs.lemmas.Totals.{differ, total_is, total_least, owned, owned_all, owned_with}
use Rattle.fv_simplify.specs.Folding.{reading, IsFolding}
use Rattle.fv_simplify.specs.Folded.{with_images, redirected}
use Rattle.fv_simplify.specs.Kept.{KeepsAll, RedirectedKeepsAll}
use Rattle.fv_simplify.proofs.lemmas.Redirected.{is_graph, node_is, there, same, keeps}

-- the farthest of delays that go so far at most
far_same : (s x by most : ℕ) → x ≡ s → far s (Delay x by most) ≡ most
far_same s x by most e = ap (λ b. if b then most else 0) (eq-eqb x s e)

far_most : (s B : ℕ) (n : Signal) → ((x by most : ℕ) → n ≡ Delay x by most → x ≡ s → most ≤ B) → far s n ≤ B
far_most s B (Delay x by most) h = elim (cases_eq x s) [
  | inl e ↦ let m = h x by most refl e in omega (arith, m, far_same s x by most e)
  | inr ne ↦ let z : far s (Delay x by most) ≡ 0 = ap (λ b. if b then most else 0) (differ x s ne) in omega (arith, z)
]
far_most s B n h = omega arith

farthest_most : (s B : ℕ) (ns : List Signal) → ((i x by most : ℕ) → i < length ns → get_or ns i (Const (pos 0)) ≡ Delay x by most → x ≡ s → most ≤ B)
    → farthest s ns ≤ B
farthest_most s B [] h = omega arith
farthest_most s B (n ∷ ns) h =
    let here = far_most s B n (λ x by most e q. h 0 x by most (omega arith) e q) in
    let rest = farthest_most s B ns (λ i x by most l e q. h (suc i) x by most (omega (arith, l)) e q) in
    omega (arith, here, rest)

module _ (g : Graph) (p : ℕ → ℕ) (whole : IsGraph g) (fold : IsFolding g p) where
  abbrev h : Graph
  h = redirected g p

  -- what a node of the graph is that reads images
  data OfDelay (s x by most : ℕ) : Type 0 where
    Delayed : (y d : ℕ) → node g s ≡ Delay y d most → p y ≡ x → p d ≡ by → OfDelay s x by most

  at_delay : (s x by most : ℕ) → StandsAt h s (Delay x by most) → OfDelay s x by most
  at_delay s x by most a = go (node g s) refl (sym (node_is g p whole fold s (Const (pos 0)) (there g p whole fold s a.within)) ∙ a.is)
    where
      go : (n : Signal) → node g s ≡ n → with_images p (node g s) ≡ Delay x by most → OfDelay s x by most
      go (Delay y d m) e q =
          let both : Delay (p y) (p d) m ≡ Delay x by most = sym (ap (with_images p) e) ∙ q in
          let ex : p y ≡ x = cc in
          let ed : p d ≡ by = cc in
          let em : m ≡ most = cc in Delayed y d (e ∙ ap (Delay y d) em) ex ed
      go (Input k) e q = let z = sym (ap (with_images p) e) ∙ q in absurd cc
      go (Const k) e q = let z = sym (ap (with_images p) e) ∙ q in absurd cc
      go (Control k) e q = let z = sym (ap (with_images p) e) ∙ q in absurd cc
      go (Point op args) e q = let z = sym (ap (with_images p) e) ∙ q in absurd cc
      go (Back group k) e q = let z = sym (ap (with_images p) e) ∙ q in absurd cc
      go (Member group k) e q = let z = sym (ap (with_images p) e) ∙ q in absurd cc
      go (Read table r) e q = let z = sym (ap (with_images p) e) ∙ q in absurd cc
      go (Write table w y r) e q = let z = sym (ap (with_images p) e) ∙ q in absurd cc

  at_point : (s : ℕ) (op : Op) (args : List ℕ) → StandsAt h s (Point op args) → (xs : List ℕ) × (node g s ≡ Point op xs) × (map p xs ≡ args)
  at_point s op args a = go (node g s) refl (sym (node_is g p whole fold s (Const (pos 0)) (there g p whole fold s a.within)) ∙ a.is)
    where
      go : (n : Signal) → node g s ≡ n → with_images p (node g s) ≡ Point op args → (xs : List ℕ) × (node g s ≡ Point op xs) × (map p xs ≡ args)
      go (Point o xs) e q =
          let both : Point o (map p xs) ≡ Point op args = sym (ap (with_images p) e) ∙ q in
          let eo : o ≡ op = cc in
          let ex : map p xs ≡ args = cc in (xs, e ∙ ap (λ o. Point o xs) eo, ex)
      go (Input k) e q = let z = sym (ap (with_images p) e) ∙ q in absurd cc
      go (Const k) e q = let z = sym (ap (with_images p) e) ∙ q in absurd cc
      go (Control k) e q = let z = sym (ap (with_images p) e) ∙ q in absurd cc
      go (Delay y d m) e q = let z = sym (ap (with_images p) e) ∙ q in absurd cc
      go (Back group k) e q = let z = sym (ap (with_images p) e) ∙ q in absurd cc
      go (Member group k) e q = let z = sym (ap (with_images p) e) ∙ q in absurd cc
      go (Read table r) e q = let z = sym (ap (with_images p) e) ∙ q in absurd cc
      go (Write table w y r) e q = let z = sym (ap (with_images p) e) ∙ q in absurd cc

  -- a node that reads nothing stays as it is
  data Plain : Signal → Type 0 where
    AnInput : (k : ℕ) → Plain (Input k)
    AControl : (k : ℕ) → Plain (Control k)
    AMember : (group k : ℕ) → Plain (Member group k)

  at_plain : (s : ℕ) (m : Signal) → Plain m → StandsAt h s m → StandsAt g s m
  at_plain s m k a =
      let l = there g p whole fold s a.within in
      record { within = l; is = go k (node g s) refl (sym (node_is g p whole fold s (Const (pos 0)) l) ∙ a.is) }
    where
      go : {m : Signal} → Plain m → (n : Signal) → node g s ≡ n → with_images p (node g s) ≡ m → node g s ≡ m
      go k n e q = e ∙ plain k n (sym (ap (with_images p) e) ∙ q)
        where
          plain : {m : Signal} → Plain m → (n : Signal) → with_images p n ≡ m → n ≡ m
          plain k (Input i) q = q
          plain k (Const i) q = q
          plain k (Control i) q = q
          plain k (Back group i) q = q
          plain k (Member group i) q = q
          plain (AnInput j) (Point op args) q = absurd cc
          plain (AControl j) (Point op args) q = absurd cc
          plain (AMember u j) (Point op args) q = absurd cc
          plain (AnInput j) (Delay x d most) q = absurd cc
          plain (AControl j) (Delay x d most) q = absurd cc
          plain (AMember u j) (Delay x d most) q = absurd cc
          plain (AnInput j) (Read table r) q = absurd cc
          plain (AControl j) (Read table r) q = absurd cc
          plain (AMember u j) (Read table r) q = absurd cc
          plain (AnInput j) (Write table w x r) q = absurd cc
          plain (AControl j) (Write table w x r) q = absurd cc
          plain (AMember u j) (Write table w x r) q = absurd cc

  operands_there : (s : ℕ) (n : Signal) → s < length g.signals → node g s ≡ n → OperandsBelow g s n
  operands_there s n l e = subst (OperandsBelow g s) e (whole.ordered s (Const (pos 0)) l)

  -- a signal's image is the number that the signal is
  number_reading : (n : Signal) → number (reading g p p n) ≡ number n
  number_reading (Input k) = refl
  number_reading (Const k) = refl
  number_reading (Control k) = refl
  number_reading (Point op args) = refl
  number_reading (Delay x d most) = refl
  number_reading (Back group k) = refl
  number_reading (Member group k) = refl
  number_reading (Read table r) = refl
  number_reading (Write table w x r) = refl

  number_image : (n : Signal) → number (with_images p n) ≡ number n
  number_image (Input k) = refl
  number_image (Const k) = refl
  number_image (Control k) = refl
  number_image (Point op args) = refl
  number_image (Delay x d most) = refl
  number_image (Back group k) = refl
  number_image (Member group k) = refl
  number_image (Read table r) = refl
  number_image (Write table w x r) = refl

  number_same : (a : ℕ) → a < length g.signals → number_at h (p a) ≡ number_at g a
  number_same a l =
      let e = fold.earlier a l in
      ap number (node_is g p whole fold (p a) (Const (pos 0)) (omega (arith, e, l))) ∙ number_image (node g (p a))
      ∙ sym (number_reading (node g (p a))) ∙ ap number (fold.alike a l) ∙ number_reading (node g a)

  known_same : (xs : List ℕ) → All (λ a. a < length g.signals) xs → (i : ℕ) → known h (map p xs) i ≡ known g xs i
  known_same [] o i = refl
  known_same (a ∷ xs) o zero = number_same a (All-head (λ a. a < length g.signals) a xs o)
  known_same (a ∷ xs) o (suc i) = known_same xs (All-tail (λ a. a < length g.signals) a xs o) i

  numbers_same : (xs : List ℕ) → All (λ a. a < length g.signals) xs → numbers h (map p xs) ≡ numbers g xs
  numbers_same [] o = refl
  numbers_same (a ∷ xs) o =
      ap₂ before (number_same a (All-head (λ a. a < length g.signals) a xs o)) (numbers_same xs (All-tail (λ a. a < length g.signals) a xs o))

  folded : (P : ℕ → Type 0) → IsFolded g P → IsFolded h P
  folded P f = record {
    points = λ s op args a o. points s op args a o (at_point s op args a);
    delays = λ s x d most a o. delays s x d most a o (at_delay s x d most a);
    members = λ s group k a. f.members s group k (at_plain s (Member group k) (AMember group k) a);
  }
    where
      points : (s : ℕ) (op : Op) (args : List ℕ) → StandsAt h s (Point op args) → P s → (xs : List ℕ) × (node g s ≡ Point op xs) × (map p xs ≡ args)
          → (numbers h (take (inputs_of op) args) ≡ None) × (choice op (known h (take (inputs_of op) args)) ≡ None)
      points s op args a o (xs, e, q) =
          let l = there g p whole fold s a.within in
          let n = inputs_of op in
          let q' : take n args ≡ map p (take n xs) = ap (take n) (sym q) ∙ take-map p n xs in
          let below = operands_there s (Point op xs) l e in
          let all : All (λ r. r < length g.signals) (take n xs) =
          All-take (λ r. r < length g.signals) n xs
          (All-from_get_or (λ r. r < length g.signals) xs 0 (λ j m. let b = All-get_or (λ r. r < s) xs j 0 m below in omega (arith, b, l))) in
          let both = f.points s op xs (record { within = l; is = e }) o in (
            ap (numbers h) q' ∙ numbers_same (take n xs) all ∙ both.0,
            ap (λ ys. choice op (known h ys)) q' ∙ ap (choice op) (fun_ext (known_same (take n xs) all)) ∙ both.1,
          )

      delays : (s x d most : ℕ) → StandsAt h s (Delay x d most) → P s → OfDelay s x d most
          → (node h x ≡ Const (pos 0) → ⊥) × ((c : ℤ) → number_at h d ≡ Some c → (c ≡ pos most) × (0 < most))
      delays s x d most a o (Delayed y b e q r) =
          let l = there g p whole fold s a.within in
          let below = operands_there s (Delay y b most) l e in
          let both = f.delays s y b most (record { within = l; is = e }) o in (
            λ z. both.0 (number_node (node g y) (pos 0) (sym (number_same y (omega (arith, below.0, l))) ∙ ap (number_at h) q ∙ ap number z)),
            λ c z. both.1 c (sym (number_same b (omega (arith, below.1, l))) ∙ ap (number_at h) r ∙ z),
          )

  short : AreAtMost limit g → AreAtMost limit h
  short u s x by most a = go (at_delay s x by most a)
    where
      go : OfDelay s x by most → most ≤ limit
      go (Delayed y d e q r) = u s y d most (record { within = there g p whole fold s a.within; is = e })

  within : (X : List Frame) (c : ℕ → Stream) → StayWithin g X c → StayWithin h X c
  within X c u s x by most t a = go (at_delay s x by most a)
    where
      go : OfDelay s x by most → IsWithin (record { lo = pos 0; hi = pos most }) (value h by X c t)
      go (Delayed y d e q r) =
          let l = there g p whole fold s a.within in
          let below = operands_there s (Delay y d most) l e in
          let m : d < length g.signals = omega (arith, below.1, l) in
          let is : value h by X c t ≡ value g d X c t = ap (λ k. value h k X c t) (sym r) ∙ same g p whole fold X c d t m ∙ keeps g p whole fold X c d t m in
          subst (IsWithin (record { lo = pos 0; hi = pos most })) (sym is) (u s y d most t (record { within = l; is = e }))

  -- what is read of each signal
  abbrev read : ℕ → ℕ
  read s = farthest s g.signals

  least : (S : ℕ) → farthest S h.signals ≤ owned p read S (length g.signals)
  least S = farthest_most S (owned p read S (length g.signals)) h.signals (λ i x by most l e q. go i x by most l q
      (at_delay i x by most (record { within = l; is = e })))
    where
      go : (i x by most : ℕ) → i < length h.signals → x ≡ S → OfDelay i x by most → most ≤ owned p read S (length g.signals)
      go i x by most l q (Delayed y d e r r') =
          let m = there g p whole fold i l in
          let below = operands_there i (Delay y d most) m e in
          let f = farthest_least y d most i g.signals m e in
          let o = owned_with p read S y (length g.signals) (omega (arith, below.0, m)) (r ∙ q) in
          omega (arith, f, o)

  reaches : reach h ≤ reach g
  reaches =
      let n = length g.signals in
      let e : length h.signals ≡ n = length-map g.signals (with_images p) in
      let m = length h.signals in
      let a = total_least m (λ S. farthest S h.signals) (λ S. owned p read S n) (λ S l. least S) in
      let b = owned_all p read m n in
      let c = total_is m (λ S. farthest S h.signals) in
      let d = total_is n read in
      omega (arith, a, b, c, d)

  outputs_kept : (X : List Frame) (c : ℕ → Stream) (j t : ℕ) → j < length g.outputs
      → value h (get_or h.outputs j 0) X c t ≡ value g (get_or g.outputs j 0) X c t
  outputs_kept X c j t l =
      let s = get_or g.outputs j 0 in
      ap (λ r. value h r X c t) (get_or-map p g.outputs j 0 0 l) ∙ same g p whole fold X c s t (whole.outputs j l)
      ∙ keeps g p whole fold X c s t (whole.outputs j l)

  pub keeps_all : KeepsAll g h
  keeps_all = record {
    graph = is_graph g p whole fold;
    width = length-map g.outputs p;
    values = outputs_kept;
    reach = reaches;
    within = within;
    short = short;
    inputs = λ s k a. at_plain s (Input k) (AnInput k) a;
    controls = λ s k a. at_plain s (Control k) (AControl k) a;
    tables = refl;
    folded = λ marks f. folded (IsMarked marks) f;
  }

pub redirected_keeps_all : (g : Graph) → RedirectedKeepsAll g
redirected_keeps_all g p whole fold = keeps_all g p whole fold
