-- What a pass leaves as it is: the groups, which stay open, and how many members their Backs name.
use Rattle.std.proofs.Common.{◌≡◌, ℕ, zero, suc, ◌+◌, ◌<◌, List, [], ◌∷◌, ◌++◌, length, take, map, get_or, refl, sym, ap, ◌∙◌, subst, arith, ℤ, pos, Some, None}
use Rattle.std.proofs.Common.{true, false, Bool, if◌then◌else◌, nat_eq}
use Rattle.std.specs.Prelude.{Option}
use Rattle.std.proofs.lemmas.Int.{ints}
use Rattle.std.proofs.lemmas.List.{length_push}
use Rattle.fv_num.specs.declared.op.Op.{Op}
use Rattle.fv_num.specs.headline.Words.{apply_of, inputs_of}
use Rattle.fv_signal.specs.declared.signal.Signal.{Signal}
use Rattle.fv_signal.specs.declared.signal.Signal.TheVariants.{Input, Const, Control, Point, Delay, Back, Member, Read, Write}
use Rattle.fv_signal.specs.headline.Value.{Graph, back_by}
use Rattle.fv_share.specs.Drafts.{Draft, IsDraft, IsPending, BacksWithin, put, with_groups, with_tables}
use Rattle.fv_share.proofs.lemmas.Puts.{backs_stay_within}
use Rattle.fv_share.proofs.lemmas.Groups.{groups_stay}
use Rattle.fv_simplify.specs.Choices.{choice}
use Rattle.fv_simplify.specs.Nodes.{number_at, known, numbers}
use Rattle.fv_simplify.specs.Rebuilt.{base, IsMarked}
use Rattle.fv_simplify.specs.Passing.{so_far, is_zero, put_late, late, delayed_by, chosen, folded, image_of}
use Rattle.fv_simplify.specs.Runs.{Pass, step, steps, nothing, begun}
use Rattle.fv_simplify.proofs.Along.{Steps, stepped}

-- the groups, which of them are closed, and the tables
abbrev pub rest_of : Draft → List (List ℕ) × List Bool × List (List ℤ)
rest_of d = (d.groups, d.closed, d.tables)

late_rest : (d : Draft) (x by : ℕ) (b : Bool) → rest_of (let r : ℕ × Draft = if b then (x, d) else put_late d x by in r.1) ≡ rest_of d
late_rest d x by true = refl
late_rest d x by false = refl

number_rest : (d : Draft) (room : Option ℕ) (x by : ℕ) (b : Bool) →
    rest_of (let r : ℕ × Draft = if b then (x, d) else late d (base (so_far d) room x).0 ((base (so_far d) room x).1 + by) in r.1) ≡ rest_of d
number_rest d room x by true = refl
number_rest d room x by false = let b = base (so_far d) room x in late_rest d b.0 (b.1 + by) (is_zero (number_at (so_far d) b.0))

delay_rest : (d : Draft) (room : Option ℕ) (x by most : ℕ) (k : Option ℤ) → rest_of (delayed_by d room x by most k).1 ≡ rest_of d
delay_rest d room x by most (Some c) = number_rest d room x (back_by most c) (nat_eq (back_by most c) 0)
delay_rest d room x by most None = go (is_zero (number_at (so_far d) x))
  where
    go : (b : Bool) → rest_of (let r : ℕ × Draft = if b then (x, d) else put d (Delay x by most) in r.1) ≡ rest_of d
    go true = refl
    go false = refl

chosen_rest : (d : Draft) (op : Op) (args : List ℕ) (k : Option ℕ) → rest_of (chosen d op args k).1 ≡ rest_of d
chosen_rest d op args (Some i) = refl
chosen_rest d op args None = refl

folded_rest : (d : Draft) (op : Op) (args : List ℕ) (k : Option (List ℤ)) → rest_of (folded d op args k).1 ≡ rest_of d
folded_rest d op args (Some ns) = refl
folded_rest d op args None = chosen_rest d op args (choice op (known (so_far d) (take (inputs_of op) args)))

image_rest : (g : Graph) (images : List ℕ) (room : ℕ → Option ℕ) (d : Draft) (n : Signal) → rest_of (image_of g images room d n).1 ≡ rest_of d
image_rest g images room d (Input k) = refl
image_rest g images room d (Const k) = refl
image_rest g images room d (Control k) = refl
image_rest g images room d (Back group k) = refl
image_rest g images room d (Member group k) = refl
image_rest g images room d (Read table r) = refl
image_rest g images room d (Write table w x r) = refl
image_rest g images room d (Delay x by most) =
    delay_rest d (room x) (get_or images x 0) (get_or images by 0) most (number_at (so_far d) (get_or images by 0))
image_rest g images room d (Point op args) = let ws = map (λ a. get_or images a 0) args in folded_rest d op ws (numbers (so_far d) (take (inputs_of op) ws))

-- ---- the groups stay open

module _ (g : Graph) (marks : List Bool) (room : ℕ → Option ℕ) where
  steps_rest : (s : Pass) (ns : List Signal) → rest_of (steps g marks room s ns).draft ≡ rest_of s.draft
  steps_rest s [] = refl
  steps_rest s (n ∷ ns) =
      let r = stepped g marks room s n in
      steps_rest (step g marks room s n) ns ∙ go (get_or marks (length s.images) false) refl r
    where
      go : (b : Bool) → get_or marks (length s.images) false ≡ b → Steps g marks room s n (step g marks room s n)
          → rest_of (step g marks room s n).draft ≡ rest_of s.draft
      go true e r = ap (λ (x : ℕ × Draft). rest_of x.1) (r.marked e) ∙ image_rest g s.images room s.draft n
      go false e r = ap rest_of (r.left (λ m. let w = sym e ∙ m in absurd cc)).1

  nothing_is_draft : IsDraft nothing
  nothing_is_draft = record {
    distinct = λ i j d l m e. absurd (omega (arith, l));
    ordered = λ i x l. absurd (omega (arith, l));
    named = λ i x l. absurd (omega (arith, l));
    defined = λ k i l m. absurd (omega (arith, l));
    marked = refl;
    numbers = λ i x l. absurd (omega (arith, l));
    tables = λ t i. omega (arith, ints);
  }

  no_tables : (n : ℕ) → (with_groups nothing n).tables ≡ []
  no_tables zero = refl
  no_tables (suc n) = no_tables n

  -- the tables are those of the graph
  pub are_tabled : (ns : List Signal) → (steps g marks room (begun g) ns).draft.tables ≡ g.tables
  are_tabled ns =
      ap (λ (r : List (List ℕ) × List Bool × List (List ℤ)). r.2) (steps_rest (begun g) ns) ∙ ap (λ ts. ts ++ g.tables) (no_tables (length g.groups))

  marked_at : (n : ℕ) → length (with_groups nothing n).closed ≡ length (with_groups nothing n).groups
  marked_at zero = refl
  marked_at (suc n) = let q = with_groups nothing n in omega (arith, length_push q.closed false, length_push q.groups [], marked_at n)

  -- each group has its mark
  pub are_marked : (ns : List Signal) → let d = (steps g marks room (begun g) ns).draft in length d.closed ≡ length d.groups
  are_marked ns =
      subst (λ (r : List (List ℕ) × List Bool × List (List ℤ)). length r.1 ≡ length r.0) (sym (steps_rest (begun g) ns)) (marked_at (length g.groups))

  -- and waits for its members
  pub are_pending : (ns : List Signal) (k : ℕ) → k < length g.groups → IsPending (steps g marks room (begun g) ns).draft k
  are_pending ns k l =
      let n = length g.groups in
      let o = (groups_stay nothing).0 nothing_is_draft n in
      let at : 0 + k ≡ k = omega arith in
      let there : (k < length (with_groups nothing n).groups) × (get_or (with_groups nothing n).closed k false ≡ false) =
      subst (λ j. IsPending (with_groups nothing n) j) at (o.pending k l) in
      subst (λ (r : List (List ℕ) × List Bool × List (List ℤ)). (k < length r.0) × (get_or r.1 k false ≡ false)) (sym (steps_rest (begun g) ns)) there

  -- there are as many groups
  pub groups_long : (ns : List Signal) → length (steps g marks room (begun g) ns).draft.groups ≡ length g.groups
  groups_long ns =
      let n = length g.groups in
      let o = (groups_stay nothing).0 nothing_is_draft n in
      let long : length (with_groups nothing n).groups ≡ n = omega (arith, o.long) in
      ap (λ (r : List (List ℕ) × List Bool × List (List ℤ)). length r.0) (steps_rest (begun g) ns) ∙ long

-- ---- Backs

module _ (group width : ℕ) where
  abbrev Within : Draft → Type 0
  Within d = BacksWithin d group width

  put_other : (d : Draft) (n : Signal) → ((k : ℕ) → n ≡ Back group k → ⊥) → Within d → Within (put d n).1
  put_other d n never h = backs_stay_within d n group width (λ k e. absurd (never k e)) h

  late_backs : (d : Draft) (x by : ℕ) (b : Bool) → Within d → Within (let r : ℕ × Draft = if b then (x, d) else put_late d x by in r.1)
  late_backs d x by true h = h
  late_backs d x by false h =
      let one = put d (Const (pos by)) in
      put_other one.1 (Delay x one.0 by) (λ k e. absurd cc) (put_other d (Const (pos by)) (λ k e. absurd cc) h)

  number_backs : (d : Draft) (room : Option ℕ) (x by : ℕ) (b : Bool) → Within d →
      Within (let r : ℕ × Draft = if b then (x, d) else late d (base (so_far d) room x).0 ((base (so_far d) room x).1 + by) in r.1)
  number_backs d room x by true h = h
  number_backs d room x by false h = let b = base (so_far d) room x in late_backs d b.0 (b.1 + by) (is_zero (number_at (so_far d) b.0)) h

  delay_backs : (d : Draft) (room : Option ℕ) (x by most : ℕ) (k : Option ℤ) → Within d → Within (delayed_by d room x by most k).1
  delay_backs d room x by most (Some c) h = number_backs d room x (back_by most c) (nat_eq (back_by most c) 0) h
  delay_backs d room x by most None h = go (is_zero (number_at (so_far d) x))
    where
      go : (b : Bool) → Within (let r : ℕ × Draft = if b then (x, d) else put d (Delay x by most) in r.1)
      go true = h
      go false = put_other d (Delay x by most) (λ k e. absurd cc) h

  chosen_backs : (d : Draft) (op : Op) (args : List ℕ) (k : Option ℕ) → Within d → Within (chosen d op args k).1
  chosen_backs d op args (Some i) h = h
  chosen_backs d op args None h = put_other d (Point op args) (λ k e. absurd cc) h

  folded_backs : (d : Draft) (op : Op) (args : List ℕ) (k : Option (List ℤ)) → Within d → Within (folded d op args k).1
  folded_backs d op args (Some ns) h = put_other d (Const (apply_of op ns)) (λ k e. absurd cc) h
  folded_backs d op args None h = chosen_backs d op args (choice op (known (so_far d) (take (inputs_of op) args))) h

  image_backs : (g : Graph) (images : List ℕ) (room : ℕ → Option ℕ) (d : Draft) (n : Signal) → ((k : ℕ) → n ≡ Back group k → k < width) → Within d
      → Within (image_of g images room d n).1
  image_backs g images room d (Input j) w h = put_other d (Input j) (λ k e. absurd cc) h
  image_backs g images room d (Const z) w h = put_other d (Const z) (λ k e. absurd cc) h
  image_backs g images room d (Control j) w h = put_other d (Control j) (λ k e. absurd cc) h
  image_backs g images room d (Back other j) w h = backs_stay_within d (Back other j) group width w h
  image_backs g images room d (Member other j) w h = h
  image_backs g images room d (Read table r) w h = put_other d (Read table (get_or images r 0)) (λ k e. absurd cc) h
  image_backs g images room d (Write table k x r) w h =
      put_other d (Write table (get_or images k 0) (get_or images x 0) (get_or images r 0)) (λ k e. absurd cc) h
  image_backs g images room d (Delay x by most) w h =
      delay_backs d (room x) (get_or images x 0) (get_or images by 0) most (number_at (so_far d) (get_or images by 0)) h
  image_backs g images room d (Point op args) w h =
      let ws = map (λ a. get_or images a 0) args in folded_backs d op ws (numbers (so_far d) (take (inputs_of op) ws)) h

  module _ (g : Graph) (marks : List Bool) (room : ℕ → Option ℕ) where
    -- the marked signals after a state name members within the width
    abbrev NameWithin : Pass → List Signal → Type 0
    NameWithin s ns = (i k : ℕ) → i < length ns → IsMarked marks (length s.images + i) → get_or ns i (Const (pos 0)) ≡ Back group k → k < width

    step_backs : (s : Pass) (n : Signal) → (IsMarked marks (length s.images) → (k : ℕ) → n ≡ Back group k → k < width) → Within s.draft
        → Within (step g marks room s n).draft
    step_backs s n w h = go (get_or marks (length s.images) false) refl (stepped g marks room s n)
      where
        go : (b : Bool) → get_or marks (length s.images) false ≡ b → Steps g marks room s n (step g marks room s n) → Within (step g marks room s n).draft
        go true e r = subst (λ (x : ℕ × Draft). Within x.1) (sym (r.marked e)) (image_backs g s.images room s.draft n (w e) h)
        go false e r = subst Within (sym (r.left (λ m. let z = sym e ∙ m in absurd cc)).1) h

    pub steps_backs : (s : Pass) (ns : List Signal) → NameWithin s ns → Within s.draft → Within (steps g marks room s ns).draft
    steps_backs s [] w h = h
    steps_backs s (n ∷ ns) w h =
        let t = step g marks room s n in
        let r = stepped g marks room s n in
        let zero_at : length s.images ≡ length s.images + 0 = omega arith in
        let len : length t.images ≡ length s.images + 1 = ap length r.images ∙ length_push s.images r.image in
        steps_backs t ns
        (λ i k l m e. let q : length t.images + i ≡ length s.images + suc i = omega (arith, len) in
        w (suc i) k (omega (arith, l)) (subst (IsMarked marks) q m) e)
        (step_backs s n (λ m k e. w 0 k (omega arith) (subst (IsMarked marks) zero_at m) e) h)

    -- no Back names a member in the beginning
    pub begun_backs : Within (begun g).draft
    begun_backs =
        let n = length g.groups in
        put_other (with_tables (with_groups nothing n) g.tables) (Const (pos 0)) (λ k e. absurd cc)
        (λ s k x l e. absurd (let none = ap length (no_signals n) in omega (arith, l, none)))
      where
        no_signals : (n : ℕ) → (with_groups nothing n).signals ≡ []
        no_signals zero = refl
        no_signals (suc n) = no_signals n
