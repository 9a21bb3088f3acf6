-- The turns that find the value of a timeless diagram.
use Rattle.std.proofs.Common.{◌≡◌, ◌⊎◌, ℕ, ◌+◌, ◌<◌, ◌≤◌, Bool, ◌&&◌, List, [], ◌∷◌, length, refl, sym, ap, ◌∙◌, subst, arith, ℤ, pos, inl, inr}
use Rattle.std.proofs.Math.Bool.{and_assoc}
use Rattle.fv_base.proofs.lemmas.Lists.{length_table}
use Rattle.fv_num.specs.headline.Words.{argument}
use Rattle.fv_diagram.specs.headline.Diagram.{Diagram, Par, Seq, Split, Merge, inputs, outputs, size}
use Rattle.fv_diagram.specs.Composed.{IsComposed}
use Rattle.fv_diagram.specs.Arena.{Arena, count_of, tree_of}
use Rattle.fv_diagram_numbers.specs.declared.timeless.Task.{Task}
use Rattle.fv_diagram_numbers.specs.declared.timeless.Task.TheVariants as task
use Rattle.fv_diagram_numbers.specs.headline.Numbers.{is_timeless}
use Rattle.fv_num.specs.headline.Frames.{Frame}
use Rattle.fv_diagram.specs.headline.Streams.{dealt, merged}
use Rattle.fv_diagram_numbers.specs.inner.Timeless.{Action, given, whole, action, Does, Leads, Fits, AllFit, IsReady, are_timeless, weight, Advances}
use Rattle.fv_diagram.proofs.lemmas.Turns.{some_size, not_below}
use Rattle.fv_diagram_numbers.proofs.Actions.{narrowed, after, follow, beside}
use Rattle.fv_diagram_numbers.proofs.FirstValues.{width}

-- ---- more places
fits_more : (a : Arena) (t : Task) (l k : ℕ) → l ≤ k → Fits a l t → Fits a k t
fits_more a (task.Visit id from to) l k h f = (f.0, f.1, omega (arith, f.2), omega (arith, f.3), f.4)
fits_more a (task.Deal at count many) l k h f = (f.0, f.1, omega (arith, f.2))
fits_more a (task.Sum at count many) l k h f = (f.0, f.1, omega (arith, f.2))

all_fit_more : (a : Arena) (ts : List Task) (l k : ℕ) → l ≤ k → AllFit a l ts → AllFit a k ts
all_fit_more a [] l k h f = tt
all_fit_more a (t ∷ ts) l k h f = (fits_more a t l k h f.0, all_fit_more a ts l k h f.1)

moved : (a : Arena) (ts : List Task) (l k : ℕ) (m r : ℕ → ℤ) (n : ℤ) → l ≤ k → ((i : ℕ) → r i ≡ m i) → Leads a l ts m n → Leads a k ts r n
moved a [] l k m r n h s p = s 0 ∙ p
moved a (t ∷ ts) l k m r n h s p = λ m' d. moved a ts l k m' m' n h (λ i. refl) (p m' (narrowed l k (action a t) m r m' h s d))

-- ---- parts in place of a diagram
-- what a visit of diagram d asks
abbrev pub Visits : (from to l : ℕ) → Diagram → Type 0
Visits from to l d =
    IsComposed d × (from + inputs d ≤ l) × (to + outputs d ≤ l) × ((from + inputs d ≤ to) ⊎ (to + outputs d ≤ from))

visits : (a : Arena) (id from to l : ℕ) (d : Diagram) → tree_of a id ≡ d → Fits a l (task.Visit id from to) → Visits from to l d
visits a id from to l d e f = subst (Visits from to l) e (f.1, f.2, f.3, f.4)

-- numbers to which others may have come
pub record Extended (ns ms : List ℤ) : Type 0 where
  pub grows : length ns ≤ length ms
  pub stays : (i : ℕ) → argument ms i ≡ argument ns i

pub two_parts : (a : Arena) (t t1 t2 : Task) (ts : List Task) (ns ms : List ℤ) → IsReady a (t ∷ ts) ns → Extended ns ms
    → Fits a (length ms) t1 → Fits a (length ms) t2
    → ((m n r : ℕ → ℤ) → Does (length ms) (action a t1) m n → Does (length ms) (action a t2) n r → Does (length ns) (action a t) m r)
    → are_timeless a (t1 ∷ t2 ∷ ts) ≡ are_timeless a (t ∷ ts) → weight a (t1 ∷ t2 ∷ ts) < weight a (t ∷ ts)
    → Advances a (t ∷ ts) ns (t1 ∷ t2 ∷ ts) ms
two_parts a t t1 t2 ts ns ms f x f1 f2 both s w = record {
  ready = (f1, (f2, all_fit_more a ts (length ns) (length ms) x.grows f.1));
  leads = λ n p. λ m d. λ r e. moved a ts (length ns) (length ms) r r n x.grows (λ i. refl)
      (p r (narrowed (length ns) (length ns) (action a t) (argument ns) (argument ms) r (omega arith) x.stays (both (argument ms) m r d e)));
  same = s;
  smaller = w;
  grows = x.grows;
}

pub three_parts : (a : Arena) (t t1 t2 t3 : Task) (ts : List Task) (ns ms : List ℤ) → IsReady a (t ∷ ts) ns → Extended ns ms
    → Fits a (length ms) t1 → Fits a (length ms) t2 → Fits a (length ms) t3
    → ((m n o r : ℕ → ℤ) → Does (length ms) (action a t1) m n → Does (length ms) (action a t2) n o → Does (length ms) (action a t3) o r
    → Does (length ns) (action a t) m r)
    → are_timeless a (t1 ∷ t2 ∷ t3 ∷ ts) ≡ are_timeless a (t ∷ ts) → weight a (t1 ∷ t2 ∷ t3 ∷ ts) < weight a (t ∷ ts)
    → Advances a (t ∷ ts) ns (t1 ∷ t2 ∷ t3 ∷ ts) ms
three_parts a t t1 t2 t3 ts ns ms f x f1 f2 f3 all s w = record {
  ready = (f1, (f2, (f3, all_fit_more a ts (length ns) (length ms) x.grows f.1)));
  leads = λ n p. λ m d. λ o e. λ r g. moved a ts (length ns) (length ms) r r n x.grows (λ i. refl)
      (p r (narrowed (length ns) (length ns) (action a t) (argument ns) (argument ms) r (omega arith) x.stays (all (argument ms) m o r d e g)));
  same = s;
  smaller = w;
  grows = x.grows;
}

-- two diagrams are timeless where one over them is, and smaller than it
both_timeless : (a : Arena) (id x y : ℕ) (d : Diagram) (rest : Bool) → tree_of a id ≡ d
    → is_timeless d ≡ (is_timeless (tree_of a x) && is_timeless (tree_of a y))
    → (is_timeless (tree_of a x) && (is_timeless (tree_of a y) && rest)) ≡ (is_timeless (tree_of a id) && rest)
both_timeless a id x y d rest e s =
    sym (and_assoc (is_timeless (tree_of a x)) (is_timeless (tree_of a y)) rest) ∙ ap (λ b. b && rest) (sym (ap is_timeless e ∙ s))

-- the diagram is put over two others
pub record IsOver (a : Arena) (id x y : ℕ) (d : Diagram) : Type 0 where
  pub is : tree_of a id ≡ d
  pub left : x < count_of a
  pub right : y < count_of a

pub over_two : {a : Arena} {id x y : ℕ} {d : Diagram} → tree_of a id ≡ d → (x < id) × (y < id) → id < count_of a → IsOver a id x y d
over_two is below there = record { is = is; left = omega (arith, below.0, there); right = omega (arith, below.1, there) }

-- this many numbers came, from place `at` on, and each place has what it had
pub record HasRoom (at count : ℕ) (ns ms : List ℤ) : Type 0 where
  pub here : at ≡ length ns
  pub long : length ms ≡ length ns + count
  pub stays : (i : ℕ) → argument ms i ≡ argument ns i

pub has_room : {at k count : ℕ} {ns ms : List ℤ} → at ≡ length ns → length ms ≡ length ns + k → k ≡ count
    → ((i : ℕ) → argument ms i ≡ argument ns i) → HasRoom at count ns ms
has_room {ns = ns} here long many stays = record { here = here; long = long ∙ ap (λ n. length ns + n) many; stays = stays }

-- ---- one after the other
pub seq_turn : {a : Arena} {id x y from to at : ℕ} {ts : List Task} {ns ms : List ℤ} → IsOver a id x y (Seq (tree_of a x) (tree_of a y))
    → HasRoom at (outputs (tree_of a x)) ns ms → IsReady a (task.Visit id from to ∷ ts) ns
    → Advances a (task.Visit id from to ∷ ts) ns (task.Visit x from at ∷ task.Visit y at to ∷ ts) ms
seq_turn {a} {id} {x} {y} {from} {to} {at} {ts} {ns} {ms} over room f =
    let e = over.is in let hx = over.left in let hy = over.right in
    let here = room.here in let more = room.long in let stays = room.stays in
    let v = visits a id from to (length ns) (Seq (tree_of a x) (tree_of a y)) e f.0 in
    let same : outputs (tree_of a x) ≡ inputs (tree_of a y) = v.0.2 in
    two_parts a (task.Visit id from to) (task.Visit x from at) (task.Visit y at to) ts ns ms f
    (record { grows = omega (arith, more); stays = stays })
    (hx, v.0.0, omega (arith, v.1, more), omega (arith, here, more), inl (omega (arith, v.1, here)))
    (hy, v.0.1, omega (arith, here, more, same), omega (arith, v.2, more), inr (omega (arith, v.2, here)))
    (λ m n r p q. subst (λ d. Does (length ns) (whole d from to) m r) (sym e)
    (follow (length ns) (whole (tree_of a x) from at) (whole (tree_of a y) at to) m n r (width (tree_of a x)) (omega (arith, here)) refl (sym same)
    (narrowed (length ns) (length ms) (whole (tree_of a x) from at) m m n (omega (arith, more)) (λ i. refl) p)
    (narrowed (length ns) (length ms) (whole (tree_of a y) at to) n n r (omega (arith, more)) (λ i. refl) q)))
    (both_timeless a id x y (Seq (tree_of a x) (tree_of a y)) (are_timeless a ts) e refl)
    (omega (arith, ap size e))

-- ---- both side by side
pub par_turn : {a : Arena} {id x y from to next behind : ℕ} {ts : List Task} {ns : List ℤ} → IsOver a id x y (Par (tree_of a x) (tree_of a y))
    → next ≡ from + inputs (tree_of a x) → behind ≡ to + outputs (tree_of a x) → IsReady a (task.Visit id from to ∷ ts) ns
    → Advances a (task.Visit id from to ∷ ts) ns (task.Visit x from to ∷ task.Visit y next behind ∷ ts) ns
par_turn {a} {id} {x} {y} {from} {to} {next} {behind} {ts} {ns} over enters leaves f =
    let e = over.is in let hx = over.left in let hy = over.right in
    let v = visits a id from to (length ns) (Par (tree_of a x) (tree_of a y)) e f.0 in
    two_parts a (task.Visit id from to) (task.Visit x from to) (task.Visit y next behind) ts ns ns f
    (record { grows = omega arith; stays = λ i. refl })
    (hx, v.0.0, omega (arith, v.1), omega (arith, v.2), first v.3)
    (hy, v.0.1, omega (arith, v.1, enters), omega (arith, v.2, leaves), second v.3)
    (λ m n r p q. subst (λ d. Does (length ns) (whole d from to) m r) (sym e)
    (beside (length ns) (whole (tree_of a x) from to) (whole (tree_of a y) next behind) m n r
    (record {
      wide = width (tree_of a x);
      from = enters;
      to = leaves;
      takes = omega (arith, v.1, enters);
      gives = omega (arith, v.2, leaves);
      apart = both v.3;
    }) p q))
    (both_timeless a id x y (Par (tree_of a x) (tree_of a y)) (are_timeless a ts) e refl)
    (omega (arith, ap size e))
  where
    first : ((from + (inputs (tree_of a x) + inputs (tree_of a y)) ≤ to) ⊎ (to + (outputs (tree_of a x) + outputs (tree_of a y)) ≤ from))
        → ((from + inputs (tree_of a x) ≤ to) ⊎ (to + outputs (tree_of a x) ≤ from))
    first (inl b) = inl (omega (arith, b))
    first (inr b) = inr (omega (arith, b))

    second : ((from + (inputs (tree_of a x) + inputs (tree_of a y)) ≤ to) ⊎ (to + (outputs (tree_of a x) + outputs (tree_of a y)) ≤ from))
        → ((next + inputs (tree_of a y) ≤ behind) ⊎ (behind + outputs (tree_of a y) ≤ next))
    second (inl b) = inl (omega (arith, b, enters, leaves))
    second (inr b) = inr (omega (arith, b, enters, leaves))

    both : ((from + (inputs (tree_of a x) + inputs (tree_of a y)) ≤ to) ⊎ (to + (outputs (tree_of a x) + outputs (tree_of a y)) ≤ from))
        → ((next + inputs (tree_of a y) ≤ to) ⊎ (behind + outputs (tree_of a y) ≤ from))
    both (inl b) = inl (omega (arith, b, enters))
    both (inr b) = inr (omega (arith, b, leaves))

-- ---- one after the other, and numbers dealt or added up between them
-- a step in place
abbrev step_at : (at count many : ℕ) → (Frame → Frame) → Action
step_at at count many f = record { from = at; takes = count; to = at; gives = many; turned = f }

-- a diagram, a step in place after it, and then another diagram, on numbers to which others may have come
in_turn : (l k from at to : ℕ) (x y : Diagram) (f : Frame → Frame) → ((u : Frame) → length (f u) ≡ inputs y) → l ≤ at → l ≤ k
    → (m n o r : ℕ → ℤ) → Does k (whole x from at) m n → Does k (step_at at (outputs x) (inputs y) f) n o → Does k (whole y at to) o r
    → Does l (after (after (whole x from at) (step_at at (outputs x) (inputs y) f)) (whole y at to)) m r
in_turn l k from at to x y f wide far more m n o r p q s =
    let X = whole x from at in
    let S = step_at at (outputs x) (inputs y) f in
    let Y = whole y at to in
    follow l (after X S) Y m o r (λ u. wide (given x u)) far refl refl
    (follow l X S m n o (width x) far refl refl (narrowed l k X m m n more (λ i. refl) p) (narrowed l k S n n o more (λ i. refl) q))
    (narrowed l k Y o o r more (λ i. refl) s)

pub split_turn : {a : Arena} {id x y from to at : ℕ} {ts : List Task} {ns ms : List ℤ} → IsOver a id x y (Split (tree_of a x) (tree_of a y))
    → HasRoom at (inputs (tree_of a y)) ns ms → IsReady a (task.Visit id from to ∷ ts) ns
    → Advances a (task.Visit id from to ∷ ts) ns
    (task.Visit x from at ∷ task.Deal at (outputs (tree_of a x)) (inputs (tree_of a y)) ∷ task.Visit y at to ∷ ts) ms
split_turn {a} {id} {x} {y} {from} {to} {at} {ts} {ns} {ms} over room f =
    let e = over.is in let here = room.here in let more = room.long in
    let l = length ns in
    let c = outputs (tree_of a x) in
    let k = inputs (tree_of a y) in
    let v = visits a id from to l (Split (tree_of a x) (tree_of a y)) e f.0 in
    let fewer : c ≤ k = not_below k c v.0.3 v.0.4 in
    let grows : l ≤ length ms = omega (arith, more) in
    three_parts a (task.Visit id from to) (task.Visit x from at) (task.Deal at c k) (task.Visit y at to) ts ns ms f
    (record { grows = grows; stays = room.stays })
    (over.left, v.0.0, omega (arith, v.1, more), omega (arith, here, more, fewer), inl (omega (arith, v.1, here)))
    (omega (arith, v.0.2), fewer, omega (arith, here, more))
    (over.right, v.0.1, omega (arith, here, more), omega (arith, v.2, more), inr (omega (arith, v.2, here)))
    (λ m n o r p q s. subst (λ d. Does l (whole d from to) m r) (sym e)
    (in_turn l (length ms) from at to (tree_of a x) (tree_of a y) (dealt (pos 0) k) (λ u. length_table k _) (omega (arith, here)) grows m n o r p q s))
    (both_timeless a id x y (Split (tree_of a x) (tree_of a y)) (are_timeless a ts) e refl)
    (omega (arith, ap size e, some_size (tree_of a x)))

pub merge_turn : {a : Arena} {id x y from to at : ℕ} {ts : List Task} {ns ms : List ℤ} → IsOver a id x y (Merge (tree_of a x) (tree_of a y))
    → HasRoom at (outputs (tree_of a x)) ns ms → IsReady a (task.Visit id from to ∷ ts) ns
    → Advances a (task.Visit id from to ∷ ts) ns
    (task.Visit x from at ∷ task.Sum at (outputs (tree_of a x)) (inputs (tree_of a y)) ∷ task.Visit y at to ∷ ts) ms
merge_turn {a} {id} {x} {y} {from} {to} {at} {ts} {ns} {ms} over room f =
    let e = over.is in let here = room.here in let more = room.long in
    let l = length ns in
    let c = outputs (tree_of a x) in
    let k = inputs (tree_of a y) in
    let v = visits a id from to l (Merge (tree_of a x) (tree_of a y)) e f.0 in
    let fewer : k ≤ c = not_below c k v.0.2 v.0.4 in
    let grows : l ≤ length ms = omega (arith, more) in
    three_parts a (task.Visit id from to) (task.Visit x from at) (task.Sum at c k) (task.Visit y at to) ts ns ms f
    (record { grows = grows; stays = room.stays })
    (over.left, v.0.0, omega (arith, v.1, more), omega (arith, here, more), inl (omega (arith, v.1, here)))
    (omega (arith, v.0.3), fewer, omega (arith, here, more))
    (over.right, v.0.1, omega (arith, here, more, fewer), omega (arith, v.2, more), inr (omega (arith, v.2, here)))
    (λ m n o r p q s. subst (λ d. Does l (whole d from to) m r) (sym e)
    (in_turn l (length ms) from at to (tree_of a x) (tree_of a y) (merged k) (λ u. length_table k _) (omega (arith, here)) grows m n o r p q s))
    (both_timeless a id x y (Merge (tree_of a x) (tree_of a y)) (are_timeless a ts) e refl)
    (omega (arith, ap size e, some_size (tree_of a x)))

-- the same turn, where tasks and numbers are called otherwise
pub so_called : {a : Arena} {ts us vs : List Task} {ns ms os : List ℤ} → vs ≡ us → os ≡ ms → Advances a ts ns us ms → Advances a ts ns vs os
so_called {a} {ts} {us} {vs} {ns} {ms} {os} e f s = subst (λ vs. Advances a ts ns vs os) (sym e) (subst (λ os. Advances a ts ns us os) (sym f) s)
