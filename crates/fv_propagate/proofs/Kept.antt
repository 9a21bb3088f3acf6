-- What holds of all progress stays so.
use Rattle.std.proofs.Common.{◌≡◌, ℕ, zero, suc, ◌<◌, ◌≤◌, List, [], ◌∷◌, ◌++◌, length, get_or, map, drop, refl, sym, ap, ◌∙◌, subst, arith, All, Bool, true}
use Rattle.std.proofs.Common.{false, pos, ℤ}
use Rattle.std.specs.Prelude.{slice_set}
use Rattle.std.proofs.lemmas.List.{length_push, length-set, get_or-set_other}
use Rattle.std.proofs.lemmas.List.Elements.{All-from_get_or}
use Rattle.fv_signal.specs.declared.signal.Signal.{Signal}
use Rattle.fv_signal.specs.declared.signal.Signal.TheVariants.{Const, Control, Point, Delay, Back, Member}
use Rattle.fv_share.specs.Drafts.{Draft, NamesSoFar, CanPut, IsPending, IsShut, BacksWithin, table_in, with_group, with_members}
use Rattle.fv_share.proofs.lemmas.Puts.{tables_stand}
use Rattle.fv_diagram.specs.headline.Diagram.{table_inputs}
use Rattle.fv_diagram.specs.Diagram.{AreNumbers}
use Rattle.std.proofs.lemmas.List.Elements.{All-get_or}
use Rattle.fv_num.specs.declared.op.Op.TheVariants.{Add, Rem, Select2}
use Rattle.fv_diagram.specs.declared.signals.Leaf.{Leaf}
use Rattle.fv_diagram.specs.declared.signals.Leaf.TheVariants as leaf
use Rattle.fv_diagram.specs.Hooks.{padded}
use Rattle.fv_diagram.proofs.lemmas.Places.{prefix_long}
use Rattle.fv_propagate.specs.declared.progress.Feedback.{Feedback}
use Rattle.fv_propagate.specs.inner.Progress.{Progress, put, puts, put_mem, put_prefix, passed, grouped, leaf_of, opened_of, shut, closed_of, fed_of, IsThere}
use Rattle.fv_propagate.specs.inner.Progress.{put_next, given, late_of, turned, counted_of, listed, table_node, tabled_of}
use Rattle.fv_propagate.specs.inner.Progress.{IsWireOf, IsAdmitted, AreNested, AreOpen, IsProgress}
use Rattle.fv_propagate.proofs.Puts.{put_there, put_keeps, puts_keep, puts_groups, puts_closed, puts_feedbacks, puts_wide, puts_there}
use Rattle.fv_propagate.proofs.Puts.{next_keeps, turned_keeps, listed_is, listed_signals}
use Rattle.fv_share.proofs.lemmas.Puts.{backs_stay_within}
use Rattle.fv_propagate.proofs.Goes.{filled}

pub wider : (m n : ℕ) (fs : List Feedback) → m ≤ n → AreNested m fs → AreNested n fs
wider m n [] l h = tt
wider m n (f ∷ fs) l h = (omega (arith, h.0), h.1)

-- ---- one signal more

admitted_back : (n : Signal) (f : Feedback) (fs : List Feedback) (k : ℕ) → IsAdmitted (f ∷ fs) n → n ≡ Back f.group k → k < f.count
admitted_back (Back g j) f fs k a e = let same : g ≡ f.group = cc in let at : j ≡ k = cc in subst (λ i. i < f.count) at (a.0 same)
admitted_back n f fs k a e = absurd cc

admitted_tail : (n : Signal) (f : Feedback) (fs : List Feedback) → IsAdmitted (f ∷ fs) n → IsAdmitted fs n
admitted_tail (Back g j) f fs a = a.1
admitted_tail n f fs a = tt

-- the Backs of a group are as few as before
pub backs_put : (s : Progress) (n : Signal) (g count : ℕ) → ((k : ℕ) → n ≡ Back g k → k < count) → BacksWithin s.draft g count
    → BacksWithin (put s n).1.draft g count
backs_put s n g count h b = backs_stay_within s.draft n g count h b

open_put : (s : Progress) (n : Signal) (fs : List Feedback) → IsAdmitted fs n → AreOpen s.draft fs → AreOpen (put s n).1.draft fs
open_put s n [] a h = tt
open_put s n (f ∷ fs) a h =
    (h.0, backs_put s n f.group f.count (λ k e. admitted_back n f fs k a e) h.1, open_put s n fs (admitted_tail n f fs a) h.2)

pub put_keeps_progress : (s : Progress) (n : Signal) → IsAdmitted s.feedbacks n → IsProgress s → IsProgress (put s n).1
put_keeps_progress s n a h = record { nested = h.nested; pending = open_put s n s.feedbacks a h.pending }

-- ---- several

pub backs_puts : (f : ℕ → Signal) (n : ℕ) (s : Progress) (g count : ℕ) → ((i k : ℕ) → i < n → f i ≡ Back g k → k < count) → BacksWithin s.draft g count →
    BacksWithin (puts f n s).1.draft g count
backs_puts f zero s g count h b = b
backs_puts f (suc n) s g count h b =
    let q = puts f n s in backs_put q.1 (f n) g count (λ k e. h n k (omega arith) e) (backs_puts f n s g count (λ i k l e. h i k (omega arith) e) b)

pub puts_pending : (f : ℕ → Signal) (n : ℕ) (s : Progress) (g : ℕ) → IsPending s.draft g → IsPending (puts f n s).1.draft g
puts_pending f n s g h = (
  subst (λ gs. g < length gs) (sym (puts_groups f n s)) h.0,
  ap (λ bs. get_or bs g false) (puts_closed f n s) ∙ h.1,
)

pub puts_shut : (f : ℕ → Signal) (n : ℕ) (s : Progress) (g : ℕ) → IsShut s.draft g → IsShut (puts f n s).1.draft g
puts_shut f n s g h = (
  subst (λ gs. g < length gs) (sym (puts_groups f n s)) h.0,
  ap (λ bs. get_or bs g false) (puts_closed f n s) ∙ h.1,
)

pub puts_all_there : (f : ℕ → Signal) (n : ℕ) (s : Progress) → All (IsThere (puts f n s).1) (puts f n s).0
puts_all_there f n s =
    All-from_get_or (IsThere (puts f n s).1) (puts f n s).0 0 (λ i l. puts_there f n s i (omega (arith, l, puts_wide f n s)))

-- ---- Backs and Members

pub pending_names : (d : Draft) (g k : ℕ) → IsPending d g → NamesSoFar d (Back g k)
pending_names d g k h = (h.0, λ p. let a = p.1 in let b = h.1 in absurd cc)

pub nested_wires : (n g k : ℕ) (fs : List Feedback) → n ≤ g → AreNested n fs → IsWireOf fs g k
nested_wires n g k [] l h = tt
nested_wires n g k (f ∷ fs) l h = let b = h.0 in ((λ e. absurd (omega (arith, e, b))), nested_wires f.group g k fs (omega arith) h.1)

-- ---- a group more

push_false : (bs : List Bool) (g : ℕ) → get_or bs g false ≡ false → get_or (bs ++ false ∷ []) g false ≡ false
push_false [] zero h = refl
push_false [] (suc g) h = refl
push_false (b ∷ bs) zero h = h
push_false (b ∷ bs) (suc g) h = push_false bs g h

open_group : (d : Draft) (fs : List Feedback) → AreOpen d fs → AreOpen (with_group d).1 fs
open_group d [] h = tt
open_group d (f ∷ fs) h = (
  (omega (arith, h.0.0, length_push d.groups []), push_false d.closed f.group h.0.1),
  h.1,
  open_group d fs h.2,
)

pub group_keeps_progress : (s : Progress) → IsProgress s → IsProgress (record s { draft = (with_group s.draft).1 })
group_keeps_progress s h = record {
  nested = wider (length s.draft.groups) (length (s.draft.groups ++ [] ∷ [])) s.feedbacks (omega (arith, length_push s.draft.groups [])) h.nested;
  pending = open_group s.draft s.feedbacks h.pending;
}

-- a feedback that is opened
pub opened_is_progress : (s q : Progress) (f : Feedback) → q ≡ record s { feedbacks = f ∷ s.feedbacks } → IsProgress s → IsPending s.draft f.group →
    BacksWithin s.draft f.group f.count → AreNested f.group s.feedbacks → IsProgress q
opened_is_progress s q f e h p b n = subst IsProgress (sym e) (record { nested = (p.0, n); pending = (p, b, h.pending) })

-- ---- a group gets its members

open_members : (d : Draft) (g n : ℕ) (members : List ℕ) (fs : List Feedback) → n ≤ g → AreNested n fs → AreOpen d fs → AreOpen (with_members d g members) fs
open_members d g n members [] l k h = tt
open_members d g n members (f ∷ fs) l k h =
    let below = k.0 in (
      (omega (arith, h.0.0, length-set d.groups g members), get_or-set_other d.closed g f.group true false (λ e. absurd (omega (arith, e, below))) ∙ h.0.1),
      h.1,
      open_members d g f.group members fs (omega arith) k.1 h.2,
    )

pub members_keep_progress : (s : Progress) (f : Feedback) (fs : List Feedback) (members : List ℕ) → s.feedbacks ≡ f ∷ fs → IsProgress s →
    IsProgress (record s { draft = with_members s.draft f.group members; feedbacks = fs })
members_keep_progress s f fs members e h =
    let nested : AreNested (length s.draft.groups) (f ∷ fs) = subst (AreNested (length s.draft.groups)) e h.nested in
    let pending : AreOpen s.draft (f ∷ fs) = subst (AreOpen s.draft) e h.pending in
    record {
      nested = wider f.group (length (slice_set s.draft.groups f.group members)) fs (omega (arith, nested.0, length-set s.draft.groups f.group members))
          nested.1;
      pending = open_members s.draft f.group f.group members fs (omega arith) nested.1 pending.2;
    }

-- a feedback fewer
pub popped_is_progress : (s : Progress) (f : Feedback) (fs : List Feedback) → s.feedbacks ≡ f ∷ fs → IsProgress s → IsProgress (record s { feedbacks = fs })
popped_is_progress s f fs e h =
    let nested : AreNested (length s.draft.groups) (f ∷ fs) = subst (AreNested (length s.draft.groups)) e h.nested in
    let pending : AreOpen s.draft (f ∷ fs) = subst (AreOpen s.draft) e h.pending in
    record { nested = wider f.group (length s.draft.groups) fs (omega (arith, nested.0)) nested.1; pending = pending.2 }

-- ---- what a call leaves

-- the signal is there, as are those that were, and the same feedbacks are open
pub record IsGrown (s p : Progress) (id : ℕ) : Type 0 where
  pub there : IsThere p id
  pub longer : length s.draft.signals ≤ length p.draft.signals
  pub same : p.feedbacks ≡ s.feedbacks

pub grown_put : (s p : Progress) (n : Signal) (id : ℕ) → (id, p) ≡ put s n → IsGrown s p id
grown_put s p n id e =
    subst (λ (r : ℕ × Progress). IsGrown s r.1 r.0) (sym e)
    (record { there = put_there s n; longer = prefix_long s.draft.signals (put s n).1.draft.signals (put_keeps s n); same = refl })

pub grown_both : (s p q : Progress) (i j : ℕ) → IsGrown s p i → IsGrown p q j → IsGrown s q j
grown_both s p q i j a b = record { there = b.there; longer = omega (arith, a.longer, b.longer); same = b.same ∙ a.same }

pub grown_mem : (s p : Progress) (x id : ℕ) → (id, p) ≡ put_mem s x → IsGrown s p id
grown_mem s p x id e =
    let one = put s (Const (pos 1)) in
    grown_both s one.1 p one.0 id (grown_put s one.1 (Const (pos 1)) one.0 refl) (grown_put one.1 p (Delay x one.0 1) id e)

pub grown_prefix : (s p : Progress) (x y id : ℕ) → (id, p) ≡ put_prefix s x y → IsGrown s p id
grown_prefix s p x y id e =
    let one = put s (Const (pos 1)) in
    let begun = put_mem one.1 one.0 in
    let late = put_mem begun.1 y in
    let last = Point Select2 (begun.0 ∷ x ∷ late.0 ∷ begun.0 ∷ []) in
    grown_both s one.1 p one.0 id (grown_put s one.1 (Const (pos 1)) one.0 refl)
    (grown_both one.1 begun.1 p begun.0 id (grown_mem one.1 begun.1 one.0 begun.0 refl)
    (grown_both begun.1 late.1 p late.0 id (grown_mem begun.1 late.1 y late.0 refl) (grown_put late.1 p last id e)))

-- the delays to come make no difference
unpassed : (n : ℕ) (s p : Progress) (id : ℕ) → IsGrown (passed n s) p id → IsGrown s p id
unpassed n s p id h = record { there = h.there; longer = h.longer; same = h.same }

pub grown_leaf : (l : Leaf) (ins : List ℕ) (s p : Progress) (id : ℕ) → (id, p) ≡ leaf_of l ins s → IsGrown s p id
grown_leaf (leaf.Number n) ins s p id e = grown_put s p (Const n) id e
grown_leaf (leaf.Control k) ins s p id e = grown_put s p (Control k) id e
grown_leaf leaf.Mem ins s p id e = unpassed 1 s p id (grown_mem (passed 1 s) p (get_or ins 0 0) id e)
grown_leaf leaf.Prefix ins s p id e = unpassed 1 s p id (grown_prefix (passed 1 s) p (get_or ins 0 0) (get_or ins 1 0) id e)
grown_leaf leaf.Delay ins s p id e =
    unpassed 1 s p id (grown_put (passed 1 s) p (Delay (get_or ins 0 0) (get_or ins 1 0) (get_or s.delays 0 0)) id e)
grown_leaf (leaf.Point op) ins s p id e = grown_put s p (Point op (padded ins)) id e

-- ---- a count and a table

pub grown_next : (s p : Progress) (x n id : ℕ) → (id, p) ≡ put_next s x n → IsGrown s p id
grown_next s p x n id e =
    let one = put s (Const (pos 1)) in
    let add = Point Add (padded (x ∷ one.0 ∷ [])) in
    let sum = put one.1 add in
    let many = put sum.1 (Const (pos n)) in
    grown_both s one.1 p one.0 id (grown_put s one.1 (Const (pos 1)) one.0 refl)
    (grown_both one.1 sum.1 p sum.0 id (grown_put one.1 sum.1 add sum.0 refl)
    (grown_both sum.1 many.1 p many.0 id (grown_put sum.1 many.1 (Const (pos n)) many.0 refl)
    (grown_put many.1 p (Point Rem (padded (sum.0 ∷ many.0 ∷ []))) id e)))

pub grown_counted : (n : ℕ) (s p : Progress) (id : ℕ) → (id, p) ≡ counted_of n s → IsGrown s p id
grown_counted n s p id e =
    let late = late_of s in
    subst (λ (r : ℕ × Progress). IsGrown s r.1 r.0) (sym e) (record {
      there = omega (
        arith,
        put_there (grouped s) (Back (length s.draft.groups) 0),
        prefix_long late.1.draft.signals (turned n s).1.draft.signals (next_keeps late.1 late.0 n),
      );
      longer = prefix_long s.draft.signals (turned n s).1.draft.signals (turned_keeps n s);
      same = refl;
    })

pub grown_tabled : (writes : Bool) (T : List ℤ) (ins : List ℕ) (s p : Progress) (id : ℕ) → (id, p) ≡ tabled_of writes T ins s → IsGrown s p id
grown_tabled writes T ins s p id e =
    let q = listed s T in
    let g = grown_put q.1 p (table_node writes q.0 ins) id e in
    record { there = g.there; longer = omega (arith, g.longer, ap length (listed_signals s T)); same = g.same }

-- the Backs of a group are as few as before
next_backs : (s : Progress) (x n g count : ℕ) → BacksWithin s.draft g count → BacksWithin (put_next s x n).1.draft g count
next_backs s x n g count h =
    let one = put s (Const (pos 1)) in
    let add = Point Add (padded (x ∷ one.0 ∷ [])) in
    let sum = put one.1 add in
    let many = put sum.1 (Const (pos n)) in
    backs_put many.1 (Point Rem (padded (sum.0 ∷ many.0 ∷ []))) g count (λ k e. absurd cc) (backs_put sum.1 (Const (pos n)) g count (λ k e. absurd cc)
    (backs_put one.1 add g count (λ k e. absurd cc) (backs_put s (Const (pos 1)) g count (λ k e. absurd cc) h)))

-- what a group may be given
pub record CanGive (s : Progress) (group only : ℕ) : Type 0 where
  pub pending : IsPending s.draft group
  pub inner : AreNested group s.feedbacks
  pub backs : BacksWithin s.draft group 1
  pub member : IsThere s only

pub can_give : (s p q : Progress) (g n late next : ℕ) → (late, p) ≡ put s (Back g 0) → (next, q) ≡ put_next p late n → IsPending s.draft g
    → BacksWithin s.draft g 0 → AreNested g s.feedbacks → CanGive q g next
can_give s p q g n late next e f pending backs inner =
    let b = put s (Back g 0) in
    let is : (next, q) ≡ put_next b.1 b.0 n = f ∙ ap (λ (r : ℕ × Progress). put_next r.1 r.0 n) e in
    let one : BacksWithin b.1.draft g 1 =
    backs_put s (Back g 0) g 1 (λ k same. let z : 0 ≡ k = cc in omega (arith, z)) (λ i k x l h. omega (arith, backs i k x l h)) in
    subst (λ (r : ℕ × Progress). CanGive r.1 g r.0) (sym is) (record {
      pending = pending;
      inner = inner;
      backs = next_backs b.1 b.0 n g 1 one;
      member = (grown_next b.1 (put_next b.1 b.0 n).1 b.0 n (put_next b.1 b.0 n).0 refl).there;
    })

pub given_keeps_progress : (s : Progress) (g : ℕ) (members : List ℕ) → AreNested g s.feedbacks → IsProgress s → IsProgress (given s g members)
given_keeps_progress s g members k h = record {
  nested = wider (length s.draft.groups) (length (slice_set s.draft.groups g members)) s.feedbacks
      (omega (arith, length-set s.draft.groups g members)) h.nested;
  pending = open_members s.draft g g members s.feedbacks (omega arith) k h.pending;
}

-- the steps of a count
pub count_so : (s p q r z : Progress) (g late next n : ℕ) → g ≡ length s.draft.groups → p ≡ grouped s → (late, q) ≡ put p (Back g 0)
    → (next, r) ≡ put_next q late n → z ≡ given r g (next ∷ []) → (late, z) ≡ counted_of n s
count_so s p q r z g late next n eg ep eq er ez =
    let first : (late, q) ≡ late_of s = eq ∙ ap (λ x. put x (Back g 0)) ep ∙ ap (λ j. put (grouped s) (Back j 0)) eg in
    let second : (next, r) ≡ turned n s = er ∙ ap (λ (x : ℕ × Progress). put_next x.1 x.0 n) first in
    ap (λ x. (late, x)) ez ∙ ap (λ (x : ℕ × Progress). (x.0, given r g (next ∷ []))) first ∙ ap (λ j. ((late_of s).0, given r j (next ∷ []))) eg
    ∙ ap (λ (x : ℕ × Progress). ((late_of s).0, given x.1 (length s.draft.groups) (x.0 ∷ []))) second

open_tables : (d : Draft) (ts : List (List ℤ)) (fs : List Feedback) → AreOpen d fs → AreOpen (record d { tables = ts }) fs
open_tables d ts [] h = tt
open_tables d ts (f ∷ fs) h = (h.0, h.1, open_tables d ts fs h.2)

pub listed_keeps_progress : (s : Progress) (T : List ℤ) → IsProgress s → IsProgress (listed s T).1
listed_keeps_progress s T h =
    subst IsProgress (sym (listed_is s T)) (record { nested = h.nested; pending = open_tables s.draft (listed s T).1.draft.tables s.feedbacks h.pending })

-- a table that is there may be read and written
pub table_can : (writes : Bool) (T : List ℤ) (ins : List ℕ) (s q : Progress) (t : ℕ) → (t, q) ≡ listed s T → AreNumbers T → length ins ≡ table_inputs writes
    → All (IsThere s) ins → CanPut q.draft (table_node writes t ins)
table_can writes T ins s q t e numbers wide there =
    subst (λ (r : ℕ × Progress). CanPut r.1.draft (table_node writes r.0 ins)) (sym e) (by_use writes wide)
  where
    some : 0 < length (table_in (listed s T).1.draft (listed s T).0)
    some = subst (λ xs. 0 < length xs) (sym (tables_stand s.draft T).stands) numbers.some

    operand : (i : ℕ) → i < length ins → get_or ins i 0 < length (listed s T).1.draft.signals
    operand i l = subst (λ ss. get_or ins i 0 < length ss) (sym (listed_signals s T)) (All-get_or (IsThere s) ins i 0 l there)

    by_use : (writes : Bool) → length ins ≡ table_inputs writes → CanPut (listed s T).1.draft (table_node writes (listed s T).0 ins)
    by_use false n = record { operands = operand 0 (omega (arith, n)); names = some }
    by_use true n = record { operands = (operand 0 (omega (arith, n)), operand 1 (omega (arith, n)), operand 2 (omega (arith, n))); names = some }

pub table_admitted : (fs : List Feedback) (writes : Bool) (t : ℕ) (ins : List ℕ) → IsAdmitted fs (table_node writes t ins)
table_admitted fs false t ins = tt
table_admitted fs true t ins = tt

-- signals that are there, as are those that were
pub record AreGrown (s p : Progress) (ids : List ℕ) (n : ℕ) : Type 0 where
  pub wide : length ids ≡ n
  pub there : All (IsThere p) ids
  pub longer : length s.draft.signals ≤ length p.draft.signals

grown_puts : (f : ℕ → Signal) (n : ℕ) (s : Progress) → AreGrown s (puts f n s).1 (puts f n s).0 n
grown_puts f n s = record {
  wide = puts_wide f n s;
  there = puts_all_there f n s;
  longer = prefix_long s.draft.signals (puts f n s).1.draft.signals (puts_keep f n s);
}

pub grown_opened : (n : ℕ) (s p : Progress) (ids : List ℕ) → (ids, p) ≡ opened_of n s → AreGrown s p ids n × (fed_of p ≡ n ∷ fed_of s)
grown_opened n s p ids e =
    let f = Back (length s.draft.groups) in
    let g = grown_puts f n (grouped (passed n s)) in
    subst (λ (r : List ℕ × Progress). AreGrown s r.1 r.0 n × (fed_of r.1 ≡ n ∷ fed_of s)) (sym e)
    (record { wide = g.wide; there = g.there; longer = g.longer }, refl)

grown_shut : (fs : List Feedback) (outs : List ℕ) (s : Progress) → s.feedbacks ≡ fs → All (IsThere s) outs →
    AreGrown s (shut fs outs s).1 (shut fs outs s).0 (length outs) × (map (λ f. f.count) (drop 1 fs) ≡ fed_of (shut fs outs s).1)
grown_shut [] outs s e h = (record { wide = refl; there = h; longer = omega arith }, ap (map (λ f. f.count)) (sym e))
grown_shut (f ∷ fs) outs s e h =
    let q = filled f fs outs s in
    let g = grown_puts (Member f.group) (length outs) q in
    (record { wide = g.wide; there = g.there; longer = g.longer }, ap (map (λ f. f.count)) (sym (puts_feedbacks (Member f.group) (length outs) q)))

pub grown_closed : (outs : List ℕ) (s p : Progress) (ids : List ℕ) → (ids, p) ≡ closed_of outs s → All (IsThere s) outs →
    AreGrown s p ids (length outs) × (map (λ f. f.count) (drop 1 s.feedbacks) ≡ fed_of p)
grown_closed outs s p ids e h =
    subst (λ (r : List ℕ × Progress). AreGrown s r.1 r.0 (length outs) × (map (λ f. f.count) (drop 1 s.feedbacks) ≡ fed_of r.1)) (sym e)
    (grown_shut s.feedbacks outs s refl h)

-- what is fed back by the feedback that is closed
pub fed_rest : (fs : List Feedback) (n : ℕ) (rest : List ℕ) → map (λ f. f.count) fs ≡ n ∷ rest → map (λ f. f.count) fs ≡ n ∷ map (λ f. f.count) (drop 1 fs)
fed_rest [] n rest e = absurd cc
fed_rest (f ∷ fs) n rest e = let same : f.count ≡ n = cc in ap (λ k. k ∷ map (λ f. f.count) fs) same

-- the steps by which a feedback begins
pub begun_so : (n g : ℕ) (s p q r z : Progress) (ids : List ℕ) → p ≡ passed n s → g ≡ length p.draft.groups → q ≡ grouped p → (ids, r) ≡ puts (Back g) n q →
    z ≡ record r { feedbacks = record { group = g; count = n } ∷ r.feedbacks } → (ids, z) ≡ opened_of n s
begun_so n g s p q r z ids ep eg eq er ez =
    let k = length s.draft.groups in
    let group_is : g ≡ k = eg ∙ ap (λ (x : Progress). length x.draft.groups) ep in
    let made : (ids, r) ≡ puts (Back k) n (grouped (passed n s)) = er ∙ ap (λ j. puts (Back j) n q) group_is ∙ ap (puts (Back k) n) (eq ∙ ap grouped ep) in
    let same : r.feedbacks ≡ s.feedbacks = ap (λ x. x.1.feedbacks) made ∙ puts_feedbacks (Back k) n (grouped (passed n s)) in
    ap (λ (x : Progress). (ids, x)) ez
    ∙ ap (λ fs. let x : Progress = record r { feedbacks = record { group = g; count = n } ∷ fs } in (ids, x)) same
    ∙ ap (λ j. let x : Progress = record r { feedbacks = record { group = j; count = n } ∷ s.feedbacks } in (ids, x)) group_is
    ∙ ap (λ (x : List ℕ × Progress). (x.0, record x.1 { feedbacks = record { group = k; count = n } ∷ s.feedbacks })) made
