-- How progress goes on, and what a graph has that goes on from it.
use Rattle.std.proofs.Common.{◌≡◌, ℕ, zero, suc, ◌+◌, ◌<◌, ◌≤◌, List, [], ◌∷◌, ◌++◌, length, get_or}
use Rattle.std.proofs.Common.{pos, refl, sym, ap, ◌∙◌, subst, arith, Bool, true, false, ℤ, inl, inr}
use Rattle.std.specs.Prelude.{slice_set}
use Rattle.std.proofs.lemmas.Bool.{cases_lt, cases_eq}
use Rattle.std.proofs.lemmas.List.{length_push, get_or_append_left, length-set, get_or-set_same, get_or-set_other}
use Rattle.fv_base.specs.headline.Lists.{IsPrefixOf}
use Rattle.fv_base.proofs.lemmas.Lists.{prefix_trans}
use Rattle.fv_num.specs.declared.op.Op.TheVariants.{Select2}
use Rattle.fv_signal.specs.declared.signal.Signal.{Signal}
use Rattle.fv_signal.specs.declared.signal.Signal.TheVariants as signal
use Rattle.fv_signal.specs.headline.Value.{Graph, members}
use Rattle.fv_share.specs.Drafts.{with_members}
use Rattle.fv_diagram.specs.declared.signals.Leaf.{Leaf}
use Rattle.fv_diagram.specs.declared.signals.Leaf.TheVariants as leaf
use Rattle.fv_diagram.specs.Hooks.{padded}
use Rattle.fv_diagram.proofs.lemmas.Meaning.{AreOrderly}
use Rattle.fv_propagate.specs.declared.progress.Feedback.{Feedback}
use Rattle.fv_propagate.specs.inner.Progress.{Progress, put, puts, passed, grouped, put_mem, put_prefix, leaf_of, opened_of, shut}
use Rattle.fv_propagate.specs.inner.Progress.{closed_of, signal_hooks, AreNested, counted_of, turned, listed, table_node, tabled_of}
use Rattle.fv_share.proofs.lemmas.Puts.{tables_stand}
use Rattle.fv_propagate.proofs.Puts.{put_keeps, puts_keep, puts_wide, puts_groups, puts_closed, puts_feedbacks}
use Rattle.fv_propagate.proofs.Puts.{puts_tables, turned_keeps, listed_signals, listed_groups, listed_closed}
use Rattle.fv_propagate.proofs.Alongside.{HoldBack}

-- ---- the laws without meaning

-- what holds of all progress
pub record IsGood (s : Progress) : Type 0 where
  pub marked : length s.draft.closed ≡ length s.draft.groups
  pub nested : AreNested (length s.draft.groups) s.feedbacks

-- q has grown from s, with the same feedbacks open, and all groups that came are closed
pub record Onward (s q : Progress) : Type 0 where
  pub feedbacks : q.feedbacks ≡ s.feedbacks
  pub groups : length s.draft.groups ≤ length q.draft.groups
  pub marked : length s.draft.closed ≡ length s.draft.groups → length q.draft.closed ≡ length q.draft.groups
  pub stays : (g : ℕ) → get_or s.draft.closed g false ≡ true → get_or q.draft.closed g false ≡ true
  pub closed : length s.draft.closed ≡ length s.draft.groups → (g : ℕ) → length s.draft.groups ≤ g → g < length q.draft.groups
      → get_or q.draft.closed g false ≡ true

wider : (m n : ℕ) (fs : List Feedback) → m ≤ n → AreNested m fs → AreNested n fs
wider m n [] l h = tt
wider m n (f ∷ fs) l h = (omega (arith, h.0), h.1)

pub on_same_groups : (s q : Progress) → q.feedbacks ≡ s.feedbacks → q.draft.groups ≡ s.draft.groups → q.draft.closed ≡ s.draft.closed → Onward s q
on_same_groups s q f g c = record {
  feedbacks = f;
  groups = omega (arith, ap length g);
  marked = λ h. ap length c ∙ h ∙ sym (ap length g);
  stays = λ k h. ap (λ l. get_or l k false) c ∙ h;
  closed = λ h k a b. absurd (omega (arith, a, b, ap length g));
}

on_both : (s p q : Progress) → Onward s p → Onward p q → Onward s q
on_both s p q a b = record {
  feedbacks = b.feedbacks ∙ a.feedbacks;
  groups = omega (arith, a.groups, b.groups);
  marked = λ h. b.marked (a.marked h);
  stays = λ k h. b.stays k (a.stays k h);
  closed = λ h k m l. elim (cases_lt k (length p.draft.groups)) [ inl x ↦ b.stays k (a.closed h k m x) | inr x ↦ b.closed (a.marked h) k x l ];
}

leaf_on : (l : Leaf) (ins : List ℕ) (s : Progress) → Onward s (leaf_of l ins s).1
leaf_on (leaf.Number n) ins s = on_same_groups s (leaf_of (leaf.Number n) ins s).1 refl refl refl
leaf_on (leaf.Control k) ins s = on_same_groups s (leaf_of (leaf.Control k) ins s).1 refl refl refl
leaf_on leaf.Mem ins s = on_same_groups s (leaf_of leaf.Mem ins s).1 refl refl refl
leaf_on leaf.Prefix ins s = on_same_groups s (leaf_of leaf.Prefix ins s).1 refl refl refl
leaf_on leaf.Delay ins s = on_same_groups s (leaf_of leaf.Delay ins s).1 refl refl refl
leaf_on (leaf.Point o) ins s = on_same_groups s (leaf_of (leaf.Point o) ins s).1 refl refl refl

pub stays_good : (s q : Progress) → Onward s q → IsGood s → IsGood q
stays_good s q o g = record {
  marked = o.marked g.marked;
  nested = subst (AreNested (length q.draft.groups)) (sym o.feedbacks) (wider (length s.draft.groups) (length q.draft.groups) s.feedbacks o.groups g.nested);
}

-- the groups of a progress in which a feedback was opened
opened_groups : (n : ℕ) (s : Progress) → (opened_of n s).1.draft.groups ≡ s.draft.groups ++ [] ∷ []
opened_groups n s = puts_groups (signal.Back (length s.draft.groups)) n (grouped (passed n s))

opened_closed : (n : ℕ) (s : Progress) → (opened_of n s).1.draft.closed ≡ s.draft.closed ++ false ∷ []
opened_closed n s = puts_closed (signal.Back (length s.draft.groups)) n (grouped (passed n s))

pub opened_long : (n : ℕ) (s : Progress) → length (opened_of n s).1.draft.groups ≡ length s.draft.groups + 1
opened_long n s = ap length (opened_groups n s) ∙ length_push s.draft.groups []

open_good : (n : ℕ) (s : Progress) → IsGood s → IsGood (opened_of n s).1
open_good n s g = record {
  marked = ap length (opened_closed n s) ∙ length_push s.draft.closed false ∙ ap (λ k. k + 1) g.marked ∙ sym (opened_long n s);
  nested = (omega (arith, opened_long n s), g.nested);
}

-- what is marked stays so
set_stays : (bs : List Bool) (i g : ℕ) → get_or bs g false ≡ true → get_or (slice_set bs i true) g false ≡ true
set_stays [] i g h = absurd cc
set_stays (b ∷ bs) zero zero h = refl
set_stays (b ∷ bs) zero (suc g) h = h
set_stays (b ∷ bs) (suc i) zero h = h
set_stays (b ∷ bs) (suc i) (suc g) h = set_stays bs i g h

push_stays : (bs : List Bool) (b : Bool) (g : ℕ) → get_or bs g false ≡ true → get_or (bs ++ b ∷ []) g false ≡ true
push_stays [] b g h = absurd cc
push_stays (a ∷ bs) b zero h = h
push_stays (a ∷ bs) b (suc g) h = push_stays bs b g h

-- the progress in which the group has its members, before they are put
abbrev pub filled : Feedback → List Feedback → List ℕ → Progress → Progress
filled f fs outs s = record s { draft = with_members s.draft f.group outs; feedbacks = fs }

pub close_wide : (fs : List Feedback) (outs : List ℕ) (s : Progress) → length (shut fs outs s).0 ≡ length outs
close_wide [] outs s = refl
close_wide (f ∷ fs) outs s = puts_wide (signal.Member f.group) (length outs) (filled f fs outs s)

fill_on : (n : ℕ) (outs : List ℕ) (z s : Progress) → IsGood z → Onward (opened_of n z).1 s →
    Onward z (filled (record { group = length z.draft.groups; count = n }) z.feedbacks outs s)
fill_on n outs z s g o =
    let k = length z.draft.groups in
    let more = opened_long n z in
    let marked = o.marked (open_good n z g).marked in record {
      feedbacks = refl;
      groups = omega (arith, o.groups, more, length-set s.draft.groups k outs);
      marked = λ h. length-set s.draft.closed k true ∙ marked ∙ sym (length-set s.draft.groups k outs);
      stays = λ j h. set_stays s.draft.closed k j (o.stays j (ap (λ l. get_or l j false) (opened_closed n z) ∙ push_stays z.draft.closed false j h));
      closed = λ h j a b. elim (cases_eq j k) [
        | inl e ↦ ap (λ i. get_or (slice_set s.draft.closed k true) i false) e
            ∙ get_or-set_same s.draft.closed k true false (omega (arith, marked, o.groups, more))
        | inr ne ↦ set_stays s.draft.closed k j (o.closed (open_good n z g).marked j (omega (arith, a, more))
            (omega (arith, b, length-set s.draft.groups k outs)))
      ];
    }

close_on : (n : ℕ) (outs : List ℕ) (z s : Progress) → IsGood z → n ≤ length outs → Onward (opened_of n z).1 s → Onward z (closed_of outs s).1
close_on n outs z s g l o =
    let top : Feedback = record { group = length z.draft.groups; count = n } in
    let q = filled top z.feedbacks outs s in
    let f = signal.Member (length z.draft.groups) in
    subst (λ fs. Onward z (shut fs outs s).1) (sym o.feedbacks)
    (on_both z q (puts f (length outs) q).1 (fill_on n outs z s g o)
    (on_same_groups q (puts f (length outs) q).1 (puts_feedbacks f (length outs) q) (puts_groups f (length outs) q) (puts_closed f (length outs) q)))

-- a count leaves one group more, which is closed
count_on : (n : ℕ) (s : Progress) → Onward s (counted_of n s).1
count_on n s =
    let k = length s.draft.groups in
    let outs = (turned n s).0 ∷ [] in
    let more = length_push s.draft.groups [] in record {
      feedbacks = refl;
      groups = omega (arith, more, length-set (s.draft.groups ++ [] ∷ []) k outs);
      marked = λ h. omega
          (arith, h, more, length_push s.draft.closed false, length-set (s.draft.closed ++ false ∷ []) k true, length-set (s.draft.groups ++ [] ∷ []) k outs);
      stays = λ j h. set_stays (s.draft.closed ++ false ∷ []) k j (push_stays s.draft.closed false j h);
      closed = λ h j a b.
          let e : j ≡ k = omega (arith, a, b, more, length-set (s.draft.groups ++ [] ∷ []) k outs) in
          ap (λ i. get_or (slice_set (s.draft.closed ++ false ∷ []) k true) i false) e
          ∙ get_or-set_same (s.draft.closed ++ false ∷ []) k true false (omega (arith, h, length_push s.draft.closed false));
    }

table_on : (writes : Bool) (T : List ℤ) (ins : List ℕ) (s : Progress) → Onward s (tabled_of writes T ins s).1
table_on writes T ins s = on_same_groups s (tabled_of writes T ins s).1 refl (listed_groups s T) (listed_closed s T)

pub signals_are_orderly : AreOrderly signal_hooks IsGood Onward
signals_are_orderly = record {
  on_same = λ s. on_same_groups s s refl refl refl;
  on_both = on_both;
  stays_good = stays_good;
  leaf_on = leaf_on;
  count_on = count_on;
  table_on = table_on;
  open_wide = λ n s. puts_wide (signal.Back (length s.draft.groups)) n (grouped (passed n s));
  open_good = open_good;
  close_wide = λ outs s. close_wide s.feedbacks outs s;
  close_on = close_on;
}

-- ---- a graph that goes on

-- no open feedback has the group
abbrev pub IsNotOpen : List Feedback → ℕ → Type 0
IsNotOpen [] g = Unit {0}
IsNotOpen (f ∷ fs) g = (g ≡ f.group → ⊥) × IsNotOpen fs g

-- the graph F has the signals and the tables so far, and the definitions of the groups of which no feedback is open
pub record GoesOn (F : Graph) (s : Progress) : Type 0 where
  pub signals : IsPrefixOf s.draft.signals F.signals
  pub tables : IsPrefixOf s.draft.tables F.tables
  pub groups : (g : ℕ) → g < length s.draft.groups → IsNotOpen s.feedbacks g → members F g ≡ get_or s.draft.groups g []

pub nested_not_open : (n g : ℕ) (fs : List Feedback) → n ≤ g → AreNested n fs → IsNotOpen fs g
nested_not_open n g [] l h = tt
nested_not_open n g (f ∷ fs) l h = let b = h.0 in ((λ e. omega (arith, e, b)), nested_not_open f.group g fs (omega arith) h.1)

module _ (F : Graph) where
  pub before_put : (s : Progress) (n : Signal) → GoesOn F (put s n).1 → GoesOn F s
  before_put s n g = record {
    signals = prefix_trans s.draft.signals (put s n).1.draft.signals F.signals (put_keeps s n) g.signals;
    tables = g.tables;
    groups = g.groups;
  }

  pub before_passed : (n : ℕ) (s : Progress) → GoesOn F (passed n s) → GoesOn F s
  before_passed n s g = record { signals = g.signals; tables = g.tables; groups = g.groups }

  pub before_puts : (f : ℕ → Signal) (n : ℕ) (s : Progress) → GoesOn F (puts f n s).1 → GoesOn F s
  before_puts f zero s g = g
  before_puts f (suc n) s g = let q = puts f n s in before_puts f n s (before_put q.1 (f n) g)

  pub before_mem : (s : Progress) (x : ℕ) → GoesOn F (put_mem s x).1 → GoesOn F s
  before_mem s x g = let one = put s (signal.Const (pos 1)) in before_put s (signal.Const (pos 1)) (before_put one.1 (signal.Delay x one.0 1) g)

  pub before_prefix : (s : Progress) (x y : ℕ) → GoesOn F (put_prefix s x y).1 → GoesOn F s
  before_prefix s x y g =
      let one = put s (signal.Const (pos 1)) in
      let begun = put_mem one.1 one.0 in
      let late = put_mem begun.1 y in
      before_put s (signal.Const (pos 1)) (before_mem one.1 one.0
      (before_mem begun.1 y (before_put late.1 (signal.Point Select2 (begun.0 ∷ x ∷ late.0 ∷ begun.0 ∷ [])) g)))

  before_leaf : (l : Leaf) (ws : List ℕ) (s : Progress) → GoesOn F (leaf_of l ws s).1 → GoesOn F s
  before_leaf (leaf.Number n) ws s g = before_put s (signal.Const n) g
  before_leaf (leaf.Control k) ws s g = before_put s (signal.Control k) g
  before_leaf leaf.Mem ws s g = before_passed 1 s (before_mem (passed 1 s) (get_or ws 0 0) g)
  before_leaf leaf.Prefix ws s g = before_passed 1 s (before_prefix (passed 1 s) (get_or ws 0 0) (get_or ws 1 0) g)
  before_leaf leaf.Delay ws s g = before_passed 1 s (before_put (passed 1 s) (signal.Delay (get_or ws 0 0) (get_or ws 1 0) (get_or s.delays 0 0)) g)
  before_leaf (leaf.Point op) ws s g = before_put s (signal.Point op (padded ws)) g

  pub before_opened : (n : ℕ) (s : Progress) → GoesOn F (opened_of n s).1 → GoesOn F s
  before_opened n s g =
      let k = length s.draft.groups in
      let p = grouped (passed n s) in
      let q = puts (signal.Back k) n p in record {
        signals = prefix_trans s.draft.signals q.1.draft.signals F.signals (puts_keep (signal.Back k) n p) g.signals;
        tables = subst (λ ts. IsPrefixOf ts F.tables) (puts_tables (signal.Back k) n p) g.tables;
        groups = λ j l h.
            g.groups j (omega (arith, opened_long n s, l)) ((λ e. omega (arith, l, e)), h)
            ∙ ap (λ gs. get_or gs j []) (opened_groups n s) ∙ get_or_append_left s.draft.groups ([] ∷ []) [] j l;
      }

  before_shut : (fs : List Feedback) (ws : List ℕ) (s : Progress) → s.feedbacks ≡ fs → GoesOn F (shut fs ws s).1 → GoesOn F s
  before_shut [] ws s e g = g
  before_shut (f ∷ fs) ws s e g =
      let p = before_puts (signal.Member f.group) (length ws) (filled f fs ws s) g in record {
        signals = p.signals;
        tables = p.tables;
        groups = λ j l h.
            let h' = subst (λ ls. IsNotOpen ls j) e h in
            p.groups j (omega (arith, l, length-set s.draft.groups f.group ws)) h'.1 ∙ get_or-set_other s.draft.groups f.group j ws [] h'.0;
      }

  pub before_closed : (ws : List ℕ) (s : Progress) → GoesOn F (closed_of ws s).1 → GoesOn F s
  before_closed ws s g = before_shut s.feedbacks ws s refl g

  pub before_counted : (n : ℕ) (s : Progress) → GoesOn F (counted_of n s).1 → GoesOn F s
  before_counted n s g =
      let k = length s.draft.groups in
      let all = s.draft.groups ++ [] ∷ [] in
      let outs = (turned n s).0 ∷ [] in record {
        signals = prefix_trans s.draft.signals (turned n s).1.draft.signals F.signals (turned_keeps n s) g.signals;
        tables = g.tables;
        groups = λ j l h.
            g.groups j (omega (arith, l, length_push s.draft.groups [], length-set all k outs)) h ∙ get_or-set_other all k j outs [] (λ e. omega (arith, l, e))
            ∙ get_or_append_left s.draft.groups ([] ∷ []) [] j l;
      }

  pub before_listed : (s : Progress) (T : List ℤ) → GoesOn F (listed s T).1 → GoesOn F s
  before_listed s T g = record {
    signals = subst (λ ss. IsPrefixOf ss F.signals) (listed_signals s T) g.signals;
    tables = prefix_trans s.draft.tables (listed s T).1.draft.tables F.tables (tables_stand s.draft T).keeps g.tables;
    groups = λ j l h. g.groups j (subst (λ gs. j < length gs) (sym (listed_groups s T)) l) h ∙ ap (λ gs. get_or gs j []) (listed_groups s T);
  }

  pub before_tabled : (writes : Bool) (T : List ℤ) (ws : List ℕ) (s : Progress) → GoesOn F (tabled_of writes T ws s).1 → GoesOn F s
  before_tabled writes T ws s g = let q = listed s T in before_listed s T (before_put q.1 (table_node writes q.0 ws) g)

  pub signals_hold_back : HoldBack signal_hooks (GoesOn F)
  signals_hold_back = record {
    leaf = before_leaf;
    opened = before_opened;
    closed = before_closed;
    counted = before_counted;
    tabled = before_tabled;
  }
