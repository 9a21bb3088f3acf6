-- What the signals of a graph name: inputs and controls that are there, numbers of 32 bits, and delays of the list.
use Rattle.std.proofs.Common.{ℕ, zero, suc, ◌<◌, List, [], ◌∷◌, length, get_or, refl, sym, ◌∙◌}
use Rattle.std.proofs.Common.{subst, arith, All, pos, inl, inr, w32, FitsSigned, ℤ, Bool, true, false}
use Rattle.std.proofs.lemmas.List.Elements.{All-drop, All-get_or}
use Rattle.std.proofs.lemmas.Int.{ints}
use Rattle.fv_base.proofs.lemmas.Lists.{length_table}
use Rattle.fv_num.specs.declared.op.Op.TheVariants.{Add, Rem, Select2}
use Rattle.fv_num.specs.headline.Frames.{table}
use Rattle.fv_signal.specs.declared.signal.Signal.{Signal}
use Rattle.fv_signal.specs.declared.signal.Signal.TheVariants as signal
use Rattle.fv_signal.specs.declared.signal.Signal.TheVariants.{Input, Const, Control, Point, Delay, Back, Member, Read, Write}
use Rattle.fv_diagram.specs.declared.signals.Leaf.{Leaf}
use Rattle.fv_diagram.specs.declared.signals.Leaf.TheVariants as leaf
use Rattle.fv_diagram.specs.headline.Diagram.{Diagram}
use Rattle.fv_diagram.specs.headline.Diagram as diagram
use Rattle.fv_diagram.specs.Diagram as more_diagram
use Rattle.fv_diagram.proofs.lemmas.Meaning.{AllLists}
use Rattle.fv_diagram.specs.Hooks.{Hooks, padded}
use Rattle.fv_propagate.specs.declared.progress.Feedback.{Feedback}
use Rattle.fv_propagate.specs.headline.Propagated.{HasControl}
use Rattle.fv_propagate.specs.inner.Progress.{Progress, put, puts, passed, grouped, put_mem, put_prefix, leaf_of, opened_of}
use Rattle.fv_propagate.specs.inner.Progress.{shut, signal_hooks, late_of, counted_of, listed, table_node, tabled_of}
use Rattle.fv_propagate.proofs.Alongside.{AreOfLeaves, IsOfLeaf, KeepAlong, related_places, related_length}
use Rattle.fv_propagate.proofs.Puts.{put_cases, puts_wide, listed_is}
use Rattle.fv_propagate.proofs.Goes.{IsGood, filled, close_wide}

-- a user of the walk that does nothing
pub still : Hooks (Unit {0}) (Unit {0})
still = record {
  leaf = λ l vs t. (tt, tt);
  opened = λ n t. (table n (λ i. tt), tt);
  closed = λ vs t. (vs, tt);
  counted = λ n t. (tt, tt);
  tabled = λ writes T vs t. (tt, tt);
}

-- any wire beside none
abbrev pub Any : ℕ → Unit {0} → Type 0
Any w u = Unit {0}

module _ (ins : ℕ) (IsControl : ℕ → Type 0) (IsLimit : ℕ → Type 0) (none : IsLimit 0) (one : IsLimit 1) where
  -- the signal names what is there
  abbrev pub IsNamed : Signal → Type 0
  IsNamed (Input k) = k < ins
  IsNamed (Const n) = FitsSigned w32 n
  IsNamed (Control k) = IsControl k
  IsNamed (Point op args) = Unit {0}
  IsNamed (Delay x d max) = IsLimit max
  IsNamed (Back group k) = Unit {0}
  IsNamed (Member group k) = Unit {0}
  IsNamed (Read table r) = Unit {0}
  IsNamed (Write table w x r) = Unit {0}

  -- each signal does, and each delay to come is within the limit
  pub record AreNamed (s : Progress) : Type 0 where
    pub signals : (i : ℕ) (x : Signal) → i < length s.draft.signals → IsNamed (get_or s.draft.signals i x)
    pub delays : All IsLimit s.delays

  pub named_put : (s : Progress) (n : Signal) → IsNamed n → AreNamed s → AreNamed (put s n).1
  named_put s n h g = record {
    signals = λ i x l. elim (put_cases s n i x l) [
      | inl p ↦ subst IsNamed (sym p.1) (g.signals i x p.0)
      | inr e ↦ subst IsNamed (sym e) h
    ];
    delays = g.delays;
  }

  named_passed : (n : ℕ) (s : Progress) → AreNamed s → AreNamed (passed n s)
  named_passed n s g = record { signals = g.signals; delays = All-drop IsLimit n s.delays g.delays }

  pub named_puts : (f : ℕ → Signal) (n : ℕ) (s : Progress) → ((i : ℕ) → i < n → IsNamed (f i)) → AreNamed s → AreNamed (puts f n s).1
  named_puts f zero s h g = g
  named_puts f (suc n) s h g = let q = puts f n s in named_put q.1 (f n) (h n (omega arith)) (named_puts f n s (λ i l. h i (omega arith)) g)

  one_fits : FitsSigned w32 (pos 1)
  one_fits = omega (arith, ints)

  named_mem : (s : Progress) (x : ℕ) → AreNamed s → AreNamed (put_mem s x).1
  named_mem s x g =
      let n = signal.Const (pos 1) in
      let r = put s n in named_put r.1 (signal.Delay x r.0 1) one (named_put s n one_fits g)

  named_prefix : (s : Progress) (x y : ℕ) → AreNamed s → AreNamed (put_prefix s x y).1
  named_prefix s x y g =
      let n = signal.Const (pos 1) in
      let r = put s n in
      let begun = put_mem r.1 r.0 in
      let late = put_mem begun.1 y in
      named_put late.1 (signal.Point Select2 (begun.0 ∷ x ∷ late.0 ∷ begun.0 ∷ [])) tt (named_mem begun.1 y (named_mem r.1 r.0 (named_put s n one_fits g)))

  -- the next delay is within the limit
  next_limit : (ds : List ℕ) → All IsLimit ds → IsLimit (get_or ds 0 0)
  next_limit [] h = none
  next_limit (d ∷ ds) h = All-get_or IsLimit (d ∷ ds) 0 0 (omega arith) h

  abbrev Named : Progress → Unit {0} → Type 0
  Named s u = AreNamed s

  named_leaf : (l : Leaf) (ws : List ℕ) (s : Progress) → IsOfLeaf (FitsSigned w32) IsControl l → AreNamed s → AreNamed (leaf_of l ws s).1
  named_leaf (leaf.Number n) ws s a g = named_put s (signal.Const n) a g
  named_leaf (leaf.Control k) ws s a g = named_put s (signal.Control k) a g
  named_leaf leaf.Mem ws s a g = named_mem (passed 1 s) (get_or ws 0 0) (named_passed 1 s g)
  named_leaf leaf.Prefix ws s a g = named_prefix (passed 1 s) (get_or ws 0 0) (get_or ws 1 0) (named_passed 1 s g)
  named_leaf leaf.Delay ws s a g =
      named_put (passed 1 s) (signal.Delay (get_or ws 0 0) (get_or ws 1 0) (get_or s.delays 0 0)) (next_limit s.delays g.delays) (named_passed 1 s g)
  named_leaf (leaf.Point op) ws s a g = named_put s (signal.Point op (padded ws)) tt g

  named_opened : (n : ℕ) (s : Progress) → AreNamed s → AreNamed (opened_of n s).1
  named_opened n s g =
      let p = named_passed n s g in
      let q = named_puts (signal.Back (length s.draft.groups)) n (grouped (passed n s)) (λ i l. tt) (record { signals = p.signals; delays = p.delays }) in
      record { signals = q.signals; delays = q.delays }

  named_shut : (fs : List Feedback) (ws : List ℕ) (s : Progress) → AreNamed s → AreNamed (shut fs ws s).1
  named_shut [] ws s g = g
  named_shut (f ∷ fs) ws s g =
      named_puts (signal.Member f.group) (length ws) (filled f fs ws s) (λ i l. tt) (record { signals = g.signals; delays = g.delays })

  named_counted : (n : ℕ) (s : Progress) → FitsSigned w32 (pos n) → AreNamed s → AreNamed (counted_of n s).1
  named_counted n s f g =
      let b = signal.Back (length s.draft.groups) 0 in
      let late = late_of s in
      let one = put late.1 (signal.Const (pos 1)) in
      let add = signal.Point Add (padded (late.0 ∷ one.0 ∷ [])) in
      let sum = put one.1 add in
      let many = put sum.1 (signal.Const (pos n)) in
      let g1 = named_put (grouped s) b tt (record { signals = g.signals; delays = g.delays }) in
      let g2 = named_put one.1 add tt (named_put late.1 (signal.Const (pos 1)) one_fits g1) in
      let g3 = named_put many.1 (signal.Point Rem (padded (sum.0 ∷ many.0 ∷ []))) tt (named_put sum.1 (signal.Const (pos n)) f g2) in
      record { signals = g3.signals; delays = g3.delays }

  node_named : (writes : Bool) (t : ℕ) (ws : List ℕ) → IsNamed (table_node writes t ws)
  node_named false t ws = tt
  node_named true t ws = tt

  named_tabled : (writes : Bool) (T : List ℤ) (ws : List ℕ) (s : Progress) → AreNamed s → AreNamed (tabled_of writes T ws s).1
  named_tabled writes T ws s g =
      let q = listed s T in
      named_put q.1 (table_node writes q.0 ws) (node_named writes q.0 ws)
      (subst AreNamed (sym (listed_is s T)) (record { signals = g.signals; delays = g.delays }))

  pub names_keep : (L : List ℤ → Type 0) (counted : (T : List ℤ) → L T → FitsSigned w32 (pos (length T))) (Holds : Progress → Type 0)
      → KeepAlong signal_hooks still (FitsSigned w32) IsControl L IsGood Holds Any Named
  unfolding still
  names_keep L counted Holds = record {
    counted = λ T s t l k o r. (tt, named_counted (length T) s (counted T l) r);
    tabled = λ writes T ws vs s t l w k o r q. (tt, named_tabled writes T ws s r);
    leaf = λ l ws vs s t a w k o r q. (tt, named_leaf l ws s a r);
    opened = λ n s t k o r. (
      related_places Any _ _ 0 tt (puts_wide (signal.Back (length s.draft.groups)) n (grouped (passed n s)) ∙ sym (length_table n (λ i. tt))) (λ i l. tt),
      named_opened n s r,
    );
    closed = λ ws vs s t k o r q. (
      related_places Any _ _ 0 tt (close_wide s.feedbacks ws s ∙ related_length Any ws vs q) (λ i l. tt),
      named_shut s.feedbacks ws s r,
    );
  }

-- ---- the numbers and controls of a diagram

pub leaves_had : (IsControl : ℕ → Type 0) (L : List ℤ → Type 0) (d : Diagram) → AllLists L d → more_diagram.HasNumbers d →
    ((k : ℕ) → HasControl d k → IsControl k)
    → AreOfLeaves (FitsSigned w32) IsControl L d
leaves_had C L (diagram.Primitive p) f h l = tt
leaves_had C L (diagram.Constant z) f h l = h
leaves_had C L (diagram.Control k) f h l = l k refl
leaves_had C L (diagram.Slot s) f h l = tt
leaves_had C L (diagram.Wave w) f h l = (h.counted, f)
leaves_had C L (diagram.Table T writes) f h l = f
leaves_had C L (diagram.Bind s a) f h l = leaves_had C L a f h l
leaves_had C L (diagram.Par a b) f h l = (leaves_had C L a f.0 h.0 (λ k m. l k (inl m)), leaves_had C L b f.1 h.1 (λ k m. l k (inr m)))
leaves_had C L (diagram.Seq a b) f h l = (leaves_had C L a f.0 h.0 (λ k m. l k (inl m)), leaves_had C L b f.1 h.1 (λ k m. l k (inr m)))
leaves_had C L (diagram.Split a b) f h l = (leaves_had C L a f.0 h.0 (λ k m. l k (inl m)), leaves_had C L b f.1 h.1 (λ k m. l k (inr m)))
leaves_had C L (diagram.Merge a b) f h l = (leaves_had C L a f.0 h.0 (λ k m. l k (inl m)), leaves_had C L b f.1 h.1 (λ k m. l k (inr m)))
leaves_had C L (diagram.Rec a b) f h l = (leaves_had C L a f.0 h.0 (λ k m. l k (inl m)), leaves_had C L b f.1 h.1 (λ k m. l k (inr m)))

-- the lists of a diagram are numbers
pub lists_had : (d : Diagram) → more_diagram.HasNumbers d → AllLists more_diagram.AreNumbers d
lists_had (diagram.Primitive p) h = tt
lists_had (diagram.Constant z) h = tt
lists_had (diagram.Control k) h = tt
lists_had (diagram.Slot s) h = tt
lists_had (diagram.Wave w) h = h
lists_had (diagram.Table T writes) h = h
lists_had (diagram.Bind s a) h = lists_had a h
lists_had (diagram.Par a b) h = (lists_had a h.0, lists_had b h.1)
lists_had (diagram.Seq a b) h = (lists_had a h.0, lists_had b h.1)
lists_had (diagram.Split a b) h = (lists_had a h.0, lists_had b h.1)
lists_had (diagram.Merge a b) h = (lists_had a h.0, lists_had b h.1)
lists_had (diagram.Rec a b) h = (lists_had a h.0, lists_had b h.1)

-- a control that the diagram has is below the bound of its controls
pub control_below : (d : Diagram) (k : ℕ) → HasControl d k → k < more_diagram.control_bound d
control_below (diagram.Primitive p) k h = absurd h
control_below (diagram.Constant z) k h = absurd h
control_below (diagram.Control j) k h = omega (arith, h)
control_below (diagram.Slot s) k h = absurd h
control_below (diagram.Wave w) k h = absurd h
control_below (diagram.Table T writes) k h = absurd h
control_below (diagram.Bind s a) k h = control_below a k h
control_below (diagram.Par a b) k h = elim h [ inl m ↦ omega (arith, control_below a k m) | inr m ↦ omega (arith, control_below b k m) ]
control_below (diagram.Seq a b) k h = elim h [ inl m ↦ omega (arith, control_below a k m) | inr m ↦ omega (arith, control_below b k m) ]
control_below (diagram.Split a b) k h = elim h [ inl m ↦ omega (arith, control_below a k m) | inr m ↦ omega (arith, control_below b k m) ]
control_below (diagram.Merge a b) k h = elim h [ inl m ↦ omega (arith, control_below a k m) | inr m ↦ omega (arith, control_below b k m) ]
control_below (diagram.Rec a b) k h = elim h [ inl m ↦ omega (arith, control_below a k m) | inr m ↦ omega (arith, control_below b k m) ]
