-- The runner meets the laws of the walk.
use Rattle.std.proofs.Common.{◌≡◌, ◌⊎◌, ℕ, zero, suc, ◌+◌, ◌<◌, ◌≤◌, List, [], ◌∷◌, ◌++◌, length, get_or, take, map, refl}
use Rattle.std.proofs.Common.{sym, ap, ap₂, ◌∙◌, subst, arith, All, pos, ℤ, Bool, true, false, replicate, inl, inr}
use Rattle.std.specs.Prelude.{slice_set}
use Rattle.std.proofs.lemmas.List.{get_or_append_left, get_or_push, length_push, length-append, length-set, length-take-le}
use Rattle.std.proofs.lemmas.List.{length-take, get_or-take, get_or-append-add, get_or-set_same, get_or-set_other, take-map}
use Rattle.std.proofs.lemmas.List.Elements.{All-weaker, All-cons, All-head, All-tail}
use Rattle.fv_base.specs.headline.Lists.{IsPrefixOf}
use Rattle.fv_base.proofs.lemmas.Lists.{prefix_trans, length_table, table_same, map_table, get_or_table}
use Rattle.fv_num.specs.declared.op.Op.{Op}
use Rattle.fv_num.specs.declared.op.Op.TheVariants.{Select2, Add, Rem}
use Rattle.fv_num.specs.headline.Words.{apply_of, inputs_of}
use Rattle.fv_num.specs.headline.Frames.{Stream, column, table, delayed, prefixed, back, carried}
use Rattle.fv_num.specs.Frames.{carries}
use Rattle.fv_diagram_runner.specs.declared.step.Step.{Step}
use Rattle.fv_diagram_runner.specs.declared.step.Step.TheVariants as step
use Rattle.fv_diagram_runner.specs.declared.draft.Loop.{Loop}
use Rattle.fv_diagram.specs.declared.signals.Leaf.{Leaf}
use Rattle.fv_diagram.specs.declared.signals.Leaf.TheVariants as leaf
use Rattle.fv_diagram.specs.Primitive.{Primitive as Prim}
use Rattle.fv_diagram.specs.Primitive.TheVariants as prim
use Rattle.fv_num.specs.headline.Tables.{place, read_at, written_at as table_written_at}
use Rattle.fv_num.proofs.lemmas.Tables.{last_written_same}
use Rattle.std.proofs.lemmas.Bool.{true≢false}
use Rattle.fv_diagram.specs.headline.Diagram.{Primitive, Table, primitive_inputs, table_inputs, is_table_primitive}
use Rattle.fv_diagram.specs.Diagram.{AreNumbers}
use Rattle.fv_diagram.specs.Walked.{primitive, one}
use Rattle.fv_diagram_runner.specs.declared.step.Change.{Change}
use Rattle.fv_diagram_runner.specs.declared.step.Change.TheVariants as change
use Rattle.fv_diagram_runner.specs.Steps.{step_at, wires, AreOrdered}
use Rattle.fv_diagram_runner.specs.inner.Code.{Code, HasLoops, put, put_cell, put_back, put_prefix, put_read, put_write}
use Rattle.fv_diagram_runner.specs.inner.Code.{with_step, with_list, with_cells, leaf_of, opened_of, closed_of}
use Rattle.fv_diagram.specs.Hooks.{padded}
use Rattle.fv_diagram_runner.specs.inner.Code.{shut, written, counted_of, tabled_of, runner_hooks}
use Rattle.fv_diagram.proofs.lemmas.Causality.{delayed_same, back_same}
use Rattle.std.proofs.Common.{◌%◌, w32, FitsSigned}
use Rattle.fv_diagram.proofs.lemmas.Counting.{counts_on}
use Rattle.fv_diagram.proofs.lemmas.Carried.{column_carries}
use Rattle.fv_diagram.proofs.lemmas.Places.{prefix_snoc, prefix_long, prefix_get, table_replicate, carried_first, takes_some}
use Rattle.fv_diagram_runner.proofs.StepStreams.{step_is, last_is, cell_is}
use Rattle.fv_diagram.proofs.lemmas.Meaning.{AreOrderly, Means, AreFaithful}

-- ---- the laws without meaning

-- the code has grown, with the same feedbacks open
pub record Onward (s q : Code) : Type 0 where
  pub loops : q.loops ≡ s.loops
  pub cells : length s.sources ≤ length q.sources
  pub ins : q.ins ≡ s.ins

stays : (s q : Code) → Onward s q → HasLoops s → HasLoops q
stays s q o g =
    let more = o.cells in
    subst (All (λ l. l.first + l.count ≤ length q.sources)) (sym o.loops)
    (All-weaker (λ l. l.first + l.count ≤ length s.sources) (λ l. l.first + l.count ≤ length q.sources) (λ l h. omega arith) s.loops g)

on_same : (s : Code) → Onward s s
on_same s = record { loops = refl; cells = omega arith; ins = refl }

on_cell : (s : Code) (w : ℕ) → Onward s (put_cell s w).1
on_cell s w = record { loops = refl; cells = omega (arith, length_push s.sources w); ins = refl }

on_both : (s p q : Code) → Onward s p → Onward p q → Onward s q
on_both s p q a b = let first = a.cells in record { loops = b.loops ∙ a.loops; cells = omega (arith, b.cells); ins = b.ins ∙ a.ins }

leaf_on : (l : Leaf) (ins : List ℕ) (s : Code) → Onward s (leaf_of l ins s).1
leaf_on (leaf.Number n) ins s = record { loops = refl; cells = omega arith; ins = refl }
leaf_on (leaf.Control k) ins s = record { loops = refl; cells = omega arith; ins = refl }
leaf_on leaf.Mem ins s = on_cell s (get_or ins 0 0)
leaf_on leaf.Prefix ins s =
    let one = put s (step.Number (pos 1)) in
    let begun = put_cell one.1 one.0 in
    let late = put_cell begun.1 (get_or ins 1 0) in
    let first : Onward s begun.1 = record { loops = refl; cells = omega (arith, length_push s.sources one.0); ins = refl } in
    let second = on_cell begun.1 (get_or ins 1 0) in
    record { loops = refl; cells = (on_both s begun.1 late.1 first second).cells; ins = refl }
leaf_on leaf.Delay ins s = record { loops = refl; cells = omega arith; ins = refl }
leaf_on (leaf.Point o) ins s = record { loops = refl; cells = omega arith; ins = refl }

table_on : (writes : Bool) (T : List ℤ) (ins : List ℕ) (s : Code) → Onward s (tabled_of writes T ins s).1
table_on false T ins s = record { loops = refl; cells = omega arith; ins = refl }
table_on true T ins s = record { loops = refl; cells = omega arith; ins = refl }

pub cells_long : (n : ℕ) (s : Code) → length (with_cells n s).sources ≡ length s.sources + n
cells_long n s = length-append s.sources (table n (λ i. 0)) ∙ ap (λ m. length s.sources + m) (length_table n (λ (i : ℕ). 0))

written_long : (i : ℕ) (ws xs : List ℕ) → length (written i ws xs) ≡ length xs
written_long i [] xs = refl
written_long i (w ∷ ws) xs = written_long (suc i) ws (slice_set xs i w) ∙ length-set xs i w

open_has : (n : ℕ) (s : Code) → HasLoops s → HasLoops (opened_of n s).1
open_has n s g =
    let m = length (with_cells n s).sources in
    let long = cells_long n s in
    All-cons (λ l. l.first + l.count ≤ m) record { first = length s.sources; count = n } s.loops (omega (arith, long))
    (All-weaker (λ l. l.first + l.count ≤ length s.sources) (λ l. l.first + l.count ≤ m) (λ l h. omega (arith, long)) s.loops g)

close_on : (n : ℕ) (outs : List ℕ) (z s : Code) → HasLoops z → n ≤ length outs → Onward (opened_of n z).1 s → Onward z (closed_of outs s).1
close_on n outs z s g l o =
    let more = o.cells in
    let top : Loop = record { first = length z.sources; count = n } in
    subst (λ ls. Onward z (shut ls outs s)) (sym o.loops) record {
      loops = refl;
      cells = omega (arith, written_long (length z.sources) (take n outs) s.sources, cells_long n z);
      ins = o.ins;
    }

count_on : (n : ℕ) (s : Code) → Onward s (counted_of n s).1
count_on n s =
    let many = put s (step.Number (pos n)) in
    let late = opened_of 1 many.1 in
    let i = get_or late.0 0 0 in
    let one = put late.1 (step.Number (pos 1)) in
    let more = put one.1 (step.Point Add (padded (i ∷ one.0 ∷ []))) in
    let next = put more.1 (step.Point Rem (padded (more.0 ∷ many.0 ∷ []))) in
    record {
      loops = refl;
      cells = omega (arith, written_long (length s.sources) (take 1 (next.0 ∷ [])) next.1.sources, cells_long 1 many.1);
      ins = refl;
    }

pub runner_is_orderly : AreOrderly runner_hooks HasLoops Onward
runner_is_orderly = record {
  on_same = on_same;
  on_both = on_both;
  stays_good = stays;
  leaf_on = leaf_on;
  count_on = count_on;
  table_on = table_on;
  open_wide = λ n s. length_table n (λ i. length s.steps + i);
  open_good = open_has;
  close_wide = λ outs s. refl;
  close_on = close_on;
}

-- ---- cells that no open feedback has

abbrev pub IsShut : List Loop → ℕ → Type 0
IsShut [] k = Unit {0}
IsShut (l ∷ ls) k = ((k < l.first) ⊎ (l.first + l.count ≤ k)) × IsShut ls k

-- a cell after those of all feedbacks
shut_past : (ls : List Loop) (n k : ℕ) → n ≤ k → All (λ l. l.first + l.count ≤ n) ls → IsShut ls k
shut_past [] n k h g = tt
shut_past (l ∷ ls) n k h g =
    let b = All-head (λ l. l.first + l.count ≤ n) l ls g in
    (inr (omega arith), shut_past ls n k h (All-tail (λ l. l.first + l.count ≤ n) l ls g))

-- what is written over, and what is not
written_past : (i k : ℕ) (ws xs : List ℕ) → (k < i) ⊎ (i + length ws ≤ k) → get_or (written i ws xs) k 0 ≡ get_or xs k 0
written_past i k [] xs h = refl
written_past i k (w ∷ ws) xs h =
    written_past (suc i) k ws (slice_set xs i w) (elim h [ inl a ↦ inl (omega arith) | inr a ↦ inr (omega arith) ])
    ∙ get_or-set_other xs i k w 0 (λ e. elim h [ inl a ↦ absurd (omega arith) | inr a ↦ absurd (omega arith) ])

written_at : (i j : ℕ) (ws xs : List ℕ) → j < length ws → i + length ws ≤ length xs → get_or (written i ws xs) (i + j) 0 ≡ get_or ws j 0
written_at i j [] xs l h = absurd (omega arith)
written_at i zero (w ∷ ws) xs l h =
    let e : i + 0 ≡ i = omega arith in
    ap (λ k. get_or (written (suc i) ws (slice_set xs i w)) k 0) e ∙ written_past (suc i) i ws (slice_set xs i w) (inl (omega arith))
    ∙ get_or-set_same xs i w 0 (omega arith)
written_at i (suc j) (w ∷ ws) xs l h =
    let e : i + suc j ≡ suc i + j = omega arith in
    ap (λ k. get_or (written (suc i) ws (slice_set xs i w)) k 0) e ∙ written_at (suc i) j ws (slice_set xs i w) (omega arith) (omega (arith, length-set xs i w))

-- ---- the laws with meaning

-- the final code F goes on from s: it has more steps and lists, and the same sources but for the cells of feedbacks that are open
pub record GoesOn (F s : Code) : Type 0 where
  pub steps : IsPrefixOf s.steps F.steps
  pub lists : IsPrefixOf s.lists F.lists
  pub cells : length s.sources ≤ length F.sources
  pub same : (k : ℕ) → k < length s.sources → IsShut s.loops k → get_or F.sources k 0 ≡ get_or s.sources k 0

-- four operands, of which those that are there are the first
padded_first : (n : ℕ) (ws : List ℕ) → 1 ≤ n → n ≤ 4 → length ws ≡ n → take n (padded ws) ≡ ws
padded_first n [] a b e = absurd (omega arith)
padded_first n (w ∷ []) a b e = subst (λ n. take n (padded (w ∷ [])) ≡ w ∷ []) e refl
padded_first n (w ∷ x ∷ []) a b e = subst (λ n. take n (padded (w ∷ x ∷ [])) ≡ w ∷ x ∷ []) e refl
padded_first n (w ∷ x ∷ y ∷ []) a b e = subst (λ n. take n (padded (w ∷ x ∷ y ∷ [])) ≡ w ∷ x ∷ y ∷ []) e refl
padded_first n (w ∷ x ∷ y ∷ z ∷ []) a b e = subst (λ n. take n (padded (w ∷ x ∷ y ∷ z ∷ [])) ≡ w ∷ x ∷ y ∷ z ∷ []) e refl
padded_first n (w ∷ x ∷ y ∷ z ∷ u ∷ ws) a b e = absurd (omega arith)

-- the first sample of a, and then b one sample later, by a choice
chosen_at : (a b one begun late : Stream) (x y : Stream) (t : ℕ) → ((u : ℕ) → one u ≡ pos 1) → ((u : ℕ) → begun u ≡ delayed one u) →
    ((u : ℕ) → late u ≡ delayed y u) →
    x 0 ≡ a 0 → ((u : ℕ) → u < t → y u ≡ b u) → apply_of Select2 (begun t ∷ x t ∷ late t ∷ []) ≡ prefixed a b t
chosen_at a b one begun late x y zero h g k e f = ap (λ z. apply_of Select2 (z ∷ x 0 ∷ late 0 ∷ [])) (g 0) ∙ e
chosen_at a b one begun late x y (suc t) h g k e f =
    ap₂ (λ z u. apply_of Select2 (z ∷ x (suc t) ∷ u ∷ [])) (g (suc t) ∙ h t) (k (suc t)) ∙ f t (omega arith)

module _ (F : Code) (ordered : AreOrdered F.steps) (c x : ℕ → Stream) where
  v : ℕ → Stream
  v = wires F.steps F.sources F.lists c x

  -- one step more
  before_step : (s : Code) (a : Step) → GoesOn F (with_step s a) → GoesOn F s
  before_step s a g = record {
    steps = prefix_trans s.steps (s.steps ++ a ∷ []) F.steps (prefix_snoc s.steps a) g.steps;
    lists = g.lists;
    cells = g.cells;
    same = g.same;
  }

  step_gives : (s : Code) (a : Step) → GoesOn F (with_step s a) → (t : ℕ) → v (length s.steps) t ≡ step_at F.sources F.lists c x v a t
  unfolding v
  step_gives s a g t = last_is F.sources F.lists c x s.steps F.steps a t g.steps ordered

  -- one cell more
  before_cell : (s : Code) (w : ℕ) → GoesOn F (put_cell s w).1 → GoesOn F s
  before_cell s w g =
      let all = s.sources ++ w ∷ [] in
      let long = length_push s.sources w in
      let h = before_step (record s { sources = all }) (step.Cell (length s.sources)) g in record {
        steps = h.steps;
        lists = h.lists;
        cells = omega (arith, h.cells, long);
        same = λ k l n. h.same k (omega (arith, long)) n ∙ get_or_append_left s.sources (w ∷ []) 0 k l;
      }

  cell_gives : (s : Code) (w : ℕ) → HasLoops s → GoesOn F (put_cell s w).1 → (t : ℕ) → v (length s.steps) t ≡ delayed (v w) t
  unfolding v
  cell_gives s w good g t =
      let n = length s.sources in
      let all = s.sources ++ w ∷ [] in
      let long = length_push s.sources w in
      let at : get_or F.sources n 0 ≡ w =
      g.same n (omega (arith, long)) (shut_past s.loops n n (omega arith) good) ∙ get_or_push s.sources w 0 n refl in
      step_gives (record s { sources = all }) (step.Cell n) g t
      ∙ cell_is (wires F.steps F.sources F.lists c x) F.sources n t (omega (arith, g.cells, long))
      ∙ ap (λ r. delayed (wires F.steps F.sources F.lists c x r) t) at

  -- the first input goes on as it is
  first_at : (w : ℕ) (ws : List ℕ) (n t : ℕ) → t < n → v w t ∷ [] ≡ column (carries v (w ∷ ws) n) 0 t ∷ []
  first_at w ws n t l = ap (λ z. z ∷ []) (sym (column_carries v (w ∷ ws) n 0 t l))

  abbrev Shows : Prim → (slots : ℕ → ℕ) → List ℕ → Code → Type 0
  Shows p slots ins s = Means (GoesOn F) v c (Primitive p) slots ins s (primitive runner_hooks p ins s)

  shows_prefix : (slots : ℕ → ℕ) (a b : ℕ) (s : Code) → HasLoops s → GoesOn F (put_prefix s a b).1 → Shows prim.Prefix slots (a ∷ b ∷ []) s
  shows_prefix slots a b s good g =
      let one = put s (step.Number (pos 1)) in
      let begun = put_cell one.1 one.0 in
      let late = put_cell begun.1 b in
      let last = step.Point Select2 (begun.0 ∷ a ∷ late.0 ∷ late.0 ∷ []) in
      let ins = a ∷ b ∷ [] in
      let g3 : GoesOn F late.1 = before_step late.1 last g in
      let g2 : GoesOn F begun.1 = before_cell begun.1 b g3 in
      let g1 : GoesOn F one.1 = before_cell one.1 one.0 g2 in
      let more : HasLoops begun.1 = stays one.1 begun.1 (on_cell one.1 one.0) good in record {
        holds = before_step s (step.Number (pos 1)) g1;
        wired = λ n t l.
            ap (λ z. z ∷ [])
            (step_gives late.1 last g t
            ∙ chosen_at (column (carries v ins n) 0) (column (carries v ins n) 1) (v one.0) (v begun.0) (v late.0) (v a) (v b) t
            (λ u. step_gives s (step.Number (pos 1)) g1 u)
            (λ u. cell_gives one.1 one.0 good g2 u)
            (λ u. cell_gives begun.1 b more g3 u)
            (sym (column_carries v ins n 0 0 (omega arith)))
            (λ u m. sym (column_carries v ins n 1 u (omega arith))));
      }

  -- one list more
  before_list : (s : Code) (a : Change) (T : List ℤ) → GoesOn F (with_list s a T) → GoesOn F s
  before_list s a T g = record {
    steps = g.steps;
    lists = prefix_trans s.lists (s.lists ++ T ∷ []) F.lists (prefix_snoc s.lists T) g.lists;
    cells = g.cells;
    same = g.same;
  }

  list_there : (s : Code) (a : Change) (T : List ℤ) → GoesOn F (with_list s a T) → get_or F.lists (length s.lists) [] ≡ T
  list_there s a T g =
      prefix_get (s.lists ++ T ∷ []) F.lists (length s.lists) [] g.lists (omega (arith, length_push s.lists T))
      ∙ get_or_push s.lists T [] (length s.lists) refl

  shows_back : (slots : ℕ → ℕ) (a b : ℕ) (s : Code) → GoesOn F (put_back s a b).1 → Shows prim.Delay slots (a ∷ b ∷ []) s
  shows_back slots a b s g =
      let ins = a ∷ b ∷ [] in
      let p = with_list s (change.Append a) [] in
      let last = step.Back a b (length s.lists) in record {
        holds = before_list s (change.Append a) [] (before_step p last g);
        wired = λ n t l.
            ap (λ z. z ∷ [])
            (step_gives p last g t
            ∙ back_same (v a) (column (carries v ins n) 0) t (v b t) (λ u m. sym (column_carries v ins n 0 u (omega arith)))
            ∙ ap (back (column (carries v ins n) 0) t) (sym (column_carries v ins n 1 t l)));
      }

  -- a table
  abbrev Tells : Bool → List ℤ → (slots : ℕ → ℕ) → List ℕ → Code → Type 0
  Tells writes T slots ins s = Means (GoesOn F) v c (Table T writes) slots ins s (one (tabled_of writes T ins s))

  shows_read : (T : List ℤ) (slots : ℕ → ℕ) (r : ℕ) (s : Code) → GoesOn F (put_read s T r).1 → Tells false T slots (r ∷ []) s
  shows_read T slots r s g =
      let ins = r ∷ [] in
      let p = with_list s change.Keep T in
      let last = step.Read r (length s.lists) in
      let before = before_step p last g in record {
        holds = before_list s change.Keep T before;
        wired = λ n t l.
            ap (λ z. z ∷ [])
            (step_gives p last g t ∙ ap (λ L. read_at L (v r t)) (list_there s change.Keep T before)
            ∙ ap (read_at T) (sym (column_carries v ins n 0 t l)));
      }

  shows_write : (T : List ℤ) (slots : ℕ → ℕ) (w y r : ℕ) (s : Code) → GoesOn F (put_write s T w y r).1 → Tells true T slots (w ∷ y ∷ r ∷ []) s
  shows_write T slots w y r s g =
      let ins = w ∷ y ∷ r ∷ [] in
      let p = with_list s (change.Put w y) T in
      let last = step.Write w y r (length s.lists) in
      let before = before_step p last g in record {
        holds = before_list s (change.Put w y) T before;
        wired = λ n t l.
            let w' = column (carries v ins n) 0 in
            let y' = column (carries v ins n) 1 in
            ap (λ z. z ∷ [])
            (step_gives p last g t ∙ ap (λ L. table_written_at L (v w) (v y) t (v r t)) (list_there s (change.Put w y) T before)
            ∙ last_written_same T (v w) w' (v y) y' (place (length T) (v r t)) t (λ u m. sym (column_carries v ins n 0 u (omega arith)))
            (λ u m. sym (column_carries v ins n 1 u (omega arith)))
            ∙ ap (table_written_at T w' y' t) (sym (column_carries v ins n 2 t l)));
      }

  shows_table : (writes : Bool) (T : List ℤ) (slots : ℕ → ℕ) (ins : List ℕ) (s : Code) → AreNumbers T → length ins ≡ table_inputs writes
      → GoesOn F (tabled_of writes T ins s).1 → Tells writes T slots ins s
  shows_table false T slots [] s k e g = absurd (omega arith)
  shows_table false T slots (r ∷ []) s k e g = shows_read T slots r s g
  shows_table false T slots (r ∷ u ∷ ws) s k e g = absurd (omega arith)
  shows_table true T slots [] s k e g = absurd (omega arith)
  shows_table true T slots (w ∷ []) s k e g = absurd (omega arith)
  shows_table true T slots (w ∷ y ∷ []) s k e g = absurd (omega arith)
  shows_table true T slots (w ∷ y ∷ r ∷ []) s k e g = shows_write T slots w y r s g
  shows_table true T slots (w ∷ y ∷ r ∷ u ∷ ws) s k e g = absurd (omega arith)

  shows_point : (o : Op) (slots : ℕ → ℕ) (ins : List ℕ) (s : Code) → length ins ≡ inputs_of o → GoesOn F (put s (step.Point o (padded ins))).1 →
      Shows (prim.Point o) slots ins s
  shows_point o slots ins s e g =
      let some = takes_some o in record {
        holds = before_step s (step.Point o (padded ins)) g;
        wired = λ n t l.
            ap (λ z. z ∷ [])
            (step_gives s (step.Point o (padded ins)) g t
            ∙ ap (apply_of o) (take-map (λ w. v w t) (inputs_of o) (padded ins) ∙ ap (map (λ w. v w t)) (padded_first (inputs_of o) ins some.0 some.1 e)
            ∙ sym (get_or_table n (carried v ins) t [] l)));
      }

  shows_mem : (slots : ℕ → ℕ) (w : ℕ) (s : Code) → HasLoops s → GoesOn F (put_cell s w).1 → Shows prim.Mem slots (w ∷ []) s
  shows_mem slots w s good g = record {
    holds = before_cell s w g;
    wired = λ n t l.
        ap (λ z. z ∷ []) (cell_gives s w good g t ∙ delayed_same (v w) (column (carries v (w ∷ []) n) 0) t
        (λ u m. sym (column_carries v (w ∷ []) n 0 u (omega arith))));
  }

  shows : (p : Prim) (slots : ℕ → ℕ) (ins : List ℕ) (s : Code) → HasLoops s → is_table_primitive p ≡ false → length ins ≡ primitive_inputs p
      → GoesOn F (primitive runner_hooks p ins s).1 →
      Shows p slots ins s
  shows prim.Wire slots [] s good q e g = absurd (omega arith)
  shows prim.Wire slots (w ∷ ws) s good q e g = record { holds = g; wired = λ n t l. first_at w ws n t l }
  shows prim.Int slots [] s good q e g = absurd (omega arith)
  shows prim.Int slots (w ∷ ws) s good q e g = record { holds = g; wired = λ n t l. first_at w ws n t l }
  shows prim.Attach slots [] s good q e g = absurd (omega arith)
  shows prim.Attach slots (w ∷ ws) s good q e g = record { holds = g; wired = λ n t l. first_at w ws n t l }
  shows prim.Cut slots ins s good q e g = record { holds = g; wired = λ n t l. refl }
  shows prim.Mem slots [] s good q e g = absurd (omega arith)
  shows prim.Mem slots (w ∷ []) s good q e g = shows_mem slots w s good g
  shows prim.Mem slots (w ∷ u ∷ ws) s good q e g = absurd (omega arith)
  shows prim.Prefix slots [] s good q e g = absurd (omega arith)
  shows prim.Prefix slots (a ∷ []) s good q e g = absurd (omega arith)
  shows prim.Prefix slots (a ∷ b ∷ []) s good q e g = shows_prefix slots a b s good g
  shows prim.Prefix slots (a ∷ b ∷ u ∷ ws) s good q e g = absurd (omega arith)
  shows prim.Delay slots [] s good q e g = absurd (omega arith)
  shows prim.Delay slots (a ∷ []) s good q e g = absurd (omega arith)
  shows prim.Delay slots (a ∷ b ∷ []) s good q e g = shows_back slots a b s g
  shows prim.Delay slots (a ∷ b ∷ u ∷ ws) s good q e g = absurd (omega arith)
  shows (prim.Point o) slots ins s good q e g = shows_point o slots ins s e g
  shows prim.ReadTable slots ins s good q e g = absurd (true≢false q)
  shows prim.WriteTable slots ins s good q e g = absurd (true≢false q)

  -- the cells of a feedback are opened with source 0, and those that are not among them keep their sources
  before_open : (n : ℕ) (s : Code) → GoesOn F (opened_of n s).1 → GoesOn F s
  before_open n s g =
      let long = cells_long n s in record {
        lists = g.lists;
        steps = prefix_trans s.steps (with_cells n s).steps F.steps (record { rest = table n (λ i. step.Cell (length s.sources + i)); is = refl }) g.steps;
        cells = omega (arith, g.cells, long);
        same = λ k l h. g.same k (omega (arith, long)) (inl l, h) ∙ get_or_append_left s.sources (table n (λ i. 0)) 0 k l;
      }

  -- and so they do where it is closed
  shut_goes : (ls : List Loop) (outs : List ℕ) (s : Code) → s.loops ≡ ls → GoesOn F (shut ls outs s) → GoesOn F s
  shut_goes [] outs s e g = g
  shut_goes (l ∷ ls) outs s e g =
      let long = written_long l.first (take l.count outs) s.sources in record {
        steps = g.steps;
        lists = g.lists;
        cells = omega (arith, g.cells, long);
        same = λ k m h.
            let h' = subst (λ ls. IsShut ls k) e h in
            g.same k (omega (arith, long)) h'.1 ∙ written_past l.first k (take l.count outs) s.sources
            (elim h'.0 [ inl a ↦ inl a | inr a ↦ inr (omega (arith, length-take l.count outs)) ]);
      }

  before_close : (outs : List ℕ) (s : Code) → GoesOn F (closed_of outs s).1 → GoesOn F s
  before_close outs s g = shut_goes s.loops outs s refl g

  closes : (n : ℕ) (outs : List ℕ) (z s : Code) → HasLoops z → n ≤ length outs → Onward (opened_of n z).1 s → GoesOn F (opened_of n z).1 →
      GoesOn F (closed_of outs s).1 →
      ((t : ℕ) → carried v outs t ≡ carried v outs t) × (carried v (opened_of n z).0 0 ≡ replicate n (pos 0)) ×
      ((t : ℕ) → carried v (opened_of n z).0 (suc t) ≡ take n (carried v outs t))
  unfolding v
  closes n outs z s good wide on go gc =
      let first = length z.sources in
      let u : ℕ → Stream = wires F.steps F.sources F.lists c x in
      let open_steps = (with_cells n z).steps in
      let cells_there = on.cells in
      let long = cells_long n z in
      let width : length (take n outs) ≡ n = length-take-le n outs wide in
      let top : Loop = record { first = first; count = n } in
      let gs : GoesOn F (shut (top ∷ z.loops) outs s) = subst (λ ls. GoesOn F (shut ls outs s)) on.loops gc in
      let kept = written_long first (take n outs) s.sources in
      let source : (i : ℕ) → i < n → get_or F.sources (first + i) 0 ≡ get_or outs i 0 = λ i l.
      gs.same (first + i) (omega (arith, kept, long)) (shut_past z.loops first (first + i) (omega arith) good)
      ∙ written_at first i (take n outs) s.sources (omega (arith, width)) (omega (arith, width, long)) ∙ get_or-take n outs i 0 l in
      let cell : (i t : ℕ) → i < n → u (length z.steps + i) t ≡ delayed (u (get_or outs i 0)) t = λ i t l.
      let s0 = step.Cell (first + i) in
      let f : ℕ → Step = λ i. step.Cell (first + i) in
      let place : length z.steps + i < length open_steps = omega (arith, length-append z.steps (table n f), length_table n f) in
      let at : get_or open_steps (length z.steps + i) s0 ≡ s0 = get_or-append-add z.steps (table n f) i s0 ∙ get_or_table n f i s0 l in
      step_is F.sources F.lists c x F.steps (length z.steps + i) s0 t ordered (omega (arith, prefix_long open_steps F.steps go.steps))
      (prefix_get open_steps F.steps (length z.steps + i) s0 go.steps place ∙ at)
      ∙ cell_is u F.sources (first + i) t (omega (arith, gs.cells, kept, long))
      ∙ ap (λ y. delayed (u y) t) (source i l) in
      let late_at : (t : ℕ) → carried u (opened_of n z).0 t ≡ table n (λ i. delayed (u (get_or outs i 0)) t) = λ t.
      map_table (λ y. u y t) n (λ i. length z.steps + i) ∙ table_same n _ _ (λ i l. cell i t l) in
      ((λ t. refl), late_at 0 ∙ table_replicate n (pos 0), λ t. late_at (suc t) ∙ sym (carried_first u outs n t wide))

  -- a register that counts
  counts : (n : ℕ) (s : Code) → 1 ≤ n → FitsSigned w32 (pos n) → HasLoops s → GoesOn F (counted_of n s).1
      → GoesOn F s × ((t : ℕ) → v (counted_of n s).0 t ≡ pos (t % n)) × (1 ≤ n)
  counts n s some fit good g =
      let many = put s (step.Number (pos n)) in
      let late = opened_of 1 many.1 in
      let i = get_or late.0 0 0 in
      let one = put late.1 (step.Number (pos 1)) in
      let add = step.Point Add (padded (i ∷ one.0 ∷ [])) in
      let more = put one.1 add in
      let rem = step.Point Rem (padded (more.0 ∷ many.0 ∷ [])) in
      let next = put more.1 rem in
      let g6 : GoesOn F next.1 = before_close (next.0 ∷ []) next.1 g in
      let g5 : GoesOn F more.1 = before_step more.1 rem g6 in
      let g4 : GoesOn F one.1 = before_step one.1 add g5 in
      let g3 : GoesOn F late.1 = before_step late.1 (step.Number (pos 1)) g4 in
      let g2 : GoesOn F many.1 = before_open 1 many.1 g3 in
      let on : Onward late.1 next.1 = record { loops = refl; cells = omega arith; ins = refl } in
      let cl = closes 1 (next.0 ∷ []) many.1 next.1 good (omega arith) on g3 g in
      let starts : v i 0 ≡ pos 0 = ap (λ x. get_or x 0 (pos 0)) cl.1 in
      let goes_on : (t : ℕ) → v i (suc t) ≡ apply_of Rem (apply_of Add (v i t ∷ pos 1 ∷ []) ∷ pos n ∷ []) = λ t.
      ap (λ x. get_or x 0 (pos 0)) (cl.2 t) ∙ step_gives more.1 rem g6 t
      ∙ ap₂ (λ x y. apply_of Rem (x ∷ y ∷ []))
      (step_gives one.1 add g5 t ∙ ap (λ y. apply_of Add (v i t ∷ y ∷ [])) (step_gives late.1 (step.Number (pos 1)) g4 t))
      (step_gives s (step.Number (pos n)) g2 t) in
      (before_step s (step.Number (pos n)) g2, counts_on n (v i) some fit starts goes_on, some)

  pub runner_is_faithful : AreFaithful runner_hooks HasLoops Onward (GoesOn F) AreNumbers (wires F.steps F.sources F.lists c x) c
  unfolding v
  runner_is_faithful = record {
    primitives = shows;
    numbers = λ n slots ins s g. record { holds = before_step s (step.Number n) g; wired = λ t. ap (λ z. z ∷ []) (step_gives s (step.Number n) g t) };
    controls = λ k slots ins s g. record {
      holds = record {
        steps = (before_step s (step.Control k) record { steps = g.steps; lists = g.lists; cells = g.cells; same = g.same }).steps;
        lists = g.lists;
        cells = g.cells;
        same = g.same;
      };
      wired = λ t. ap (λ z. z ∷ []) (step_gives s (step.Control k) record { steps = g.steps; lists = g.lists; cells = g.cells; same = g.same } t);
    };
    counts = λ T s h good g. counts (length T) s h.some h.counted good g;
    tables = shows_table;
    opens = before_open;
    shuts = before_close;
    closes = closes;
  }
