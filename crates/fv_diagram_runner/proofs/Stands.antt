-- A runner that stands for a diagram gives the last frame of the diagram's answer.
use Rattle.std.proofs.Common.{◌≡◌, ℕ, zero, suc, ◌<◌, List, [], ◌∷◌, ◌++◌, length, get_or, map}
use Rattle.std.proofs.Common.{refl, sym, ap, ap₂, ◌∙◌, subst, arith, All, ℤ, pos, negsuc, inl, inr}
use Rattle.std.proofs.lemmas.Bool.{cases_lt}
use Rattle.std.proofs.lemmas.List.{get_or_append_left, get_or_push, get_or_default, length-set}
use Rattle.std.proofs.lemmas.List.Elements.{All-push, All-get_or, All-head, All-tail}
use mathlib.Core.Path.{fun_ext}
use Rattle.fv_num.specs.headline.Words.{argument}
use Rattle.fv_num.specs.headline.Frames.{Frame, Stream, frame_at, column, table, delayed, back, carried}
use Rattle.fv_num.specs.Frames.{carries}
use Rattle.std.proofs.Common.{append_assoc, ◌≤◌}
use Rattle.fv_num.specs.headline.Tables.{place, read_at, written_at, written, after}
use Rattle.fv_num.proofs.lemmas.Tables.{lists_the_last}
use Rattle.fv_num.specs.headline.Valuation.{at_time, numbers, streams_before}
use Rattle.fv_base.proofs.lemmas.Lists.{length_snoc, length_table, table_same, table_items, get_or_table}
use Rattle.fv_num.proofs.lemmas.Valued.{at_now, at_past, streams_before_are, valuation_same}
use Rattle.fv_diagram_runner.specs.declared.step.Step.{Step}
use Rattle.fv_diagram_runner.specs.declared.step.Step.TheVariants as step
use Rattle.fv_diagram_runner.specs.declared.step.Change.{Change}
use Rattle.fv_diagram_runner.specs.declared.step.Change.TheVariants as change
use Rattle.fv_diagram.specs.headline.Diagram.{Diagram, inputs}
use Rattle.fv_diagram.proofs.lemmas.Causality.{run_closed, column_same, back_same}
use Rattle.fv_diagram.specs.headline.Streams.{run, last}
use Rattle.fv_diagram_runner.specs.Steps.{step_value, recalled, in_lists, in_streams, registers, step_at, wires, RunnerState, registers_of, next_of}
use Rattle.fv_diagram_runner.specs.Steps.{given_of, changed, lists_after, listed, all_listed, StandsFor, ReadsWithin, IsKept, IsBegun, IsRunner}
use Rattle.fv_diagram.specs.Wires.{no_slots}
use Rattle.fv_diagram.proofs.lemmas.Lists.{last_snoc}
use Rattle.fv_diagram.proofs.lemmas.Carried.{wired_answers}

-- the list of a step has at time t what the step asks
abbrev Knows : (lists begun : List (List ℤ)) → (past : ℕ → Stream) → ℕ → Step → Type 0
Knows lists begun past t (step.Back x d list) = get_or lists list [] ≡ table t (past x)
Knows lists begun past t (step.Read r list) = get_or lists list [] ≡ get_or begun list []
Knows lists begun past t (step.Write w x r list) =
    (get_or lists list [] ≡ after (get_or begun list []) (past w) (past x) t) × (1 ≤ length (get_or begun list []))
Knows lists begun past t _ = Unit {0}

after_same : (T : List ℤ) (w w' x x' : Stream) (t : ℕ) → ((u : ℕ) → u < t → w u ≡ w' u) → ((u : ℕ) → u < t → x u ≡ x' u)
    → after T w x t ≡ after T w' x' t
after_same T w w' x x' zero h g = refl
after_same T w w' x x' (suc t) h g =
    ap (λ S. written S (w t) (x t)) (after_same T w w' x x' t (λ u l. h u (omega arith)) (λ u l. g u (omega arith)))
    ∙ ap₂ (λ y z. written (after T w' x' t) y z) (h t (omega arith)) (g t (omega arith))

length_after : (T : List ℤ) (w x : Stream) (t : ℕ) → length (after T w x t) ≡ length T
length_after T w x zero = refl
length_after T w x (suc t) = length-set (after T w x t) (place (length (after T w x t)) (w t)) (x t) ∙ length_after T w x t

place_below : (n : ℕ) (z : ℤ) → 1 ≤ n → place n z < n
place_below n (pos i) h = omega arith
place_below n (negsuc i) h = omega arith

-- a table that is written now is read as it was written last
written_is : (t : ℕ) (past : ℕ → Stream) (now : List ℤ) (T : List ℤ) (w x : ℕ) (r : ℤ) → 1 ≤ length T
    → read_at (written (after T (past w) (past x) t) (argument now w) (argument now x)) r
    ≡ written_at T (at_time t past now w) (at_time t past now x) t r
written_is t past now T w x r some =
    let w' = at_time t past now w in
    let x' = at_time t past now x in
    let before : after T (past w) (past x) t ≡ after T w' x' t =
    after_same T (past w) w' (past x) x' t (λ u l. sym (at_past t past now w u l)) (λ u l. sym (at_past t past now x u l)) in
    ap (λ S. read_at (written S (argument now w) (argument now x)) r) before
    ∙ ap₂ (λ y z. read_at (written (after T w' x' t) y z) r) (sym (at_now t past now w)) (sym (at_now t past now x))
    ∙ ap (λ n. argument (after T w' x' (suc t)) (place n r)) (length_after T w' x' (suc t))
    ∙ lists_the_last T w' x' (place (length T) r) t (place_below (length T) r some)

-- what such a list recalls
recalled_is : (t : ℕ) (past : ℕ → Stream) (now : List ℤ) (x : ℕ) (d : ℤ) → recalled (table t (past x)) (argument now x) d ≡ back (at_time t past now x) t d
recalled_is t past now x d =
    let all = table t (past x) ++ argument now x ∷ [] in
    let long : length (table t (past x)) ≡ t = length_table t (past x) in
    ap (λ n. back (argument all) n d) long
    ∙ back_same (argument all) (at_time t past now x) t d (λ u l. elim (cases_lt u t) [
      | inl b ↦ get_or_append_left (table t (past x)) (argument now x ∷ []) (pos 0) u (omega (arith, long)) ∙ get_or_table t (past x) u (pos 0) b
          ∙ sym (at_past t past now x u b)
      | inr b ↦
          let e : t ≡ u = omega arith in
          get_or_push (table t (past x)) (argument now x) (pos 0) u (long ∙ e) ∙ sym (at_now t past now x) ∙ ap (at_time t past now x) e
    ])

module _ (sources : List ℕ) (lists begun : List (List ℤ)) (c x : ℕ → Stream) where
  delayed_at_time : (t : ℕ) (past : ℕ → Stream) (now : List ℤ) (w : ℕ) → delayed (at_time t past now w) t ≡ delayed (past w) t
  delayed_at_time zero past now w = refl
  delayed_at_time (suc t) past now w = at_past (suc t) past now w t (omega arith)

  recalls : (control input cell : ℕ → ℤ) (t : ℕ) (past : ℕ → Stream) (now : List ℤ) (s : Step) → Knows lists begun past t s →
      step_value control input cell (in_streams begun (at_time t past now) t) (argument now) s ≡ step_value control input cell (in_lists lists (argument now))
      (argument now) s
  recalls control input cell t past now (step.Number n) k = refl
  recalls control input cell t past now (step.Control i) k = refl
  recalls control input cell t past now (step.Input i) k = refl
  recalls control input cell t past now (step.Point op args) k = refl
  recalls control input cell t past now (step.Cell i) k = refl
  recalls control input cell t past now (step.Back x d list) k =
      ap (back (at_time t past now x) t) (at_now t past now d)
      ∙ sym (ap (λ z. recalled z (argument now x) (argument now d)) k ∙ recalled_is t past now x (argument now d))
  recalls control input cell t past now (step.Read r list) k =
      ap (read_at (get_or begun list [])) (at_now t past now r) ∙ ap (λ T. read_at T (argument now r)) (sym k)
  recalls control input cell t past now (step.Write w x r list) k =
      let T = get_or begun list [] in
      ap (written_at T (at_time t past now w) (at_time t past now x) t) (at_now t past now r)
      ∙ sym (written_is t past now T w x (argument now r) k.1)
      ∙ ap (λ S. read_at (written S (argument now w) (argument now x)) (argument now r)) (sym k.0)

  -- the numbers of the steps at time t are the registers
  numbers_registers : (t : ℕ) (past : ℕ → Stream) (now : List ℤ) (ss : List Step) → All (Knows lists begun past t) ss →
      numbers (step_at sources begun c x) t past now ss ≡ registers (λ k. c k t) (λ i. x i t) (argument (map (λ w. delayed (past w) t) sources)) lists now ss
  numbers_registers t past now [] k = refl
  numbers_registers t past now (s ∷ ss) k =
      let cells = argument (map (λ w. delayed (past w) t) sources) in
      let here : step_at sources begun c x (at_time t past now) s t
      ≡ step_value (λ k. c k t) (λ i. x i t) cells (in_lists lists (argument now)) (argument now) s =
      ap₂ (λ cell register. step_value (λ k. c k t) (λ i. x i t) cell (in_streams begun (at_time t past now) t) register s)
      (ap (λ f. argument (map f sources)) (fun_ext (delayed_at_time t past now))) (fun_ext (at_now t past now))
      ∙ recalls (λ k. c k t) (λ i. x i t) cells t past now s (All-head (Knows lists begun past t) s ss k) in
      numbers_registers t past (now ++ step_at sources begun c x (at_time t past now) s t ∷ []) ss (All-tail (Knows lists begun past t) s ss k)
      ∙ ap (λ z. registers (λ k. c k t) (λ i. x i t) cells lists (now ++ z ∷ []) ss) here

column_last : (X : List Frame) (x : Frame) (i n : ℕ) → length X ≡ n → column (X ++ x ∷ []) i n ≡ argument x i
column_last X x i n e = ap (λ y. get_or y i (pos 0)) (get_or_push X x [] n e)

module _ (m : RunnerState) (d : Diagram) (C X : List Frame) (controls frame : List ℤ) (stands : StandsFor m d C X)
    (within : All (ReadsWithin m.controls m.ins (length m.cells) (length m.lists)) m.steps) (kept : All (IsKept m.changes) m.steps) where
  -- one frame more
  c' : ℕ → Stream
  c' = column (C ++ controls ∷ [])

  x' : ℕ → Stream
  x' = column (X ++ frame ∷ [])

  v : ℕ → Stream
  v = wires m.steps m.sources stands.begun (column C) (column X)

  v' : ℕ → Stream
  v' = wires m.steps m.sources stands.begun c' x'

  -- the streams before it
  before : ℕ → Stream
  before = streams_before (step_at m.sources stands.begun c' x') m.steps (length X)

  steps_agree : (u : ℕ → Stream) (s : Step) (t : ℕ) → t < length X → step_at m.sources stands.begun c' x' u s t
      ≡ step_at m.sources stands.begun (column C) (column X) u s t
  unfolding c' x'
  steps_agree u s t l =
      ap₂ (λ control input. step_value control input (argument (map (λ w. delayed (u w) t) m.sources)) (in_streams stands.begun u t) (λ w. u w t) s)
      (fun_ext (λ k. column_same C controls k t (omega (arith, stands.as_many)))) (fun_ext (λ i. column_same X frame i t l))

  wires_agree : (w t : ℕ) → t < length X → v' w t ≡ v w t
  unfolding v v'
  wires_agree w t l = valuation_same (step_at m.sources stands.begun c' x') (step_at m.sources stands.begun (column C) (column X)) m.steps (length X)
      steps_agree w t l

  before_agrees : (w t : ℕ) → t < length X → before w t ≡ v w t
  unfolding v v' before
  before_agrees w t l = streams_before_are (step_at m.sources stands.begun c' x') m.steps (length X) w t l ∙ wires_agree w t l

  cell_agrees : (w n : ℕ) → n ≡ length X → delayed (before w) n ≡ delayed (v w) n
  cell_agrees w zero e = refl
  cell_agrees w (suc n) e = before_agrees w n (omega arith)

  listed_long : length m.lists ≡ length m.changes
  listed_long = ap length stands.listed_so ∙ length_table (length m.changes) _

  -- what a list has
  list_is : (list : ℕ) (a : Change) → list < length m.changes → get_or m.changes list a ≡ a
      → get_or m.lists list [] ≡ listed v (length X) (get_or stands.begun list []) a
  unfolding v
  list_is list a l k =
      let n = length X in
      let u = wires m.steps m.sources stands.begun (column C) (column X) in
      ap (λ ls. get_or ls list []) stands.listed_so
      ∙ get_or_table (length m.changes) (λ k. listed u n (get_or stands.begun k []) (get_or m.changes k (change.Append 0))) list [] l
      ∙ ap (listed u n (get_or stands.begun list [])) (get_or_default m.changes list (change.Append 0) a l ∙ k)

  knows : (s : Step) → ReadsWithin m.controls m.ins (length m.cells) (length m.lists) s → IsKept m.changes s → IsBegun stands.begun s
      → Knows m.lists stands.begun before (length X) s
  knows (step.Number n) r k b = tt
  knows (step.Control i) r k b = tt
  knows (step.Input i) r k b = tt
  knows (step.Point op args) r k b = tt
  knows (step.Cell i) r k b = tt
  knows (step.Back x d list) r k b =
      let n = length X in
      list_is list (change.Append x) (omega (arith, listed_long, r)) k ∙ ap (λ T. T ++ table n (v x)) b
      ∙ table_same n _ _ (λ t b. sym (before_agrees x t b))
  knows (step.Read y list) r k b = list_is list change.Keep (omega (arith, listed_long, r)) k
  knows (step.Write w x y list) r k b =
      let T = get_or stands.begun list [] in (
        list_is list (change.Put w x) (omega (arith, listed_long, r)) k
            ∙ after_same T (v w) (before w) (v x) (before x) (length X) (λ u l. sym (before_agrees w u l)) (λ u l. sym (before_agrees x u l)),
        b,
      )

  -- the numbers at the new frame are the registers
  registers_are : numbers (step_at m.sources stands.begun c' x') (length X) before [] m.steps ≡ registers_of m controls frame
  unfolding c' x' v
  registers_are =
      let n = length X in
      numbers_registers m.sources m.lists stands.begun c' x' n before [] m.steps
      (λ k d l. knows (get_or m.steps k d) (within k d l) (kept k d l) (stands.as_begun k d l))
      ∙ ap₂ (λ control input. registers control input (argument (map (λ w. delayed (before w) n) m.sources)) m.lists [] m.steps)
      (fun_ext (λ k. column_last C controls k n stands.as_many)) (fun_ext (λ i. column_last X frame i n refl))
      ∙ ap (λ cells. registers (argument controls) (argument frame) (argument cells) m.lists [] m.steps)
      (ap (λ f. map f m.sources) (fun_ext (λ w. cell_agrees w n refl)) ∙ sym stands.held)

  wire_is : (w : ℕ) → v' w (length X) ≡ argument (registers_of m controls frame) w
  unfolding v' before
  wire_is w = ap (λ r. argument r w) registers_are

  -- the lists after their changes
  change_is : (T : List ℤ) (a : Change) → changed (argument (registers_of m controls frame)) a (listed v (length X) T a) ≡ listed v' (suc (length X)) T a
  change_is T (change.Append w) =
      append_assoc T (table (length X) (v w)) (argument (registers_of m controls frame) w ∷ [])
      ∙ ap₂ (λ xs y. T ++ (xs ++ y ∷ [])) (table_same (length X) _ _ (λ t l. sym (wires_agree w t l))) (sym (wire_is w))
  change_is T change.Keep = refl
  change_is T (change.Put w x) =
      ap (λ S. written S (argument (registers_of m controls frame) w) (argument (registers_of m controls frame) x))
      (after_same T (v w) (v' w) (v x) (v' x) (length X) (λ t l. sym (wires_agree w t l)) (λ t l. sym (wires_agree x t l)))
      ∙ ap₂ (λ y z. written (after T (v' w) (v' x) (length X)) y z) (sym (wire_is w)) (sym (wire_is x))

  lists_are : lists_after (argument (registers_of m controls frame)) m.changes m.lists ≡ all_listed v' (suc (length X)) stands.begun m.changes
  unfolding v
  lists_are =
      let n = length X in
      let u = wires m.steps m.sources stands.begun (column C) (column X) in
      let none = change.Append 0 in
      let r = argument (registers_of m controls frame) in
      ap (λ k. table k (λ i. changed r (get_or m.changes i none) (get_or m.lists i []))) listed_long
      ∙ table_same (length m.changes) _ _ (λ i l.
      ap (changed r (get_or m.changes i none))
      (ap (λ ls. get_or ls i []) stands.listed_so
      ∙ get_or_table (length m.changes) (λ k. listed u n (get_or stands.begun k []) (get_or m.changes k none)) i [] l)
      ∙ change_is (get_or stands.begun i []) (get_or m.changes i none))

  pub stands_next : length frame ≡ m.ins → StandsFor (next_of m controls frame) d (C ++ controls ∷ []) (X ++ frame ∷ [])
  unfolding c' x' v'
  stands_next given = let wide : length frame ≡ inputs d = given ∙ stands.takes in record {
    closed = stands.closed;
    takes = stands.takes;
    gives = stands.gives;
    reads = stands.reads;
    ins = stands.ins;
    begun = stands.begun;
    as_begun = stands.as_begun;
    begun_each = stands.begun_each;
    wired = stands.wired;
    entered = stands.entered;
    held =
        ap (λ f. map f m.sources) (fun_ext (λ w. sym (wire_is w)))
        ∙ ap (λ n. map (λ w. delayed (v' w) n) m.sources) (sym (length_snoc X frame));
    listed_so = lists_are ∙ ap (λ n. all_listed v' n stands.begun m.changes) (sym (length_snoc X frame));
    as_many = length_snoc C controls ∙ ap suc stands.as_many ∙ sym (length_snoc X frame);
    wide = All-push (λ x. length x ≡ inputs d) X frame stands.wide wide;
  }

  -- the input wires carry the frames
  enters : length frame ≡ inputs d → carries v' stands.ins (length (X ++ frame ∷ [])) ≡ X ++ frame ∷ []
  unfolding c' x' v'
  enters wide =
      let X' = X ++ frame ∷ [] in
      let all = All-push (λ x. length x ≡ inputs d) X frame stands.wide wide in
      table_same (length X') (carried v' stands.ins) (frame_at X') (λ t l.
      stands.entered c' x' t ∙ ap (λ n. table n (λ i. column X' i t)) (sym (All-get_or (λ x. length x ≡ inputs d) X' t [] l all))
      ∙ table_items (frame_at X' t) (pos 0))
      ∙ table_items X' []

  pub stands_given : length frame ≡ m.ins → (e : ℕ → Stream) → given_of m controls frame ≡ last (run d (column (C ++ controls ∷ [])) e (X ++ frame ∷ []))
  unfolding c' x' v'
  stands_given given e =
      let wide : length frame ≡ inputs d = given ∙ stands.takes in
      let X' = X ++ frame ∷ [] in
      let answer : run d c' e X' ≡ carries v' m.outs (length X') =
      run_closed d c' e (λ s. v' (no_slots s)) X' stands.closed ∙ ap (run d c' (λ s. v' (no_slots s))) (sym (enters wide))
      ∙ wired_answers v' c' d no_slots (λ s. v' (no_slots s)) stands.ins m.outs (length X') (stands.wired c' x') (λ s t l. refl) in
      ap (λ f. map f m.outs) (fun_ext (λ w. sym (wire_is w)))
      ∙ sym (last_snoc (carries v' m.outs (length X)) (carried v' m.outs (length X)))
      ∙ ap (λ n. last (carries v' m.outs n)) (sym (length_snoc X frame))
      ∙ ap last (sym answer)

-- what a step leaves and gives, for the fields that it went over
pub next_is : (m m0 : RunnerState) (r : List ℤ) (d : Diagram) (C X : List Frame) (controls frame : List ℤ) (cells : List ℤ) (lists : List (List ℤ)) → m0 ≡ m →
    IsRunner m0 r → StandsFor m d C X → length frame ≡ m.ins →
    cells ≡ (next_of m0 controls frame).cells → lists ≡ (next_of m0 controls frame).lists →
    StandsFor (record m0 { cells = cells; lists = lists }) d (C ++ controls ∷ []) (X ++ frame ∷ [])
next_is m m0 r d C X controls frame cells lists e i s l q p =
    subst (λ z. StandsFor (record m0 { cells = cells; lists = z }) d (C ++ controls ∷ []) (X ++ frame ∷ [])) (sym p)
    (subst (λ y. StandsFor (record m0 { cells = y; lists = (next_of m0 controls frame).lists }) d (C ++ controls ∷ []) (X ++ frame ∷ [])) (sym q)
    (stands_next m0 d C X controls frame (subst (λ n. StandsFor n d C X) (sym e) s) i.within i.kept (l ∙ ap (λ n. n.ins) (sym e))))

pub given_is : (m m0 : RunnerState) (r : List ℤ) (d : Diagram) (C X : List Frame) (e : ℕ → Stream) (controls frame out : List ℤ)
    → m0 ≡ m → IsRunner m0 r →
    StandsFor m d C X → length frame ≡ m.ins → out ≡ given_of m0 controls frame →
    out ≡ last (run d (column (C ++ controls ∷ [])) e (X ++ frame ∷ []))
given_is m m0 r d C X e controls frame out h i s l q =
    q ∙ stands_given m0 d C X controls frame (subst (λ n. StandsFor n d C X) (sym h) s) i.within i.kept (l ∙ ap (λ n. n.ins) (sym h)) e

-- the registers that the fields that were gone over come to
pub registers_same : (control input : ℕ → ℤ) (cells cells' : List ℤ) (lists lists' : List (List ℤ)) (steps steps' : List Step) → cells ≡ cells' →
    lists ≡ lists' → steps ≡ steps' →
    registers control input (argument cells) lists [] steps ≡ registers control input (argument cells') lists' [] steps'
registers_same control input cells cells' lists lists' steps steps' e f g =
    ap₂ (λ y z. registers control input (argument y) lists [] z) e g ∙ ap (λ l. registers control input (argument cells') l [] steps') f
