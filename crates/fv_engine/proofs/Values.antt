-- What the lanes hold as a block begins, and what comes of it.
use Rattle.std.proofs.Common.{◌≡◌, inl, inr, ℕ, ◌+◌, ◌-◌, ◌*◌, ◌<◌, ◌≤◌, true, List, [], ◌++◌, length, refl, sym, ap}
use Rattle.std.proofs.Common.{zero, suc, ◌∙◌, ap₂, subst, arith, get_or, drop, ℤ, pos, nat_lt, nat_eq, nat_le, lt-ltb, eq-eqb}
use Rattle.std.proofs.lemmas.Bool.{cases_lt, ltb-true, eqb-true, cond-true, cond-false, le-leb, lt-leb}
use Rattle.std.proofs.lemmas.List.{get_or-append-add, get_or_append_left, get_or-drop, length-append, length-drop}
use Rattle.std.proofs.Math.ListN.{get_or-eq_default}
use Rattle.fv_signal.specs.Words.{argument}
use Rattle.fv_signal.specs.Frames.{Frame, Stream, column, back, table, rows}
use Rattle.fv_signal.specs.Tables.{written, after}
use Rattle.fv_base.proofs.lemmas.Lists.{get_or_table, length_table, table_same, table_items}
use Rattle.fv_signal.specs.declared.signal.Signal.{Signal}
use Rattle.fv_signal.specs.declared.signal.Signal.TheVariants as signal
use Rattle.fv_signal.specs.headline.Value.{Graph, table_of, value}
use Rattle.fv_signal.proofs.lemmas.Solutions.{values_look_back}
use Rattle.fv_analysis.specs.headline.Stands.{node}
use Rattle.fv_graph.proofs.lemmas.Counts.{both_true, both_of}
use Rattle.fv_loopcode.specs.Code.{frame_of}
use Rattle.fv_loopcode.specs.headline.Obeys.{Place, OfLane, OfCells, Flows}
use Rattle.fv_loopcode.specs.Obeys.{Content, ObeysAt, window, HoldsJust, HoldsAt, HaveTables}
use Rattle.fv_loopcode.specs.headline.Lanes.{lane_of, sample_at}
use Rattle.fv_loopcode.specs.headline.State.{State, list_at}
use Rattle.fv_loopcode.specs.Blocks.{before}
use Rattle.fv_loopcode.proofs.lemmas.Streams.{streams_obey}
use Rattle.fv_loopcode.proofs.lemmas.Named.{named_alone_count}
use Rattle.fv_split_plan.specs.headline.Separated.{AsWritten}
use Rattle.fv_split_plan.specs.headline.View.{PlanView, code_of, roles_of, lane_info, cells_info}
use Rattle.fv_split_plan.specs.headline.Fits.{flows, written_by}
use Rattle.fv_split_plan.specs.headline.Plans.{PlanStands}
use Rattle.fv_split_plan.proofs.lemmas.NodeLemmas.{listed}
use Rattle.fv_engine_tasks.specs.Block.{Block, ObeysBlock, HoldUpTo, none_done}
use Rattle.fv_engine.specs.inner.Plans.{NamesThere, held_by, block_from}
use Rattle.fv_engine.specs.Stands.{EngineView, StandsFor, AreBegun, AreGiven}
use Rattle.fv_engine.specs.Past.{past}

-- a number of a frame after others
row_at : (X : List Frame) (channels n : ℕ) (input : List ℤ) (i t : ℕ) → i < channels → t < n
    → column (X ++ rows channels n input) i (length X + t) ≡ argument input (t * channels + i)
row_at X channels n input i t l m =
    let row = get_or_table n (λ t. table channels (λ i. argument input (t * channels + i))) t [] m in
    ap (λ (f : Frame). get_or f i (pos 0)) (get_or-append-add X (rows channels n input) t [] ∙ row)
    ∙ get_or_table channels (λ i. argument input (t * channels + i)) i (pos 0) l

before_same : (X Y : List Frame) (i u : ℕ) → u < length X → column X i u ≡ column (X ++ Y) i u
before_same X Y i u l = ap (λ (f : Frame). get_or f i (pos 0)) (sym (get_or_append_left X Y [] u l))

-- looking back h samples from t + h
back_here : (x : Stream) (T h t : ℕ) → back x (T + (h + t)) (pos h) ≡ x (T + t)
back_here x T h t =
    let z : T + (h + t) - h ≡ T + t = omega arith in
    cond-true (nat_le h (T + (h + t))) (x (T + (h + t) - h)) (pos 0) (le-leb h (T + (h + t)) (omega arith)) ∙ ap x z

-- looking back far enough meets only what was before
pub back_past : (x y : Stream) (T h k : ℕ) → k < h → ((u : ℕ) → u < T → x u ≡ y u) → back x (T + k) (pos h) ≡ back y (T + k) (pos h)
back_past x y T h k l e = elim (cases_lt (T + k) h) [
  | inl m ↦
      let early = λ (z : Stream). cond-false (nat_le h (T + k)) (z (T + k - h)) (pos 0) (lt-leb h (T + k) m) in early x ∙ sym (early y)
  | inr m ↦
      let late = λ (z : Stream). cond-true (nat_le h (T + k)) (z (T + k - h)) (pos 0) (le-leb h (T + k) m) in
      late x ∙ e (T + k - h) (omega (arith, l, m)) ∙ sym (late y)
]

-- what a list has become depends on what was written before alone
after_alike : (T : List ℤ) (w x y z : Stream) (n : ℕ) → ((u : ℕ) → u < n → w u ≡ y u) → ((u : ℕ) → u < n → x u ≡ z u) → after T w x n ≡ after T y z n
after_alike T w x y z zero e f = refl
after_alike T w x y z (suc n) e f =
    ap₂ (λ (p q : ℤ). written (after T w x n) p q) (e n (omega arith)) (f n (omega arith))
    ∙ ap (λ (T : List ℤ). written T (y n) (z n))
    (after_alike T w x y z n (λ u l. e u (omega (arith, l))) (λ u l. f u (omega (arith, l))))

-- so it is with a table that is written, where signals have the same values before
pub written_alike : (g : Graph) (X Y : List Frame) (c d : ℕ → Stream) (n : ℕ) → ((s u : ℕ) → u < n → value g s X c u ≡ value g s Y d u)
    → (s : Signal) → written_by g X c s n ≡ written_by g Y d s n
written_alike g X Y c d n e (signal.Input i) = refl
written_alike g X Y c d n e (signal.Const k) = refl
written_alike g X Y c d n e (signal.Control k) = refl
written_alike g X Y c d n e (signal.Point op args) = refl
written_alike g X Y c d n e (signal.Delay x b max) = refl
written_alike g X Y c d n e (signal.Back group i) = refl
written_alike g X Y c d n e (signal.Member group i) = refl
written_alike g X Y c d n e (signal.Read t r) = refl
written_alike g X Y c d n e (signal.Write t w x r) =
    after_alike (table_of g t) (value g w X c) (value g x X c) (value g w Y d) (value g x Y d) n (λ u l. e w u l) (λ u l. e x u l)

-- a block of an engine's plan
abbrev pub block_in : EngineView → (frames : ℕ) → (controls input : List ℤ) → Block
block_in e n controls input = block_from e.plan e.vector n e.channels (held_by e.plan controls) input

-- what is heard of n more frames after X
abbrev pub heard : EngineView → List Frame → (frames : ℕ) → List ℤ → List Frame
heard e X n input = X ++ rows e.channels n input

-- a block under these controls may go on after the frames X of a graph
pub record GoesBehind (e : EngineView) (n : ℕ) (controls : List ℤ) (g : Graph) (X : List Frame) (c : ℕ → Stream) : Type 0 where
  pub plan : PlanStands g e.plan
  pub names : NamesThere e.plan e.channels (length controls)
  pub given : AreGiven controls c (length X) n

module _ {e : EngineView} {n : ℕ} {controls : List ℤ} {g : Graph} {X : List Frame} {c : ℕ → Stream}
    (h : GoesBehind e n controls g X c) (input : List ℤ) where
  abbrev p : PlanView
  p = e.plan

  abbrev s : PlanStands g p
  s = h.plan

  abbrev all : List Frame
  all = heard e X n input

  abbrev v : ℕ → Stream
  v l u = value g (s.names.lane l) all c u

  -- what the places carry
  abbrev carried : Flows
  carried = flows g s.names all c

  -- the values of the lanes' signals
  abbrev pub content : Content
  content = window s.names.history carried (length X)

  abbrev f : Content
  f = content

  abbrev b : Block
  b = block_in e n controls input

  -- the values of the held values' signals at frame m, the input's numbers among all that is heard, and in the block
  abbrev held : (m : ℕ) → ℕ → ℤ
  held m k = value g (s.names.held k) all c (length X + m)

  abbrev row : (m : ℕ) → ℕ → ℤ
  row m k = column all k (length X + m)

  abbrev frame : (m : ℕ) → ℕ → ℤ
  frame m = frame_of input e.channels m

  held_is : (k m : ℕ) → k < length p.held → m < n → held m k ≡ argument b.held k
  held_is k m l i =
      let numbers = s.held all c (length X + m) (argument controls) (λ k named. sym (h.given k m (h.names.knobs k named) i)) in
      sym (ap (λ (xs : List ℤ). argument xs k) numbers ∙ get_or_table (length p.held) (held m) k (pos 0) l)

  obeys_there : (j m : ℕ) → j < p.loops → m < n → ObeysAt (roles_of p j) f (argument b.held) (frame m) m (code_of p j)
  obeys_there j m l i =
      let roles = roles_of p j in
      named_alone_count roles f (held m) (argument b.held) (row m) (frame m) m (code_of p j)
      (λ k named. held_is k m (h.names.held j k named) i)
      (λ k named. row_at X e.channels n input k m (h.names.inputs j k named) i)
      (streams_obey roles s.names.history carried (held m) (row m) (length X) m (code_of p j) (s.obeys j l all c (length X + m)))

  -- a lane of a loop's roles is there, and so is the loop
  fits : (j l : ℕ) → (roles_of p j).own (OfLane l) ≡ true → (l < length p.lanes) × (j < p.loops)
  fits j l o =
      let q = both_true (nat_lt l (length p.lanes)) (nat_eq (lane_info p l).owner j) o in let i = ltb-true l (length p.lanes) q.0 in
      (i, (let w = s.loops.owners l i in let e = eqb-true (lane_info p l).owner j q.1 in omega (arith, w, e)))

  -- cells belong to the loop of their signal's lane
  owned : (k : ℕ) → k < length p.cells → (cells_info p k).owner < p.loops
  owned k i =
      let a = s.cells.are k i in let l = s.lanes.all (s.names.cells k) (AsWritten (cells_info p k).table a.0 a.1 a.2 a.3) in
      let e = s.cells.owners k l.0 i l.1 l.2 in let w = s.loops.owners l.0 l.1 in omega (arith, e, w)

  -- cells of a loop's roles are there, and so is the loop
  fits_cells : (j k : ℕ) → (roles_of p j).own (OfCells k) ≡ true → (k < length p.cells) × (j < p.loops)
  fits_cells j k o =
      let q = both_true (nat_lt k (length p.cells)) (nat_eq (cells_info p k).owner j) o in let i = ltb-true k (length p.cells) q.0 in
      (i, (let w = owned k i in let e = eqb-true (cells_info p k).owner j q.1 in omega (arith, w, e)))

  fits_there : (j : ℕ) (q : Place) → (roles_of p j).own q ≡ true → j < p.loops
  fits_there j (OfLane l) o = (fits j l o).1
  fits_there j (OfCells k) o = (fits_cells j k o).1

  -- a loop that is not there has no code and no places
  obeys_none : (j m : ℕ) → p.loops ≤ j → ObeysAt (roles_of p j) f (argument b.held) (frame m) m (code_of p j)
  obeys_none j m l = subst (λ steps. ObeysAt (roles_of p j) f (argument b.held) (frame m) m steps) (sym no_code)
      (λ place o. absurd (let q = fits_there j place o in omega (arith, q, l)))
    where
      no_code : code_of p j ≡ []
      no_code = get_or-eq_default p.codes [] (omega (arith, s.codes, l))

  -- the values of the lanes' signals go on as the block's codes say
  pub values_obey : ObeysBlock b f
  values_obey = record {
    history = λ l m. s.histories l m;
    obeys = λ j m h. elim (cases_lt j p.loops) [ inl l ↦ obeys_there j m l h | inr l ↦ obeys_none j m l ];
  }

  -- before the block the values are those that they were without its frames
  pub value_before : (k u : ℕ) → u < length X → value g k X c u ≡ value g k all c u
  value_before k u l =
      values_look_back g X all c c (length X) (λ i u m. before_same X (rows e.channels n input) i u m) (λ k u m. refl) k u l

  -- and so are the items of the cells
  written_before : (k : ℕ) → written_by g X c (node g (s.names.cells k)) (length X) ≡ carried.cells k (length X)
  written_before k = written_alike g X all c c (length X) value_before (node g (s.names.cells k))

  -- what the lanes hold as the block begins are the last values before it
  module _ {first : State} (begun : AreBegun e n first) (stands : StandsFor e g s.names X c) where
    -- what a lane's signal was
    abbrev was : ℕ → Stream
    was l = value g (s.names.lane l) X c

    items : (l : ℕ) → l < length p.lanes → (lane_of first.lanes l).items ≡ past (lane_info p l).history (was l) (length X)
    items l i = begun.items l i ∙ stands.histories l i

    number : (l k : ℕ) → l < length p.lanes → k < (lane_info p l).history → argument (lane_of first.lanes l).items k ≡ f.numbers l k
    number l k i m =
        let hist = (lane_info p l).history in
        ap (λ (xs : List ℤ). argument xs k) (items l i) ∙ get_or_table hist (λ k. back (was l) (length X + k) (pos hist)) k (pos 0) m
        ∙ back_past (was l) (v l) (length X) hist k m (value_before (s.names.lane l))
        ∙ ap (λ (x : ℕ). back (v l) (length X + k) (pos x)) (sym (s.histories l i))

    begun_just : (l : ℕ) → l < length p.lanes → HoldsJust f l (before e.vector n 0) (n - before e.vector n 0) (lane_of first.lanes l)
    begun_just l i =
        let hist = (lane_info p l).history in
        let long : length (lane_of first.lanes l).items ≡ hist = ap length (items l i) ∙ length_table hist (λ k. back (was l) (length X + k) (pos hist)) in
        record {
          holds = record {
            history = begun.histories l i ∙ sym (s.histories l i);
            long = omega (arith, long, s.histories l i);
            same = λ k m. number l k i (omega (arith, m, long));
          };
          just = omega (arith, long, s.histories l i);
          room = omega (arith, begun.room l i);
        }

    begun_holds : (j : ℕ) (q : Place) → (roles_of p j).own q ≡ true → HoldsAt f q (before e.vector n 0) (n - before e.vector n 0) first
    begun_holds j (OfLane l) o = begun_just l (fits j l o).0
    begun_holds j (OfCells k) o =
        let z : length X ≡ length X + before e.vector n 0 = omega arith in
        ap (λ lists. list_at lists k) begun.cells ∙ stands.cells k (fits_cells j k o).0 ∙ written_before k ∙ ap (carried.cells k) z

    begun_tables : HaveTables f first
    begun_tables t o = (
      subst (λ (lists : List (List ℤ)). t < length lists) (sym (begun.tables ∙ s.cells.tables)) (listed g.tables t o),
      ap (λ lists. list_at lists t) (begun.tables ∙ s.cells.tables),
    )

    pub begins : HoldUpTo b f none_done first
    begins = record { holds = λ j q o. begun_holds j q o; tables = begun_tables }

  -- what they hold as it ends are its values
  module _ {now : State} {vectors : ℕ → ℕ} (full : (j : ℕ) → j < p.loops → n ≤ vectors j * e.vector) (holds : HoldUpTo b f vectors now) where
    ended : (l : ℕ) → l < length p.lanes → HoldsJust f l n 0 (lane_of now.lanes l)
    ended l i =
        let j = (lane_info p l).owner in
        let q = holds.holds j (OfLane l) (both_of (nat_lt l (length p.lanes)) (nat_eq j j) (lt-ltb l (length p.lanes) i) (eq-eqb j j refl)) in
        let end : before e.vector n (vectors j) ≡ n = let z = full j (s.loops.owners l i) in omega (arith, z) in
        let k = subst (λ x. HoldsJust f l x (n - x) (lane_of now.lanes l)) end q in record { holds = k.holds; just = k.just; room = omega arith }

    pub sample_is : (l t : ℕ) → l < length p.lanes → t < n → sample_at (lane_of now.lanes l) t 0 ≡ value g (s.names.lane l) all c (length X + t)
    sample_is l t i m =
        let k = ended l i in let a = k.holds.history in
        let z : (lane_of now.lanes l).history + t - 0 ≡ s.names.history l + t = omega (arith, a) in
        k.holds.same ((lane_of now.lanes l).history + t - 0) (omega (arith, k.just, a, m)) ∙ ap (f.numbers l) z
        ∙ back_here (v l) (length X) (s.names.history l) t

    all_long : length all ≡ length X + n
    all_long =
        length-append X (rows e.channels n input)
        ∙ ap (λ m. length X + m) (length_table n (λ t. table e.channels (λ i. argument input (t * e.channels + i))))

    -- the cells have the items that are written up to the block's end
    pub next_items : (k : ℕ) → k < length p.cells → list_at now.cells k ≡ written_by g all c (node g (s.names.cells k)) (length all)
    next_items k i =
        let j = (cells_info p k).owner in
        let q = holds.holds j (OfCells k) (both_of (nat_lt k (length p.cells)) (nat_eq j j) (lt-ltb k (length p.cells) i) (eq-eqb j j refl)) in
        let end : length X + before e.vector n (vectors j) ≡ length all = let z = full j (owned k i) in omega (arith, z, all_long) in
        q ∙ ap (carried.cells k) end

    pub next_past : (l : ℕ) → l < length p.lanes
        → drop n (lane_of now.lanes l).items ≡ past (lane_info p l).history (value g (s.names.lane l) all c) (length all)
    next_past l i =
        let k = ended l i in let hist = (lane_info p l).history in let items = (lane_of now.lanes l).items in let left = drop n items in
        let z : length items - n ≡ hist = omega (arith, k.just, s.histories l i) in
        let long : length left ≡ hist = length-drop n items ∙ z in
        sym (table_items left (pos 0)) ∙ ap (λ m. table m (λ u. get_or left u (pos 0))) long
        ∙ table_same hist (λ u. get_or left u (pos 0)) (λ u. back (v l) (length all + u) (pos hist)) (number_left l i)
      where
        number_left : (l : ℕ) → l < length p.lanes → (u : ℕ) → u < (lane_info p l).history
            → get_or (drop n (lane_of now.lanes l).items) u (pos 0) ≡ back (v l) (length all + u) (pos (lane_info p l).history)
        number_left l i u m =
            let k = ended l i in let z : length X + (n + u) ≡ length all + u = omega (arith, all_long) in
            get_or-drop n (lane_of now.lanes l).items u (pos 0) ∙ k.holds.same (n + u) (omega (arith, k.just, s.histories l i, m))
            ∙ ap (λ x. back (v l) x (pos (s.names.history l))) z ∙ ap (λ (y : ℕ). back (v l) (length all + u) (pos y)) (s.histories l i)
