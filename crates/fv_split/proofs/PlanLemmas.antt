-- The parts that the passes make are a plan of the graph.
use Rattle.std.proofs.Common.{◌≡◌, ◌≢◌, inl, inr, ℕ, zero, suc, ◌+◌, ◌<◌, ◌≤◌, List, [], ◌∷◌, length, map, get_or, refl, sym, ap, ap₂, ◌∙◌, subst}
use Rattle.std.proofs.Common.{arith, pos, ℤ, true, false}
use Rattle.std.specs.Prelude.{All, Vec, Some, unwrap_or, nat_lt, nat_eq, ◌==◌, ◌&&◌}
use Rattle.std.specs.declared.alloc.Global.{Global}
use Rattle.std.proofs.lemmas.Bool.{cases_lt, le-ltb}
use Rattle.std.proofs.lemmas.List.{get_or_default, length-map}
use Rattle.std.proofs.lemmas.List.Elements.{All-from_get_or, All-nil}
use Rattle.std.proofs.lemmas.Option.{slice_get_past}
use Rattle.fv_base.proofs.lemmas.Lists.{get_or_table, table_items, map_table}
use Rattle.fv_signal.specs.Frames.{table}
use Rattle.fv_outside.specs.declared.tasks.Reads.{Reads}
use Rattle.fv_outside.specs.headline.Tasks.{bit, total, reads_loop}
use Rattle.fv_signal.specs.declared.signal.Signal.TheVariants as signal
use Rattle.fv_signal.specs.headline.Value.{Graph, value, IsGraph, NamesWithin}
use Rattle.fv_components.specs.headline.Reach.{at}
use Rattle.fv_loopcode.specs.declared.step.Step.{Step}
use Rattle.fv_loopcode.specs.declared.step.Step.TheVariants as step
use Rattle.fv_loopcode.specs.declared.counts.Counts.{Counts}
use Rattle.fv_loopcode.specs.headline.State.{list_at}
use Rattle.fv_loopcode.specs.headline.Code.{registers_after, NamesHeld, NamesInput, IsStill}
use Rattle.fv_loopcode.specs.Code.{NamesThere, AreValid, IsValid}
use Rattle.fv_loopcode.specs.headline.Obeys.{Place, OfLane, OfCells, nothing}
use Rattle.fv_analysis.specs.headline.Stands.{stand, stands_of}
use Rattle.fv_analysis.specs.headline.History.{history_of}
use Rattle.fv_split_plan.specs.declared.lane.LaneInfo.{LaneInfo}
use Rattle.fv_split_plan.specs.declared.lane.CellsInfo.{CellsInfo}
use Rattle.fv_split_plan.specs.headline.Separated.{IsSeparated, AsOutput}
use Rattle.fv_split_plan.specs.Separated.{IsWritten, lane_at, cells_at}
use Rattle.fv_split_plan.specs.headline.Fits.{Names}
use Rattle.fv_split_plan.specs.Fits.{CodeFits}
use Rattle.fv_split_plan.specs.headline.View.{PlanView, lane_info, cells_info, code_of, loads_lane, roles_of}
use Rattle.fv_split_plan.specs.Rows.{plan_with}
use Rattle.fv_split_plan.specs.headline.Plans.{LanesStand, LoopsStand, CellsStand, tables_alone, PlanStands, PlanReads, PlanNames, NamesChannel}
use Rattle.fv_split_plan.specs.headline.Plans.{LoadsWithin, IsPlanOf}
use Rattle.fv_split_plan.proofs.lemmas.FitsLemmas.{codes_obey, map_get}
use Rattle.fv_split_plan.proofs.lemmas.NodeLemmas.{listed}
use Rattle.fv_split_lanes.specs.declared.lanes.Lanes.{Lanes}
use Rattle.fv_split_code.specs.declared.kind.Kind.{Kind}
use Rattle.fv_split_code.specs.Emitted.{steps_of, code_in, AreCodes}
use Rattle.fv_split_code.specs.Held.{ReadsWithin, HoldsUpTo}
use Rattle.fv_split_code.proofs.lemmas.LoadLemmas.{fits_loaded, loads_may, held_counted, inputs_named, loads_within, code_valid}
use Rattle.fv_split.specs.inner.Lists.{AreInfos, AreCoded, lane_of}
use Rattle.fv_split.specs.declared.cells.Cells.{Cells}
use Rattle.fv_split.specs.inner.Cells.{AreOf}
use Rattle.fv_split.specs.inner.ToldReads.{LoadsAmong, reads_of_loops}
use Rattle.fv_split.proofs.TellLemmas.{IsTold, LoopReads, all_told, few_pairs}
use Rattle.fv_split.specs.inner.Surveyed.{Passes}
use Rattle.fv_split.proofs.SuitLemmas.{survey_of, names_of, own_places, lower_loaded, MayLoad, may_load, in_loop, cells_in_loop, suits}
use Rattle.fv_split.proofs.SuitLemmas.{separated_lane}

map_items : (f : ℕ → ℤ) (xs : List ℕ) → map f xs ≡ table (length xs) (λ k. f (at xs k))
map_items f xs = ap (map f) (sym (table_items xs 0)) ∙ map_table f (length xs) (λ i. get_or xs i 0)

-- a step that names what is there loads one of the lanes
loads_among : (n : Counts) (s : Step) → NamesThere n s → LoadsAmong n.lanes s
loads_among n (step.Number z) h = tt
loads_among n (step.Held k) h = tt
loads_among n (step.Input k) h = tt
loads_among n (step.Point op args) h = tt
loads_among n (step.Load lane back max) h = h
loads_among n (step.Append lane value) h = tt
loads_among n (step.Read table arg) h = tt
loads_among n (step.Write cells args) h = tt

-- a step of the held values is within a plan that has the graph's tables
held_within : (g : Graph) (v : PlanView) → v.tables ≡ g.tables → (s : Step) → IsStill s → ReadsWithin g s → LoadsWithin v s
held_within g v e (step.Number n) h r = tt
held_within g v e (step.Held k) h r = tt
held_within g v e (step.Input k) h r = tt
held_within g v e (step.Point op args) h r = tt
held_within g v e (step.Load lane back max) h r = absurd h
held_within g v e (step.Append lane value) h r = tt
held_within g v e (step.Read table arg) h r = subst (λ ts. 0 < length (list_at ts table)) (sym e) r
held_within g v e (step.Write cells args) h r = absurd h

module _ (g : Graph) (p : Lanes) (stands : Vec ℕ Global) (bases kinds : Vec Kind Global) (cells : Cells) (numbers : List ℕ) (steps : List Step)
    (passes : Passes g p stands bases kinds cells numbers steps)
    (codes : List (Vec Step Global)) (are_codes : AreCodes g (survey_of p stands bases kinds cells) p.loops codes) where
  abbrev graph : IsGraph g
  graph = passes.graph

  abbrev held : HoldsUpTo g (length g.signals) numbers steps
  held = passes.held

  abbrev owners : List ℕ
  owners = p.owners.items

  abbrev signals : List ℕ
  signals = p.signals.items

  abbrev infos_of_cells : List CellsInfo
  infos_of_cells = cells.infos.items

  abbrev written : List ℕ
  written = passes.are_cells.signals

  abbrev names : Names
  names = names_of g p (length steps) held.signals written

  -- how many lanes, tables and cells the codes may name
  abbrev counts : Counts
  counts = record { lanes = length owners; tables = length g.tables; cells = length infos_of_cells }

  owned : length owners ≡ length signals
  owned = passes.placed.lanes.owned

  -- ---- the code of each loop

  fits : (j : ℕ) → j < p.loops → CodeFits g names (lower_loaded owners infos_of_cells j) nothing [] (code_in codes j)
  fits j l = are_codes.fit j l names (lower_loaded owners infos_of_cells j) (suits g p stands bases kinds cells numbers steps passes j l)

  code_none : (j : ℕ) → p.loops ≤ j → code_in codes j ≡ []
  code_none j l = ap steps_of (slice_get_past codes j (omega (arith, are_codes.long)))

  -- what holds of each code that fits, and of no code, holds of the code of each number
  each_code : (P : List Step → Type 0) → P [] → ((j : ℕ) → j < p.loops → P (code_in codes j)) → (j : ℕ) → P (code_in codes j)
  each_code P none some j = elim (cases_lt j p.loops) [ inl l ↦ some j l | inr l ↦ subst P (sym (code_none j l)) none ]

  lanes_there : (j l : ℕ) → (lower_loaded owners infos_of_cells j).loaded l ≡ true → l < length owners
  lanes_there j l e = (may_load owners infos_of_cells j l e).within

  valid_code : (j : ℕ) → j < p.loops → AreValid counts (code_in codes j)
  valid_code j l i d m =
      let z : 0 + i ≡ i = omega arith in
      subst (λ k. IsValid k counts (get_or (code_in codes j) i d)) z
      (code_valid g names (lower_loaded owners infos_of_cells j) counts (λ k e. (in_loop owners j k e).within) (lanes_there j) (listed g.tables)
      (λ k e. (cells_in_loop infos_of_cells j k e).within) nothing [] (code_in codes j) (fits j l) i d m)

  pub all_valid : (j : ℕ) → AreValid counts (code_in codes j)
  all_valid = each_code (AreValid counts) (λ i d m. absurd (omega arith)) valid_code

  pub all_named : (j : ℕ) → All (LoadsAmong (length owners)) (code_in codes j)
  all_named j k d m = loads_among counts (get_or (code_in codes j) k d) (all_valid j k d m).0

  pub all_owned : All (λ j. j < length codes) owners
  all_owned = All-from_get_or (λ j. j < length codes) owners 0 (λ l m. let b =
      passes.placed.loops.below l (omega (arith, m, owned)) in omega (arith, b, are_codes.long))

  -- ---- the plan

  module _ (infos : List LaneInfo) (tables : List (List ℤ)) (all : List (List Step)) (reads : List Reads) (outputs : List ℕ) (copied : tables ≡ g.tables)
      (are_infos : AreInfos signals owners (table (length g.signals) (history_of g)) (length signals) infos) (coded : AreCoded codes (length codes) all)
      (is_told : reads ≡ (reads_of_loops owners codes (length codes)).reads) (are_outputs : outputs ≡ map (lane_of (stands_of g) p.lanes.items) g.outputs) where
    abbrev plan : PlanView
    plan = plan_with p.loops infos tables infos_of_cells all reads outputs steps

    -- ---- lanes

    info : (l : ℕ) →
        l < length signals → lane_info plan l ≡ record { owner = at owners l; history = at (table (length g.signals) (history_of g)) (at signals l) }
    info l m = are_infos.each l (record { owner = 0; history = 0 }) m

    owner_is : (l : ℕ) → l < length signals → (lane_info plan l).owner ≡ at owners l
    owner_is l m = ap (λ i. i.owner) (info l m)

    signal_within : (l : ℕ) → l < length signals → at signals l < length g.signals
    signal_within l m = (passes.placed.lanes.named l m).0

    history_is : (l : ℕ) → l < length signals → (lane_info plan l).history ≡ history_of g (at signals l)
    history_is l m = ap (λ i. i.history) (info l m) ∙ get_or_table (length g.signals) (history_of g) (at signals l) 0 (signal_within l m)

    lane_within : (l : ℕ) → l < length infos → l < length signals
    lane_within l m = omega (arith, are_infos.long)

    same_owner : (j : ℕ) (q : Place) → (roles_of plan j).own q ≡ own_places owners infos_of_cells j q
    same_owner j (OfCells k) = refl
    same_owner j (OfLane l) = elim (cases_lt l (length signals)) [
      | inl m ↦ ap₂ (λ a b. a && b) (ap (nat_lt l) long) (ap (λ x. nat_eq x j) (owner_is l m))
      | inr m ↦
          ap (λ b. b && nat_eq (lane_info plan l).owner j) (le-ltb l (length infos) (omega (arith, are_infos.long)))
          ∙ sym (ap (λ b. b && nat_eq (at owners l) j) (le-ltb l (length owners) (omega (arith, owned))))
    ]
      where
        long : length infos ≡ length owners
        long = are_infos.long ∙ sym owned

    -- the lane of what a signal stands for, where that is separated
    lane_stands : (x : ℕ) → x < length g.signals → IsSeparated g (stand g x) → (lane_of (stands_of g) p.lanes.items x < length signals)
        × (at signals (lane_of (stands_of g) p.lanes.items x) ≡ stand g x)
    lane_stands x l h =
        let k = separated_lane g p stands bases kinds cells numbers steps passes (stand g x) h in
        let is : lane_of (stands_of g) p.lanes.items x ≡ k.lane = ap (λ a. unwrap_or a 0) k.has in
        (let w = k.within in omega (arith, is, w, owned), ap (at signals) is ∙ k.names_it)

    lanes_stand : LanesStand g plan names
    lanes_stand = record {
      separated = λ l m. let k = passes.placed.lanes.named l (lane_within l m) in (passes.placed.lanes.has (at signals l) l k.1).0;
      within = λ l m. signal_within l (lane_within l m);
      apart = λ l k ml mk e.
          let a = (passes.placed.lanes.named l (lane_within l ml)).1 in
          let b = (passes.placed.lanes.named k (lane_within k mk)).1 in
          some_is (sym a ∙ ap (lane_at p.lanes.items) e ∙ b);
      all = λ s h.
          let k = passes.placed.lanes.all s h in
          let w = passes.placed.lanes.has s k.0 k.1 in
          (k.0, (let y = w.1 in omega (arith, y, are_infos.long)), w.2);
      histories = λ l m. history_is l (lane_within l m);
    }
      where
        some_is : {a b : ℕ} → Some a ≡ Some b → a ≡ b
        some_is {a} {b} e = cc

    loops_stand : LoopsStand g plan names
    loops_stand = record {
      together = λ l m kl km.
          let ol = owner_is l (lane_within l kl) in
          let om = owner_is m (lane_within m km) in
          let t = passes.placed.loops.together l m (lane_within l kl) (lane_within m km) in
          (λ e. t.0 (sym ol ∙ e ∙ om), λ w. ol ∙ t.1 w ∙ sym om);
      owners = λ l m. let b = passes.placed.loops.below l (lane_within l m) in omega (arith, b, owner_is l (lane_within l m));
      some = λ j m.
          let k = passes.placed.loops.some j m in
          (k.0, (let y = k.1 in omega (arith, y, are_infos.long)), owner_is k.0 k.1 ∙ k.2);
      order = λ l m kl km w.
          let b = passes.placed.loops.order l m (lane_within l kl) (lane_within m km) w in
          omega (arith, b, owner_is l (lane_within l kl), owner_is m (lane_within m km));
    }

    -- ---- cells

    written_within : (k : ℕ) → k < length infos_of_cells → k < length written
    written_within k m = omega (arith, passes.are_cells.counted)

    cells_are : (k : ℕ) → k < length infos_of_cells → AreOf g p.homes.items (at written k) (cells_info plan k)
    cells_are k m = passes.are_cells.are k (written_within k m)

    cells_stand : CellsStand g plan names
    cells_stand = record {
      tables = copied;
      are = λ k m.
          let a = (cells_are k m).writes in
          (a.0, a.1, a.2, record { within = (passes.are_cells.named k (written_within k m)).0; is = a.3 });
      there = λ k m.
          let a = (cells_are k m).writes in
          subst (λ ts. 0 < length (list_at ts (cells_info plan k).table)) (sym copied)
          (subst (NamesWithin g) a.3 (graph.closed (at written k) (signal.Const (pos 0)) (passes.are_cells.named k (written_within k m)).0));
      apart = λ k l mk ml e.
          some_is (sym (passes.are_cells.named k (written_within k mk)).1 ∙ ap (cells_at cells.numbers.items) e
          ∙ (passes.are_cells.named l (written_within l ml)).1);
      all = λ s table w x r n.
          let a = passes.are_cells.all s n.within (subst IsWritten (sym n.is) tt) in
          let h = passes.are_cells.has s a.0 a.1 in
          (a.0, omega (arith, h.0, passes.are_cells.counted), h.1);
      owners = λ k l mk ml e.
          (cells_are k mk).owner ∙ ap (at p.homes.items) (sym e) ∙ passes.placed.homes.lanes l (lane_within l ml) ∙ sym (owner_is l (lane_within l ml));
    }
      where
        some_is : {a b : ℕ} → Some a ≡ Some b → a ≡ b
        some_is {a} {b} e = cc

    -- ---- codes

    code_is : (j : ℕ) → code_of plan j ≡ code_in codes j
    code_is j = elim (cases_lt j (length codes)) [
      | inl l ↦ coded.each j l
      | inr l ↦ past all j (omega (arith, coded.long)) ∙ sym (code_none j (omega (arith, are_codes.long)))
    ]
      where
        past : (xs : List (List Step)) (k : ℕ) → length xs ≤ k → get_or xs k [] ≡ []
        past [] k l = refl
        past (x ∷ xs) zero l = absurd (omega arith)
        past (x ∷ xs) (suc k) l = past xs k (omega arith)

    fits_plan : (j : ℕ) → j < p.loops → CodeFits g names (roles_of plan j) nothing [] (code_of plan j)
    fits_plan j l =
        subst (CodeFits g names (roles_of plan j) nothing []) (sym (code_is j))
        (fits_loaded g names (lower_loaded owners infos_of_cells j) (roles_of plan j) (same_owner j) nothing [] (code_in codes j)
        (λ k e. ap (loads_lane k) (code_is j) ∙ e) (fits j l))

    -- a loaded lane is there, and of no greater loop
    loaded_low : (j l : ℕ) → loads_lane l (code_in codes j) ≡ true → (j < p.loops) × MayLoad owners j l
    loaded_low j l e = elim (cases_lt j p.loops) [
      | inl m ↦ (m, may_load owners infos_of_cells j l (loads_may g names (lower_loaded owners infos_of_cells j) nothing [] (code_in codes j) (fits j m) l e))
      | inr m ↦ absurd (let z : false ≡ true = sym (ap (loads_lane l) (code_none j m)) ∙ e in cc)
    ]

    plan_stands : PlanStands g plan
    plan_stands = record {
      names = names;
      graph = graph;
      lanes = lanes_stand;
      loops = loops_stand;
      cells = cells_stand;
      codes = coded.long ∙ are_codes.long;
      histories = λ l m. sym (history_is l (lane_within l m));
      obeys = λ j l X c t. codes_obey g graph.ordered names (roles_of plan j) (code_of plan j) (fits_plan j l) X c t;
      held = λ X c t controls same.
          ap (λ ts. registers_after steps controls (λ n i. pos 0) 0 1 (tables_alone ts)) copied ∙ held.values X c t controls same
          ∙ map_items (λ q. value g q X c t) held.signals ∙ ap (λ n. table n (λ k. value g (at held.signals k) X c t)) held.long;
      counted = refl;
      steady = held.steady;
      all_held = λ s l slow. let n = held.numbered s l slow in (at numbers s, n.0, n.1);
      outputs = (
        ap length are_outputs ∙ length-map g.outputs (lane_of (stands_of g) p.lanes.items),
        λ j l. ap (at signals) (output_is j l) ∙ (lane_stands (at g.outputs j) (graph.outputs j l) (AsOutput j l refl)).1,
      );
      ends = λ j l. (
        graph.outputs j l,
        let k = (lane_stands (at g.outputs j) (graph.outputs j l) (AsOutput j l refl)).0 in omega (arith, k, output_is j l, are_infos.long),
      );
    }
      where
        output_is : (j : ℕ) → j < length g.outputs → at outputs j ≡ lane_of (stands_of g) p.lanes.items (at g.outputs j)
        output_is j l =
            ap (λ xs. at xs j) are_outputs
            ∙ get_or_default (map (lane_of (stands_of g) p.lanes.items) g.outputs) j 0 (lane_of (stands_of g) p.lanes.items 0)
            (omega (arith, l, length-map g.outputs (lane_of (stands_of g) p.lanes.items)))
            ∙ map_get (lane_of (stands_of g) p.lanes.items) g.outputs j 0

    -- ---- reads

    told : IsTold (LoopReads owners codes (length codes)) (length codes) (length codes) (reads_of_loops owners codes (length codes))
    told = all_told owners codes all_owned all_named (length codes)

    reads_valid : (j i : ℕ) → reads_loop reads j i ≡ true → LoopReads owners codes (length codes) j i
    reads_valid j i e = told.valid j i (sym (ap (λ rs. reads_loop rs j i) is_told) ∙ e)

    reads_once : (j i : ℕ) → total (λ r. bit ((r.reader == j) && (r.source == i))) reads ≤ 1
    reads_once j i = subst (λ rs. total (λ r. bit ((r.reader == j) && (r.source == i))) rs ≤ 1) (sym is_told) (told.once j i)

    reads_low : (j i : ℕ) → reads_loop reads j i ≡ true → (i < j) × (j < p.loops)
    reads_low j i e =
        let k = reads_valid j i e in
        let m = loaded_low j k.loads.lane k.loads.loads in
        let w = m.1.lower in
        (lower_than k.other (omega (arith, w, k.loads.owner)), m.0)
      where
        lower_than : {a b : ℕ} → a ≢ b → a ≤ b → a < b
        lower_than {a} {b} d l = elim (cases_lt a b) [ inl m ↦ m | inr m ↦ absurd (d (omega arith)) ]

    plan_reads : PlanReads plan
    plan_reads = record {
      exact = λ j i. (to j i, of j i);
      once = reads_once;
      lower = reads_low;
      few = few_pairs p.loops reads (λ j i e. let k = reads_low j i e in (k.1, let a = k.0 in let b = k.1 in omega arith)) reads_once;
      loaded = λ j l e.
          let m = loaded_low j l (sym (ap (loads_lane l) (code_is j)) ∙ e) in
          let w = m.1.within in
          omega (arith, w, are_infos.long, owned);
    }
      where
        to : (j i : ℕ) →
            reads_loop reads j i ≡ true → (i ≢ j) × (l : ℕ) × (l < length infos) × ((roles_of plan j).loaded l ≡ true) × ((lane_info plan l).owner ≡ i)
        to j i e =
            let k = reads_valid j i e in
            let w = (loaded_low j k.loads.lane k.loads.loads).1.within in
            let m : k.loads.lane < length signals = omega (arith, w, owned) in (
              k.other,
              k.loads.lane,
              omega (arith, m, are_infos.long),
              ap (loads_lane k.loads.lane) (code_is j) ∙ k.loads.loads,
              owner_is k.loads.lane m
                  ∙ k.loads.owner,
            )

        of : (j i : ℕ) →
            (i ≢ j) × (l : ℕ) × (l < length infos) × ((roles_of plan j).loaded l ≡ true) × ((lane_info plan l).owner ≡ i) → reads_loop reads j i ≡ true
        of j i h =
            let e = sym (ap (loads_lane h.1) (code_is j)) ∙ h.3 in
            let m = (loaded_low j h.1 e).0 in
            ap (λ rs. reads_loop rs j i) is_told ∙ told.all j i (record {
              below = omega (arith, m, are_codes.long);
              other = h.0;
              loads = record { lane = h.1; loads = e; owner = sym (owner_is h.1 (lane_within h.1 h.2)) ∙ h.4 };
            })

    -- ---- names

    -- what holds of each loop's code, and of no code
    each_plan_code : (P : List Step → Type 0) → P [] → ((j : ℕ) → j < p.loops → P (code_of plan j)) → (j : ℕ) → P (code_of plan j)
    each_plan_code P none some j = elim (cases_lt j p.loops) [ inl l ↦ some j l | inr l ↦ subst P (sym (code_is j ∙ code_none j l)) none ]

    plan_names : PlanNames g plan
    plan_names = record {
      held = λ j k. each_plan_code (λ ss. NamesHeld ss k → k < length steps) (λ n. absurd (omega (arith, n.1)))
          (λ j l n. held_counted g names (roles_of plan j) nothing []
          (code_of plan j) (fits_plan j l) k n) j;
      inputs = λ j i. each_plan_code (λ ss. NamesInput ss i → NamesChannel g i) (λ n. absurd (omega (arith, n.1)))
          (λ j l n. inputs_named g names (roles_of plan j) nothing []
          (code_of plan j) (fits_plan j l) i n) j;
      controls = held.controls;
      loads = each_plan_code (All (LoadsWithin plan)) (All-nil (LoadsWithin plan)) (λ j l.
          loads_within g names (roles_of plan j) plan (λ k e.
          let w = plan_reads.loaded j k e in (w, sym (history_is k (lane_within k w)))) copied (λ k e. (cells_in_loop infos_of_cells j k e).within)
          nothing [] (code_of plan j) (fits_plan j l));
      held_code = held.held_code;
      held_reads = λ k d m. held_within g plan copied (get_or steps k d) (held.held_code.still k d m) (held.reads k d m);
    }

    pub is_plan : IsPlanOf g plan
    is_plan = record { stands = plan_stands; reads = plan_reads; names = plan_names }

-- a plan with equal code for the held values
pub with_held : {g : Graph} {loops : ℕ} {infos : List LaneInfo} {tables : List (List ℤ)} {cells : List CellsInfo} {all : List (List Step)} {told : List Reads}
    {outputs : List ℕ} {steps held : List Step} →
    held ≡ steps → IsPlanOf g (plan_with loops infos tables cells all told outputs steps) →
    IsPlanOf g (plan_with loops infos tables cells all told outputs held)
with_held {g} {loops} {infos} {tables} {cells} {all} {told} {outputs} e p =
    subst (λ ss. IsPlanOf g (plan_with loops infos tables cells all told outputs ss)) (sym e) p
