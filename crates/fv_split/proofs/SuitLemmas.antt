-- The survey that the passes make suits the graph.
use Rattle.std.proofs.Common.{◌≡◌, ◌≢◌, inl, inr, ℕ, ◌<◌, ◌≤◌, List, length, refl, sym, ap, ◌∙◌, subst, arith, ℤ, pos}
use Rattle.std.proofs.Common.{Bool, true}
use Rattle.std.specs.Prelude.{Vec, Option, None, Some, unwrap_or, nat_lt, nat_le, nat_eq, ◌&&◌}
use Rattle.std.specs.declared.alloc.Global.{Global}
use Rattle.std.proofs.lemmas.Bool.{and_parts, lt-ltb, ltb-true, le-leb, leb-true, eq-eqb, eqb-true}
use Rattle.std.proofs.lemmas.List.Elements.{All-from_get_or}
use Rattle.fv_signal.specs.declared.signal.Signal.{Signal}
use Rattle.fv_signal.specs.declared.signal.Signal.TheVariants as signal
use Rattle.fv_signal.specs.declared.rate.Rate.{Rate}
use Rattle.fv_signal.specs.declared.rate.Rate.TheVariants as rate
use Rattle.fv_signal.specs.headline.Value.{Graph, definition, value, signal_at, IsGraph, IsOrdered, OperandsBelow, NamesWithin}
use Rattle.fv_signal.specs.headline.Rates.{rate_in, rate_of}
use Rattle.fv_signal.proofs.lemmas.Rates.{rate_is}
use Rattle.fv_signal.proofs.lemmas.Values.{values_are_given}
use Rattle.fv_components.specs.headline.Reach.{at, Reaches}
use Rattle.fv_components.proofs.lemmas.Walks.{reaches_self, reaches_trans}
use Rattle.fv_loopcode.specs.declared.step.Step.{Step}
use Rattle.fv_loopcode.specs.headline.Obeys.{Roles, Place, OfLane, OfCells}
use Rattle.fv_analysis.specs.headline.Stands.{node, stand, stands_of, StandsAt}
use Rattle.fv_analysis.specs.headline.History.{history_of, history_from, greatest_delay, is_fed_back}
use Rattle.fv_analysis.proofs.lemmas.StandLemmas.{IsNoMember, stands_well, stands_long as all_stand}
use Rattle.fv_analysis.proofs.lemmas.HistoryLemmas.{histories_cover}
use Rattle.fv_split_plan.specs.headline.Separated.{operands, links_of, IsComputed, IsSeparated, AsOutput, AsDelayed, AsDefinition, AsShared, AsWritten}
use Rattle.fv_split_plan.specs.headline.Separated.{ReadsSignal}
use Rattle.fv_split_plan.specs.declared.lane.CellsInfo.{CellsInfo}
use Rattle.fv_split_plan.specs.Separated.{IsWritten, lane_at}
use Rattle.fv_split_plan.specs.headline.Fits.{Names}
use Rattle.fv_split_plan.specs.Fits.{IsAlways}
use Rattle.fv_split_lanes.specs.declared.lanes.Lanes.{Lanes}
use Rattle.fv_split_lanes.specs.Placed.{ArePlaced, IsInner}
use Rattle.fv_split_lanes.proofs.lemmas.RowLemmas.{operand_below, reads_reach, back_reaches, read_lower}
use Rattle.fv_split_code.specs.declared.kind.Kind.{Kind}
use Rattle.fv_split_code.specs.declared.kind.Kind.TheVariants as kind
use Rattle.fv_split_code.specs.declared.survey.Survey.{Survey}
use Rattle.fv_split_code.specs.Emits.{KindFits, IsLoaded, IsKindWithin, kind_of, owned_by}
use Rattle.fv_split_code.specs.Emitted.{IsSurvey, IsBase, IsOperand, DelayLane, SuitCells, Suits}
use Rattle.fv_split_code.specs.Held.{HoldsUpTo}
use Rattle.fv_split.specs.declared.cells.Cells.{Cells}
use Rattle.fv_split.specs.inner.Surveyed.{Passes}
use Rattle.fv_split.specs.inner.Cells.{info_at}
use Rattle.fv_split.specs.inner.Bases.{sample_base, constant_base, base_of, kind_with}

-- a loop's own places
abbrev pub own_places : (owners : List ℕ) → (infos : List CellsInfo) → (j : ℕ) → Place → Bool
own_places owners infos j (OfLane l) = owned_by owners j l
own_places owners infos j (OfCells k) = nat_lt k (length infos) && nat_eq (info_at infos k).owner j

-- the lanes of loops up to a loop may be loaded
abbrev pub lower_loaded : (owners : List ℕ) → (infos : List CellsInfo) → (j : ℕ) → Roles
lower_loaded owners infos j = record {
  own = own_places owners infos j;
  loaded = λ l. nat_lt l (length owners) && nat_le (at owners l) j;
}

pub lower_is : (owners : List ℕ) (infos : List CellsInfo) (j l : ℕ) → l < length owners → at owners l ≤ j → (lower_loaded owners infos j).loaded l ≡ true
lower_is owners infos j l h k = ap (λ b. b && nat_le (at owners l) j) (lt-ltb l (length owners) h) ∙ le-leb (at owners l) j k

-- what it says that a lane or cells are owned, and that a lane may be loaded
pub record InLoop (owners : List ℕ) (j l : ℕ) : Type 0 where
  pub within : l < length owners
  pub is : at owners l ≡ j

pub in_loop : (owners : List ℕ) (j l : ℕ) → owned_by owners j l ≡ true → InLoop owners j l
in_loop owners j l e =
    let both = and_parts (nat_lt l (length owners)) (nat_eq (at owners l) j) e in
    record { within = ltb-true l (length owners) both.0; is = eqb-true (at owners l) j both.1 }

pub record CellsInLoop (infos : List CellsInfo) (j k : ℕ) : Type 0 where
  pub within : k < length infos
  pub is : (info_at infos k).owner ≡ j

pub cells_in_loop : (infos : List CellsInfo) (j k : ℕ) → nat_lt k (length infos) && nat_eq (info_at infos k).owner j ≡ true → CellsInLoop infos j k
cells_in_loop infos j k e =
    let both = and_parts (nat_lt k (length infos)) (nat_eq (info_at infos k).owner j) e in
    record { within = ltb-true k (length infos) both.0; is = eqb-true (info_at infos k).owner j both.1 }

pub record MayLoad (owners : List ℕ) (j l : ℕ) : Type 0 where
  pub within : l < length owners
  pub lower : at owners l ≤ j

pub may_load : (owners : List ℕ) (infos : List CellsInfo) (j l : ℕ) → (lower_loaded owners infos j).loaded l ≡ true → MayLoad owners j l
may_load owners infos j l e =
    let both = and_parts (nat_lt l (length owners)) (nat_le (at owners l) j) e in
    record { within = ltb-true l (length owners) both.0; lower = leb-true (at owners l) j both.1 }

-- the survey
abbrev pub survey_of : Lanes → (stands : Vec ℕ Global) → (bases kinds : Vec Kind Global) → Cells → Survey
survey_of p stands bases kinds cells = record {
  stands = stands;
  bases = bases;
  kinds = kinds;
  lanes = p.lanes;
  cells = cells.numbers;
  homes = p.homes;
  owners = p.owners;
}

-- the names of the plan
abbrev pub names_of : Graph → Lanes → (count : ℕ) → (signals cells : List ℕ) → Names
names_of g p count signals cells = record {
  lane = λ l. at p.signals.items l;
  history = λ l. history_of g (at p.signals.items l);
  count = count;
  held = λ k. at signals k;
  cells = λ k. at cells k;
}

module _ (g : Graph) (p : Lanes) (stands : Vec ℕ Global) (bases kinds : Vec Kind Global) (cells : Cells) (numbers : List ℕ) (steps : List Step)
    (passes : Passes g p stands bases kinds cells numbers steps) where
  abbrev graph : IsGraph g
  graph = passes.graph

  abbrev placed : ArePlaced g p
  placed = passes.placed

  abbrev held : HoldsUpTo g (length g.signals) numbers steps
  held = passes.held

  abbrev count : ℕ
  count = length g.signals

  abbrev lanes : List (Option ℕ)
  lanes = p.lanes.items

  abbrev owners : List ℕ
  owners = p.owners.items

  abbrev homes : List ℕ
  homes = p.homes.items

  abbrev infos : List CellsInfo
  infos = cells.infos.items

  abbrev base : ℕ → Kind
  base s = kind_of bases.items s

  abbrev kind_at : ℕ → Kind
  kind_at s = kind_of kinds.items s

  abbrev survey : Survey
  survey = survey_of p stands bases kinds cells

  abbrev names : Names
  names = names_of g p (length steps) held.signals passes.are_cells.signals

  ordered : IsOrdered g
  ordered = graph.ordered

  stand_at : (s : ℕ) → at stands.items s ≡ stand g s
  stand_at s = ap (λ xs. at xs s) passes.is_stands

  stand_within : (x : ℕ) → x < count → stand g x < count
  stand_within x l = let h = (stands_well g ordered count x (omega arith) l).below in omega arith

  history_stand : (x : ℕ) → x < count → history_of g (stand g x) ≡ history_of g x
  history_stand x l = ap (λ k. history_from (greatest_delay g k g.signals) (is_fed_back g k g.signals)) (stands_well g ordered count x (omega arith) l).again

  -- ---- lanes

  -- the lane of a separated signal
  pub record HasLane (s : ℕ) : Type 0 where
    pub lane : ℕ
    pub has : lane_at lanes s ≡ Some lane
    pub within : lane < length owners
    pub names_it : at p.signals.items lane ≡ s

  pub with_lane : (s l : ℕ) → lane_at lanes s ≡ Some l → HasLane s
  with_lane s l e =
      let k = placed.lanes.has s l e in
      record { lane = l; has = e; within = (let w = k.1 in omega (arith, w, placed.lanes.owned)); names_it = k.2 }

  pub separated_lane : (s : ℕ) → IsSeparated g s → HasLane s
  separated_lane s h = let k = placed.lanes.all s h in with_lane s k.0 k.1

  -- a lane of what a signal at home reaches may be loaded there
  reached_loaded : (s q l j : ℕ) → s < count → j < p.loops → at homes s ≡ j → Reaches (links_of g) s q → lane_at lanes q ≡ Some l →
      (lower_loaded owners infos j).loaded l ≡ true
  unfolding with_lane
  reached_loaded s q l j ls lj home w e =
      let k = placed.homes.lower s q l ls (omega (arith, lj, home)) w e in
      lower_is owners infos j l (with_lane q l e).within (omega (arith, k, home))

  -- a separated signal is no member
  separated_plain : (s : ℕ) → IsSeparated g s → IsNoMember (node g s)
  separated_plain s (AsOutput k l e) =
      let o = graph.outputs k l in
      subst (λ x. IsNoMember (node g x)) e (stands_well g ordered count (at g.outputs k) (omega arith) o).no_member
  separated_plain s (AsDelayed r x d max n one e) =
      let b = subst (OperandsBelow g r) n.is (ordered r (signal.Const (pos 0)) n.within) in
      let w = n.within in
      subst (λ y. IsNoMember (node g y)) e (stands_well g ordered count x (omega arith) (omega (arith, b.0))).no_member
  separated_plain s (AsDefinition group i l m e) =
      let o = graph.defined group i l m in
      subst (λ y. IsNoMember (node g y)) e (stands_well g ordered count (definition g group i) (omega arith) o).no_member
  separated_plain s (AsShared q r c sampled n a b) = plain (node g s) c
    where
      plain : (n : Signal) → IsComputed n → IsNoMember n
      plain (signal.Input i) c = tt
      plain (signal.Const i) c = tt
      plain (signal.Control i) c = tt
      plain (signal.Point op args) c = tt
      plain (signal.Delay x d max) c = tt
      plain (signal.Back group i) c = tt
      plain (signal.Member group i) c = c
      plain (signal.Read table r) c = tt
      plain (signal.Write table w x r) c = tt
  separated_plain s (AsWritten table w x r n) = subst IsNoMember (sym n.is) tt

  -- ---- bases

  -- the lane of a group's member
  abbrev member_lane : (group i : ℕ) → ℕ
  member_lane group i = unwrap_or (lane_at lanes (stand g (definition g group i))) 0

  data Based (s : ℕ) : Type 0 where
    AsNumber : (n : ℤ) → node g s ≡ signal.Const n → base s ≡ kind.Number n → Based s
    AsHeld : rate_of g s ≢ rate.Sample → base s ≡ kind.Held (at numbers s) → Based s
    AsInput : (i : ℕ) → node g s ≡ signal.Input i → base s ≡ kind.Input i → Based s
    AsBack : (group i : ℕ) → node g s ≡ signal.Back group i → base s ≡ kind.Back (member_lane group i) → Based s
    AsInner : rate_of g s ≡ rate.Sample → (IsNoMember (node g s) → IsComputed (node g s)) → base s ≡ kind.Inner → Based s

  based : (s : ℕ) → s < count → Based s
  based s l = at_rate (rate_of g s) refl
    where
      base_is : base s ≡ base_of g (stands_of g) lanes (node g s) (rate_of g s) (at numbers s)
      base_is = passes.are_bases.each s l

      rated : (r : Rate) → rate_of g s ≡ r → base s ≡ base_of g (stands_of g) lanes (node g s) r (at numbers s)
      rated r e = base_is ∙ ap (λ r. base_of g (stands_of g) lanes (node g s) r (at numbers s)) e

      plain : (n : Signal) → node g s ≡ n → rate_of g s ≡ rate.Sample → base s ≡ sample_base g (stands_of g) lanes n
      plain n e r = rated rate.Sample r ∙ ap (sample_base g (stands_of g) lanes) e

      slow : (n : Signal) → node g s ≡ n → rate_of g s ≡ rate_in (rate_of g) n
      slow n e = rate_is g ordered s (signal.Const (pos 0)) l ∙ ap (rate_in (rate_of g)) e

      inner : (n : Signal) →
          node g s ≡ n → rate_of g s ≡ rate.Sample → (IsNoMember n → IsComputed n) → sample_base g (stands_of g) lanes n ≡ kind.Inner → Based s
      inner n e r c b = AsInner r (λ k. subst IsComputed (sym e) (c (subst IsNoMember e k))) (plain n e r ∙ b)

      at_node : (n : Signal) → node g s ≡ n → rate_of g s ≡ rate.Sample → Based s
      at_node (signal.Input i) e r = AsInput i e (plain (signal.Input i) e r)
      at_node (signal.Const i) e r = absurd (let z = sym r ∙ slow (signal.Const i) e in cc)
      at_node (signal.Control i) e r = absurd (let z = sym r ∙ slow (signal.Control i) e in cc)
      at_node (signal.Point op args) e r = inner (signal.Point op args) e r (λ k. tt) refl
      at_node (signal.Delay x d max) e r = inner (signal.Delay x d max) e r (λ k. tt) refl
      at_node (signal.Back group i) e r = AsBack group i e (plain (signal.Back group i) e r)
      at_node (signal.Member group i) e r = inner (signal.Member group i) e r (λ k. absurd k) refl
      at_node (signal.Read table i) e r = inner (signal.Read table i) e r (λ k. tt) refl
      at_node (signal.Write table w x i) e r = inner (signal.Write table w x i) e r (λ k. tt) refl

      unread : (n : Signal) → node g s ≡ n → rate_of g s ≡ rate.Constant → constant_base n (at numbers s) ≡ kind.Held (at numbers s) → Based s
      unread n e r h = AsHeld (λ z. let y = sym r ∙ z in cc) (rated rate.Constant r ∙ ap (λ n. constant_base n (at numbers s)) e ∙ h)

      constant : (n : Signal) → node g s ≡ n → rate_of g s ≡ rate.Constant → Based s
      constant (signal.Input i) e r = unread (signal.Input i) e r refl
      constant (signal.Const n) e r = AsNumber n e (rated rate.Constant r ∙ ap (λ n. constant_base n (at numbers s)) e)
      constant (signal.Control i) e r = unread (signal.Control i) e r refl
      constant (signal.Point op args) e r = unread (signal.Point op args) e r refl
      constant (signal.Delay x d max) e r = unread (signal.Delay x d max) e r refl
      constant (signal.Back group i) e r = unread (signal.Back group i) e r refl
      constant (signal.Member group i) e r = unread (signal.Member group i) e r refl
      constant (signal.Read table i) e r = unread (signal.Read table i) e r refl
      constant (signal.Write table w x i) e r = unread (signal.Write table w x i) e r refl

      at_rate : (r : Rate) → rate_of g s ≡ r → Based s
      at_rate rate.Constant e = constant (node g s) refl e
      at_rate rate.Control e = AsHeld (λ z. let y = sym e ∙ z in cc) (rated rate.Control e)
      at_rate rate.Sample e = at_node (node g s) refl e

  -- a table that is written is computed in a loop
  written_rate : (s : ℕ) → s < count → (n : Signal) → node g s ≡ n → IsWritten n → rate_of g s ≡ rate.Sample
  written_rate s l (signal.Input i) e w = absurd w
  written_rate s l (signal.Const i) e w = absurd w
  written_rate s l (signal.Control i) e w = absurd w
  written_rate s l (signal.Point op args) e w = absurd w
  written_rate s l (signal.Delay x d max) e w = absurd w
  written_rate s l (signal.Back group i) e w = absurd w
  written_rate s l (signal.Member group i) e w = absurd w
  written_rate s l (signal.Read table i) e w = absurd w
  written_rate s l (signal.Write table a x i) e w = rate_is g ordered s (signal.Const (pos 0)) l ∙ ap (rate_in (rate_of g)) e

  written_base : (s : ℕ) → s < count → IsWritten (node g s) → base s ≡ kind.Inner
  written_base s l w = elim (based s l) [
    | AsNumber n is e ↦ absurd (subst IsWritten is w)
    | AsHeld slow e ↦ absurd (slow (written_rate s l (node g s) refl w))
    | AsInput i n e ↦ absurd (subst IsWritten n w)
    | AsBack group i n e ↦ absurd (subst IsWritten n w)
    | AsInner r c e ↦ e
  ]

  -- what a Back names has a lane with enough history
  back_lane : (s group i : ℕ) → s < count → node g s ≡ signal.Back group i → HasLane (stand g (definition g group i))
  back_lane s group i l e =
      let w = subst (NamesWithin g) e (graph.closed s (signal.Const (pos 0)) l) in
      separated_lane (stand g (definition g group i)) (AsDefinition group i w.0 w.1 refl)

  back_fits : (s group i : ℕ) → s < count → node g s ≡ signal.Back group i → KindFits g names (kind.Back (member_lane group i)) s
  back_fits s group i l e =
      let w = subst (NamesWithin g) e (graph.closed s (signal.Const (pos 0)) l) in
      let k = back_lane s group i l e in
      let is : member_lane group i ≡ k.lane = ap (λ a. unwrap_or a 0) k.has in
      let names_it : at p.signals.items (member_lane group i) ≡ stand g (definition g group i) = ap (at p.signals.items) is ∙ k.names_it in
      let far = (histories_cover g).backs s group i (record { within = l; is = e }) in
      (group, i, record { within = l; is = e }, w.2, sym names_it, omega (arith, far, ap (history_of g) names_it, history_stand (definition g group i) w.2))

  -- a literal has its number at all times
  is_always : (s : ℕ) (n : ℤ) → s < count → node g s ≡ signal.Const n → IsAlways g s n
  is_always s n l is X c t =
      values_are_given g ordered X c s (signal.Const (pos 0)) t l ∙ ap (λ y. signal_at g X c (λ q. value g q X c) y t) is

  base_fits : (s : ℕ) → s < count → KindFits g names (base s) s × IsBase (base s)
  base_fits s l = elim (based s l) [
    | AsNumber n is e ↦ subst (λ k. KindFits g names k s × IsBase k) (sym e) (is_always s n l is, tt)
    | AsHeld slow e ↦ subst (λ k. KindFits g names k s × IsBase k) (sym e) (let h = held.numbered s l slow in (h, tt))
    | AsInput i n e ↦ subst (λ k. KindFits g names k s × IsBase k) (sym e) (record { within = l; is = n }, tt)
    | AsBack group i n e ↦ subst (λ k. KindFits g names k s × IsBase k) (sym e) (back_fits s group i l n, tt)
    | AsInner r c e ↦ subst (λ k. KindFits g names k s × IsBase k) (sym e) (tt, tt)
  ]

  -- ---- kinds

  data Kinded (s : ℕ) : Type 0 where
    NumberKind : (n : ℤ) → node g s ≡ signal.Const n → kind_at s ≡ kind.Number n → Kinded s
    HeldKind : rate_of g s ≢ rate.Sample → kind_at s ≡ kind.Held (at numbers s) → Kinded s
    LaneKind : (l : ℕ) → lane_at lanes s ≡ Some l → kind_at s ≡ kind.Lane l → Kinded s
    BareKind : lane_at lanes s ≡ None → kind_at s ≡ base s → Kinded s

  kinded : (s : ℕ) → s < count → Kinded s
  kinded s l = elim (based s l) [
    | AsNumber n is e ↦ NumberKind n is (with (kind.Number n) e)
    | AsHeld slow e ↦ HeldKind slow (with (kind.Held (at numbers s)) e)
    | AsInput i n e ↦ other (kind.Input i) e refl (λ m. refl) (lane_at lanes s) refl
    | AsBack group i n e ↦ other (kind.Back (member_lane group i)) e refl (λ m. refl) (lane_at lanes s) refl
    | AsInner r c e ↦ other kind.Inner e refl (λ m. refl) (lane_at lanes s) refl
  ]
    where
      with : (k : Kind) → base s ≡ k → kind_at s ≡ kind_with k (lane_at lanes s)
      with k e = passes.are_kinds.each s l ∙ ap (λ b. kind_with b (lane_at lanes s)) e

      other : (k : Kind) → base s ≡ k → kind_with k None ≡ k → ((m : ℕ) → kind_with k (Some m) ≡ kind.Lane m) → (o : Option ℕ) → lane_at lanes s ≡ o → Kinded s
      other k e bare laned None z = BareKind z (with k e ∙ ap (kind_with k) z ∙ bare ∙ sym e)
      other k e bare laned (Some m) z = LaneKind m z (with k e ∙ ap (kind_with k) z ∙ laned m)

  kind_fits : (s : ℕ) → s < count → KindFits g names (kind_at s) s
  unfolding with_lane
  kind_fits s l = elim (kinded s l) [
    | NumberKind n is e ↦ subst (λ k. KindFits g names k s) (sym e) (is_always s n l is)
    | HeldKind slow e ↦ subst (λ k. KindFits g names k s) (sym e) (held.numbered s l slow)
    | LaneKind m has e ↦ subst (λ k. KindFits g names k s) (sym e) (with_lane s m has).names_it
    | BareKind none e ↦ subst (λ k. KindFits g names k s) (sym e) (base_fits s l).0
  ]

  -- ---- the survey

  kind_within : (k : Kind) → IsBase k → IsKindWithin (length owners) k
  kind_within (kind.Number n) b = tt
  kind_within (kind.Held n) b = tt
  kind_within (kind.Lane n) b = absurd b
  kind_within (kind.Input n) b = tt
  kind_within (kind.Back n) b = tt
  kind_within kind.Inner b = tt

  bases_long : length bases.items ≡ count
  bases_long = passes.are_bases.long

  kinds_long : length kinds.items ≡ count
  kinds_long = passes.are_kinds.long

  stands_long : length stands.items ≡ count
  stands_long = ap length passes.is_stands ∙ all_stand g

  lane_within : (s : ℕ) → s < count → IsKindWithin (length owners) (kind_at s)
  unfolding with_lane
  lane_within s l = elim (kinded s l) [
    | NumberKind n is e ↦ subst (IsKindWithin (length owners)) (sym e) tt
    | HeldKind slow e ↦ subst (IsKindWithin (length owners)) (sym e) tt
    | LaneKind m has e ↦ subst (IsKindWithin (length owners)) (sym e) (with_lane s m has).within
    | BareKind none e ↦ subst (IsKindWithin (length owners)) (sym e) (kind_within (base s) (base_fits s l).1)
  ]

  pub is_survey : IsSurvey count survey
  is_survey = record {
    stands = stands_long;
    bases = bases_long;
    kinds = kinds_long;
    lanes = placed.lanes.long;
    cells = passes.are_cells.long;
    homes = placed.homes.long;
    within = All-from_get_or (λ s. s < count) stands.items 0 (λ s m. let z = stand_within s (omega (arith, stands_long)) in omega (arith, z, stand_at s));
    base_lanes =
        All-from_get_or (IsKindWithin (length owners)) bases.items kind.Inner (λ s m. kind_within (base s) (base_fits s (omega (arith, bases_long))).1);
    kind_lanes = All-from_get_or (IsKindWithin (length owners)) kinds.items kind.Inner (λ s m. lane_within s (omega (arith, kinds_long)));
  }

  -- ---- one loop

  module _ (j : ℕ) (lj : j < p.loops) where
    abbrev roles : Roles
    roles = lower_loaded owners infos j

    base_loads : (s q : ℕ) → s < count → q < count → at homes s ≡ j → Reaches (links_of g) s q → IsLoaded roles (base q)
    base_loads s q ls lq home w = elim (based q lq) [
      | AsNumber n is e ↦ subst (IsLoaded roles) (sym e) tt
      | AsHeld slow e ↦ subst (IsLoaded roles) (sym e) tt
      | AsInput i n e ↦ subst (IsLoaded roles) (sym e) tt
      | AsBack group i n e ↦
          let k = back_lane q group i lq n in
          let is : member_lane group i ≡ k.lane = ap (λ a. unwrap_or a 0) k.has in
          subst (IsLoaded roles) (sym e) (subst (λ m. roles.loaded m ≡ true) (sym is)
          (reached_loaded s (stand g (definition g group i)) k.lane j ls lj home (reaches_trans w (back_reaches g graph q group i lq n)) k.has))
      | AsInner r c e ↦ subst (IsLoaded roles) (sym e) tt
    ]

    kind_loads : (s q : ℕ) → s < count → q < count → at homes s ≡ j → Reaches (links_of g) s q → IsLoaded roles (kind_at q)
    kind_loads s q ls lq home w = elim (kinded q lq) [
      | NumberKind n is e ↦ subst (IsLoaded roles) (sym e) tt
      | HeldKind slow e ↦ subst (IsLoaded roles) (sym e) tt
      | LaneKind m has e ↦ subst (IsLoaded roles) (sym e) (λ o. reached_loaded s q m j ls lj home w has)
      | BareKind none e ↦ subst (IsLoaded roles) (sym e) (base_loads s q ls lq home w)
    ]

    -- an operand of a signal is read by it
    read_of : (s o : ℕ) → s < count → IsOperand g s o → ReadsSignal g s (stand g o)
    read_of s o l h = record { within = l; place = h.place; is_operand = h.within; is = ap (stand g) h.is }

    read_within : (s o : ℕ) → s < count → IsOperand g s o → stand g o < count
    read_within s o l h = let k = read_lower g ordered s (stand g o) (read_of s o l h) in omega arith

    operand_within : (s o : ℕ) → s < count → IsOperand g s o → o < count
    operand_within s o l h =
        let b = operand_below g (node g s) s h.place (ordered s (signal.Const (pos 0)) l) h.within in
        omega (arith, b, h.is)

    -- a signal of kind Inner is computed inside the code that reads it
    inner_kind : (o : ℕ) → o < count → kind_at (stand g o) ≡ kind.Inner → IsInner g (stand g o)
    inner_kind o lo e = elim (kinded (stand g o) (stand_within o lo)) [
      | NumberKind m is z ↦ absurd (let y = sym z ∙ e in cc)
      | HeldKind slow z ↦ absurd (let y = sym z ∙ e in cc)
      | LaneKind m has z ↦ absurd (let y = sym z ∙ e in cc)
      | BareKind none z ↦ bare none (sym z ∙ e)
    ]
      where
        bare : lane_at lanes (stand g o) ≡ None → base (stand g o) ≡ kind.Inner → IsInner g (stand g o)
        bare none f = elim (based (stand g o) (stand_within o lo)) [
          | AsNumber m is z ↦ absurd (let y = sym z ∙ f in cc)
          | AsHeld slow z ↦ absurd (let y = sym z ∙ f in cc)
          | AsInput i n z ↦ absurd (let y = sym z ∙ f in cc)
          | AsBack group i n z ↦ absurd (let y = sym z ∙ f in cc)
          | AsInner r c z ↦ record {
            within = stand_within o lo;
            computed = c (stands_well g ordered count o (omega arith) lo).no_member;
            sampled = r;
            alone = λ h. let y = sym none ∙ (separated_lane (stand g o) h).has in cc;
          }
        ]

    computed_base : (s : ℕ) → s < count → at homes s ≡ j → base s ≡ kind.Inner → IsComputed (node g s)
    computed_base s l home e = elim (placed.homes.inners s l (omega (arith, lj, home))) [
      | inl h ↦ elim (based s l) [
        | AsNumber m is z ↦ absurd (let y = sym z ∙ e in cc)
        | AsHeld slow z ↦ absurd (let y = sym z ∙ e in cc)
        | AsInput i n z ↦ absurd (let y = sym z ∙ e in cc)
        | AsBack group i n z ↦ absurd (let y = sym z ∙ e in cc)
        | AsInner r c z ↦ c (separated_plain s h)
      ]
      | inr h ↦ h.computed
    ]

    delay_lane : (s x d max : ℕ) → StandsAt g s (signal.Delay x d max) → at homes s ≡ j → 1 ≤ max → DelayLane g names roles survey x max
    delay_lane s x d max n home one =
        let is : IsOperand g s x = record {
          place = 0;
          within = subst (λ m. 0 < length (operands m)) (sym n.is) (omega arith);
          is =
              ap (λ m. at (operands m) 0) n.is;
        } in
        let lx = operand_within s x n.within is in
        let k = separated_lane (stand g x) (AsDelayed s x d max n one refl) in
        let far = (histories_cover g).delays s x d max n in
        record {
          lane = k.lane;
          has = k.has;
          names = k.names_it;
          far = omega (arith, far, ap (history_of g) k.names_it, history_stand x lx);
          loaded = reached_loaded s (stand g x) k.lane j n.within lj home (reads_reach g ordered s (stand g x) (read_of s x n.within is)) k.has;
        }

    -- the node of cells is a table that is written, and its loop is where the signal is at home
    cells_written : (k : ℕ) → k < length passes.are_cells.signals → IsWritten (node g (at passes.are_cells.signals k))
    cells_written k l = subst IsWritten (sym (passes.are_cells.are k l).writes.3) tt

    suit_cells : SuitCells g names roles survey j
    suit_cells = record {
      own = λ k o.
          let i = cells_in_loop infos j k o in
          let w = i.within in
          let l : k < length passes.are_cells.signals = omega (arith, w, passes.are_cells.counted) in
          let n = passes.are_cells.named k l in
          (n.0, n.1, sym (passes.are_cells.are k l).owner ∙ i.is);
      here = λ s k ls home e.
          let h = passes.are_cells.has s k e in
          (own_cells k h.0 ((passes.are_cells.are k h.0).owner ∙ ap (at homes) h.1 ∙ home), h.1);
      all = passes.are_cells.all;
      only = λ s k ls e.
          let h = passes.are_cells.has s k e in
          let w : IsWritten (node g s) = subst (λ q. IsWritten (node g q)) h.1 (cells_written k h.0) in
          (w, written_base s ls w);
    }
      where
        own_cells : (k : ℕ) → k < length passes.are_cells.signals → (info_at infos k).owner ≡ j → roles.own (OfCells k) ≡ true
        own_cells k l e =
            ap (λ b. b && nat_eq (info_at infos k).owner j) (lt-ltb k (length infos) (omega (arith, l, passes.are_cells.counted)))
            ∙ eq-eqb (info_at infos k).owner j e

    pub suits : Suits g names roles survey j
    unfolding with_lane
    suits = record {
      own = λ l. refl;
      ordered = ordered;
      closed = graph.closed;
      stands = λ s l. stand_at s;
      bases = base_fits;
      kinds = kind_fits;
      lanes = λ l o.
          let i = in_loop owners j l o in
          let w = i.within in
          let k = placed.lanes.named l (omega (arith, w, placed.lanes.owned)) in
          (k.0, k.1, placed.homes.lanes l (omega (arith, w, placed.lanes.owned)) ∙ i.is);
      lanes_here = λ s l ls home e.
          let k = with_lane s l e in
          let w = k.within in
          let owner : at owners l ≡ j = sym (placed.homes.lanes l (omega (arith, w, placed.lanes.owned))) ∙ ap (at homes) k.names_it ∙ home in
          (own_of l w owner, k.names_it);
      inner = λ s o ls home is e.
          placed.homes.closed s (stand g o) ls (omega (arith, lj, home)) (read_of s o ls is) (inner_kind o (operand_within s o ls is) e) ∙ home;
      loaded = λ s o ls home is. kind_loads s (stand g o) ls (read_within s o ls is) home (reads_reach g ordered s (stand g o) (read_of s o ls is));
      base_loaded = λ s ls home. base_loads s s ls ls home (reaches_self (links_of g) s);
      delays = delay_lane;
      cells = suit_cells;
      computed = computed_base;
    }
      where
        own_of : (l : ℕ) → l < length owners → at owners l ≡ j → owned_by owners j l ≡ true
        own_of l h e = ap (λ b. b && nat_eq (at owners l) j) (lt-ltb l (length owners) h) ∙ eq-eqb (at owners l) j e
