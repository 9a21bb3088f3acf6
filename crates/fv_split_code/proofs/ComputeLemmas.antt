-- The steps of signals that are computed.
use Rattle.std.proofs.Common.{◌≡◌, inl, inr, ℕ, zero, suc, ◌<◌, ◌≤◌, List, [], ◌∷◌, ◌++◌, length, take, get_or, map, refl, sym, ap, ap₂, ◌∙◌, subst, arith}
use Rattle.std.proofs.Common.{pos, Bool, true, false}
use Rattle.std.specs.Prelude.{All, ◌&&◌, nat_eq, unwrap_or, Option, None, Some}
use Rattle.std.proofs.lemmas.List.{length-map, length-take-le, length_push, append_assoc, get_or-take, get_or_default, get_or_read}
use Rattle.std.proofs.lemmas.List.Elements.{All-get_or, All-weaker, All-take, All-map}
use Rattle.std.proofs.lemmas.Bool.{cases_lt, eq-eqb, lt-ltb, le-ltb}
use Rattle.fv_num.specs.declared.op.Op.{Op}
use Rattle.fv_num.specs.declared.op.Op.TheVariants.{Max, Abs, Select2, Select3}
use Rattle.fv_num.specs.headline.Words.{inputs_of}
use Rattle.fv_signal.specs.declared.signal.Signal.{Signal}
use Rattle.fv_signal.specs.declared.signal.Signal.TheVariants as signal
use Rattle.fv_signal.specs.headline.Value.{Graph, IsOrdered, OperandsBelow, NamesWithin}
use Rattle.fv_split_plan.specs.Reach.{at}
use Rattle.fv_loopcode.specs.declared.step.Step.{Step}
use Rattle.fv_loopcode.specs.declared.step.Step.TheVariants as step
use Rattle.fv_loopcode.specs.headline.Obeys.{Roles, Place, OfLane, OfCells, done_after, with_place}
use Rattle.fv_split_code.specs.declared.kind.Kind.{Kind}
use Rattle.fv_split_code.specs.declared.kind.Kind.TheVariants as kind
use Rattle.fv_analysis.specs.headline.Stands.{node, stand, StandsAt}
use Rattle.fv_split_plan.specs.headline.Fits.{Names}
use Rattle.fv_split_plan.specs.Fits.{Mean, Value, mean_at, OfDelay, OfPoint, OfStill, StepFits}
use Rattle.fv_split_code.specs.Emits.{Serves, KindFits, IsKnown, IsLoaded, kind_of, owned_by, MeansNow, MeanNow, AreFound}
use Rattle.fv_analysis.proofs.lemmas.StandLemmas.{stands_well}
use Rattle.fv_split_code.proofs.StepLemmas.{serves_push, means_last, long_means}
use Rattle.fv_split_code.specs.declared.survey.Survey.{Survey}
use Rattle.fv_split_plan.specs.headline.Separated.{operands}
use Rattle.fv_split_plan.specs.Separated.{IsWritten, lane_at, cells_at}
use Rattle.fv_split_plan.proofs.lemmas.FitsLemmas.{map_get}
use Rattle.fv_split_code.specs.Emitted.{IsSurvey, known_at, IsOperand, Suits, StoodNow, with_cells, write_of, ComputesAt, ComputesNow}

-- what a signal stands for is no higher
pub stand_below : (g : Graph) → IsOrdered g → (n s : ℕ) → n ≤ length g.signals → s < n → stand g s ≤ s
stand_below g ordered n s m l = (stands_well g ordered n s m l).below

pub known_yes : (homes : List ℕ) (j s q : ℕ) → q < s → at homes q ≡ j → known_at homes j s q ≡ true
known_yes homes j s q h e = ap (λ b. b && nat_eq (at homes q) j) (lt-ltb q s h) ∙ eq-eqb (at homes q) j e

pub known_not : (homes : List ℕ) (j s : ℕ) → known_at homes j s s ≡ false
known_not homes j s = ap (λ b. b && nat_eq (at homes s) j) (le-ltb s s (omega arith))

below : (g : Graph) → IsOrdered g → (s : ℕ) (n : Signal) → StandsAt g s n → OperandsBelow g s n
below g ordered s n h = subst (OperandsBelow g s) h.is (ordered s (signal.Const (pos 0)) h.within)

module _ (g : Graph) (p : Names) (r : Roles) (t : Survey) (j s : ℕ) (u : Suits g p r t j) (l : s < length g.signals) (home : at t.homes.items s ≡ j) where
  abbrev known : ℕ → Bool
  known = known_at t.homes.items j s

  -- a lane of this loop that stands for a lower signal
  pub lane_known : (x lane : ℕ) → x < s → p.lane lane ≡ stand g x → r.own (OfLane lane) ≡ true → known (stand g x) ≡ true
  lane_known x lane b e o =
      known_yes t.homes.items j s (stand g x) (omega (arith, stand_below g u.ordered (length g.signals) x (omega arith) (omega arith)))
      (ap (at t.homes.items) (sym e) ∙ (u.lanes lane o).2)

  -- an operand is known where its register is read
  pub operand_known : (o : ℕ) → o < s → IsOperand g s o → IsKnown r known (kind_of t.kinds.items (stand g o)) (stand g o)
  operand_known o b is = go (kind_of t.kinds.items (stand g o)) refl
    where
      inside : stand g o ≤ o
      inside = stand_below g u.ordered (length g.signals) o (omega arith) (omega arith)

      go : (k : Kind) → kind_of t.kinds.items (stand g o) ≡ k → IsKnown r known k (stand g o)
      go (kind.Number n) e = tt
      go (kind.Held n) e = tt
      go (kind.Lane m) e = λ own. lane_known o m b (subst (λ k. KindFits g p k (stand g o)) e (u.kinds (stand g o) (omega (arith, inside)))) own
      go (kind.Input i) e = tt
      go (kind.Back m) e = tt
      go kind.Inner e = known_yes t.homes.items j s (stand g o) (omega (arith, inside)) (u.inner s o l home is e)

  pub operand_fits : (o : ℕ) → o < s → KindFits g p (kind_of t.kinds.items (stand g o)) (stand g o)
  operand_fits o b = u.kinds (stand g o) (omega (arith, stand_below g u.ordered (length g.signals) o (omega arith) (omega arith)))

  -- the register of an operand means it
  pub operand_stands : (regs : List ℕ) (old mid : List Step) (o v : ℕ) → o < s → IsOperand g s o → StoodNow t regs j old mid o v →
      (means : List Mean) (ended : Place → Bool) → Serves g p r known regs old means ended →
      (more : List Mean) × Serves g p r known regs mid (means ++ more) ended
      × (mean_at (means ++ more) v ≡ Value (stand g o)) × (v < length (means ++ more))
  operand_stands regs old mid o v b is mean means ended h =
      let z = u.stands o (omega arith) in
      subst (λ q. MeansNow regs old mid q v (kind_of t.kinds.items q) (owned_by t.owners.items j)) z mean
      g p r known means ended u.own (u.loaded s o l home is) (operand_fits o b) (operand_known o b is) h

  -- several operands are known where their registers are read
  pub operands_may : (those args : List ℕ) (n : ℕ) → ((k : ℕ) → k < n → at those k ≡ stand g (at args k)) → ((k : ℕ) → k < n → at args k < s) →
      ((k : ℕ) → k < n → IsOperand g s (at args k)) → (k : ℕ) → k < n → KindFits g p (kind_of t.kinds.items (at those k)) (at those k)
      × IsKnown r (known_at t.homes.items j s) (kind_of t.kinds.items (at those k)) (at those k) × IsLoaded r (kind_of t.kinds.items (at those k))
  operands_may those args n same lower is k m =
      subst (λ q. KindFits g p (kind_of t.kinds.items q) q × IsKnown r (known_at t.homes.items j s) (kind_of t.kinds.items q) q
      × IsLoaded r (kind_of t.kinds.items q)) (sym (same k m)) (
        operand_fits (at args k) (lower k m),
        operand_known (at args k) (lower k m) (is k m),
        u.loaded s (at args k) l home (is k m),
      )

  -- a signal that is no table that is written changes no cells
  pub uncelled : (n : Signal) → node g s ≡ n → (IsWritten n → ⊥) → (ended : Place → Bool) → ended ≡ with_cells (cells_at t.cells.items s) ended
  uncelled n e not ended = go (cells_at t.cells.items s) refl
    where
      go : (o : Option ℕ) → cells_at t.cells.items s ≡ o → ended ≡ with_cells (cells_at t.cells.items s) ended
      go None z = ap (λ o. with_cells o ended) (sym z)
      go (Some k) z = absurd (not (subst IsWritten e (u.cells.only s k l z).0))

-- one step more, which means the signal
pub pushed : (g : Graph) (p : Names) (r : Roles) (known : ℕ → Bool) (regs : List ℕ) (mid new : List Step) (means more : List Mean)
    (ended after : Place → Bool) (x : Step) (s w : ℕ) →
    new ≡ mid ++ x ∷ [] → w ≡ length mid → Serves g p r known regs mid (means ++ more) ended → StepFits g p r ended (means ++ more) x (Value s) →
    done_after ended x ≡ after →
    (now : List Mean) × Serves g p r known regs new (means ++ now) after × (mean_at (means ++ now) w ≡ Value s) × (w < length (means ++ now))
pushed g p r known regs mid new means more ended after x s w e f h fits same =
    let one = subst (Serves g p r known regs (mid ++ x ∷ []) ((means ++ more) ++ Value s ∷ [])) same (serves_push g p r known regs mid (means ++ more) ended x
    (Value s) h fits) in
    let last = means_last g p r known regs mid (means ++ more) ended (Value s) h in
    let long = long_means g p r known regs mid (means ++ more) ended h in
    let z = append_assoc means more (Value s ∷ []) in (
      more ++ Value s ∷ [],
      subst (λ ms. Serves g p r known regs new ms after) z (subst (λ c. Serves g p r known regs c ((means ++ more) ++ Value s ∷ []) after) (sym e) one),
      ap (mean_at (means ++ (more ++ Value s ∷ []))) f ∙ ap (λ ms. mean_at ms (length mid)) (sym z) ∙ last,
      subst (λ ms. w < length ms) z (omega (arith, f, long, length_push (means ++ more) (Value s))),
    )

maps_alike : (f h : ℕ → Mean) (xs ys : List ℕ) → length xs ≡ length ys → ((k : ℕ) → k < length xs → f (at xs k) ≡ h (at ys k)) → map f xs ≡ map h ys
maps_alike f h [] [] e a = refl
maps_alike f h [] (y ∷ ys) e a = absurd (omega arith)
maps_alike f h (x ∷ xs) [] e a = absurd (omega arith)
maps_alike f h (x ∷ xs) (y ∷ ys) e a = ap₂ (λ v vs. v ∷ vs) (a 0 (omega arith)) (maps_alike f h xs ys (omega arith) (λ k l. a (suc k) (omega arith)))

pub computes_point : (t : Survey) (regs : List ℕ) (j : ℕ) (old mid new : List Step) (op : Op) (args those found : List ℕ) (w : ℕ) →
    those ≡ take (inputs_of op) (map (at t.stands.items) args) → length args ≡ 4 → AreFound found (length those) → inputs_of op ≤ 4 → 1 ≤ inputs_of op →
    MeanNow t.kinds.items regs old mid those found (length those) (owned_by t.owners.items j) → new ≡ mid ++ step.Point op found ∷ [] → w ≡ length mid →
    ComputesNow t regs j old new (signal.Point op args) w
computes_point t regs j old mid new op args those found w et la lf four one mean e f s g p r u n home c means ended h en =
    pushed g p r known regs mid new means x.0 ended (with_cells (cells_at t.cells.items s) ended) (step.Point op found) s w e f x.1
    (OfPoint s args n within there same refl) (uncelled g p r t j s u n.within home (signal.Point op args) n.is (λ z. z) ended)
  where
    known : ℕ → Bool
    known = known_at t.homes.items j s

    lower : All (λ a. a < s) args
    lower = below g u.ordered s (signal.Point op args) n

    arg : (k : ℕ) → k < inputs_of op → at args k < s
    arg k l = All-get_or (λ a. a < s) args k 0 (omega (arith, la)) lower

    those_long : length those ≡ inputs_of op
    those_long = ap length et ∙ length-take-le (inputs_of op) (map (at t.stands.items) args) (omega (arith, length-map args (at t.stands.items), la))

    those_at : (k : ℕ) → k < inputs_of op → at those k ≡ stand g (at args k)
    those_at k l =
        ap (λ xs. at xs k) et ∙ get_or-take (inputs_of op) (map (at t.stands.items) args) k 0 l
        ∙ get_or_default (map (at t.stands.items) args) k 0 (at t.stands.items 0) (omega (arith, length-map args (at t.stands.items), la))
        ∙ map_get (at t.stands.items) args k 0 ∙ u.stands (at args k) (omega (arith, arg k l, n.within))

    is_operand : (k : ℕ) → k < inputs_of op → IsOperand g s (at args k)
    is_operand k l = record {
      place = k;
      within = subst (λ m. k < length (operands m)) (sym n.is) (omega (arith, length-take-le (inputs_of op) args (omega (arith, la))));
      is = ap (λ m. at (operands m) k) n.is ∙ get_or-take (inputs_of op) args k 0 l;
    }

    below_inputs : (k : ℕ) → k < length those → k < inputs_of op
    below_inputs k l = omega (arith, those_long)

    conds : (k : ℕ) → k < length those → KindFits g p (kind_of t.kinds.items (at those k)) (at those k)
        × IsKnown r (known_at t.homes.items j s) (kind_of t.kinds.items (at those k)) (at those k) × IsLoaded r (kind_of t.kinds.items (at those k))
    conds =
        operands_may g p r t j s u n.within home those args (length those) (λ k l. those_at k (below_inputs k l)) (λ k l. arg k (below_inputs k l))
        (λ k l. is_operand k (below_inputs k l))

    x : (more : List Mean) × Serves g p r (known_at t.homes.items j s) regs mid (means ++ more) ended
        × ((k : ℕ) → k < length those → (at found k < length (means ++ more)) × (mean_at (means ++ more) (at found k) ≡ Value (at those k)))
    x = mean g p r (known_at t.homes.items j s) means ended u.own conds h

    within : All (λ a. a < length g.signals) args
    within = All-weaker (λ a. a < s) (λ a. a < length g.signals) (λ a m. omega (arith, n.within)) args lower

    there : All (λ a. a < length (means ++ x.0)) found
    there k d l = subst (λ q. q < length (means ++ x.0)) (get_or_default found k 0 d l) (elim (cases_lt k (length those)) [
      | inl m ↦ (x.2 k m).0
      | inr m ↦ let z = lf.rest k m in let y = (x.2 0 (omega (arith, those_long, one))).0 in omega (arith, z, y)
    ])

    same : map (mean_at (means ++ x.0)) (take (inputs_of op) found) ≡ map (λ o. Value (stand g o)) (take (inputs_of op) args)
    same = maps_alike (mean_at (means ++ x.0)) (λ o. Value (stand g o)) (take (inputs_of op) found) (take (inputs_of op) args)
        (length-take-le (inputs_of op) found (omega (arith, lf.four)) ∙ sym (length-take-le (inputs_of op) args (omega (arith, la))))
        (λ k l. let m : k < inputs_of op = omega (arith, length-take-le (inputs_of op) found (omega (arith, lf.four))) in
        ap (mean_at (means ++ x.0)) (get_or-take (inputs_of op) found k 0 m) ∙ (x.2 k (omega (arith, those_long))).1 ∙ ap Value (those_at k m)
        ∙ ap (λ o. Value (stand g o)) (sym (get_or-take (inputs_of op) args k 0 m)))

pub computes_still : (t : Survey) (regs : List ℕ) (j : ℕ) (old mid new : List Step) (x d v w : ℕ) → StoodNow t regs j old mid x v →
    new ≡ mid ++ step.Point Max (v ∷ v ∷ v ∷ v ∷ []) ∷ [] → w ≡ length mid → ComputesNow t regs j old new (signal.Delay x d 0) w
computes_still t regs j old mid new x d v w mean e f s g p r u n home c means ended h en =
    let b = below g u.ordered s (signal.Delay x d 0) n in
    let lx : x < length g.signals = omega (arith, b.0, n.within) in
    let is : IsOperand g s x =
    record { place = 0; within = subst (λ m. 0 < length (operands m)) (sym n.is) (omega arith); is = ap (λ m. at (operands m) 0) n.is } in
    let y = operand_stands g p r t j s u n.within home regs old mid x v b.0 is mean means ended h in
    pushed g p r (known_at t.homes.items j s) regs mid new means y.0 ended (with_cells (cells_at t.cells.items s) ended)
    (step.Point Max (v ∷ v ∷ v ∷ v ∷ [])) s w e f y.1 (OfStill s x d v n lx refl refl y.2 refl)
    (uncelled g p r t j s u n.within home (signal.Delay x d 0) n.is (λ z. z) ended)

pub computes_delay : (t : Survey) (regs : List ℕ) (j : ℕ) (old mid new : List Step) (x d max v w lane : ℕ) → 1 ≤ max →
    lane ≡ unwrap_or (lane_at t.lanes.items (at t.stands.items x)) 0 → StoodNow t regs j old mid d v →
    new ≡ mid ++ step.Load lane v max ∷ [] → w ≡ length mid → ComputesNow t regs j old new (signal.Delay x d max) w
computes_delay t regs j old mid new x d max v w lane one el mean e f s g p r u n home c means ended h en =
    let b = below g u.ordered s (signal.Delay x d max) n in
    let lx : x < length g.signals = omega (arith, b.0, n.within) in
    let ld : d < length g.signals = omega (arith, b.1, n.within) in
    let is : IsOperand g s d =
    record { place = 1; within = subst (λ m. 1 < length (operands m)) (sym n.is) (omega arith); is = ap (λ m. at (operands m) 1) n.is } in
    let y = operand_stands g p r t j s u n.within home regs old mid d v b.1 is mean means ended h in
    let o = u.delays s x d max n home one in
    let lane_is : lane ≡ o.lane = el ∙ ap (λ a. unwrap_or (lane_at t.lanes.items a) 0) (u.stands x lx) ∙ ap (λ a. unwrap_or a 0) o.has in
    let names : p.lane lane ≡ stand g x = ap p.lane lane_is ∙ o.names in
    let few : max ≤ p.history lane = subst (λ a. max ≤ p.history a) (sym lane_is) o.far in
    pushed g p r (known_at t.homes.items j s) regs mid new means y.0 ended (with_cells (cells_at t.cells.items s) ended) (step.Load lane v max) s w e f y.1 (
      subst (λ a. r.loaded a ≡ true) (sym lane_is) o.loaded,
      OfDelay s x d n lx ld (sym names) y.2 few
          (λ own. en (OfLane lane) own ∙ ap (known_at t.homes.items j s) names ∙ lane_known g p r t j s u n.within home x lane b.0 names own) refl,
    ) (uncelled g p r t j s u n.within home (signal.Delay x d max) n.is (λ z. z) ended)

pub computes_read : (t : Survey) (regs : List ℕ) (j : ℕ) (old mid new : List Step) (table x v w : ℕ) → StoodNow t regs j old mid x v →
    new ≡ mid ++ step.Read table v ∷ [] → w ≡ length mid → ComputesNow t regs j old new (signal.Read table x) w
computes_read t regs j old mid new table x v w mean e f s g p r u n home c means ended h en =
    let b = below g u.ordered s (signal.Read table x) n in
    let lx : x < length g.signals = omega (arith, b, n.within) in
    let is : IsOperand g s x =
    record { place = 0; within = subst (λ m. 0 < length (operands m)) (sym n.is) (omega arith); is = ap (λ m. at (operands m) 0) n.is } in
    let y = operand_stands g p r t j s u n.within home regs old mid x v b is mean means ended h in
    pushed g p r (known_at t.homes.items j s) regs mid new means y.0 ended (with_cells (cells_at t.cells.items s) ended) (step.Read table v) s w e f y.1
    (record {
      items = subst (NamesWithin g) n.is (u.closed s (signal.Const (pos 0)) n.within);
      reader = s;
      place = x;
      stands = n;
      within = lx;
      operand = y.2;
      is = refl;
    }) (uncelled g p r t j s u n.within home (signal.Read table x) n.is (λ z. z) ended)

-- what holds of the first three places holds of each below three
below_three : (P : ℕ → Type 0) → P 0 → P 1 → P 2 → (k : ℕ) → k < 3 → P k
below_three P a b c zero l = a
below_three P a b c (suc zero) l = b
below_three P a b c (suc (suc zero)) l = c
below_three P a b c (suc (suc (suc k))) l = absurd (omega arith)

pub computes_write : (t : Survey) (regs : List ℕ) (j s : ℕ) (old mid new : List Step) (table cells : ℕ) (args those found : List ℕ) (w : ℕ) →
    those ≡ map (at t.stands.items) args → length args ≡ 3 → cells ≡ unwrap_or (cells_at t.cells.items s) 0 →
    MeanNow t.kinds.items regs old mid those found (length those) (owned_by t.owners.items j) →
    new ≡ mid ++ step.Write cells (at found 0 ∷ at found 1 ∷ at found 2 ∷ []) ∷ [] → w ≡ length mid →
    ComputesAt t regs j s old new (write_of table args) w
computes_write t regs j s old mid new table cells args those found w et la ec mean e f g p r u n home c means ended h en =
    pushed g p r known regs mid new means x.0 ended (with_cells (cells_at t.cells.items s) ended) (step.Write cells registers) s w e f x.1 (record {
      own = subst (λ k. r.own (OfCells k) ≡ true) (sym cells_is) here.0;
      waits = en (OfCells cells) (subst (λ k. r.own (OfCells k) ≡ true) (sym cells_is) here.0) ∙ ap known names ∙ known_not t.homes.items j s;
      table = table;
      items = subst (NamesWithin g) n.is (u.closed s (signal.Const (pos 0)) n.within);
      w = at args 0;
      x = at args 1;
      place = at args 2;
      stands = subst (λ q. StandsAt g q (write_of table args)) (sym names) n;
      w_within = within 0 (omega arith);
      x_within = within 1 (omega arith);
      place_within = within 2 (omega arith);
      operands = ap₂ (λ a b. a ∷ b) (means_it 0 (omega arith)) (ap₂ (λ a b. a ∷ b ∷ []) (means_it 1 (omega arith)) (means_it 2 (omega arith)));
      is = ap Value (sym names);
    }) (ap (λ k. with_place (OfCells k) ended) cells_is ∙ ap (λ o. with_cells o ended) (sym some.1))
  where
    known : ℕ → Bool
    known = known_at t.homes.items j s

    registers : List ℕ
    registers = at found 0 ∷ at found 1 ∷ at found 2 ∷ []

    some : (k : ℕ) × (cells_at t.cells.items s ≡ Some k)
    some = u.cells.all s n.within (subst IsWritten (sym n.is) tt)

    here : (r.own (OfCells some.0) ≡ true) × (p.cells some.0 ≡ s)
    here = u.cells.here s some.0 n.within home some.1

    cells_is : cells ≡ some.0
    cells_is = ec ∙ ap (λ (o : Option ℕ). unwrap_or o 0) some.1

    names : p.cells cells ≡ s
    names = ap p.cells cells_is ∙ here.1

    lower : (at args 0 < s) × (at args 1 < s) × (at args 2 < s)
    lower = below g u.ordered s (write_of table args) n

    arg : (k : ℕ) → k < 3 → at args k < s
    arg = below_three (λ k. at args k < s) lower.0 lower.1 lower.2

    within : (k : ℕ) → k < 3 → at args k < length g.signals
    within k l = let b = arg k l in omega (arith, b, n.within)

    those_long : length those ≡ 3
    those_long = ap length et ∙ length-map args (at t.stands.items) ∙ la

    those_at : (k : ℕ) → k < 3 → at those k ≡ stand g (at args k)
    those_at k l =
        ap (λ xs. at xs k) et
        ∙ get_or_default (map (at t.stands.items) args) k 0 (at t.stands.items 0) (omega (arith, length-map args (at t.stands.items), la))
        ∙ map_get (at t.stands.items) args k 0 ∙ u.stands (at args k) (within k l)

    is_operand : (k : ℕ) → k < 3 → IsOperand g s (at args k)
    is_operand k l = record {
      place = k;
      within = subst (λ m. k < length (operands m)) (sym n.is) l;
      is = ap (λ m. at (operands m) k) n.is ∙ below_three (λ k. at (operands (write_of table args)) k ≡ at args k) refl refl refl k l;
    }

    below_all : (k : ℕ) → k < length those → k < 3
    below_all k l = omega (arith, those_long)

    x : (more : List Mean) × Serves g p r (known_at t.homes.items j s) regs mid (means ++ more) ended
        × ((k : ℕ) → k < length those → (at found k < length (means ++ more)) × (mean_at (means ++ more) (at found k) ≡ Value (at those k)))
    x = mean g p r (known_at t.homes.items j s) means ended u.own
        (operands_may g p r t j s u n.within home those args (length those) (λ k l. those_at k (below_all k l)) (λ k l. arg k (below_all k l))
        (λ k l. is_operand k (below_all k l))) h

    means_it : (k : ℕ) → k < 3 → mean_at (means ++ x.0) (at found k) ≡ Value (stand g (at args k))
    means_it k l = (x.2 k (omega (arith, those_long))).1 ∙ ap Value (those_at k l)

-- ---- what is read in the survey

pub some_inputs : (op : Op) → 1 ≤ inputs_of op
some_inputs Abs = omega arith
some_inputs Select2 = omega arith
some_inputs Select3 = omega arith
some_inputs op = omega arith

stand_within : (t : Survey) (n : ℕ) → IsSurvey n t → (x : ℕ) → x < n → at t.stands.items x < n
stand_within t n a x l = All-get_or (λ s. s < n) t.stands.items x 0 (omega (arith, a.stands)) a.within

pub read_kind : (t : Survey) (n : ℕ) → IsSurvey n t → (x q : ℕ) (k : Kind) → x < n → q ≡ at t.stands.items x → k ≡ get_or t.kinds.items q k →
    k ≡ kind_of t.kinds.items q
read_kind t n a x q k l z i = get_or_read t.kinds.items q k (omega (arith, a.kinds, z, stand_within t n a x l)) i kind.Inner

pub read_lane : (t : Survey) (n : ℕ) → IsSurvey n t → (x q : ℕ) (o : Option ℕ) → x < n → q ≡ at t.stands.items x → o ≡ get_or t.lanes.items q o →
    o ≡ lane_at t.lanes.items (at t.stands.items x)
read_lane t n a x q o l z i = get_or_read t.lanes.items q o (omega (arith, a.lanes, z, stand_within t n a x l)) i None ∙ ap (lane_at t.lanes.items) z

-- what signals stand for is there
pub mapped_within : (stands args : List ℕ) (n : ℕ) → length stands ≡ n → All (λ a. a < n) args → All (λ s. s < n) stands →
    All (λ s. s < n) (map (at stands) args)
mapped_within stands args n long within inside = All-map (λ s. s < n) (at stands) args (All-weaker (λ a. a < n) (λ a. at stands a < n)
    (λ a h. All-get_or (λ s. s < n) stands a 0 (omega (arith, long)) inside) args within)

pub stood_within : (stands args those : List ℕ) (m n : ℕ) → those ≡ take m (map (at stands) args) → length stands ≡ n → All (λ a. a < n) args →
    All (λ s. s < n) stands → (k d : ℕ) → k < length those → get_or those k d < n
stood_within stands args those m n e long within inside k d l =
    subst (λ xs. get_or xs k d < n) (sym e)
    (All-take (λ s. s < n) m (map (at stands) args) (mapped_within stands args n long within inside) k d (subst (λ xs. k < length xs) e l))
