-- A task of a loop, between the parcels that it takes and those that it leaves (this project's profile).
use Rattle.std.specs.Prelude.{◌≡◌, ℕ, suc, ◌-◌, ◌/◌, ◌<◌, ◌≤◌, List, length, map, slice_index}
use Rattle.fv_outside.specs.headline.Tasks.{Tasks}
use Rattle.fv_graph.specs.Graph.{stride, place_in, pair_at}
use Rattle.fv_loopcode.specs.declared.step.Step.{Step}
use Rattle.fv_loopcode.specs.headline.Lanes.{lane_of}
use Rattle.fv_loopcode.specs.headline.State.{State, list_at}
use Rattle.fv_split_plan.specs.headline.View.{cells_info}
use Rattle.fv_loopcode.specs.Obeys.{Content, Holds, HoldsJust}
use Rattle.fv_engine_codes.specs.Plans.{own_lanes, locals_of, lanes_of_all, IsLocalCode}
use Rattle.fv_engine_crew.specs.Contents.{tasks_in, IsContentOf, upto}
use Rattle.fv_engine_crew.specs.declared.start.Start.{Start}

-- an edge of a pair, at a vector
pub record IsPairAt (g : Tasks) (v e : ℕ) : Type 0 where
  pub pair : g.loops ≤ place_in g e
  pub vector : e / stride g ≡ v

-- the loop whose lanes go over an edge of a pair
abbrev pub source_by : Tasks → ℕ → ℕ
source_by g e = (pair_at g (place_in g e - g.loops)).source

-- an edge of a pair out of loop j, at a vector
pub record IsPairFrom (g : Tasks) (j v e : ℕ) : Type 0 where
  pub at : IsPairAt g v e
  pub source : source_by g e ≡ j

-- an edge into loop j from itself, at a vector
pub record IsChainAt (g : Tasks) (j v e : ℕ) : Type 0 where
  pub inside : j < g.loops
  pub place : place_in g e ≡ j
  pub vector : e / stride g ≡ v

-- all lanes that go over these edges
abbrev pub lanes_by : Start → List ℕ → List ℕ
lanes_by k es = lanes_of_all k.plan.now (map (source_by (tasks_in k)) es)

module _ (k : Start) (j v : ℕ) where
  abbrev pub own : List ℕ
  own = own_lanes k.plan.now j

  abbrev pub locals : List ℕ
  locals = locals_of k.plan.now (tasks_in k) j

  abbrev pub from : ℕ
  from = upto k v

  abbrev pub to : ℕ
  to = upto k (suc v)

  -- before the task: the loop's own lanes and cells hold what they are to hold up to the vector, the seen lanes up to the next
  pub record Before (state : State) : Type 0 where
    pub long : length state.lanes ≡ length locals
    pub mine : (f : Content) → IsContentOf k f → (i : ℕ) → i < length own
        → HoldsJust f (slice_index locals i) from (k.frames - from) (lane_of state.lanes i)
    pub seen : (f : Content) → IsContentOf k f → (i : ℕ) → length own ≤ i → i < length locals → Holds f (slice_index locals i) to (lane_of state.lanes i)
    pub tables : state.tables ≡ k.plan.now.tables
    pub count : length state.cells ≡ length k.plan.now.cells
    pub cells : (f : Content) → IsContentOf k f → (i : ℕ) → i < length k.plan.now.cells → (cells_info k.plan.now i).owner ≡ j
        → list_at state.cells i ≡ f.cells i from

  -- what is known of the vector and of the code
  pub record Known (code : List Step) : Type 0 where
    pub inside : j < (tasks_in k).loops
    pub le : from ≤ to
    pub few : length own ≤ length locals
    pub codes : IsLocalCode k.plan.now (tasks_in k) j code

  -- after it the loop's own lanes and cells hold theirs up to the next
  pub record After (state : State) : Type 0 where
    pub mine : (f : Content) → IsContentOf k f → (i : ℕ) → i < length own → HoldsJust f (slice_index locals i) to (k.frames - to) (lane_of state.lanes i)
    pub cells : (f : Content) → IsContentOf k f → (i : ℕ) → i < length k.plan.now.cells → (cells_info k.plan.now i).owner ≡ j
        → list_at state.cells i ≡ f.cells i to
