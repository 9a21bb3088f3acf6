-- When a plan stands for a graph (this project's profile).
use Rattle.std.specs.Prelude.{◌≡◌, ◌≢◌, ◌↔◌, ℕ, ◌*◌, ◌<◌, ◌≤◌, List, [], length, All, ℤ, pos, true, ◌==◌, ◌&&◌}
use Rattle.fv_num.specs.headline.Frames.{Frame, Stream, column, table}
use Rattle.fv_outside.specs.headline.Tasks.{bit, total, reads_loop}
use Rattle.fv_signal.specs.declared.signal.Signal.TheVariants as signal
use Rattle.fv_signal.specs.declared.rate.Rate.TheVariants as rate
use Rattle.fv_signal.specs.headline.Value.{Graph, value, IsGraph}
use Rattle.fv_signal.specs.headline.Rates.{rate_of, NamesControl}
use Rattle.fv_components.specs.headline.Reach.{at, Reaches}
use Rattle.fv_loopcode.specs.declared.step.Step.{Step}
use Rattle.fv_loopcode.specs.declared.step.Step.TheVariants as step
use Rattle.fv_loopcode.specs.headline.Code.{registers_after, NamesHeld, NamesInput, IsStill}
use Rattle.fv_loopcode.specs.headline.State.{State, list_at}
use Rattle.fv_loopcode.specs.headline.Obeys.{ObeysStreams}
use Rattle.fv_analysis.specs.headline.Stands.{stand, StandsAt}
use Rattle.fv_analysis.specs.headline.History.{history_of}
use Rattle.fv_split_plan.specs.headline.Separated.{IsSeparated, links_of}
use Rattle.fv_split_plan.specs.headline.Fits.{Names, flows}
use Rattle.fv_split_plan.specs.headline.View.{PlanView, lane_info, cells_info, code_of, roles_of}

-- each lane names one separated signal and has its history, and each separated signal has a lane
pub record LanesStand (g : Graph) (p : PlanView) (names : Names) : Type 0 where
  pub separated : (l : ℕ) → l < length p.lanes → IsSeparated g (names.lane l)
  pub within : (l : ℕ) → l < length p.lanes → names.lane l < length g.signals
  pub apart : (l m : ℕ) → l < length p.lanes → m < length p.lanes → names.lane l ≡ names.lane m → l ≡ m
  pub all : (s : ℕ) → IsSeparated g s → (l : ℕ) × (l < length p.lanes) × (names.lane l ≡ s)
  pub histories : (l : ℕ) → l < length p.lanes → (lane_info p l).history ≡ history_of g (names.lane l)

-- Two lanes have one loop exactly where each of their signals reaches the other. Each loop has a lane, and what a lane's signal
-- reaches has no greater loop.
pub record LoopsStand (g : Graph) (p : PlanView) (names : Names) : Type 0 where
  pub together : (l m : ℕ) → l < length p.lanes → m < length p.lanes →
      ((lane_info p l).owner ≡ (lane_info p m).owner) ↔
      (Reaches (links_of g) (names.lane l) (names.lane m) × Reaches (links_of g) (names.lane m) (names.lane l))
  pub owners : (l : ℕ) → l < length p.lanes → (lane_info p l).owner < p.loops
  pub some : (j : ℕ) → j < p.loops → (l : ℕ) × (l < length p.lanes) × ((lane_info p l).owner ≡ j)
  pub order : (l m : ℕ) → l < length p.lanes → m < length p.lanes → Reaches (links_of g) (names.lane l) (names.lane m) →
      (lane_info p m).owner ≤ (lane_info p l).owner

-- The tables are the graph's. Each cells names one table that is written, whose list it begins with, and belongs to the loop of that
-- signal's lane; and each table that is written has cells.
pub record CellsStand (g : Graph) (p : PlanView) (names : Names) : Type 0 where
  pub tables : p.tables ≡ g.tables
  pub are : (k : ℕ) → k < length p.cells → (w x r : ℕ) × StandsAt g (names.cells k) (signal.Write (cells_info p k).table w x r)
  pub there : (k : ℕ) → k < length p.cells → 0 < length (list_at p.tables (cells_info p k).table)
  pub apart : (k m : ℕ) → k < length p.cells → m < length p.cells → names.cells k ≡ names.cells m → k ≡ m
  pub all : (s table w x r : ℕ) → StandsAt g s (signal.Write table w x r) → (k : ℕ) × (k < length p.cells) × (names.cells k ≡ s)
  pub owners : (k l : ℕ) → k < length p.cells → l < length p.lanes → names.lane l ≡ names.cells k → (cells_info p k).owner ≡ (lane_info p l).owner

-- the state with these tables, and no lanes and no cells
abbrev pub tables_alone : List (List ℤ) → State
tables_alone tables = record { lanes = []; tables = tables; cells = [] }

-- The plan stands for the graph.
pub record PlanStands (g : Graph) (p : PlanView) : Type 0 where
  -- the signal of each lane, with its history, of each held value, and of each cells
  pub names : Names
  pub graph : IsGraph g
  pub lanes : LanesStand g p names
  pub loops : LoopsStand g p names
  pub cells : CellsStand g p names
  pub codes : length p.codes ≡ p.loops
  pub histories : (l : ℕ) → l < length p.lanes → names.history l ≡ (lane_info p l).history
  -- each loop's code obeys the values of the signals of lanes and cells, at each time of each run
  pub obeys : (j : ℕ) → j < p.loops → (X : List Frame) (c : ℕ → Stream) (t : ℕ) →
      ObeysStreams (roles_of p j) names.history (flows g names X c) (λ k. value g (names.held k) X c t) (λ i. column X i t) t (code_of p j)
  -- the held values are the registers of their code, where the controls that it names are those of a time
  pub held : (X : List Frame) (c : ℕ → Stream) (t : ℕ) (controls : ℕ → ℤ) → ((k : ℕ) → NamesHeld p.held k → controls k ≡ c k t) →
      registers_after p.held controls (λ n i. pos 0) 0 1 (tables_alone p.tables) ≡ table (length p.held) (λ k. value g (names.held k) X c t)
  pub counted : names.count ≡ length p.held
  -- the held values are the signals that are slower than the samples
  pub steady : (k : ℕ) → k < length p.held → rate_of g (names.held k) ≢ rate.Sample
  pub all_held : (s : ℕ) → s < length g.signals → rate_of g s ≢ rate.Sample → (k : ℕ) × (k < length p.held) × (names.held k ≡ s)
  -- the lane of each output's signal
  pub outputs : (length p.outputs ≡ length g.outputs) × ((j : ℕ) → j < length g.outputs → names.lane (at p.outputs j) ≡ stand g (at g.outputs j))
  pub ends : (j : ℕ) → j < length g.outputs → (at g.outputs j < length g.signals) × (at p.outputs j < length p.lanes)

-- The told reads are the pairs of different loops of which the first loads a lane of the second, each once, the source lower.
pub record PlanReads (p : PlanView) : Type 0 where
  pub exact : (j i : ℕ) → (reads_loop p.reads j i ≡ true) ↔ ((i ≢ j) × (l : ℕ) × (l < length p.lanes) × ((roles_of p j).loaded l ≡ true)
      × ((lane_info p l).owner ≡ i))
  pub once : (j i : ℕ) → total (λ r. bit ((r.reader == j) && (r.source == i))) p.reads ≤ 1
  pub lower : (j i : ℕ) → reads_loop p.reads j i ≡ true → (i < j) × (j < p.loops)
  pub few : length p.reads ≤ p.loops * p.loops
  -- each loaded lane is there
  pub loaded : (j l : ℕ) → (roles_of p j).loaded l ≡ true → l < length p.lanes

-- the graph names the channel
pub record NamesChannel (g : Graph) (i : ℕ) : Type 0 where
  pub place : ℕ
  pub is : StandsAt g place (signal.Input i)

-- the code of held values reads no sample and no lane
pub record IsHeldCode (steps : List Step) : Type 0 where
  pub still : All IsStill steps
  pub inputs : (i : ℕ) → ¬ NamesInput steps i

-- a load is of a lane that is there, and goes back no further than its history; a read is of a table that is there and has items, and a
-- write of cells that are there
abbrev pub LoadsWithin : PlanView → Step → Type 0
LoadsWithin p (step.Load lane back max) = (lane < length p.lanes) × (max ≤ (lane_info p lane).history)
LoadsWithin p (step.Read table arg) = 0 < length (list_at p.tables table)
LoadsWithin p (step.Write cells args) = cells < length p.cells
LoadsWithin p _ = Unit {0}

-- The codes name only what is there, and go no further back than the histories.
pub record PlanNames (g : Graph) (p : PlanView) : Type 0 where
  pub held : (j k : ℕ) → NamesHeld (code_of p j) k → k < length p.held
  pub inputs : (j i : ℕ) → NamesInput (code_of p j) i → NamesChannel g i
  pub controls : (k : ℕ) → NamesHeld p.held k → NamesControl g k
  pub loads : (j : ℕ) → All (LoadsWithin p) (code_of p j)
  pub held_code : IsHeldCode p.held
  pub held_reads : All (LoadsWithin p) p.held

-- a plan of a graph
pub record IsPlanOf (g : Graph) (p : PlanView) : Type 0 where
  pub stands : PlanStands g p
  pub reads : PlanReads p
  pub names : PlanNames g p
