-- A whole pass over a graph (this project's profile).
use Rattle.std.specs.Prelude.{◌≡◌, ℕ, List, [], ◌∷◌, ◌++◌, ◌<◌, length, take, map, All, slice_index_or, Bool, false, if◌then◌else◌, Option, pos}
use Rattle.fv_base.specs.headline.Lists.{table}
use Rattle.fv_signal.specs.declared.signal.Signal.{Signal}
use Rattle.fv_signal.specs.declared.signal.Signal.TheVariants.{Const, Back}
use Rattle.fv_signal.specs.headline.Value.{Graph, members, IsGraph}
use Rattle.fv_signal.specs.Value.{AreClosedSet}
use Rattle.fv_share.specs.Drafts.{Draft, put, with_groups, with_tables, with_all_members, graph_of}
use Rattle.fv_simplify.specs.Rebuilt.{IsMarked, IsRebuilt}
use Rattle.fv_simplify.specs.Passing.{image_of, HasWidth}

-- the draft, and the images of the signals so far
pub record Pass : Type 0 where
  pub draft : Draft
  pub images : List ℕ

-- one signal more: one that is not marked has the image 0
abbrev pub step : Graph → (marks : List Bool) → (room : ℕ → Option ℕ) → Pass → Signal → Pass
step g marks room s n =
    if slice_index_or marks (length s.images) false then (let r = image_of g s.images room s.draft n in record { draft = r.1; images = s.images ++ r.0 ∷ [] })
    else record { draft = s.draft; images = s.images ++ 0 ∷ [] }

abbrev pub steps : Graph → List Bool → (ℕ → Option ℕ) → Pass → List Signal → Pass
steps g marks room s [] = s
steps g marks room s (n ∷ ns) = steps g marks room (step g marks room s n) ns

-- the images of the members of each group, as many as are named
abbrev pub definitions : Graph → (widths images : List ℕ) → List (List ℕ)
definitions g widths images = table (length g.groups) (λ n. map (λ r. slice_index_or images r 0) (take (slice_index_or widths n 0) (members g n)))

-- no signals
abbrev pub nothing : Draft
nothing = record { signals = []; groups = []; closed = []; tables = [] }

-- the pass after the number 0, with all groups open, and the tables
abbrev pub begun : Graph → Pass
begun g = record { draft = (put (with_tables (with_groups nothing (length g.groups)) g.tables) (Const (pos 0))).1; images = [] }

abbrev pub passed : Graph → List Bool → (ℕ → Option ℕ) → Pass
passed g marks room = steps g marks room (begun g) g.signals

-- what it makes of a graph
abbrev pub rebuilt : Graph → List Bool → (widths : List ℕ) → (ℕ → Option ℕ) → Graph
rebuilt g marks widths room =
    let s = passed g marks room in
    graph_of (with_all_members s.draft 0 (definitions g widths s.images)) (map (λ r. slice_index_or s.images r 0) g.outputs)

-- the widths say how many members of each group marked Backs among the first n signals name, and these members are there
abbrev pub AreNamed : Graph → (marks : List Bool) → (widths : List ℕ) → (n : ℕ) → Type 0
AreNamed g marks widths n =
    (s group k : ℕ) → s < n → IsMarked marks s → slice_index_or g.signals s (Const (pos 0)) ≡ Back group k →
    (group < length g.groups) × (k < slice_index_or widths group 0) × (k < length (members g group))

-- The marks are closed: what marked signals read is marked, and so are the outputs; the widths say how many members of each
-- group marked Backs name, all of which are there; and operations have their arguments.
pub record AreGood (g : Graph) (marks : List Bool) (widths : List ℕ) : Type 0 where
  pub reads : AreClosedSet g (IsMarked marks)
  pub outputs : All (IsMarked marks) g.outputs
  pub named : AreNamed g marks widths (length g.signals)
  pub wide : (s : ℕ) → s < length g.signals → HasWidth (slice_index_or g.signals s (Const (pos 0)))

-- a pass over a graph rebuilds it
abbrev pub PassRebuilds : Graph → Type 0
PassRebuilds g =
    (marks : List Bool) (widths : List ℕ) (room : ℕ → Option ℕ) → IsGraph g → AreGood g marks widths → IsGraph (rebuilt g marks widths room) →
    IsRebuilt g (rebuilt g marks widths room) (λ a. slice_index_or (passed g marks room).images a 0) room (IsMarked marks)
