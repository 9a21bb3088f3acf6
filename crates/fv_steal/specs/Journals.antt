-- The lines of all workers together are the journal of the block (this project's profile).
use Rattle.std.specs.Prelude.{◌≡◌, ℕ, ◌<◌, List, map, length, All}
use Rattle.std.specs.List.{flat_map}
use Rattle.std.specs.List.Sorted.{IsPermutation, IsNonDecreasingBy}
use Rattle.fv_outside.specs.headline.Tasks.{Tasks}
use Rattle.fv_outside.specs.Tasks.{task_count}
use Rattle.fv_outside.specs.headline.Journal.{IsOrdered}
use Rattle.fv_outside.specs.declared.gate.Line.{Line}
use Rattle.fv_graph.specs.Graph.{IsGraph, net_of}
use Rattle.fv_ready.specs.Rule.{finishes}
use Rattle.fv_ready.specs.Promised.{Tells}
use Rattle.fv_ready.specs.Counted.{told_by}
use Rattle.fv_steal.specs.declared.worker.Worker.{Worker}
use Rattle.fv_steal.specs.Crews.{did, number_of, seat_of, lines_of, IsJournalOf}

-- What is known of a crew whose board is closed with every task done: what the rule says of its seats' lists, and that each worker's
-- lines are those of its seat.
pub record AreThrough {C : Type 0} (g : Tasks) (ws : List (Worker C)) : Type 0 where
  pub tells : Tells (net_of g) (λ f. told_by f (map seat_of ws))
  pub done : (t : ℕ) → t < task_count g → told_by (finishes t) (map seat_of ws) ≡ 1
  pub journals : All (λ w. IsJournalOf g (number_of w) (did w) (lines_of w)) ws

-- these are the lines of all workers, sorted by their starts
pub record AreSortedLines {C : Type 0} (ws : List (Worker C)) (lines : List Line) : Type 0 where
  pub permutation : IsPermutation (flat_map lines_of ws) lines
  pub starts : IsNonDecreasingBy (λ (line : Line). line.start) lines

-- then these are the ordered journal, with as many lines as tasks
abbrev pub JournalLaw : Type 0 → Type 0
JournalLaw C = (g : Tasks) (ws : List (Worker C)) (lines : List Line) → IsGraph g → AreThrough g ws → AreSortedLines ws lines
    → IsOrdered g lines × (length lines ≡ task_count g)

-- then they are as many as tasks, in whatever order
abbrev pub CountLaw : Type 0 → Type 0
CountLaw C = (g : Tasks) (ws : List (Worker C)) → IsGraph g → AreThrough g ws → length (flat_map lines_of ws) ≡ task_count g
