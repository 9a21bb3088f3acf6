-- What a graph keeps in which equal signals are read as one (this project's profile).
use Rattle.std.specs.Prelude.{◌≡◌, ℕ, ◌<◌, ◌≤◌, List, length, slice_index_or, Bool}
use Rattle.fv_num.specs.headline.Frames.{Frame, Stream}
use Rattle.fv_signal.specs.declared.signal.Signal.TheVariants.{Input, Control}
use Rattle.fv_signal.specs.headline.Value.{Graph, value, AreAtMost, IsGraph}
use Rattle.fv_signal.specs.Value.{StayWithin}
use Rattle.fv_simplify.specs.Nodes.{StandsAt}
use Rattle.fv_simplify.specs.Reducible.{limit, reach}
use Rattle.fv_simplify.specs.Rebuilt.{IsMarked, IsFolded}
use Rattle.fv_simplify.specs.Folding.{IsFolding}
use Rattle.fv_simplify.specs.Folded.{redirected}

-- h has g's outputs, and keeps what matters of its signals
pub record KeepsAll (g h : Graph) : Type 0 where
  pub graph : IsGraph h
  pub width : length h.outputs ≡ length g.outputs
  pub values : (X : List Frame) (c : ℕ → Stream) (j t : ℕ) → j < length g.outputs
      → value h (slice_index_or h.outputs j 0) X c t ≡ value g (slice_index_or g.outputs j 0) X c t
  pub reach : reach h ≤ reach g
  pub within : (X : List Frame) (c : ℕ → Stream) → StayWithin g X c → StayWithin h X c
  pub short : AreAtMost limit g → AreAtMost limit h
  pub inputs : (s k : ℕ) → StandsAt h s (Input k) → StandsAt g s (Input k)
  pub controls : (s k : ℕ) → StandsAt h s (Control k) → StandsAt g s (Control k)
  pub tables : h.tables ≡ g.tables
  -- where numbers decide nothing more, they still do not
  pub folded : (marks : List Bool) → IsFolded g (IsMarked marks) → IsFolded h (IsMarked marks)

-- so it is with each folding
abbrev pub RedirectedKeepsAll : Graph → Type 0
RedirectedKeepsAll g = (image : ℕ → ℕ) → IsGraph g → IsFolding g image → KeepsAll g (redirected g image)
