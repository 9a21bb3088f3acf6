-- What is played (this project's profile).
use Rattle.std.specs.Prelude.{ℕ, ◌<◌, List, All}
use Rattle.fv_diagram.specs.headline.Diagram.{Diagram}
use Rattle.fv_diagram.specs.Arena.{Arena, count_of, tree_of}
use Rattle.fv_diagram.specs.Diagram.{IsWellFormed, HasNoFreeSlot}
use Rattle.fv_diagram.specs.declared.control.ControlInfo.{ControlInfo}
use Rattle.fv_diagram.specs.Controls.{IsBounded}
use Rattle.fv_interval.specs.headline.Controls.{spans_of}
use Rattle.fv_interval.specs.headline.Delays.{delays_of}
use Rattle.fv_interval.specs.Delays.{AreAccepted}

-- a diagram by its number among others, its controls, and the delays that it has
pub record SourceView : Type 0 where
  pub diagrams : Arena
  pub root : ℕ
  pub controls : List ControlInfo
  pub delays : List ℕ

-- the diagram
abbrev pub diagram_in : SourceView → Diagram
diagram_in s = tree_of s.diagrams s.root

-- The diagram is put together so that it fits, and each of its slots is bound; the controls begin between their bounds; and these are
-- the diagram's delays, none of which is refused.
pub record IsSource (s : SourceView) : Type 0 where
  pub there : s.root < count_of s.diagrams
  pub well : IsWellFormed (diagram_in s)
  pub closed : HasNoFreeSlot (diagram_in s)
  pub bounded : All IsBounded s.controls
  pub accepted : AreAccepted (delays_of (diagram_in s) (spans_of s.controls)) s.delays
