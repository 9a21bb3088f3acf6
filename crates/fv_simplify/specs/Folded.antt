-- What calls say beside `Folding`: graphs in which signals are read in the place of equal ones (this project's profile).
use Rattle.std.specs.Prelude.{◌≡◌, ℕ, ◌<◌, List, length, map}
use Rattle.fv_num.specs.headline.Frames.{Frame, Stream}
use Rattle.fv_signal.specs.declared.signal.Signal.{Signal}
use Rattle.fv_signal.specs.declared.signal.Signal.TheVariants.{Input, Const, Control, Point, Delay, Back, Member, Read, Write}
use Rattle.fv_signal.specs.headline.Value.{Graph, value, IsGraph}
use Rattle.fv_simplify.specs.Folding.{IsFolding}

-- a folding's images have the values of the signals
abbrev pub FoldedValues : Graph → Type 0
FoldedValues g =
    (image : ℕ → ℕ) → IsGraph g → IsFolding g image → (X : List Frame) (c : ℕ → Stream) (s t : ℕ) → s < length g.signals
    → value g (image s) X c t ≡ value g s X c t

-- a node with the images of its operands
abbrev pub with_images : (ℕ → ℕ) → Signal → Signal
with_images image (Input k) = Input k
with_images image (Const n) = Const n
with_images image (Control k) = Control k
with_images image (Point op args) = Point op (map image args)
with_images image (Delay x d most) = Delay (image x) (image d) most
with_images image (Back group k) = Back group k
with_images image (Member group k) = Member group k
with_images image (Read table r) = Read table (image r)
with_images image (Write table w x r) = Write table (image w) (image x) (image r)

-- the graph whose nodes, definitions and outputs read the images
abbrev pub redirected : Graph → (ℕ → ℕ) → Graph
redirected g image = record {
  signals = map (with_images image) g.signals;
  groups = map (map image) g.groups;
  tables = g.tables;
  outputs = map image g.outputs;
}

-- it is a graph, and its signals have their values
abbrev pub RedirectedIsGraph : Graph → Type 0
RedirectedIsGraph g = (image : ℕ → ℕ) → IsGraph g → IsFolding g image → IsGraph (redirected g image)

abbrev pub RedirectedKeepsValues : Graph → Type 0
RedirectedKeepsValues g =
    (image : ℕ → ℕ) → IsGraph g → IsFolding g image → (X : List Frame) (c : ℕ → Stream) (s t : ℕ) → s < length g.signals
    → value (redirected g image) s X c t ≡ value g s X c t

-- h is g in which the images of a folding are read
pub record IsFoldedOf (g h : Graph) : Type 0 where
  pub image : ℕ → ℕ
  pub folding : IsFolding g image
  pub is : h ≡ redirected g image
