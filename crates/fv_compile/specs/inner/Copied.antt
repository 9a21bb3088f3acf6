-- A graph that is copied after others (this project's profile).
use Rattle.std.specs.Prelude.{◌≡◌, ℕ, ◌+◌, ◌<◌, ◌≤◌, ◌^◌, List, [], ◌++◌, ℤ, length, map, All, pos, slice_index_or}
use Rattle.fv_base.specs.headline.Lists.{IsPrefixOf}
use Rattle.fv_base.specs.headline.Lists.{at}
use Rattle.fv_analysis.specs.headline.Stands.{node}
use Rattle.fv_signal.specs.declared.signal.Signal.{Signal}
use Rattle.fv_signal.specs.declared.signal.Signal.TheVariants.{Input, Const, Control, Point, Delay, Back, Member, Read, Write}
use Rattle.fv_signal.specs.headline.Value.{Graph, members, definition, table_of, IsGraph}
use Rattle.fv_share.specs.Drafts.{Draft, AreClosed, BacksWithin, put, graph_of}
use Rattle.fv_compile.specs.declared.graph_copy.Offsets.{Offsets}

-- a signal over the images of its operands, with its numbers after those that stand before
abbrev pub renumbered : (p : ℕ → ℕ) → Offsets → Signal → Signal
renumbered p o (Input k) = Input (o.inputs + k)
renumbered p o (Const n) = Const n
renumbered p o (Control k) = Control (o.controls + k)
renumbered p o (Point op args) = Point op (map p args)
renumbered p o (Delay x d max) = Delay (p x) (p d) max
renumbered p o (Back group k) = Back (o.groups + group) k
renumbered p o (Member group k) = Member (o.groups + group) k
renumbered p o (Read table r) = Read (o.tables + table) (p r)
renumbered p o (Write table w x r) = Write (o.tables + table) (p w) (p x) (p r)

-- the signal's numbers fit after those that stand before
abbrev pub NumbersFit : Offsets → Signal → Type 0
NumbersFit o (Input k) = o.inputs + k < 2 ^ 64
NumbersFit o (Const n) = Unit {0}
NumbersFit o (Control k) = o.controls + k < 2 ^ 32
NumbersFit o (Point op args) = Unit {0}
NumbersFit o (Delay x d max) = Unit {0}
NumbersFit o (Back group k) = o.groups + group < 2 ^ 64
NumbersFit o (Member group k) = o.groups + group < 2 ^ 64
NumbersFit o (Read table r) = o.tables + table < 2 ^ 64
NumbersFit o (Write table w x r) = o.tables + table < 2 ^ 64

-- the numbers of each signal fit after those that stand before
abbrev pub HaveRoom : Offsets → Graph → Type 0
HaveRoom o g = (s : ℕ) (d : Signal) → s < length g.signals → NumbersFit o (slice_index_or g.signals s d)

-- what is put for a signal of g: the signal renumbered, and for a member nothing, since its definition has an image
abbrev pub copy_of : (g : Graph) → (p : ℕ → ℕ) → Offsets → Draft → Signal → ℕ × Draft
copy_of g p o d (Input k) = put d (renumbered p o (Input k))
copy_of g p o d (Const n) = put d (renumbered p o (Const n))
copy_of g p o d (Control k) = put d (renumbered p o (Control k))
copy_of g p o d (Point op args) = put d (renumbered p o (Point op args))
copy_of g p o d (Delay x y max) = put d (renumbered p o (Delay x y max))
copy_of g p o d (Back group k) = put d (renumbered p o (Back group k))
copy_of g p o d (Member group k) = (p (definition g group k), d)
copy_of g p o d (Read table r) = put d (renumbered p o (Read table r))
copy_of g p o d (Write table w x r) = put d (renumbered p o (Write table w x r))

-- the images of the definitions of each group's members
abbrev pub definitions_of : Graph → (p : ℕ → ℕ) → List (List ℕ)
definitions_of g p = map (λ ms. map p ms) g.groups

-- the image among the signals ss of a signal of g
abbrev pub IsImage : (g : Graph) → (ss : List Signal) → (p : ℕ → ℕ) → Offsets → Signal → (image : ℕ) → Type 0
IsImage g ss p o (Input k) image = slice_index_or ss image (Const (pos 0)) ≡ renumbered p o (Input k)
IsImage g ss p o (Const n) image = slice_index_or ss image (Const (pos 0)) ≡ renumbered p o (Const n)
IsImage g ss p o (Control k) image = slice_index_or ss image (Const (pos 0)) ≡ renumbered p o (Control k)
IsImage g ss p o (Point op args) image = slice_index_or ss image (Const (pos 0)) ≡ renumbered p o (Point op args)
IsImage g ss p o (Delay x d max) image = slice_index_or ss image (Const (pos 0)) ≡ renumbered p o (Delay x d max)
IsImage g ss p o (Back group k) image = slice_index_or ss image (Const (pos 0)) ≡ renumbered p o (Back group k)
IsImage g ss p o (Member group k) image = image ≡ p (definition g group k)
IsImage g ss p o (Read table r) image = slice_index_or ss image (Const (pos 0)) ≡ renumbered p o (Read table r)
IsImage g ss p o (Write table w x r) image = slice_index_or ss image (Const (pos 0)) ≡ renumbered p o (Write table w x r)

-- a signal is one of the first n of g, renumbered
pub record IsOneOf (g : Graph) (o : Offsets) (n : ℕ) (signal : Signal) : Type 0 where
  pub place : ℕ
  pub within : place < n
  pub images : ℕ → ℕ
  pub is : signal ≡ renumbered images o (node g place)

-- each group has its mark, and no Back names a group that is still to come
pub record IsValid (d : Draft) : Type 0 where
  pub marked : length d.closed ≡ length d.groups
  pub fresh : (k : ℕ) → length d.groups ≤ k → BacksWithin d k 0

-- the first n signals of g have images, and nothing else came to the draft
pub record IsUnderWay (g : Graph) (o : Offsets) (n : ℕ) (old new : Draft) (images : List ℕ) : Type 0 where
  pub whole : IsGraph g
  pub long : length images ≡ n
  pub grows : IsPrefixOf old.signals new.signals
  pub groups : new.groups ≡ old.groups
  pub closed : new.closed ≡ old.closed
  pub tables : new.tables ≡ old.tables
  pub there : All (λ a. a < length new.signals) images
  pub copies : (s : ℕ) → s < n → IsImage g new.signals (at images) o (node g s) (at images s)
  pub made : (i : ℕ) → length old.signals ≤ i → i < length new.signals → IsOneOf g o n (slice_index_or new.signals i (Const (pos 0)))

-- the tables of g stand among others, from number first on
abbrev pub AreListed : Graph → (first : ℕ) → (tables : List (List ℤ)) → Type 0
AreListed g first tables = (t : ℕ) → 0 < length (table_of g t) → slice_index_or tables (first + t) [] ≡ table_of g t

-- g stands in f, with these images
pub record IsCopied (g f : Graph) (p : ℕ → ℕ) (o : Offsets) : Type 0 where
  pub there : (s : ℕ) → s < length g.signals → p s < length f.signals
  pub copies : (s : ℕ) → s < length g.signals → IsImage g f.signals p o (node g s) (p s)
  pub groups : (group : ℕ) → group < length g.groups → o.groups + group < length f.groups
  pub definitions : (group k : ℕ) → group < length g.groups → k < length (members g group) → definition f (o.groups + group) k ≡ p (definition g group k)
  pub tables : AreListed g o.tables f.tables

-- the numbers after these inputs and controls, and after the groups and tables of a draft
abbrev pub offsets_behind : (inputs controls : ℕ) → Draft → Offsets
offsets_behind inputs controls d = record { inputs = inputs; controls = controls; groups = length d.groups; tables = length d.tables }

-- g is copied into a draft after what is there, where these inputs and controls stand before; its outputs' images
pub record IsAppended (g : Graph) (inputs controls : ℕ) (old new : Draft) (outs : List ℕ) : Type 0 where
  pub whole : IsGraph g
  pub grows : IsPrefixOf old.signals new.signals
  pub more : length old.groups ≤ length new.groups
  pub groups : (k : ℕ) → k < length old.groups → slice_index_or new.groups k [] ≡ slice_index_or old.groups k []
  pub tables : new.tables ≡ old.tables ++ g.tables
  pub closed : AreClosed old → AreClosed new
  pub valid : IsValid new
  pub images : ℕ → ℕ
  pub outputs : outs ≡ map images g.outputs
  pub copied : IsCopied g (graph_of new []) images (offsets_behind inputs controls old)
  pub made : (i : ℕ) → length old.signals ≤ i → i < length new.signals →
      IsOneOf g (offsets_behind inputs controls old) (length g.signals) (slice_index_or new.signals i (Const (pos 0)))
