-- The cells of the tables that are written.
use Rattle.std.specs.Prelude.{◌≡◌, ℕ, ◌<◌, List, [], ◌∷◌, ◌++◌, length, slice_index_or, Option, None, Some}
use Rattle.fv_signal.specs.declared.signal.Signal.{Signal}
use Rattle.fv_signal.specs.declared.signal.Signal.TheVariants as signal
use Rattle.fv_signal.specs.headline.Value.{Graph}
use Rattle.fv_components.specs.headline.Reach.{at}
use Rattle.fv_analysis.specs.headline.Stands.{node}
use Rattle.fv_split_plan.specs.declared.lane.CellsInfo.{CellsInfo}
use Rattle.fv_split_plan.specs.Separated.{IsWritten, cells_at}
use Rattle.fv_split.specs.declared.cells.Cells.{Cells}

-- the table that a node writes, if it writes one
abbrev pub table_written : Signal → Option ℕ
table_written (signal.Input i) = None
table_written (signal.Const n) = None
table_written (signal.Control k) = None
table_written (signal.Point op args) = None
table_written (signal.Delay x d max) = None
table_written (signal.Back group i) = None
table_written (signal.Member group i) = None
table_written (signal.Read table r) = None
table_written (signal.Write table w x r) = Some table

-- one signal more, without cells
pub record AddsNone (old new : Cells) : Type 0 where
  pub numbers : new.numbers.items ≡ old.numbers.items ++ None ∷ []
  pub infos : new.infos.items ≡ old.infos.items

-- one signal more, with cells of its own
pub record AddsOwn (old : Cells) (table owner : ℕ) (new : Cells) : Type 0 where
  pub numbers : new.numbers.items ≡ old.numbers.items ++ Some (length old.infos.items) ∷ []
  pub infos : new.infos.items ≡ old.infos.items ++ record { owner = owner; table = table } ∷ []

-- the one or the other
abbrev pub AddsCells : Cells → (table : Option ℕ) → (owner : ℕ) → Cells → Type 0
AddsCells old None owner new = AddsNone old new
AddsCells old (Some table) owner new = AddsOwn old table owner new

-- the loop and the table of cells
abbrev pub info_at : List CellsInfo → ℕ → CellsInfo
info_at infos k = slice_index_or infos k (record { owner = 0; table = 0 })

-- the cells are those of signal s: of the loop where it is at home, and of the table that it writes
pub record AreOf (g : Graph) (homes : List ℕ) (s : ℕ) (info : CellsInfo) : Type 0 where
  pub owner : info.owner ≡ at homes s
  pub writes : (w x r : ℕ) × (node g s ≡ signal.Write info.table w x r)

-- The tables that are written among the first n signals have cells, each its own.
pub record AreCells (g : Graph) (homes : List ℕ) (n : ℕ) (cells : Cells) : Type 0 where
  pub signals : List ℕ
  pub long : length cells.numbers.items ≡ n
  pub counted : length cells.infos.items ≡ length signals
  pub has : (s k : ℕ) → cells_at cells.numbers.items s ≡ Some k → (k < length signals) × (at signals k ≡ s)
  pub named : (k : ℕ) → k < length signals → (at signals k < n) × (cells_at cells.numbers.items (at signals k) ≡ Some k)
  pub all : (s : ℕ) → s < n → IsWritten (node g s) → (k : ℕ) × (cells_at cells.numbers.items s ≡ Some k)
  pub are : (k : ℕ) → k < length signals → AreOf g homes (at signals k) (info_at cells.infos.items k)
