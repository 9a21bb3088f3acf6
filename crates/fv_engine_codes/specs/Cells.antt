-- The cells of a plan, which lie in lists of its loops (this project's profile).
use Rattle.std.specs.Prelude.{◌≡◌, ℕ, ◌<◌, List, [], length, slice_index, ℤ, ◌==◌, if◌then◌else◌}
use Rattle.fv_base.specs.headline.Lists.{table}
use Rattle.fv_loopcode.specs.headline.State.{list_at}
use Rattle.fv_split_plan.specs.Rows.{lists_of}
use Rattle.fv_split_plan.specs.headline.View.{PlanView, cells_info}
use Rattle.fv_engine_codes.specs.declared.loop_cells.LoopCells.{LoopCells}

-- all cells have places in the lists of their loops, each its own: loop j has as many lists as stand at j
pub record ArePlaced (p : PlanView) (places counts : List ℕ) : Type 0 where
  pub count : length places ≡ length p.cells
  pub loops : length counts ≡ p.loops
  pub below : (k : ℕ) → k < length p.cells → slice_index places k < slice_index counts (cells_info p k).owner
  pub apart : (k m : ℕ) → k < length p.cells → m < length p.cells → (cells_info p k).owner ≡ (cells_info p m).owner
      → slice_index places k ≡ slice_index places m → k ≡ m

-- the cells by their numbers, where one loop alone has lists: those of other loops have no items
abbrev pub by_number : PlanView → (places : List ℕ) → (loop_no : ℕ) → (lists : List (List ℤ)) → List (List ℤ)
by_number p places j lists = table (length p.cells) (λ k. if (cells_info p k).owner == j then list_at lists (slice_index places k) else [])

-- the cells of one loop by their numbers
abbrev pub cells_of : LoopCells → List (List ℤ)
cells_of s = by_number s.plan.now s.places.now.places.items s.loop_no (lists_of s.lists.items)

-- they have places
abbrev pub AreCellsPlaced : LoopCells → Type 0
AreCellsPlaced s = ArePlaced s.plan.now s.places.now.places.items s.places.now.counts.items
