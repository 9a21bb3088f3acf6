-- Lists of cells that change places with those of their loops (this project's profile).
use Rattle.std.specs.Prelude.{◌≡◌, ℕ, ◌<◌, ◌≤◌, List, [], length, map, slice_index, slice_index_or, Vec, ℤ}
use Rattle.std.specs.declared.alloc.Global.{Global}
use Rattle.std.specs.Global.{Box}
use Rattle.fv_loopcode_machine.specs.State.{list_at}
use Rattle.fv_split_plan.specs.headline.View.{PlanView, cells_info}
use Rattle.fv_split_plan.specs.Rows.{lists_of}
use Rattle.fv_engine_crew.specs.declared.content.Writers.{Writers}

-- all is as it was but the lists of cells, which are as many
pub record SameButCells (old new : Writers) : Type 0 where
  pub own : new.lanes.own ≡ old.lanes.own
  pub seen : new.lanes.seen ≡ old.lanes.seen
  pub plan : new.lanes.cells.plan ≡ old.lanes.cells.plan
  pub places : new.lanes.cells.places ≡ old.lanes.cells.places
  pub loop_no : new.lanes.cells.loop_no ≡ old.lanes.cells.loop_no
  pub count : length new.lanes.cells.lists.items ≡ length old.lanes.cells.lists.items
  pub scratch : new.scratch ≡ old.scratch
  pub lists : new.lists ≡ old.lists

-- each loop has writers, with as many lists of cells as stand at its number
pub record HaveSlots (p : PlanView) (counts : List ℕ) (ws : List (Box Writers)) : Type 0 where
  pub loops : length ws ≡ p.loops
  pub each : (j : ℕ) (d : Box Writers) → j < p.loops → slice_index counts j ≤ length (slice_index_or ws j d).value.lanes.cells.lists.items

-- a loop's lists of cells
abbrev pub cells_in : Box Writers → List (List ℤ)
cells_in w = lists_of w.value.lanes.cells.lists.items

-- the list that stands for cells k in its loop's writers
abbrev pub slot : PlanView → (places : List ℕ) → List (Box Writers) → ℕ → List ℤ
slot p places ws k = list_at (slice_index_or (map cells_in ws) (cells_info p k).owner []) (slice_index places k)

-- each list has changed places with that in its slot
pub record AreSwapped (p : PlanView) (places : List ℕ) (before after : List (Vec ℤ Global)) (old new : List (Box Writers)) : Type 0 where
  pub lists : length after ≡ length before
  pub count : length new ≡ length old
  pub taken : (k : ℕ) → k < length p.cells → list_at (lists_of after) k ≡ slot p places old k
  pub given : (k : ℕ) → k < length p.cells → slot p places new k ≡ list_at (lists_of before) k
  pub rest : (j : ℕ) (d : Box Writers) → j < length old → SameButCells (slice_index_or old j d).value (slice_index_or new j d).value
