-- The lists of the loops of a block, before any lane is begun (this project's profile).
use Rattle.std.specs.Prelude.{◌≡◌, ℕ, ◌*◌, ◌<◌, ◌≤◌, List, [], length, slice_index, slice_index_or}
use Rattle.std.specs.Vec.{vec_capacity}
use Rattle.std.specs.Global.{Box}
use Rattle.fv_loopcode_machine.specs.Scratches.{IsNew}
use Rattle.fv_split_plan.specs.TasksBeside.{Tasks}
use Rattle.fv_split_plan.specs.headline.View.{PlanView, code_of}
use Rattle.fv_engine_codes.specs.Plans.{own_lanes, sources_of, lanes_of_all, readers_of}
use Rattle.fv_engine_codes.specs.declared.loop_cells.CellPlaces.{CellPlaces}
use Rattle.fv_engine_codes.specs.declared.loop_cells.LoopCells.{LoopCells}
use Rattle.fv_engine_crew.specs.Contents.{list_room, AreRoomy}
use Rattle.fv_engine_crew.specs.declared.content.Writers.{Writers}

-- Empty lists of one loop: room for `own` lanes of its own and for `seen` seen ones, and scratch for `steps` steps. Where more than
-- two lanes are its own, `lists` lists come with it, each with room for them.
pub record IsRoom (own seen steps lists : ℕ) (w : Writers) : Type 0 where
  pub nothing : w.lanes.own.items ≡ []
  pub own_room : own ≤ vec_capacity w.lanes.own
  pub nothing_seen : w.lanes.seen.items ≡ []
  pub seen_room : seen ≤ vec_capacity w.lanes.seen
  pub scratch : IsNew steps w.scratch
  pub lists_are : 3 ≤ own → length w.lists.items ≡ lists
  pub roomy : AreRoomy w.lists.items (list_room own)

-- the cells of loop j, as many as stand at its number
pub record HasCells (p : PlanView) (places : CellPlaces) (j : ℕ) (c : LoopCells) : Type 0 where
  pub plan : c.plan.now ≡ p
  pub places_are : c.places.now ≡ places
  pub loop_no : c.loop_no ≡ j
  pub count : length c.lists.items ≡ slice_index places.counts.items j

-- The lists of each loop: for its lanes and those of the loops that it reads, for the steps of its code, and for its cells. For
-- each vector there are as many as loops read it.
pub record AreRooms (p : PlanView) (g : Tasks) (places : CellPlaces) (ws : List (Box Writers)) : Type 0 where
  pub count : length ws ≡ p.loops
  pub each : (j : ℕ) (d : Box Writers) → j < p.loops
      → IsRoom (length (own_lanes p j)) (length (lanes_of_all p (sources_of g j))) (length (code_of p j)) (g.vectors * readers_of g j)
      (slice_index_or ws j d).value
  pub cells : (j : ℕ) (d : Box Writers) → j < p.loops → HasCells p places j (slice_index_or ws j d).value.lanes.cells
