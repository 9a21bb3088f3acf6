-- What a crew is handed, and what it leaves.
use Rattle.std.specs.Prelude.{◌≡◌, ◌*◌, ◌<◌, ◌≤◌, List, [], length, All, true, false, ℤ}
use Rattle.std.specs.Vec.{vec_capacity}
use Rattle.fv_outside.specs.Tasks.{task_count}
use Rattle.fv_outside.specs.declared.gate.Line.{Line}
use Rattle.fv_lines.specs.Solo.{AreHeld}
use Rattle.fv_lines.specs.declared.shape.LaneShape.{LaneShape}
use Rattle.fv_lines.specs.Cut.{lengths_by}
use Rattle.fv_split_plan.specs.Rows.{lists_of}
use Rattle.fv_engine_crew.specs.declared.block.SpreadBlock.{SpreadBlock}
use Rattle.fv_engine_crew.specs.declared.lent.Pack.{Pack}
use Rattle.fv_engine_crew.specs.Ran.{Ran}
use Rattle.fv_engine_crew.specs.Spread.{block_in, tasks_of, IsSpread, MayRunOver, opening_of, HoldAsBefore}

-- the block that a crew is handed
abbrev pub block_with : Pack → SpreadBlock
block_with p = p.block.now

abbrev pub shapes_with : Pack → List LaneShape
shapes_with p = (block_with p).shapes.now

-- a block that may be run over these cells, and has not
pub record MayUse (p : Pack) (cells : List ℤ) : Type 0 where
  pub spread : IsSpread (block_with p)
  pub over : MayRunOver (block_with p) p.states.now cells p.lists.now.items
  pub none : p.lines.now.items ≡ []
  pub room : task_count (tasks_of (block_with p)) ≤ vec_capacity p.lines.now
  pub output : length p.output.now ≡ (block_with p).frames * length (block_with p).plan.now.outputs
  pub not_yet : p.ran ≡ false

-- it was run, or all is as it was
pub record Leaves (old new : Pack) (before after : List ℤ) : Type 0 where
  pub states_are : new.states.ghost_name ≡ old.states.ghost_name
  pub lines_are : new.lines.ghost_name ≡ old.lines.ghost_name
  pub output_is : new.output.ghost_name ≡ old.output.ghost_name
  pub lists_are : new.lists.ghost_name ≡ old.lists.ghost_name
  pub kept_is : new.kept.ghost_name ≡ old.kept.ghost_name
  pub ran : new.ran ≡ true → Ran (tasks_of (block_with old)) (block_in (block_with old)) (lengths_by (shapes_with old)) (shapes_with old)
      (opening_of (block_with old) old.states.now before old.lists.now.items) after new.states.now new.lists.now.items new.lines.now.items
      (block_with old).plan.now.outputs new.output.now
  pub who : new.ran ≡ true → All (λ (line : Line). line.worker < (block_with old).workers) new.lines.now.items
  pub left : new.ran ≡ false → HoldAsBefore (shapes_with old) old.states.now before new.states.now after
  pub lists_left : new.ran ≡ false → lists_of new.lists.now.items ≡ lists_of old.lists.now.items
  pub untold : new.ran ≡ false → new.lines.now.items ≡ []
  pub silent : new.ran ≡ false → new.output.now ≡ old.output.now
  pub lanes : AreHeld (lengths_by (shapes_with old)) (shapes_with old) new.states.now
  pub room : vec_capacity old.lines.now ≤ vec_capacity new.lines.now
