-- Parcels may go to another thread, and threads may share the body.
use Rattle.std.specs.Prelude.{ℕ, ◌+◌, List, [], ◌∷◌}
use lib.IntN.{ℤ}
use base.Fml.{Lft, GName}
use base.Fraction.{full_share}
use base.Shift.{Keyless}
use types.SemTy.{cells}
use denote.Memory.{mem}
use denote.Builtin.{i32}
use denote.RawPtr.{Ptr, block_ptr, null_ptr}
use denote.Ref.{NamedLft}
use denote.Enum.Declared as E
use denote.Param.Send.{IsSend, IsSync, sendable, recorded_sync, enum_sync, owning_send, AllSend, part_keyless}
use denote.Param.SendFields.{declared_send, declared_sync}
use denote.Struct.Owning.{fields}
use Rattle.std.proofs.Crossing.{crosses}
use Rattle.fv_num.specs.contracts.op.Op as op
use Rattle.fv_pool.specs.Cells.{cells_owned}
use Rattle.fv_pool.specs.contracts.cells.Cells as cells_of
use Rattle.fv_pool.specs.contracts.loan.Link as link
use Rattle.fv_pool.specs.contracts.loan.Halves as halves
use Rattle.fv_loopcode.specs.contracts.step.Step as step
use Rattle.fv_loopcode_steps.specs.contracts.action.Pair as pair
use Rattle.fv_loopcode_steps.specs.contracts.action.Action as cycle_action
use Rattle.fv_loopcode_steps.specs.contracts.operation.Operation as operation
use Rattle.fv_components.specs.contracts.packed.Rows as rows
use Rattle.fv_loopcode_machine.specs.contracts.cycles.Cycle as cycle
use Rattle.fv_loopcode_machine.specs.contracts.cycles.Cycles as cycles
use Rattle.fv_loopcode_machine.specs.contracts.places.Visit as visit
use Rattle.fv_loopcode_machine.specs.contracts.schedule.Schedule as schedule
use Rattle.fv_loopcode_machine.specs.contracts.scratch.Scratch as scratch
use Rattle.fv_loopcode_machine.specs.contracts.code.Code as code
use Rattle.fv_loopcode_machine.specs.contracts.code.Code.TheInside as inside
use Rattle.fv_lines.specs.contracts.row.Row as row
use Rattle.fv_lines.specs.contracts.shape.LaneShape as lane_shape
use Rattle.fv_lines.specs.contracts.writer.LaneWriter as writer
use Rattle.fv_lines.specs.contracts.seen.Seen as seen
use Rattle.fv_engine_codes.specs.contracts.loop_cells.LoopCells as loop_cells
use Rattle.fv_engine_codes.specs.contracts.loop_lanes.LoopLanes as lanes
use Rattle.fv_engine_crew.specs.contracts.content.Writers as writers
use Rattle.fv_engine_crew.specs.contracts.content.SeenLanes as seen_lanes
use Rattle.fv_engine_crew.specs.contracts.content.Content as content
use Rattle.fv_engine_crew.specs.contracts.parcel.LoopParcel as parcel
use Rattle.fv_engine_crew.specs.contracts.body.LoopBody as body

numbers : (ws : List ℤ) (b o : ℕ) → Keyless (cells (mem i32) ws b o)
numbers [] b o = tt
numbers (w ∷ ws) b o = (part_keyless i32 (search sendable) full_share w b o, numbers ws b (o + 4))

keyless : (κ : Lft) (p : Ptr) (γ : GName) (xs : List ℤ) → Keyless (cells_owned κ p γ xs)
keyless κ (block_ptr b o) γ xs = ((tt, tt), (tt, λ ws. ((tt, numbers ws b o), tt)))
keyless κ null_ptr γ xs = tt

cells_send : (a : NamedLft) → IsSend (cells_of.the_row a)
cells_send a =
    let O = cells_of.the_type a in let all : AllSend (fields O) = (search sendable, (search sendable, tt)) in
    owning_send O all (λ d. keyless a.lft d.at d.name d.items) (λ k x w. tt)

link_send : IsSend link.the_row
link_send = owning_send link.the_type tt (λ d ws. (tt, tt)) (λ k x w. tt)

halves_send : IsSend halves.the_row
halves_send = owning_send halves.the_type tt (λ d w. ((tt, tt), tt)) (λ k x w. tt)

row_send : (a : NamedLft) → IsSend (row.the_row a)
row_send a = declared_send (row.the_type a) (search sendable, (cells_send a, (search sendable, (link_send, tt))))

shape_send : IsSend lane_shape.the_row
shape_send = declared_send lane_shape.the_type (search sendable, (search sendable, (search sendable, (search sendable, tt))))

writer_send : (a : NamedLft) → IsSend (writer.the_row a)
writer_send a = declared_send (writer.the_type a)
    (row_send a, (row_send a, (halves_send, (halves_send, (shape_send, (search sendable, (search sendable, tt)))))))

seen_send : (a : NamedLft) → IsSend (seen.the_row a)
seen_send a = search (sendable, crosses) depth 24

op_sync : IsSync (op.the_field).row
op_sync = search sendable depth 60

step_sync : IsSync step.the_row
step_sync = recorded_sync _ _ _ (step.the_type).to_one (enum_sync (E.shape step.the_type) (
  (search sendable, tt),
  (
    (search sendable, tt),
    (
      (search sendable, tt),
      (
        (op_sync, (search sendable, tt)),
        (
          (search sendable, (search sendable, (search sendable, tt))),
          ((search sendable, (search sendable, tt)), ((search sendable, (search sendable, tt)), ((search sendable, (search sendable, tt)), tt))),
        ),
      ),
    ),
  ),
))

pair_sync : IsSync (pair.the_field).row
pair_sync = search sendable depth 24

-- eighteen operations, two actions of a lane, and one that says nothing
cycle_action_sync : IsSync (cycle_action.the_field).row
cycle_action_sync = enum_sync (E.shape cycle_action.the_type) ((
  (pair_sync, tt),
  (
    (pair_sync, tt),
    (
      (pair_sync, tt),
      (
        (pair_sync, tt),
        (
          (pair_sync, tt),
          (
            (pair_sync, tt),
            (
              (pair_sync, tt),
              (
                (pair_sync, tt),
                (
                  (pair_sync, tt),
                  (
                    (pair_sync, tt),
                    (
                      (pair_sync, tt),
                      (
                        (pair_sync, tt),
                        (
                          (pair_sync, tt),
                          (
                            (pair_sync, tt),
                            (
                              (pair_sync, tt),
                              (
                                (pair_sync, tt),
                                (
                                  (pair_sync, tt),
                                  (
                                    (pair_sync, tt),
                                    (
                                      (search sendable, (search sendable, tt)),
                                      ((search sendable, (search sendable, tt)), ((search sendable, (search sendable, tt)), (tt, tt))),
                                    ),
                                  ),
                                ),
                              ),
                            ),
                          ),
                        ),
                      ),
                    ),
                  ),
                ),
              ),
            ),
          ),
        ),
      ),
    ),
  ),
)
    )

rows_sync : IsSync rows.the_row
rows_sync = search (sendable, crosses) depth 24

visit_sync : IsSync (visit.the_field).row
visit_sync = enum_sync (E.shape visit.the_type) ((search sendable, tt), (tt, tt))

operation_sync : IsSync (operation.the_field).row
operation_sync = search (op_sync, sendable) depth 40

cycle_sync : IsSync cycle.the_row
cycle_sync = search (operation_sync, sendable, crosses) depth 24

cycles_sync : IsSync cycles.the_row
cycles_sync = search (cycle_sync, sendable, crosses) depth 24

schedule_sync : IsSync schedule.the_row
schedule_sync = declared_sync schedule.the_type (
  search sendable,
  (
    search (sendable, crosses) depth 24,
    (
      rows_sync,
      (
        search (visit_sync, sendable, crosses) depth 24,
        (search (cycle_action_sync, sendable, crosses) depth 24, (search (sendable, crosses) depth 24, (cycles_sync, tt))),
      ),
    ),
  ),
)

inside_sync : IsSync inside.the_row
inside_sync = declared_sync inside.the_type (search (step_sync, sendable, crosses) depth 24, (schedule_sync, tt))

code_sync : IsSync code.the_row
code_sync = search (inside_sync, sendable) depth 24

loop_cells_send : (b : NamedLft) → IsSend (loop_cells.the_row b)
loop_cells_send b = search (code_sync, sendable, crosses) depth 24

lanes_send : (a b : NamedLft) → IsSend (lanes.the_row a b)
lanes_send a b = declared_send (lanes.the_type a b)
    (search (writer_send, sendable, crosses) depth 24, (search (seen_send, sendable, crosses) depth 24, (loop_cells_send b, tt)))

scratch_send : IsSend scratch.the_row
scratch_send = declared_send scratch.the_type (
  search (sendable, crosses) depth 20,
  (search (sendable, crosses) depth 20, (search sendable, (search sendable, (search sendable, tt)))),
)

writers_send : (a b : NamedLft) → IsSend (writers.the_row a b)
writers_send a b = declared_send (writers.the_type a b)
    (lanes_send a b, (scratch_send, (search (seen_send, sendable, crosses) depth 20, tt)))

seen_lanes_send : (a : NamedLft) → IsSend (seen_lanes.the_row a)
seen_lanes_send a = search (seen_send, sendable, crosses) depth 24

content_send : (a b : NamedLft) → IsSend (content.the_row a b)
content_send a b = search (writers_send, seen_lanes_send, sendable, crosses) depth 24

pub parcel_send : (a b : NamedLft) → IsSend (parcel.the_row a b)
parcel_send a b = declared_send (parcel.the_type a b) (search sendable, (search (sendable, crosses) depth 20, (content_send a b, tt)))

pub body_sync : (a b : NamedLft) → IsSync (body.the_row a b)
body_sync a b = search (code_sync, sendable, crosses) depth 24
