use Rattle.fv_split_plan.specs.Rows.{lists_of}
use Rattle.fv_engine.specs.Made.{BeginAsTables}
use Rattle.fv_engine.proofs.make.first_lists.Given as goal

abbrev pub invariant-loop-i : goal.invariant-loop-i
invariant-loop-i l = BeginAsTables l.plan l.i (lists_of l.lists.items)
