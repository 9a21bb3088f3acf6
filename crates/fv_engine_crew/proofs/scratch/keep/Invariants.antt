use Rattle.fv_engine_crew.proofs.scratch.keep.Given as goal

abbrev pub invariant-loop-one : goal.invariant-loop-one
invariant-loop-one l = Unit {0}

abbrev pub decreases-loop-one : goal.decreases-loop-one
decreases-loop-one l = goal.left-loop-one l
