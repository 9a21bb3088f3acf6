use Rattle.fv_engine_tasks.proofs.outputs.copy_outputs.Goals as goal

pub copy_lane-requires-clause-there : goal.copy_lane-requires-clause-there
copy_lane-requires-clause-there g c = λ t l. c.requires.there t l c.loop-j.j 0 c.loop-j-test.true
