-- What calls say beside `headline/View`: what a plan has, and the parts of each of its loops.
use Rattle.fv_outside.specs.headline.Tasks.{reads_loop}
use Rattle.fv_loopcode.specs.Blocks.{Loops}
use Rattle.fv_split_plan.specs.headline.View.{PlanView, code_of, roles_of}

-- the loops of a plan
abbrev pub loops_of : PlanView → Loops
loops_of p = record { code = code_of p; roles = roles_of p; reads = reads_loop p.reads }
