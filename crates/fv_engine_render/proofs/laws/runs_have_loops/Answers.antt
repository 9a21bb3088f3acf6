use Rattle.std.proofs.Common.{◌≡◌, ◌∙◌, arith}
use Rattle.fv_engine_render.proofs.Playing.{loops_some}
use Rattle.fv_engine_render.proofs.laws.runs_have_loops.Goals as goal

pub returns : goal.returns
returns c = λ d cs changes s r old new ran wide some.
    let b = ran.blocks in let w = ran.of.width in
    let loops = c.outputs_need_loops.ensures ran.graph b.plan b.planned.stands (omega (arith, w, wide)) in
    let e : r.loops ≡ b.plan.loops = b.run.loops_are ∙ loops_some r.blocks b.plan.loops some in
    omega (arith, e, loops)
