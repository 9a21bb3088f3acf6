use Rattle.std.proofs.Common.{rules, SFits, w32, ◌∙◌, to_z-of_z}
use Rattle.fv_diagram_runner.proofs.StepLists.{registers_more}
use Rattle.fv_diagram_runner.proofs.step.compute.Goals as goal

pub loop-i-preserved : goal.loop-i-preserved
loop-i-preserved c =
    let f : SFits w32 c.value.result = search rules in
    registers_more _ _ _ _ _ _ _ _ _ c.loop-i-test.true (c.loop-i.auto.registers ∙ c.requires.length) c.requires.ordered (to_z-of_z f ∙ c.value.ensures)
    ∙ c.loop-i.invariant
