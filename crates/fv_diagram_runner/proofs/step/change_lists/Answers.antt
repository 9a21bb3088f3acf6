use Rattle.fv_num.specs.headline.Words.{argument}
use Rattle.fv_diagram_runner.proofs.Histories.{changed_all}
use Rattle.fv_diagram_runner.proofs.step.change_lists.Goals as goal

pub returns : goal.returns
returns c =
    let i = c.loop-i.invariant in
    changed_all (argument c.args.registers.now) c.args.changes.now c.loop-i.lists c.args.lists.now c.loop-i.i i.0 c.requires.lists c.loop-i-test.false i.1
