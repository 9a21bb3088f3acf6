use Rattle.fv_signal.specs.declared.signal.Signal.TheVariants.{Input}
use Rattle.fv_propagate.proofs.Puts.{puts_more}
use Rattle.fv_propagate.proofs.progress.Progress.inputs.Goals as goal

pub loop-i-preserved : goal.loop-i-preserved
loop-i-preserved c =
    puts_more Input c.loop-i.i c.args.self.now c.loop-i.self c.put.new.self c.loop-i.all.items _ c.in_ok-id.id c.loop-i.invariant c.in_ok-id.ensures
    c.in_ok-push.ensures.items
