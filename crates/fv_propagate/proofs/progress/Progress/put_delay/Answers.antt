use Rattle.std.proofs.Common.{ap₂, ◌∙◌}
use Rattle.fv_signal.specs.declared.signal.Signal.TheVariants.{Delay}
use Rattle.fv_propagate.specs.inner.Progress.{put}
use Rattle.fv_propagate.proofs.progress.Progress.put_delay.Goals as goal

pub returns : goal.returns
returns c = c.in_ok-id.ensures ∙ ap₂ (λ p m. put p (Delay c.args.x c.args.d m)) c.next_delay-max.ensures.rest c.next_delay-max.ensures.delay
