use Rattle.std.proofs.Common.{ap, ◌∙◌, arith, pos}
use Rattle.fv_signal.specs.declared.signal.Signal.TheVariants.{Const, Delay}
use Rattle.fv_propagate.specs.inner.Progress.{put}
use Rattle.fv_propagate.proofs.Kept.{grown_put}
use Rattle.fv_propagate.proofs.progress.Progress.put_mem.Goals as goal

pub put-requires-2-clause-can : goal.put-requires-2-clause-can
put-requires-2-clause-can c =
    let g = grown_put c.args.self.now c.put.new.self (Const (pos 1)) c.in_ok-d.d c.in_ok-d.ensures in
    let there = c.requires in
    let longer = g.longer in record { operands = (omega arith, g.there); names = tt }

pub returns : goal.returns
returns c = c.in_ok-id.ensures ∙ ap (λ r. put r.1 (Delay c.args.x r.0 1)) c.in_ok-d.ensures
