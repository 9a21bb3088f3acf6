use Rattle.std.proofs.Common.{sym, subst}
use Rattle.fv_signal.specs.headline.Value.{OperandsBelow}
use Rattle.fv_share.specs.Drafts.{CanPut}
use Rattle.fv_compile.proofs.Images.{can_put}
use Rattle.fv_compile.proofs.graph_copy.image.Goals as goal

pub node-requires : goal.node-requires
node-requires c =
    let g = c.args.graph.now in
    let signal = c.signal-signal.result in
    subst (CanPut c.args.builder.now) (sym c.renumbered.ensures)
    (can_put g c.args.offsets c.args.builder.now c.args.images.now c.requires.there c.requires.open c.requires.tables signal
    (subst (λ k. OperandsBelow g k signal) c.new.ensures c.signal-signal.ensures.operands) c.signal-signal.ensures.names
    (λ group k e. c.in_default.not-Member group k e))
