use Rattle.std.proofs.Common.{◌≡◌, length, get_or, sym, subst, pos}
use Rattle.std.proofs.lemmas.List.{get_or_read}
use Rattle.fv_signal.specs.declared.signal.Signal.TheVariants.{Const, Delay}
use Rattle.fv_simplify.proofs.image.image.Goals as goal

pub delayed-requires-clause-short : goal.delayed-requires-clause-short
delayed-requires-clause-short c =
    let g = c.args.graph.now in
    let s = length c.args.images.now in
    let n = Delay c.in-Delay.x c.in-Delay.d c.in-Delay.max in
    let read : n ≡ get_or g.signals s n = subst (λ k. n ≡ get_or g.signals k n) c.new.ensures c.in-Delay.ensures.node in
    c.requires.short s c.in-Delay.x c.in-Delay.d c.in-Delay.max
    (record { within = c.requires.more; is = sym (get_or_read g.signals s n c.requires.more read (Const (pos 0))) })
