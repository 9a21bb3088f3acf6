use Rattle.std.proofs.Common.{take, drop}
use Rattle.std.proofs.lemmas.List.{take-append-le}
use Rattle.fv_outside.proofs.transfer.append_next.Goals as goal

pub returns-clause-taken : goal.returns-clause-taken
returns-clause-taken g c =
    let front = take-append-le c.in_ok-n.n c.fill.new.to (drop c.args.want c.args.chunk.now) c.in_ok-n.ensures.count in
    (take c.in_ok-n.n c.fill.new.to, rw front at c.in_ok-extend_from_slice.ensures.items, c.in_ok-n.ensures.taken)
