use Rattle.std.proofs.Common.{arith}
use Rattle.fv_propagate.proofs.Kept.{pending_names, nested_wires, grown_put, can_give, count_so}
use Rattle.fv_signal.specs.declared.signal.Signal.TheVariants.{Back}
use Rattle.fv_propagate.proofs.progress.Progress.put_count.Goals as goal

pub put-requires-clause-can : goal.put-requires-clause-can
put-requires-clause-can c = record { operands = tt; names = pending_names c.group.new.self.draft c.in_ok-group.group 0 c.in_ok-group.ensures.pending }

pub put-requires-clause-admitted : goal.put-requires-clause-admitted
put-requires-clause-admitted c =
    nested_wires c.in_ok-group.group c.in_ok-group.group 0 c.group.new.self.feedbacks (omega arith) c.in_ok-group.ensures.nested

pub put_next-requires-clause-x : goal.put_next-requires-clause-x
put_next-requires-clause-x c = (grown_put c.group.new.self c.put.new.self (Back c.in_ok-group.group 0) c.in_ok-late.late c.in_ok-late.ensures).there

pub give-requires : goal.give-requires
give-requires c =
    let h = can_give c.group.new.self c.put.new.self c.put_next.new.self c.in_ok-group.group c.args.count c.in_ok-late.late c.in_ok-next.next
    c.in_ok-late.ensures c.in_ok-next.ensures c.in_ok-group.ensures.pending c.in_ok-group.ensures.fresh c.in_ok-group.ensures.nested in
    record { pending = h.pending; inner = h.inner; backs = h.backs; member = h.member }

pub returns : goal.returns
returns c =
    count_so c.args.self.now c.group.new.self c.put.new.self c.put_next.new.self c.give.new.self c.in_ok-group.group c.in_ok-late.late c.in_ok-next.next
    c.args.count c.in_ok-group.ensures.number c.in_ok-group.ensures.grouped c.in_ok-late.ensures c.in_ok-next.ensures c.in_ok-give.ensures
