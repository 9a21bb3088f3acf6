use Rattle.fv_ready.proofs.Dealing.{IsDealing}
use Rattle.fv_ready.proofs.begin.deal.Given as goal

abbrev pub invariant-loop-i : goal.invariant-loop-i
invariant-loop-i g l = IsDealing l.table.key l.table.table_id l.workers l._i l.last.table_id l.last.me l.seats l.fn.lists l.lists
