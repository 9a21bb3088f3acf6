use Rattle.std.proofs.Common.{take}
use Rattle.fv_eval_lookup.specs.Positions.{HasBoth}
use Rattle.fv_eval_lookup.proofs.wants.Wants.with.Given as goal

abbrev pub invariant-loop-wanted : goal.invariant-loop-wanted
invariant-loop-wanted l = HasBoth l.others (take l.wanted-index l.wanted-items) l.rules
