use Rattle.std.proofs.Common.{◌-◌, suc, vec_len}
use Rattle.fv_diagram.specs.Arena.{Arena}
use Rattle.fv_eval_scopes.specs.Memo.{Remembers}
use Rattle.fv_eval_scopes.proofs.memo.Numbers.remember.Given as goal

abbrev pub invariant-grow : goal.invariant-grow
invariant-grow l = (a : Arena) → Remembers a l.fn.self → Remembers a l.self-inside.known.items

abbrev pub decreases-grow : goal.decreases-grow
decreases-grow l = suc l.place - vec_len l.self-inside.known
