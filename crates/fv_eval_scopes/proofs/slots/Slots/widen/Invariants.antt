use Rattle.std.proofs.Common.{◌-◌, List, vec_len}
use Rattle.fv_parse.specs.Trees.{Parsed}
use Rattle.fv_eval_scopes.specs.declared.value.Scope.{Scope}
use Rattle.fv_eval_scopes.specs.Slots.{AreSlots}
use Rattle.fv_eval_scopes.proofs.slots.Slots.widen.Given as goal

abbrev pub invariant-widen : goal.invariant-widen
invariant-widen l = (p : Parsed) (scopes : List Scope) → AreSlots p scopes l.fn.self → AreSlots p scopes l.self-inside.slots.items

abbrev pub decreases-widen : goal.decreases-widen
decreases-widen l = l.wanted - vec_len l.self-inside.slots
