use Rattle.std.proofs.Common.{◌-◌, length, vec_len}
use Rattle.fv_eval_lookup.specs.Around.{AreAround}
use Rattle.fv_eval_lookup.proofs.around.Around.follow.Given as goal

abbrev pub invariant-following : goal.invariant-following
invariant-following l = AreAround l.definitions l.scopes.scopes l.fn.self → AreAround l.definitions l.scopes.scopes l.self

abbrev pub decreases-following : goal.decreases-following
decreases-following l = length l.scopes.scopes - vec_len l.self.roots
