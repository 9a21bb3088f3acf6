use Rattle.fv_eval_lookup.specs.Shortcuts.{AreShortcuts}
use Rattle.fv_eval_lookup.proofs.lemmas.Skipped.{HasCome}
use Rattle.fv_eval_lookup.proofs.lookup.Definitions.look_up.Given as goal

abbrev pub invariant-outward : goal.invariant-outward
invariant-outward l =
    AreShortcuts l.self l.scopes.scopes l.fn.shortcuts → HasCome l.self l.scopes.scopes l.shortcuts l.name l.fn.env l.mark l.at

abbrev pub decreases-outward : goal.decreases-outward
decreases-outward l = l.at
