use Rattle.std.proofs.Common.{◌-◌, vec_len}
use Rattle.fv_parse.specs.Trees.{Parsed}
use Rattle.fv_diagram.specs.Arena.{Arena}
use Rattle.fv_eval_patterns.specs.Trials.{Recalls}
use Rattle.fv_eval_patterns.proofs.trials.Trials.widen.Given as goal

abbrev pub invariant-widen : goal.invariant-widen
invariant-widen l = (p : Parsed) (a : Arena) → Recalls p a l.fn.self
    → Recalls p a (record { trials = l.self-inside.slots.items; bindings = l.self-inside.bindings.items; survey = l.self-inside.survey })

abbrev pub decreases-widen : goal.decreases-widen
decreases-widen l = l.wanted - vec_len l.self-inside.slots
