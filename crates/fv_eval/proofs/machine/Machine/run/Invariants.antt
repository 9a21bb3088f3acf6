use Rattle.std.proofs.Common.{Ok}
use Rattle.fv_rules.specs.headline.Values.{Value}
use Rattle.fv_rules.specs.headline.Steps.{Outcome}
use Rattle.fv_eval.specs.inner.Continuations.{Continues, Runs}
use Rattle.fv_eval.proofs.machine.Machine.run.Given as goal

abbrev pub invariant-stepping : goal.invariant-stepping
invariant-stepping l = record {
  runs : Runs l.text l.self l.focus;
  continues : (o : Outcome Value) → Continues l.text.tokens l.text l.initial.self (Ok l.initial.focus) o → Continues l.text.tokens l.text l.self (Ok l.focus) o;
}
