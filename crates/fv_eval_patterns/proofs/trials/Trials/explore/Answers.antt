use Rattle.std.proofs.Common.{sym, subst}
use Rattle.fv_eval_patterns.specs.Trials.{Recalls}
use Rattle.fv_eval_patterns.proofs.trials.Trials.explore.Goals as goal

pub returns-in_err-explore-clause-recalls : goal.returns-in_err-explore-clause-recalls
returns-in_err-explore-clause-recalls c =
    let s = c.self.inside in
    let was : Recalls c.args.tree.now c.args.diagrams.now (record { trials = s.slots.items; bindings = s.bindings.items; survey = s.survey }) =
    subst (Recalls c.args.tree.now c.args.diagrams.now) (sym c.self.view_is) c.requires.recalls in
    record { trials = was.trials; survey = c.in_err-explore.ensures.survey }

pub returns-clause-recalls : goal.returns-clause-recalls
returns-clause-recalls c =
    let s = c.self.inside in
    let was : Recalls c.args.tree.now c.args.diagrams.now (record { trials = s.slots.items; bindings = s.bindings.items; survey = s.survey }) =
    subst (Recalls c.args.tree.now c.args.diagrams.now) (sym c.self.view_is) c.requires.recalls in
    record { trials = was.trials; survey = c.in_ok-explore.ensures.survey }
