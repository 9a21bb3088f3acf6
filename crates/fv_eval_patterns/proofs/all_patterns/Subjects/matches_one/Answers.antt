use Rattle.std.proofs.Common.{subst}
use Rattle.fv_eval_scopes.specs.Shows.{ShowsValue}
use Rattle.fv_eval_patterns.specs.declared.value_patterns.Pair.{Pair}
use Rattle.fv_eval_patterns.specs.Patterns.{IsValid}
use Rattle.fv_eval_patterns.proofs.lemmas.LongPatterns.{recalls_still}
use Rattle.fv_eval_patterns.proofs.Parametric.{answers_value}
use Rattle.fv_eval_patterns.proofs.all_patterns.Subjects.matches_one.Goals as goal

pub returns-in_err-matches-in_default-clause-recalls : goal.returns-in_err-matches-in_default-clause-recalls
returns-in_err-matches-in_default-clause-recalls c =
    recalls_still c.args.self.now.tree.now c.args.matching.now.diagrams.now c.matches_in.new.diagrams c.args.matching.now.trials.now
    c.in_err-matches-in_default.ensures.adds c.requires.recalls

pub returns-in_ok-matches-in_default-clause-recalls : goal.returns-in_ok-matches-in_default-clause-recalls
returns-in_ok-matches-in_default-clause-recalls c =
    recalls_still c.args.self.now.tree.now c.args.matching.now.diagrams.now c.matches_in.new.diagrams c.args.matching.now.trials.now
    c.in_ok-matches-in_default.ensures.adds c.requires.recalls

pub returns-in_ok-matches-in-Diagram-clause-matched : goal.returns-in_ok-matches-in-Diagram-clause-matched
returns-in_ok-matches-in-Diagram-clause-matched c = λ w v bs e f h g.
    let old = c.args.matching.now.diagrams.now in
    let x : Pair = record { pattern = c.args.pattern; diagram = c.in-Diagram.diagram } in
    answers_value c.args.self.now.tree.now old c.binds.new.matching.diagrams.now x c.args.found.now.items c.binds.new.found.items
    c.in_ok-matches-in-Diagram.matches
    c.in_ok-matches-in-Diagram.ensures.adds (subst (IsValid old) c.in-Diagram.is c.requires.value).0 c.in_ok-matches-in-Diagram.ensures.answers
    w v bs e f (subst (λ u. ShowsValue w u v) c.in-Diagram.is h) g
