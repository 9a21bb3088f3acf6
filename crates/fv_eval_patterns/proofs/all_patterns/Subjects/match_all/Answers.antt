use Rattle.std.proofs.Common.{false, sym, subst}
use Rattle.fv_eval_patterns.specs.Patterns.{ShowsMatched, with_diagrams}
use Rattle.fv_eval_patterns.proofs.all_patterns.Subjects.match_all.Goals as goal

pub returns-then-not-branch-clause-matched : goal.returns-then-not-branch-clause-matched
returns-then-not-branch-clause-matched c = λ w vs bs e f h g.
    subst (ShowsMatched (with_diagrams w c.args.matching.now.diagrams.now) false c.args.found.now.items)
    (sym (c.in_ok-may_match.ensures.misses c.if-not-branch.true w vs bs f h)) tt
