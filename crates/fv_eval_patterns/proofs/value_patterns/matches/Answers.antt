use Rattle.std.proofs.Common.{[]}
use Rattle.fv_parse.specs.Trees.{tree_in}
use Rattle.fv_rules.specs.headline.Matching.{matched}
use Rattle.fv_eval_patterns.specs.Patterns.{with_diagrams}
use Rattle.fv_eval_patterns.proofs.lemmas.Matched.{handed_out, not_handed_out}
use Rattle.fv_eval_patterns.proofs.value_patterns.matches.Goals as goal

pub returns-then-branch-clause-matched : goal.returns-then-branch-clause-matched
returns-then-branch-clause-matched c =
    let p = c.args.tree.now in
    let new = c.matches_in.new in
    λ w v same there shown.
    handed_out (with_diagrams w new.diagrams) c.in_ok-matches_in.field-0 new.found.items c.of.result (matched p.tokens (tree_in p c.args.pattern) v [])
    (c.in_ok-matches_in.ensures.matched w v [] same there shown c.new-found.ensures.items) c.if-branch.true c.of.ensures

pub returns-clause-matched : goal.returns-clause-matched
returns-clause-matched c =
    let p = c.args.tree.now in
    let new = c.matches_in.new in
    λ w v same there shown.
    not_handed_out (with_diagrams w new.diagrams) c.in_ok-matches_in.field-0 new.found.items (matched p.tokens (tree_in p c.args.pattern) v [])
    (c.in_ok-matches_in.ensures.matched w v [] same there shown c.new-found.ensures.items) c.if-branch.false
