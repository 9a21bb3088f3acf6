use Rattle.std.proofs.Common.{ap, sym, ◌∙◌}
use Rattle.fv_parse.specs.Arena.{trees}
use Rattle.fv_parse.specs.Trees.{start_in}
use Rattle.fv_eval_lookup.specs.Positions.{wanted}
use Rattle.fv_eval_lookup.proofs.Refused.{no_want}
use Rattle.fv_eval_lookup.proofs.paths.wanted.Goals as goal

pub returns-in_default : goal.returns-in_default
returns-in_default c =
    let p = c.args.tree.now in
    let other = c.in_default in
    sym (ap wanted c.node.ensures.tree
    ∙ no_want (trees p.entries) c.node.result.now (start_in p c.args.pattern) other.not-Number other.not-Negative other.not-Binary)
