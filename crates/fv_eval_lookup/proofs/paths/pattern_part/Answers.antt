use Rattle.std.proofs.Common.{◌∙◌, suc, drop, get_or, ap₂, sym, drop-cons}
use Rattle.fv_parse.specs.Arena.{trees}
use Rattle.fv_parse.specs.Trees.{start_in}
use Rattle.fv_eval_lookup.specs.declared.paths.Side.TheVariants.{Left}
use Rattle.fv_eval_lookup.specs.Positions.{pattern_part}
use Rattle.fv_eval_lookup.proofs.Refused.{no_part}
use Rattle.fv_eval_lookup.proofs.paths.pattern_part.Goals as goal

pub returns-in_default : goal.returns-in_default
returns-in_default c =
    let p = c.args.tree.now in
    let sides = c.args.sides.now in
    let i = c.loop-side.side-index in
    record {
      part = sym (ap₂ pattern_part (drop-cons sides i Left c.loop-side-test.true) c.node.ensures.tree
          ∙ no_part (trees p.entries) c.node.result.now (start_in p c.loop-side.at) (get_or sides i Left) (drop (suc i) sides) c.in_default.not-Binary)
          ∙ c.loop-side.invariant.part;
      there = tt;
    }
