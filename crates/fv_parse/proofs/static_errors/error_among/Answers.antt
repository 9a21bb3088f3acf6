use Rattle.std.proofs.Common.{◌∙◌, ap, arith}
use Rattle.fv_parse_tree.specs.Arena.{trees}
use Rattle.fv_parse.specs.Trees.{tree_in}
use Rattle.fv_parse.specs.headline.StaticErrors.{error_of}
use Rattle.fv_parse.proofs.Errors.{among_on}
use Rattle.fv_parse.proofs.static_errors.error_among.Goals as goal

pub loop-i-preserved : goal.loop-i-preserved
loop-i-preserved c = record {
  within = omega (arith, c.loop-i.invariant.within);
  so_far =
      among_on c.args.tree.now.tokens (trees c.args.tree.now.entries)
      c.args.ids.now c.loop-i.i c.index-ids-i.result c.error_at.result c.loop-i.first c.earlier-first.result c.loop-i-test.true c.loop-i.invariant.within
      (c.error_at.ensures
      ∙ ap (λ id. error_of c.args.tree.now.tokens (tree_in c.args.tree.now id)) c.index-ids-i.is) c.loop-i.invariant.so_far c.earlier-first.ensures;
}
