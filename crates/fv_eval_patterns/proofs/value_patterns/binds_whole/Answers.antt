use Rattle.std.proofs.Common.{◌∙◌, false, sym, ap, subst}
use Rattle.fv_parse.specs.Arena.{trees}
use Rattle.fv_parse.specs.Trees.{start_in}
use Rattle.fv_rules.specs.headline.Matching.{matched}
use Rattle.fv_eval_patterns.specs.Patterns.{ShowsMatched}
use Rattle.fv_eval_patterns.proofs.lemmas.Matched.{whole_refuses}
use Rattle.fv_eval_patterns.proofs.value_patterns.binds_whole.Goals as goal

pub returns-in_default : goal.returns-in_default
returns-in_default c =
    let p = c.args.tree.now in
    record {
      matched = λ w v bs same shown old.
          let node = c.node.result.now in
          let none = whole_refuses p.tokens (trees p.entries) node (start_in p c.args.pattern) w c.args.argument.now v bs c.in_default.not-Named
          c.requires.other shown in
          subst (ShowsMatched w false c.args.found.now.items) (sym (ap (λ t. matched p.tokens t v bs) c.node.ensures.tree ∙ none)) tt;
    }
