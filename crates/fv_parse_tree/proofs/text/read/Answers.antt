use Rattle.std.proofs.Common.{◌∙◌, sym, arith}
use Rattle.fv_parse_grammar.specs.declared.symbol.Items.TheVariants.{Statements}
use Rattle.fv_parse_grammar.specs.Descent.{further, within}
use Rattle.fv_parse_tree.specs.Arena.{trees}
use Rattle.fv_parse_tree.proofs.lemmas.Arenas.{length_trees}
use Rattle.fv_parse_tree.proofs.Steps.{of_front}
use Rattle.fv_parse_tree.proofs.Endings.{stopped, ended, went_on}
use Rattle.fv_parse_tree.proofs.text.read.Goals as goal
use Rattle.fv_base.specs.declared.limits.TheConstants.{DEEPEST_NESTING}

pub returns-in-Err-Syntax : goal.returns-in-Err-Syntax
returns-in-Err-Syntax c =
    stopped DEEPEST_NESTING c.args.symbols.now c.further.new.self.symbols.rest.now
    (sym (of_front (trees c.new.result) (further (within DEEPEST_NESTING) Statements c.args.symbols.now))
    ∙ rw c.in-Err-Syntax.field-0-is at c.in-Err-Syntax.ensures.is)

pub returns-in-empty : goal.returns-in-empty
returns-in-empty c =
    let f = c.in-Ok.ensures.is in (
      ended DEEPEST_NESTING c.args.symbols.now c.further.new.self.symbols.rest.now _
          (sym (of_front (trees c.new.result) (further (within DEEPEST_NESTING) Statements c.args.symbols.now)) ∙ f.is) c.in-empty.len_below,
      omega (arith, f.inside, length_trees c.further.new.self.arena),
    )

pub returns : goal.returns
returns c =
    went_on DEEPEST_NESTING c.args.symbols.now c.further.new.self.symbols.rest.now _
    (sym (of_front (trees c.new.result) (further (within DEEPEST_NESTING) Statements c.args.symbols.now)) ∙ c.in-Ok.ensures.is.is) c.in-len1-up.len_at_least
