use Rattle.std.proofs.Common.{inr}
use Rattle.fv_lex.specs.headline.Cuts.{too_long}
use Rattle.fv_lex.proofs.Unique.{only_answer}
use Rattle.fv_lex.proofs.lexer.tokens.Goals as goal

pub returns-then-text-gt-LONGEST_TEXT-clause-refusal : goal.returns-then-text-gt-LONGEST_TEXT-clause-refusal
returns-then-text-gt-LONGEST_TEXT-clause-refusal c = inr (too_long c.if-text-gt-LONGEST_TEXT.true)

pub returns-clause-only : goal.returns-clause-only
returns-clause-only c = only_answer c.args.text.now c.cut.result c.cut.ensures.tokens c.cut.ensures.refusal
