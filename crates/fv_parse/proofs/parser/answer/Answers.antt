use Rattle.std.proofs.Common.{◌∙◌, ap, sym, inr}
use Rattle.fv_lex.specs.headline.Token.{symbols_of}
use Rattle.fv_parse_grammar.specs.Descent.{program}
use Rattle.fv_parse.specs.headline.Outcomes.{unsupported, syntax_error}
use Rattle.fv_parse.proofs.Lexing.{tokens_nest}
use Rattle.fv_parse.proofs.Endings.{tree_answer, refusal_answer, no_tree}
use Rattle.fv_parse.proofs.parser.answer.Goals as goal
use Rattle.fv_base.specs.declared.limits.TheConstants.{DEEPEST_NESTING}

pub returns-in-Some-clause-refusal : goal.returns-in-Some-clause-refusal
returns-in-Some-clause-refusal c = inr (unsupported (sym c.in_ok-word.ensures ∙ c.in-Some.is))

pub returns-in-Ok-clause-tree : goal.returns-in-Ok-clause-tree
returns-in-Ok-clause-tree c =
    tree_answer c.reads_what_is_spelled.ensures.sound c.args.tokens.now _ c.finish.result
    (sym c.in_ok-word.ensures ∙ c.in_default.is) (ap (program DEEPEST_NESTING) (sym c.symbols.ensures.symbols) ∙ c.in-Ok.ensures.0) c.finish.ensures

pub returns-in-Ok-clause-refusal : goal.returns-in-Ok-clause-refusal
returns-in-Ok-clause-refusal c =
    refusal_answer c.reads_what_is_spelled.ensures.sound c.args.tokens.now _ c.finish.result
    (sym c.in_ok-word.ensures ∙ c.in_default.is) (ap (program DEEPEST_NESTING) (sym c.symbols.ensures.symbols) ∙ c.in-Ok.ensures.0) c.finish.ensures

pub returns-in-Err-Syntax-clause-refusal : goal.returns-in-Err-Syntax-clause-refusal
returns-in-Err-Syntax-clause-refusal c =
    let l = c.args.tokens.now in
    let rest = c.in-Err-Syntax.rest.now in
    let e = ap (program DEEPEST_NESTING) (sym c.symbols.ensures.symbols) ∙ rw c.in-Err-Syntax.field-0-is at c.in-Err-Syntax.ensures in
    let nests = tokens_nest c.source-source.result.now l c.source-source.ensures in
    let stops = c.stops_at_the_place.ensures.place DEEPEST_NESTING (symbols_of l.tokens) rest nests e in
    inr (syntax_error c.place_from-place.result (sym c.in_ok-word.ensures ∙ c.in_default.is) (no_tree c.reads_what_is_spelled.ensures.complete l rest nests e)
    (record { before = stops.0; rest = rest; split = stops.1; error = stops.2; there = rw c.in-Err-Syntax.field-0-is at c.place_from-place.ensures }))
