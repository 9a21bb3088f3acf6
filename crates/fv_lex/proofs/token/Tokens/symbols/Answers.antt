use Rattle.std.proofs.Common.{sym, ap, ◌∙◌}
use Rattle.fv_lex.specs.headline.Token.{symbols_of}
use Rattle.fv_lex.proofs.TokenLists.{symbols_of-tokens_in}
use Rattle.fv_lex.proofs.token.Tokens.symbols.Goals as goal

pub returns-clause-symbols : goal.returns-clause-symbols
returns-clause-symbols c =
    c.as_slice.ensures.value ∙ sym (symbols_of-tokens_in c.self.inside.text.now c.self.inside.symbols.items c.self.inside.spans.items c.self.invariant.paired)
    ∙ ap (λ l. symbols_of l.tokens) c.self.view_is

pub returns-clause-carried : goal.returns-clause-carried
returns-clause-carried c = rw c.as_slice.ensures.value c.self.invariant.carried
