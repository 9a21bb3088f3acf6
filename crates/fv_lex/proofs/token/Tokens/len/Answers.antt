use Rattle.std.proofs.Common.{sym, ap, ◌∙◌, length}
use Rattle.fv_lex.proofs.TokenLists.{length-tokens_in}
use Rattle.fv_lex.proofs.token.Tokens.len.Goals as goal

pub returns : goal.returns
returns c =
    c.len.ensures ∙ c.self.inside.spans.ok.0
    ∙ sym (length-tokens_in c.self.inside.text.now c.self.inside.symbols.items c.self.inside.spans.items c.self.invariant.paired)
    ∙ ap (λ l. length l.tokens) c.self.view_is
