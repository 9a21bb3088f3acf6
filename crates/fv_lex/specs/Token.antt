-- What calls say beside `headline/Token`: a list of tokens, as contracts see it.
use Rattle.std.specs.Prelude.{List, map}
use Rattle.fv_lex.specs.declared.token.Kind.{Kind}
use Rattle.fv_lex.specs.headline.Token.{Token}

-- the tokens' kinds (this project's profile)
abbrev pub kinds_of : List Token → List Kind
kinds_of tokens = map (λ t. t.kind) tokens
