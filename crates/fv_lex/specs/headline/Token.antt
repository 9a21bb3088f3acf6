-- A list of tokens, as contracts see it.
use Rattle.std.specs.Prelude.{ℕ, List, map}
use Rattle.fv_lex.specs.declared.token.Kind.{Kind}
use Rattle.fv_lex.specs.declared.token.Place.{Place}
use Rattle.fv_lex.specs.declared.token.Symbol.{Symbol}

-- A token: what the grammar sees of it, its kind, its bytes, and the place of its first byte.
pub record Token : Type 0 where
  pub symbol : Symbol
  pub kind : Kind
  pub text : List ℕ
  pub place : Place

-- The tokens of a text in order, and the place after its last byte.
pub record Lexed : Type 0 where
  pub tokens : List Token
  pub end : Place

-- the tokens' symbols (this project's profile)
abbrev pub symbols_of : List Token → List Symbol
symbols_of tokens = map (λ t. t.symbol) tokens

-- the tokens' bytes (this project's profile)
abbrev pub texts_of : List Token → List (List ℕ)
texts_of tokens = map (λ t. t.text) tokens

-- the tokens' places (this project's profile)
abbrev pub places_of : List Token → List Place
places_of tokens = map (λ t. t.place) tokens
