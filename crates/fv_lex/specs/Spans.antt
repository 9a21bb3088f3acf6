-- What the fields of a token list mean.
use Rattle.std.specs.Prelude.{◌≡◌, ℕ, ◌+◌, ◌<◌, ◌≤◌, ◌^◌, true, List, [], ◌∷◌, length, take, drop, Option, Some, None, All}
use Rattle.fv_lex.specs.declared.token.Kind.{Kind}
use Rattle.fv_lex.specs.declared.token.Kind.TheVariants.{Integer}
use Rattle.fv_lex.specs.declared.token.Place.{Place}
use Rattle.fv_lex.specs.declared.token.Symbol.{Symbol}
use Rattle.fv_lex.specs.declared.token.Span.{Span}
use Rattle.fv_lex.specs.declared.token.Tokens.TheInside.{Inside}
use Rattle.fv_lex.specs.headline.Token.{Token, Lexed}
use Rattle.fv_lex.specs.headline.Symbols.{symbol_of, value}
use Rattle.fv_lex.specs.Carried.{AllCarry}
use Rattle.fv_lex.specs.headline.Pieces.{is_token}
use Rattle.fv_lex.specs.Cuts.{HasTokens}
use Rattle.fv_base.specs.declared.limits.TheConstants.{GREATEST_LITERAL}

-- the token of a symbol and a span
abbrev pub token_in : List ℕ → Symbol → Span → Token
token_in text symbol span = record { symbol = symbol; kind = span.kind; text = take span.length (drop span.start text); place = span.place }

-- the tokens of symbols and spans, one by one
abbrev pub tokens_in : List ℕ → List Symbol → List Span → List Token
tokens_in text [] spans = []
tokens_in text (s ∷ symbols) [] = []
tokens_in text (s ∷ symbols) (p ∷ spans) = token_in text s p ∷ tokens_in text symbols spans

-- the tokens that a list of spans stands for (this project's profile)
abbrev pub lexed_in : Inside → Lexed
lexed_in t = record { tokens = tokens_in t.text.now t.symbols.items t.spans.items; end = t.end }

-- a span lies in its text
abbrev pub IsWithin : List ℕ → Span → Type 0
IsWithin text span = span.start + span.length ≤ length text

-- a whole list: the fields fit, and what they mean are the tokens of the text
pub record IsWhole (t : Inside) : Type 0 where
  pub cut : HasTokens t.text.now (lexed_in t)
  pub paired : length t.symbols.items ≡ length t.spans.items
  pub few : length t.spans.items < 2 ^ 32
  pub within : All (IsWithin t.text.now) t.spans.items
  pub carried : AllCarry t.symbols.items

-- the symbol of a piece, where it is a token
abbrev pub new_symbols : ℕ → Option Kind → List ℕ → List Symbol
new_symbols n None bytes = []
new_symbols n (Some kind) bytes = symbol_of n kind bytes ∷ []

-- the span of a piece, where it is a token
abbrev pub new_spans : Option Kind → ℕ → List ℕ → Place → List Span
new_spans None start bytes place = []
new_spans (Some kind) start bytes place = record { kind = kind; start = start; length = length bytes; place = place } ∷ []

-- a piece that is a token has a symbol
abbrev pub HasSymbol : Option Kind → List ℕ → Type 0
HasSymbol None bytes = Unit {0}
HasSymbol (Some kind) bytes = (is_token kind bytes ≡ true) × (kind ≡ Integer → value bytes ≤ GREATEST_LITERAL)
