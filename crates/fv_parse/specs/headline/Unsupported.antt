-- Tokens that are not supported.
use Rattle.std.specs.Prelude.{ℕ, Bool, true, false, ◌&&◌, nat_eq, codes, List, [], ◌∷◌, Option, Some, None}
use Rattle.std.specs.List.{list_any}
use Rattle.std.specs.Option.{option_or}
use Rattle.fv_lex.specs.declared.token.Symbol.{Symbol}
use Rattle.fv_lex.specs.declared.token.Symbol.TheVariants as symbols
use Rattle.fv_lex.specs.headline.Token.{Token}

-- the words after which a label stands (Faust manual)
abbrev pub is_control : Symbol → Bool
is_control (symbols.Switch kind) = true
is_control (symbols.Slider kind) = true
is_control t = false

-- an open bracket
abbrev pub is_open : Symbol → Bool
is_open symbols.Open = true
is_open t = false

-- `%`, which is 37, is among the bytes
abbrev pub has_percent : List ℕ → Bool
has_percent text = list_any (λ b. nat_eq b 37) text

-- the word, where the test holds
abbrev pub some_if : Bool → List ℕ → Option (List ℕ)
some_if true word = Some word
some_if false word = None

-- The word of an unsupported token, after two other tokens: one of Faust's words, `^`, or `%` in the label of a control
-- (this project's profile).
abbrev pub unsupported : Symbol → Symbol → Symbol → List ℕ → Option (List ℕ)
unsupported before last (symbols.Unsupported n) text = Some text
unsupported before last symbols.Caret text = Some text
unsupported before last (symbols.Text n) text = some_if ((is_control before && is_open last) && has_percent text) (codes "%")
unsupported before last symbol text = None

-- the word of the first unsupported token, after these two (this project's profile)
abbrev pub unsupported_from : Symbol → Symbol → List Token → Option (List ℕ)
unsupported_from before last [] = None
unsupported_from before last (t ∷ ts) = option_or (unsupported before last t.symbol t.text) (unsupported_from last t.symbol ts)

-- the word of the first unsupported token (this project's profile)
abbrev pub first_unsupported : List Token → Option (List ℕ)
first_unsupported ts = unsupported_from symbols.Semicolon symbols.Semicolon ts
