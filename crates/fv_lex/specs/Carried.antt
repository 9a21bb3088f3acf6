-- What the symbols of a token list carry.
use Rattle.std.specs.Prelude.{◌≡◌, ℕ, ◌≤◌, List, Some, slice_get}
use Rattle.fv_lex.specs.declared.token.Symbol.{Symbol}
use Rattle.fv_lex.specs.declared.token.Symbol.TheVariants.{Name, Text, Integer, Unsupported}
use Rattle.fv_base.specs.declared.limits.TheConstants.{GREATEST_LITERAL}

-- As token i, a symbol that carries a number carries i, and an integer's value is no greater than the greatest literal.
abbrev pub Carries : ℕ → Symbol → Type 0
Carries i (Name n) = n ≡ i
Carries i (Text n) = n ≡ i
Carries i (Unsupported n) = n ≡ i
Carries i (Integer value) = value ≤ GREATEST_LITERAL
Carries i _ = Unit {0}

-- each symbol, at its place
abbrev pub AllCarry : List Symbol → Type 0
AllCarry symbols = (i : ℕ) (symbol : Symbol) → slice_get symbols i ≡ Some symbol → Carries i symbol
