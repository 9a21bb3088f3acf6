-- What calls say beside `headline/Symbols`: what the tokens mean to the grammar.
use Rattle.std.specs.Prelude.{Bool, true, false}
use Rattle.fv_lex.specs.declared.token.Symbol.{Symbol}
use Rattle.fv_lex.specs.declared.token.Symbol.TheVariants as symbols
use Rattle.fv_parse_grammar.specs.declared.symbol.Mark.{Mark}
use Rattle.fv_parse_grammar.specs.declared.symbol.Mark.TheVariants as marks

-- the token is that of the mark (this project's profile)
abbrev pub is_mark : Mark → Symbol → Bool
is_mark marks.Open symbols.Open = true
is_mark marks.Close symbols.Close = true
is_mark marks.OpenBrace symbols.OpenBrace = true
is_mark marks.CloseBrace symbols.CloseBrace = true
is_mark marks.Comma symbols.Comma = true
is_mark marks.Equals symbols.Equals = true
is_mark marks.Arrow symbols.Arrow = true
is_mark marks.Semicolon symbols.Semicolon = true
is_mark marks.Dot symbols.Dot = true
is_mark m t = false
