-- What no call says beside `headline/Symbols`: what the tokens mean to the grammar.
use Rattle.fv_lex.specs.declared.token.Symbol.{Symbol}
use Rattle.fv_lex.specs.declared.token.Symbol.TheVariants as symbols
use Rattle.fv_parse_grammar.specs.declared.symbol.Mark.{Mark}
use Rattle.fv_parse_grammar.specs.declared.symbol.Mark.TheVariants as marks

-- the token of a mark (this project's profile)
abbrev pub sign : Mark → Symbol
sign marks.Open = symbols.Open
sign marks.Close = symbols.Close
sign marks.OpenBrace = symbols.OpenBrace
sign marks.CloseBrace = symbols.CloseBrace
sign marks.Comma = symbols.Comma
sign marks.Equals = symbols.Equals
sign marks.Arrow = symbols.Arrow
sign marks.Semicolon = symbols.Semicolon
sign marks.Dot = symbols.Dot
