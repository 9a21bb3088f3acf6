-- What calls say beside `headline/Grammar`: the grammar: which tokens spell which tree (Faust manual; this project's profile).
use Rattle.std.specs.Prelude.{◌≡◌, List}
use Rattle.fv_lex.specs.declared.token.Symbol.{Symbol}
use Rattle.fv_parse_grammar.specs.headline.Tree.{Tree}
use Rattle.fv_parse_grammar.specs.headline.Grammar.{SpellsProgram}

-- Tokens spell at most one program.
abbrev pub SpelledOnce : Type 0
SpelledOnce = (ts : List Symbol) (x y : Tree) → SpellsProgram ts x → SpellsProgram ts y → x ≡ y
