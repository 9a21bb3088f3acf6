-- The place where the descent stops: what stands before it, and what at it.
use Rattle.std.specs.Prelude.{List, [], ◌∷◌, ◌++◌}
use Rattle.fv_parse_grammar.specs.Symbol.{Symbol}
use Rattle.fv_parse_grammar.specs.headline.Tree.{Tree}
use Rattle.fv_parse_grammar.specs.headline.Grammar.{SpellsProgram, IsViablePrefix}

-- The place of a syntax error, between the tokens before it and the rest: those before it begin a program; with the next one none begins, and where there is no
-- next one they are none (this project's profile).
abbrev pub IsErrorPlace : List Symbol → List Symbol → Type 0
IsErrorPlace before [] = IsViablePrefix before × ((x : Tree) → SpellsProgram before x → ⊥)
IsErrorPlace before (t ∷ rest) = IsViablePrefix before × (IsViablePrefix (before ++ t ∷ []) → ⊥)
