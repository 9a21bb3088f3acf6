-- Laws of the grammar and its descent.
use Rattle.std.specs.Prelude.{◌≡◌, ℕ, ◌≤◌, List, length, Ok}
use Rattle.fv_lex.specs.declared.token.Symbol.{Symbol}
use Rattle.fv_parse_grammar.specs.headline.Tree.{Tree}
use Rattle.fv_parse_grammar.specs.headline.Grammar.{SpellsProgram}
use Rattle.fv_parse_grammar.specs.Nesting.{Nests}
use Rattle.fv_parse_grammar.specs.Descent.{program}

-- What the descent reads is spelled, however many brackets it may open (this project's profile).
abbrev pub ReadsOnlySpelled : Type 0
ReadsOnlySpelled = (nesting : ℕ) (ts : List Symbol) (x : Tree) → program nesting ts ≡ Ok x → SpellsProgram ts x

-- What is spelled, and opens no more brackets at once than the descent may, is read (this project's profile).
abbrev pub ReadsAllSpelled : Type 0
ReadsAllSpelled = (limit : ℕ) (ts : List Symbol) (x : Tree) → SpellsProgram ts x → Nests limit 0 ts → program limit ts ≡ Ok x

-- Tokens open no more brackets than they are (this project's profile).
abbrev pub NestsWithinLength : Type 0
NestsWithinLength = (limit : ℕ) (ts : List Symbol) → length ts ≤ limit → Nests limit 0 ts
