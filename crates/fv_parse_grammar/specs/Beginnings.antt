-- What calls say beside `headline/Beginnings`: the place where the descent stops: what stands before it, and what at it.
use Rattle.std.specs.Prelude.{◌≡◌, ℕ, List, [], ◌∷◌, ◌++◌, Err}
use Rattle.fv_parse_grammar.specs.Symbol.{Symbol}
use Rattle.fv_parse_grammar.specs.headline.Tree.{Tree}
use Rattle.fv_parse_grammar.specs.headline.Grammar.{SpellsProgram, IsViablePrefix}
use Rattle.fv_parse_grammar.specs.Nesting.{Nests}
use Rattle.fv_parse_grammar.specs.Descent.{program}
use Rattle.fv_parse_grammar.specs.headline.Beginnings.{IsErrorPlace}

-- Where the descent stops, however many brackets it may open, the tokens before begin a program (this project's profile).
abbrev pub StopsBehindABeginning : Type 0
StopsBehindABeginning = (nesting : ℕ) (ts rest : List Symbol) → program nesting ts ≡ Err rest
    → (before : List Symbol) × (ts ≡ before ++ rest) × IsViablePrefix before

-- A beginning of what begins a program begins one too (this project's profile).
abbrev pub BeginningsAreClosed : Type 0
BeginningsAreClosed = (before more : List Symbol) → IsViablePrefix (before ++ more) → IsViablePrefix before

-- The tokens of a whole program begin a program (this project's profile).
abbrev pub ProgramsBegin : Type 0
ProgramsBegin = (ts : List Symbol) (x : Tree) → SpellsProgram ts x → IsViablePrefix ts

-- No program begins with the tokens up to and with the one where the descent stops, if the brackets open before it never pass the
-- limit (this project's profile).
abbrev pub StopsWhereNoneGoesOn : Type 0
StopsWhereNoneGoesOn =
    (limit : ℕ) (before rest : List Symbol) (t : Symbol)
    → Nests limit 0 before → program limit (before ++ t ∷ rest) ≡ Err (t ∷ rest) → IsViablePrefix (before ++ t ∷ []) → ⊥

-- Where the descent stops in tokens that nest within its limit is the place of an error (this project's profile).
abbrev pub StopsAtThePlace : Type 0
StopsAtThePlace =
    (limit : ℕ) (ts rest : List Symbol)
    → Nests limit 0 ts → program limit ts ≡ Err rest → (before : List Symbol) × (ts ≡ before ++ rest) × IsErrorPlace before rest

-- A list of tokens has at most one such place (this project's profile).
abbrev pub OnePlace : Type 0
OnePlace =
    (before rest before' rest' : List Symbol)
    → before ++ rest ≡ before' ++ rest' → IsErrorPlace before rest → IsErrorPlace before' rest' → (before ≡ before') × (rest ≡ rest')
