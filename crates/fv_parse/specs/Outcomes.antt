-- What calls say beside `headline/Outcomes`: what parsing answers.
use Rattle.std.specs.Prelude.{◌≡◌, ◌⊎◌, ℕ, List, None, Result, Err}
use Rattle.fv_lex.specs.headline.Token.{Lexed}
use Rattle.fv_lex.specs.Cuts.{HasTokens}
use Rattle.fv_parse_grammar.specs.headline.Tree.{Tree as Spelled}
use Rattle.fv_parse.specs.declared.refusal.ParseRefusal.{ParseRefusal}
use Rattle.fv_parse.specs.declared.refusal.ParseRefusal.TheVariants as refusals
use Rattle.fv_parse.specs.Trees.{Parsed, program_of}
use Rattle.fv_parse.specs.headline.StaticErrors.{refused}
use Rattle.fv_parse.specs.headline.Outcomes.{IsSupported, IsSpelled, IsAccepted, HasRefusal}

-- The tree is the one that the tokens spell, and nothing refuses it.
pub record HasTree (l : Lexed) (p : Parsed) : Type 0 where
  pub supported : IsSupported l
  pub tokens : p.tokens ≡ l
  pub spelled : IsSpelled l (program_of p)
  pub accepted : refused l (program_of p) ≡ None

-- Tokens have at most one refusal.
abbrev pub IsOneRefusal : Type 0
IsOneRefusal = (l : Lexed) (a b : ParseRefusal) → HasRefusal l a → HasRefusal l b → a ≡ b

-- Tokens that are accepted have no refusal.
abbrev pub IsNotBoth : Type 0
IsNotBoth = (l : Lexed) (x : Spelled) (refusal : ParseRefusal) → IsAccepted l x → HasRefusal l refusal → ⊥

-- The tokens of a text are accepted, or have a refusal.
abbrev pub IsOneOrOther : Type 0
IsOneOrOther = (text : List ℕ) (l : Lexed) → HasTokens text l → ((x : Spelled) × IsAccepted l x) ⊎ ((refusal : ParseRefusal) × HasRefusal l refusal)

-- This refusal is answered, unless memory ran out.
abbrev pub IsRefusedOrWants : Result Parsed ParseRefusal → ParseRefusal → Type 0
IsRefusedOrWants result refusal = (result ≡ Err refusal) ⊎ (result ≡ Err refusals.NoMemory)
