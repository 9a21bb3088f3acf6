-- What calls say beside `headline/Cuts`: a text is cut into pieces, and has one list of tokens or one first refusal.
use Rattle.std.specs.Prelude.{◌≡◌, ℕ, List, Result, Ok, Err}
use Rattle.fv_lex.specs.declared.refusal.LexRefusal.{LexRefusal}
use Rattle.fv_lex.specs.headline.Token.{Lexed}
use Rattle.fv_lex.specs.headline.Cuts.{Has}

-- ---- answers

-- This list is the text's tokens.
abbrev pub HasTokens : List ℕ → Lexed → Type 0
HasTokens text lexed = Has text (Ok lexed)

-- The text has no tokens, and this is the first reason.
abbrev pub HasRefusal : List ℕ → LexRefusal → Type 0
HasRefusal text refusal = Has text (Err refusal)

-- A text has one answer at most: one list of tokens, or one refusal.
abbrev pub HasAtMostOne : Type 0
HasAtMostOne = (text : List ℕ) (a b : Result Lexed LexRefusal) → Has text a → Has text b → a ≡ b

-- Each text has one: a list of tokens, or a refusal.
abbrev pub HasAtLeastOne : Type 0
HasAtLeastOne = (text : List ℕ) → (answer : Result Lexed LexRefusal) × Has text answer
