-- What parsing answers.
use Rattle.std.specs.Prelude.{◌≡◌, ℕ, List, ◌++◌, length, Some, None}
use Rattle.fv_lex.specs.declared.token.Place.{Place}
use Rattle.fv_lex.specs.declared.token.Symbol.{Symbol}
use Rattle.fv_lex.specs.headline.Token.{Lexed, symbols_of}
use Rattle.fv_parse_grammar.specs.headline.Tree.{Tree as Spelled}
use Rattle.fv_parse_grammar.specs.headline.Grammar.{SpellsProgram}
use Rattle.fv_parse_grammar.specs.headline.Beginnings.{IsErrorPlace}
use Rattle.fv_parse.specs.declared.refusal.ParseRefusal.{ParseRefusal}
use Rattle.fv_parse.specs.declared.refusal.ParseRefusal.TheVariants as refusals
use Rattle.fv_parse.specs.headline.Trees.{place_from}
use Rattle.fv_parse.specs.headline.Unsupported.{first_unsupported}
use Rattle.fv_parse.specs.headline.StaticErrors.{refused}

-- no token is unsupported
abbrev pub IsSupported : Lexed → Type 0
IsSupported l = first_unsupported l.tokens ≡ None

-- the tokens spell this program
abbrev pub IsSpelled : Lexed → Spelled → Type 0
IsSpelled l x = SpellsProgram (symbols_of l.tokens) x

-- These tokens spell this program, and nothing refuses them or it.
pub record IsAccepted (l : Lexed) (x : Spelled) : Type 0 where
  pub supported : IsSupported l
  pub spelled : IsSpelled l x
  pub accepted : refused l x ≡ None

-- The place of a syntax error, which is that of a token or the end of the text. The tokens before it begin some program, and with
-- the token there they begin none.
pub record StopsAt (l : Lexed) (place : Place) : Type 0 where
  pub before : List Symbol
  pub rest : List Symbol
  pub split : symbols_of l.tokens ≡ before ++ rest
  pub error : IsErrorPlace before rest
  pub there : place ≡ place_from l (length rest)

-- Why tokens are no program, in this order: the first unsupported token, that they spell no tree, what refuses the tree.
pub data HasRefusal (l : Lexed) : ParseRefusal → Type 0 where
  unsupported : {word : List ℕ} → first_unsupported l.tokens ≡ Some word → HasRefusal l (refusals.Unsupported word)
  syntax_error : (place : Place)
      → IsSupported l → ((x : Spelled) → IsSpelled l x → ⊥) → StopsAt l place → HasRefusal l (refusals.Syntax place.line place.column)
  refused_tree : {refusal : ParseRefusal} {x : Spelled} → IsSupported l → IsSpelled l x → refused l x ≡ Some refusal → HasRefusal l refusal
