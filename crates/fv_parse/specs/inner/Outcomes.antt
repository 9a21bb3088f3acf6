-- What no call says beside `headline/Outcomes`: what parsing answers.
use Rattle.std.specs.Prelude.{◌≡◌, ◌⊎◌, Some, None, Result, Ok, Err}
use Rattle.fv_lex.specs.headline.Token.{Lexed}
use Rattle.fv_parse_grammar.specs.headline.Tree.{Tree as Spelled}
use Rattle.fv_parse.specs.declared.refusal.ParseRefusal.{ParseRefusal}
use Rattle.fv_parse.specs.declared.refusal.ParseRefusal.TheVariants as refusals
use Rattle.fv_parse.specs.Trees.{Parsed, program_of}
use Rattle.fv_parse.specs.headline.StaticErrors.{refused}

-- what is known of a program that is spelled
abbrev pub Finishes : Lexed → Spelled → Result Parsed ParseRefusal → Type 0
Finishes l x (Ok p) = (p.tokens ≡ l) × (program_of p ≡ x) × (refused l x ≡ None)
Finishes l x (Err e) = (e ≡ refusals.NoMemory) ⊎ (refused l x ≡ Some e)
