-- The names of parameters, by their numbers (this project's profile).
use Rattle.std.specs.Prelude.{◌≡◌, ℕ, Option, Some, None}
use Rattle.fv_parse.specs.Token.{Lexed}
use Rattle.fv_parse_grammar.specs.headline.Tree.{Tree}
use Rattle.fv_parse_grammar.specs.headline.Tree as tree
use Rattle.fv_parse.specs.headline.Trees.{text_of}
use Rattle.fv_parse.specs.Trees.{first_named}
use Rattle.fv_rules.specs.headline.Values.{Name}

-- a name that may be there shows that
abbrev pub ShowsName : Lexed → Option ℕ → Option Name → Type 0
ShowsName l None None = Unit {0}
ShowsName l (Some n) (Some x) = (text_of l n ≡ x) × (first_named l n ≡ n)
ShowsName l o q = ⊥

-- the name that a pattern is
abbrev pub name_of : Lexed → Tree → Option Name
name_of l (tree.Named s n) = Some (text_of l n)
name_of l x = None
