-- What lists of a tree define, and the names in its patterns.
use Rattle.std.specs.Prelude.{ℕ, ◌-◌, Bool, List, [], ◌∷◌, ◌++◌, length, Option, Some, None, codes}
use Rattle.std.specs.List.{filter_map, list_any}
use Rattle.std.specs.Str.{bytes_eq}
use Rattle.fv_lex.specs.headline.Token.{Lexed}
use Rattle.fv_parse.specs.declared.definitions.Defined.{Defined}
use Rattle.fv_parse_grammar.specs.headline.Tree.{Tree, Named, Binary, Constant, Function, Rule, More, items}
use Rattle.fv_parse.specs.headline.Trees.{text_of}

-- What a tree defines: the number of its name's token, and how many patterns follow it. A rule has no name: it has the
-- number of its first token. A text has `total` tokens (this project's profile).
abbrev pub defined_by : ℕ → Tree → Option Defined
defined_by total (Constant s n x) = Some (record { name = n; width = 0 })
defined_by total (Function s n ps x) = Some (record { name = n; width = length (items ps) })
defined_by total (Rule s ps x) = Some (record { name = total - s; width = length (items ps) })
defined_by total x = None

-- what the trees of a list define, in order (this project's profile)
abbrev pub definitions_of : Lexed → Tree → List Defined
definitions_of l x = filter_map (defined_by (length l.tokens)) (items x)

-- a name, as a definition without patterns
abbrev pub as_name : ℕ → Defined
as_name n = record { name = n; width = 0 }

-- the names in patterns, in order (this project's profile)
abbrev pub names_in : Tree → List Defined
names_in (Named s n) = as_name n ∷ []
names_in (Binary s o x y) = names_in x ++ names_in y
names_in (More x y) = names_in x ++ names_in y
names_in x = []

-- one of them is of `process` (this project's profile)
abbrev pub has_process : Lexed → List Defined → Bool
has_process l ds = list_any (λ d. bytes_eq (text_of l d.name) (codes "process")) ds
