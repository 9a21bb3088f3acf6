-- What the steps of a look-up answer (this project's profile).
use Rattle.std.specs.Prelude.{◌≡◌, ℕ, suc, ◌<◌, Bool, true, false, List, [], ◌∷◌, length, filter, slice_get, MatchBool, Option, Some, None}
use Rattle.std.specs.List.{list_all}
use Rattle.fv_parse_grammar.specs.headline.Tree.{Tree, Named, items}
use Rattle.fv_parse.specs.headline.Trees.{text_of}
use Rattle.fv_parse.specs.Trees.{Parsed, size_of, tree_in, first_named}
use Rattle.fv_eval_scopes.specs.declared.value.Meaning as code_meaning
use Rattle.fv_rules.specs.headline.Values.{Name, Env, Meaning, is_of, definition_of, or_else}
use Rattle.fv_eval_scopes.specs.Shows.{World, ShowsEnv, ShowsMeaning, parameters_in}

-- a scope says what a name stands for, or the environment around it has to
abbrev pub SaysOrPasses : World → Option code_meaning.Meaning → (here beyond : Meaning) → Type 0
SaysOrPasses w (Some m) here beyond = ShowsMeaning w m here
SaysOrPasses w None here beyond = here ≡ beyond

-- this is what the count definitions of a name in a list make of it, of which first is the first
abbrev pub IsMade : Parsed → (list first count env : ℕ) → code_meaning.Meaning → Type 0
IsMade p list first count env made =
    (w : World) (x : Name) (E : Env) (more : List Tree) (other : Meaning) → w.tree ≡ p → list < size_of p → ShowsEnv w env E
    → filter (is_of p.tokens x) (items (tree_in p list)) ≡ tree_in p first ∷ more → count ≡ suc (length more)
    → ShowsMeaning w made (or_else (definition_of p.tokens (tree_in p first ∷ more)) E other)

-- whether a parameter of a node has the name with this number
abbrev pub TellsParameter : Parsed → (node i name : ℕ) → Bool → Type 0
TellsParameter p node i name b =
    (x : Name) → node < size_of p → slice_get (parameters_in p.tokens (tree_in p node)) i ≡ Some x → first_named p.tokens name ≡ name
    → MatchBool b (text_of p.tokens name ≡ x) (text_of p.tokens name ≡ x → ⊥)

-- a pattern is a name
abbrev pub is_name : Tree → Bool
is_name (Named s n) = true
is_name x = false

-- all are names, and there is one
abbrev pub are_names : List Tree → Bool
are_names [] = false
are_names (x ∷ xs) = list_all is_name (x ∷ xs)
