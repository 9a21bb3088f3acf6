-- What no call says beside `headline/StaticErrors`: what refuses a program that is spelled: static errors (this project's profile).
use Rattle.std.specs.Prelude.{◌≡◌, ◌<◌, get_or, ℕ, List, length, Option, None}
use Rattle.fv_parse.specs.declared.clash.StaticError.{StaticError}
use Rattle.fv_parse.specs.Trees.{Parsed, tree_in}
use Rattle.fv_parse.specs.headline.StaticErrors.{error_of}

-- ---- refusals

-- these are the first errors of the first nodes of a tree
abbrev pub AreErrors : Parsed → List (Option StaticError) → Type 0
AreErrors p errors = (i : ℕ) → i < length errors → get_or errors i None ≡ error_of p.tokens (tree_in p i)
