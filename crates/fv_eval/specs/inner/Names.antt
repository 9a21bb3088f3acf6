-- Names that trees define.
use Rattle.std.specs.Prelude.{ℕ, Option, Some, None}
use Rattle.fv_parse_grammar.specs.headline.Tree.{Tree, Constant, Function}

-- the name that a definition is of
abbrev pub defined_by : Tree → Option ℕ
defined_by (Constant s n x) = Some n
defined_by (Function s n ps x) = Some n
defined_by x = None
