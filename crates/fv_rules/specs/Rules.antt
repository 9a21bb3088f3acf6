-- What calls say beside `headline/Rules`: evaluation: the rules (Faust manual; this project's profile).
use Rattle.std.specs.Prelude.{◌≡◌}
use Rattle.fv_lex.specs.headline.Token.{Lexed}
use Rattle.fv_parse_grammar.specs.headline.Tree.{Tree}
use Rattle.fv_rules.specs.headline.Values.{Env}
use Rattle.fv_rules.specs.headline.Steps.{State, ◌>>=◌}
use Rattle.fv_rules.specs.headline.Rules.{turned, visited, ev}

-- ---- programs

-- Evaluation follows its rules.
abbrev pub FollowsValue : Type 0
FollowsValue = (l : Lexed) (x : Tree) (env : Env) (s : State) → (ev l).value x env s ≡ visited l (ev l) x env s

-- Evaluation to a diagram is evaluation to a value, and then turning.
abbrev pub FollowsDiagram : Type 0
FollowsDiagram = (l : Lexed) (x : Tree) (env : Env) (s : State) → (ev l).diagram x env s ≡ ((ev l).value x env >>= turned l (ev l)) s
