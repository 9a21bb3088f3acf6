-- What putting a node answers.
use Rattle.std.specs.Prelude.{◌≡◌, ◌⊎◌, ℕ, ◌<◌, Result, Ok, Err}
use Rattle.fv_diagram.specs.headline.Diagram.{Diagram}
use Rattle.fv_diagram.specs.Arena.{Arena, count_of, tree_of}
use Rattle.fv_rules.specs.declared.refusal.EvalRefusal.{EvalRefusal}
use Rattle.fv_rules.specs.declared.refusal.EvalRefusal.TheVariants.{NoMemory}
use Rattle.fv_rules.specs.headline.Steps.{State, misfit, put_after}

-- the node is this diagram, which may be put as it is; or it is refused as the rules refuse it, or memory ran out
abbrev pub Puts : Arena → Diagram → Result ℕ EvalRefusal → Type 0
Puts a d (Ok i) = (i < count_of a) × (tree_of a i ≡ d) × ((s : State) → put_after (misfit d) d s ≡ Ok (d, s))
Puts a d (Err e) = (e ≡ NoMemory) ⊎ ((s : State) → put_after (misfit d) d s ≡ Err e)
