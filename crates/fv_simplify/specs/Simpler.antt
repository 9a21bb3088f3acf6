-- Two rebuildings make a graph that can not be made simpler (this project's profile).
use Rattle.std.specs.Prelude.{ℕ, List, Bool, Option, None}
use Rattle.fv_signal.specs.headline.Value.{Graph, IsGraph}
use Rattle.fv_simplify.specs.Reducible.{IsSimpler}
use Rattle.fv_simplify.specs.Rebuilt.{IsMarked, IsRebuilt, IsRoom}

-- nothing is taken over
abbrev pub no_room : ℕ → Option ℕ
no_room x = None

abbrev pub RebuiltTwiceIsSimpler : Graph → Graph → Graph → Type 0
RebuiltTwiceIsSimpler g f h =
    (p q : ℕ → ℕ) (room : ℕ → Option ℕ) (marks rest : List Bool) → IsGraph g → IsRebuilt g f p no_room (IsMarked marks) → IsRebuilt f h q room (IsMarked rest) →
    IsRoom f (IsMarked rest) room → IsSimpler g h
