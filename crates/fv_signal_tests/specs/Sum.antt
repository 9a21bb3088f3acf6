-- A graph of signals.
use Rattle.std.specs.Prelude.{[], ◌∷◌}
use Rattle.fv_num.specs.declared.op.Op.TheVariants.{Add}
use Rattle.fv_signal.specs.declared.signal.Signal.TheVariants.{Input, Point, Back, Member}
use Rattle.fv_signal.specs.headline.Value.{Graph}

-- the running sum of the input: + ~ _
abbrev pub running_sum : Graph
running_sum = record { signals = Input 0 ∷ Back 0 0 ∷ Point Add (1 ∷ 0 ∷ 0 ∷ 0 ∷ []) ∷ Member 0 0 ∷ []; groups = (2 ∷ []) ∷ []; tables = []; outputs = 3 ∷ [] }
