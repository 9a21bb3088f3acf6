-- The codes that are run.
use Rattle.std.specs.Prelude.{List, [], ◌∷◌, pos}
use Rattle.fv_num.specs.declared.op.Op.TheVariants.{Add, Sub, Mul, Div}
use Rattle.fv_loopcode.specs.declared.step.Step.{Step}
use Rattle.fv_loopcode.specs.declared.step.Step.TheVariants.{Number, Held, Input, Point, Load, Append, Read, Write}

-- the square of the input less the input, and the last sum
abbrev pub running_sum : List Step
running_sum =
    Input 0 ∷ Point Mul (0 ∷ 0 ∷ 0 ∷ 0 ∷ []) ∷ Point Sub (1 ∷ 0 ∷ 0 ∷ 0 ∷ []) ∷ Number (pos 1) ∷ Load 0 3 1
    ∷ Point Add (2 ∷ 4 ∷ 4 ∷ 4 ∷ []) ∷ Append 0 5 ∷ []

-- one held value less another
abbrev pub difference : List Step
difference = Held 0 ∷ Held 1 ∷ Point Sub (0 ∷ 1 ∷ 1 ∷ 1 ∷ []) ∷ []

-- three quarters of the input
abbrev pub scaled : List Step
scaled = Input 0 ∷ Number (pos 3) ∷ Point Mul (0 ∷ 1 ∷ 1 ∷ 1 ∷ []) ∷ Number (pos 4) ∷ Point Div (2 ∷ 3 ∷ 3 ∷ 3 ∷ []) ∷ []

-- one input is written at another, and what is there at a third is looked up
abbrev pub written_and_looked_up : List Step
written_and_looked_up = Input 0 ∷ Input 1 ∷ Input 2 ∷ Write 0 (0 ∷ 1 ∷ 2 ∷ []) ∷ Read 0 3 ∷ []

-- what was read of the cells is added to what is written next
abbrev pub written_again : List Step
written_again =
    Input 0 ∷ Input 1 ∷ Input 2 ∷ Number (pos 1) ∷ Load 0 3 1 ∷ Point Add (1 ∷ 4 ∷ 4 ∷ 4 ∷ []) ∷ Write 0 (0 ∷ 5 ∷ 2 ∷ []) ∷ Append 0 6 ∷ Read 0 6 ∷ []
