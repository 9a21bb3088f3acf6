-- The tasks of the worked examples.
use Rattle.std.specs.Prelude.{[], ◌∷◌}
use Rattle.fv_outside.specs.headline.Tasks.{Tasks}

-- two loops and one vector, and loop 1 reads loop 0
abbrev pub two_loops : Tasks
two_loops = record { loops = 2; vectors = 1; reads = record { reader = 1; source = 0 } ∷ [] }
