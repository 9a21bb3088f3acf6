-- What the code has read of a program's file.
use Rattle.std.specs.Prelude.{◌≤◌, ◌<◌, List, length, map, All}
use Rattle.fv_diagram.specs.Arena.{count_of}
use Rattle.fv_interval.specs.Delays.{AreAccepted}
use Rattle.fv_base.specs.declared.limits.TheConstants.{MOST_JOBS}
use Rattle.fv_top_program.specs.headline.Compiled.{Compiled}
use Rattle.fv_top_program.specs.Compiled.{compiled_of, CanPlay}
use Rattle.fv_top_program.specs.headline.Program.{delays_in}
use Rattle.fv_top_program.specs.headline.Racks.{rack_of}
use Rattle.fv_top_program.specs.declared.programs.Read.{Read}
use Rattle.fv_top_program.specs.declared.programs.Programs.{Programs}
use Rattle.fv_top_program.specs.declared.programs.Programs.TheVariants.{Alone, Rack}
use Rattle.fv_base.specs.declared.limits.TheConstants.{VISIT_LIMIT}

-- the programs that were read
abbrev pub programs_in : List Read → List Compiled
programs_in rs = map (λ (r : Read). compiled_of r.program) rs

-- the program that is played: the one, or the rack of all
abbrev pub compiled_in : Programs → Compiled
compiled_in (Alone r) = compiled_of r.program
compiled_in (Rack rs) = rack_of (programs_in rs.items)

-- a program that can be played, and its delays
pub record IsRead (r : Read) : Type 0 where
  pub root : r.program.root < count_of r.program.diagrams
  pub plays : CanPlay (compiled_of r.program)
  pub accepted : AreAccepted (delays_in (compiled_of r.program)) r.delays
  pub controls : length (compiled_of r.program).controls ≤ VISIT_LIMIT

-- so it is with each, and there are no more than a file may have
abbrev pub AreRead : Programs → Type 0
AreRead (Alone r) = IsRead r
AreRead (Rack rs) = All IsRead rs.items × (length rs.items ≤ MOST_JOBS)
