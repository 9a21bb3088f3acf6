-- What the file of a run's program is, by its kind (this project's profile).
use Rattle.std.specs.Prelude.{ℕ, Bool, ◌||◌, ◌==◌, List, Result}
use Rattle.fv_top_words.specs.declared.manner.ProgramKind.{ProgramKind}
use Rattle.fv_top_words.specs.declared.manner.ProgramKind.TheVariants.{Alone, Rack}
use Rattle.fv_top_report.specs.declared.refusal.Refusal.{Refusal}
use Rattle.fv_top_program.specs.headline.Compiled.{Compiled}
use Rattle.fv_top_program.specs.headline.Program.{TextIs, is_of_program}
use Rattle.fv_top_program.specs.headline.Racks.{RackIs}

-- what a file of this kind is: the program that is played, or why it is refused
abbrev pub FileIs : ProgramKind → List ℕ → Result Compiled Refusal → Type 0
FileIs Alone = TextIs
FileIs Rack = RackIs

-- the numbers of the refusals of a file of this kind
abbrev pub is_of_kind : ProgramKind → ℕ → Bool
is_of_kind Alone n = is_of_program n
is_of_kind Rack n = (n == 4) || (n == 28) || (n == 29) || (n == 46) || (n == 47)
