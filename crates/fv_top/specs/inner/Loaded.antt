-- What was read of a program.
use Rattle.std.specs.Prelude.{ℕ, List, Ok}
use Rattle.fv_outside.specs.headline.Desk.{DeskState}
use Rattle.fv_top_words.specs.declared.manner.ProgramKind.{ProgramKind}
use Rattle.fv_top_program.specs.headline.Compiled.{Compiled}
use Rattle.fv_top_program.specs.Playables.{IsPlayable}
use Rattle.fv_top_program.specs.headline.Kinds.{FileIs}
use Rattle.fv_top_program.specs.declared.playable.Playable.{Playable}
use Rattle.fv_top_files.specs.Loading.{IsFile}

-- What is played is that of the file of this name.
pub record IsProgramOf (kind : ProgramKind) (name : List ℕ) (desk : DeskState) (p : Playable) : Type 0 where
  pub compiled : Compiled
  pub text : List ℕ
  pub file : IsFile name text desk
  pub is : FileIs kind text (Ok compiled)
  pub playable : IsPlayable compiled p
