-- What no call says beside `headline/Played`: the blocks of what is asked for (this project's profile).
use Rattle.std.specs.Prelude.{ℕ, [], Option}
use Rattle.fv_outside.specs.headline.Journal.{Told}
use Rattle.fv_engine_render.specs.Render.{RanWhole}
use Rattle.fv_top_program.specs.headline.Compiled.{Compiled}
use Rattle.fv_top.specs.headline.Promise.{IsMade}
use Rattle.fv_top.specs.headline.Played.{make_sizes}

-- the blocks of a make ran, by these workers
abbrev pub MakeRan : (voices frames workers blocks loops runs : ℕ) → (before after : Option Told) → Type 0
MakeRan voices frames workers blocks loops runs before after =
    (p : Compiled) × IsMade voices p × RanWhole p.diagram p.controls [] (make_sizes workers frames)
    (record { blocks = blocks; loops = loops; loop_runs = runs }) before after

-- the blocks of a make, by this many workers, whatever their counts
pub record MakeSoFar (voices frames workers : ℕ) (before after : Option Told) : Type 0 where
  pub blocks : ℕ
  pub loops : ℕ
  pub runs : ℕ
  pub ran : MakeRan voices frames workers blocks loops runs before after
