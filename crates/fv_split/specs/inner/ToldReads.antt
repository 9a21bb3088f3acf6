-- Which loops are told to read which others, step by step.
use Rattle.std.specs.Prelude.{ℕ, zero, suc, ◌<◌, List, [], ◌∷◌, ◌++◌, length, replicate, slice_set, Option, None, Some, Vec, Bool, false, nat_eq}
use Rattle.std.specs.Prelude.{◌||◌, if◌then◌else◌}
use Rattle.std.specs.declared.alloc.Global.{Global}
use Rattle.fv_outside.specs.declared.tasks.Reads.{Reads}
use Rattle.fv_components.specs.headline.Reach.{at}
use Rattle.fv_loopcode.specs.declared.step.Step.{Step}
use Rattle.fv_loopcode.specs.declared.step.Step.TheVariants as step
use Rattle.fv_split_plan.specs.Separated.{lane_at}
use Rattle.fv_split_code.specs.Emitted.{code_in}
use Rattle.fv_split.specs.declared.told_reads.ToldReads.{ToldReads}

-- what is told so far, and for each loop the last one that was told to read it
pub record ReadsSoFar : Type 0 where
  pub reads : List Reads
  pub last : List (Option ℕ)

-- what the lists hold
abbrev pub view_of : ToldReads → ReadsSoFar
view_of t = record { reads = t.reads.items; last = t.last.items }

-- the last reader is this one
abbrev pub was_told : Option ℕ → ℕ → Bool
was_told None j = false
was_told (Some r) j = nat_eq r j

-- loop j reads loop i, which is told where they differ and it was not told before
abbrev pub with_read : (j i : ℕ) → ReadsSoFar → ReadsSoFar
with_read j i t =
    if nat_eq i j || was_told (lane_at t.last i) j then t
    else record { reads = t.reads ++ record { reader = j; source = i } ∷ []; last = slice_set t.last i (Some j) }

-- a load is of one of the first lanes
abbrev pub LoadsAmong : (lanes : ℕ) → Step → Type 0
LoadsAmong lanes (step.Number n) = Unit {0}
LoadsAmong lanes (step.Held k) = Unit {0}
LoadsAmong lanes (step.Input i) = Unit {0}
LoadsAmong lanes (step.Point op args) = Unit {0}
LoadsAmong lanes (step.Load lane back max) = lane < lanes
LoadsAmong lanes (step.Append lane value) = Unit {0}
LoadsAmong lanes (step.Read table arg) = Unit {0}
LoadsAmong lanes (step.Write cells args) = Unit {0}

-- what a step of loop j reads
abbrev pub reads_of_step : (owners : List ℕ) → (j : ℕ) → ReadsSoFar → Step → ReadsSoFar
reads_of_step owners j t (step.Number n) = t
reads_of_step owners j t (step.Held k) = t
reads_of_step owners j t (step.Input i) = t
reads_of_step owners j t (step.Point op args) = t
reads_of_step owners j t (step.Load lane back max) = with_read j (at owners lane) t
reads_of_step owners j t (step.Append lane value) = t
reads_of_step owners j t (step.Read table arg) = t
reads_of_step owners j t (step.Write cells args) = t

-- what the steps of loop j read
abbrev pub reads_of_steps : (owners : List ℕ) → (j : ℕ) → ReadsSoFar → List Step → ReadsSoFar
reads_of_steps owners j t [] = t
reads_of_steps owners j t (s ∷ ss) = reads_of_steps owners j (reads_of_step owners j t s) ss

-- what the first n loops read
abbrev pub reads_of_loops : (owners : List ℕ) → (codes : List (Vec Step Global)) → (n : ℕ) → ReadsSoFar
reads_of_loops owners codes zero = record { reads = []; last = replicate (length codes) None }
reads_of_loops owners codes (suc n) = reads_of_steps owners n (reads_of_loops owners codes n) (code_in codes n)
