-- What calls say beside `headline/Tables`: what was written last, and that a list which is written time after time has it (Faust
-- manual, rwtable; this project's profile).
use Rattle.std.specs.Prelude.{◌≡◌, ◌≢◌, ℕ, suc, ◌<◌, ◌≤◌, List, length, ℤ}
use Rattle.fv_num.specs.headline.Words.{argument}
use Rattle.fv_num.specs.headline.Frames.{Stream}
use Rattle.fv_num.specs.headline.Tables.{place, last_written, after}

-- u is the greatest time up to t at which place i of n is written
pub record IsLastWrite (w : Stream) (n i t u : ℕ) : Type 0 where
  pub within : u ≤ t
  pub there : place n (w u) ≡ i
  pub none_after : (v : ℕ) → u < v → v ≤ t → place n (w v) ≢ i

-- What was written last is x at the greatest time at which the place was written.
abbrev pub GivesTheLast : Type 0
GivesTheLast = (T : List ℤ) (w x : Stream) (i t u : ℕ) → IsLastWrite w (length T) i t u → last_written T w x i t ≡ x u

-- A place that was not written has the list's own number.
abbrev pub KeepsTheRest : Type 0
KeepsTheRest = (T : List ℤ) (w x : Stream) (i t : ℕ) → ((u : ℕ) → u ≤ t → place (length T) (w u) ≢ i)
    → last_written T w x i t ≡ argument T i

-- A list that is written, time after time, has what was written last.
abbrev pub ListsTheLast : Type 0
ListsTheLast = (T : List ℤ) (w x : Stream) (i t : ℕ) → i < length T → argument (after T w x (suc t)) i ≡ last_written T w x i t
