-- Tables of numbers: which of them an index means, and what was written to them (Faust manual, rdtable and rwtable; this
-- project's profile).
use Rattle.std.specs.Prelude.{ℕ, zero, suc, ◌-◌, min, List, length, slice_set, ℤ, pos, negsuc, if◌then◌else◌, nat_eq}
use Rattle.fv_num.specs.headline.Words.{argument}
use Rattle.fv_num.specs.headline.Frames.{Stream}

-- the place that an index means in a list of n numbers: its own, or the nearest one
abbrev pub place : ℕ → ℤ → ℕ
place n (pos i) = min i (n - 1)
place n (negsuc i) = 0

-- the number at an index
abbrev pub read_at : List ℤ → ℤ → ℤ
read_at T r = argument T (place (length T) r)

-- What place i has at time t, where at each time x is written at the index w: what was written there last, at that time or
-- before, and the list's own number where nothing was.
abbrev pub last_written : List ℤ → (w x : Stream) → ℕ → ℕ → ℤ
last_written T w x i zero = if nat_eq (place (length T) (w 0)) i then x 0 else argument T i
last_written T w x i (suc t) = if nat_eq (place (length T) (w (suc t))) i then x (suc t) else last_written T w x i t

-- what the list has at the index r at time t, where at each time x is written at the index w
abbrev pub written_at : List ℤ → (w x : Stream) → ℕ → ℤ → ℤ
written_at T w x t r = last_written T w x (place (length T) r) t

-- the list with one number written
abbrev pub written : List ℤ → ℤ → ℤ → List ℤ
written T w x = slice_set T (place (length T) w) x

-- the list as it is before time t, where at each time x is written at the index w
abbrev pub after : List ℤ → (w x : Stream) → ℕ → List ℤ
after T w x zero = T
after T w x (suc t) = written (after T w x t) (w t) (x t)
