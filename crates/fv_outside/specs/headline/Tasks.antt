-- The tasks of a block: one for each loop and vector, and what each of them reads (this project's profile).
use Rattle.std.specs.Prelude.{ℕ, ◌+◌, Bool, true, false, ◌&&◌, ◌||◌, ◌==◌, List, [], ◌∷◌}
use Rattle.fv_outside.specs.declared.tasks.Task.{Task}
use Rattle.fv_outside.specs.declared.tasks.Reads.{Reads}

-- how many loops and vectors there are, and which loop reads lanes of which other
pub record Tasks : Type 0 where
  pub loops : ℕ
  pub vectors : ℕ
  pub reads : List Reads

-- 1 where the test passes
abbrev pub bit : Bool → ℕ
bit true = 1
bit false = 0

-- f of each, added up
abbrev pub total : {X : Type 0} → (X → ℕ) → List X → ℕ
total f [] = 0
total f (x ∷ xs) = f x + total f xs

-- loop j reads lanes of loop i
abbrev pub reads_loop : List Reads → (reader source : ℕ) → Bool
reads_loop [] j i = false
reads_loop (r ∷ rs) j i = ((r.reader == j) && (r.source == i)) || reads_loop rs j i

-- a task reads the one before it of its own loop, and those at the same vector of the loops that its loop reads
abbrev pub reads_task : Tasks → (reader source : Task) → Bool
reads_task ts t s =
    ((s.loop_no == t.loop_no) && ((s.vector + 1) == t.vector)) || (reads_loop ts.reads t.loop_no s.loop_no && (s.vector == t.vector))
