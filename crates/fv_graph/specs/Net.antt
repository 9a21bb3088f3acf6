-- What the scheduler knows of a graph of tasks: which tasks there are, and which inner edges go into and out of each.
-- An inner edge is one that has a source and a reader, so neither an entry edge nor an exit edge (this project's profile).
use Rattle.std.specs.Prelude.{◌≡◌, ℕ, ◌<◌, Bool, true, ◌&&◌, List, length, ◌==◌}
use Rattle.fv_outside.specs.headline.Tasks.{bit}
use Rattle.fv_outside.specs.Tasks.{times}

pub record Net : Type 0 where
  pub tasks : ℕ
  pub is_inner : ℕ → Bool
  pub source : ℕ → ℕ
  pub reader : ℕ → ℕ
  -- the inner edges into a task, and those out of it, in order
  pub needs : ℕ → List ℕ
  pub feeds : ℕ → List ℕ

-- how many inner edges go into a task
abbrev pub need_count : Net → ℕ → ℕ
need_count n t = length (n.needs t)

-- All that the proofs on the scheduler use of a graph
pub record IsNet (n : Net) : Type 0 where
  pub needs_once : (t e : ℕ) → t < n.tasks → times e (n.needs t) ≡ bit (n.is_inner e && (n.reader e == t))
  pub feeds_once : (t e : ℕ) → t < n.tasks → times e (n.feeds t) ≡ bit (n.is_inner e && (n.source e == t))
  pub rises : (e : ℕ) → n.is_inner e ≡ true → (n.source e < n.reader e) × (n.reader e < n.tasks)
