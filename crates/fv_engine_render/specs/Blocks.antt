-- What calls say beside `headline/Blocks`: how a run is cut into blocks, and what a gate is told of them (this project's profile).
use Rattle.std.specs.Prelude.{ℕ, ◌<◌, ◌≤◌, List, length, take, drop}
use Rattle.std.specs.List.{AllByRecursion}
use Rattle.fv_control.specs.declared.script.Change.{Change}
use Rattle.fv_control.specs.Laws.{NeverFall}

-- the first n changes have come at frame f, and the others, which never fall, have not
pub record AreNext (cs : List Change) (f n : ℕ) : Type 0 where
  pub within : n ≤ length cs
  pub come : AllByRecursion (λ (c : Change). c.frame ≤ f) (take n cs)
  pub behind : AllByRecursion (λ (c : Change). f < c.frame) (drop n cs)
  pub order : NeverFall 0 cs
