-- What a worker finds to run, and what its turns leave (this project's profile).
use Rattle.std.specs.Prelude.{◌≡◌, ℕ, ◌+◌, ◌<◌, ◌==◌, map, Option, MatchOption, vec_len}
use Rattle.std.specs.Global.{Vec}
use Rattle.fv_outside.specs.headline.Tasks.{Tasks, bit, total}
use Rattle.fv_outside.specs.Tasks.{times, task_count}
use Rattle.fv_ready.specs.Rule.{done_by, claims}
use Rattle.fv_ready.specs.declared.board.Board.{Board}
use Rattle.fv_steal.specs.declared.handles.Victim.{Victim}
use Rattle.fv_steal.specs.Deques.{robs, taken_by}
use Rattle.fv_steal.specs.declared.worker.Worker.{Worker}
use Rattle.fv_steal.specs.Crews.{did, took, IsWorkerOf, IsSame}

-- how often a number was taken by these holds
abbrev pub stolen_by : Vec Victim → ℕ → ℕ
stolen_by holds x = total (λ v. times x (taken_by v)) holds.items

-- what holds took where a number was found, or none: that number once, or nothing. They are on the same deques
pub record HasStolen (found : Option ℕ) (old new : Vec Victim) : Type 0 where
  pub taken : MatchOption found ((x : ℕ) → stolen_by new x ≡ stolen_by old x) (λ t. (x : ℕ) → stolen_by new x ≡ stolen_by old x + bit (t == x))
  pub same : map robs new.items ≡ map robs old.items
  pub count : vec_len new ≡ vec_len old

-- what some turns of a worker leave: it is that worker of the board, and it claimed what it took, and nothing else
pub record HasTurned {C Key : Type 0} (edge_of : C → ℕ) (key_of : C → Key) (b : Board C Key) (g : Tasks) (old new : Worker C) : Type 0 where
  pub worker : IsWorkerOf edge_of key_of b new
  pub same : IsSame old new
  pub even : (x : ℕ) → x < task_count g → done_by (claims x) (did new) + took old x ≡ done_by (claims x) (did old) + took new x
