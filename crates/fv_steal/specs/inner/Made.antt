-- Deques while a crew is made (this project's profile).
use Rattle.std.specs.Prelude.{◌≡◌, ℕ, ◌+◌, ◌<◌, ltb, List, map, length, take, get_or, All}
use Rattle.std.specs.Global.{Global, Vec}
use Rattle.atomic_blocks.specs.Lent.{RowsId}
use Rattle.fv_outside.specs.headline.Tasks.{bit, total}
use Rattle.fv_outside.specs.Tasks.{times}
use Rattle.fv_steal.specs.declared.handles.TaskDeque.{TaskDeque}
use Rattle.fv_steal.specs.declared.handles.Victim.{Victim}
use Rattle.fv_steal.specs.Deques.{account_of, room_of, lies_at, robs, taken_by}

-- what was put into the deques
abbrev pub puts_of : List TaskDeque → List (List ℕ)
puts_of ds = map (λ d. (account_of d).put) ds

-- how many holds are out, what was taken, and how much room there is
abbrev pub rest_of : TaskDeque → ℕ × ℕ × List ℕ
rest_of d = (room_of d, (account_of d).lent, (account_of d).taken)

abbrev pub rests_of : List TaskDeque → List (ℕ × ℕ × List ℕ)
rests_of ds = map rest_of ds

-- what a deque keeps while holds are given out
abbrev pub kept_of : TaskDeque → ℕ × List ℕ × List ℕ × (RowsId × Global)
kept_of d = (room_of d, (account_of d).taken, (account_of d).put, lies_at d)

-- holds on the first k deques were given out, and nothing was taken by them
pub record HasLent (k : ℕ) (old new : List TaskDeque) (vs : List Victim) : Type 0 where
  pub count : length new ≡ length old
  pub kept : map kept_of new ≡ map kept_of old
  pub lent : (j : ℕ) (d : TaskDeque) → j < length old → (account_of (get_or new j d)).lent ≡ (account_of (get_or old j d)).lent + bit (ltb j k)
  pub holds : map robs vs ≡ take k (map lies_at old)
  pub none : (x : ℕ) → total (λ v. times x (taken_by v)) vs ≡ 0

-- to each of k workers a hold on each deque was given out, and nothing was taken by them
pub record HaveLent (k : ℕ) (old new : List TaskDeque) (vss : List (Vec Victim)) : Type 0 where
  pub count : length new ≡ length old
  pub kept : map kept_of new ≡ map kept_of old
  pub lent : (j : ℕ) (d : TaskDeque) → j < length old → (account_of (get_or new j d)).lent ≡ (account_of (get_or old j d)).lent + k
  pub long : length vss ≡ k
  pub holds : All (λ (v : Vec Victim). map robs v.items ≡ map lies_at old) vss
  pub none : All (λ (v : Vec Victim). (x : ℕ) → total (λ u. times x (taken_by u)) v.items ≡ 0) vss
