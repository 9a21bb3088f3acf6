-- What a deque and a hold on it mean (this project's profile).
use Rattle.std.specs.Prelude.{ℕ, List}
use Rattle.std.specs.Global.{Global}
use Rattle.atomic_blocks.specs.Lent.{RowsId}
use Rattle.crossbeam_deque.specs.Handles.{view, worker_deque, stealer_deque, worker_view}
use Rattle.fv_steal.specs.declared.rule.Account.{Account}
use Rattle.fv_steal.specs.declared.handles.TaskDeque.{TaskDeque}
use Rattle.fv_steal.specs.declared.handles.Victim.{Victim}

-- what the owner of a deque has put and taken
abbrev pub account_of : TaskDeque → Account
account_of d = worker_view d.worker

-- the numbers below it may be put
abbrev pub room_of : TaskDeque → ℕ
room_of d = d.room

-- which deque it is
abbrev pub lies_at : TaskDeque → RowsId × Global
lies_at d = worker_deque d.worker

-- which deque it takes from
abbrev pub robs : Victim → RowsId × Global
robs v = stealer_deque v.stealer

-- what was taken by this hold
abbrev pub taken_by : Victim → List ℕ
taken_by v = (view v.pass).taken
