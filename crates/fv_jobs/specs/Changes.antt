-- What calls say beside `headline/Changes`: the changes of one job's controls among those of several (this project's profile).
use Rattle.std.specs.Prelude.{◌≡◌, ℕ, ◌+◌, ◌<◌, List, [], length, take, drop, ℤ, slice_index_or}
use Rattle.std.specs.List.{AllByRecursion}
use Rattle.fv_diagram.specs.declared.control.ControlInfo.{ControlInfo}
use Rattle.fv_control.specs.declared.script.Change.{Change}
use Rattle.fv_control.specs.headline.Streams.{control_streams}
use Rattle.fv_control.specs.Laws.{NeverFall, IsOfControls}
use Rattle.fv_jobs.specs.headline.Labels.{controls_of}
use Rattle.fv_jobs.specs.headline.Changes.{controls_before, changes_of}

-- The streams of these controls are those that their own changes make of their own first values.
abbrev pub JobsHear : Type 0
JobsHear =
    (changes : List Change) (initial : List ℤ) (first n k t : ℕ) → k < n →
    control_streams changes initial (first + k) t ≡ control_streams (changes_of first n changes) (take n (drop first initial)) k t

-- They are in order where all are.
abbrev pub AreInOrder : Type 0
AreInOrder = (changes : List Change) (first n least : ℕ) → NeverFall least changes → NeverFall least (changes_of first n changes)

-- Changes of the controls of all jobs are, for each job, changes of its own controls to values within their ranges.
abbrev pub AreOfControls : Type 0
AreOfControls =
    (jobs : List (List ControlInfo)) (k : ℕ) (changes : List Change) → k < length jobs → AllByRecursion (IsOfControls (controls_of jobs)) changes →
    let own = slice_index_or jobs k [] in
    AllByRecursion (IsOfControls own) (changes_of (controls_before jobs k) (length own) changes)
