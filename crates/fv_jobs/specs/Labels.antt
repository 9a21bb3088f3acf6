-- What calls say beside `headline/Labels`: the labels of the controls of several jobs (this project's profile).
use Rattle.std.specs.Prelude.{◌≡◌, ℕ, ◌+◌, ◌<◌, ◌^◌, List, [], length, Option, Some, None}
use Rattle.std.specs.Prelude.{Result, Ok, Err, position, bytes_eq, slice_index_or}
use Rattle.std.specs.Option.{option_map}
use Rattle.fv_diagram.specs.declared.control.ControlInfo.{ControlInfo}
use Rattle.fv_control.specs.declared.script.Change.{Change}
use Rattle.fv_control.specs.declared.refusal.ScriptRefusal.{ScriptRefusal}
use Rattle.fv_control.specs.headline.Script.{Request, heard}
use Rattle.fv_jobs.specs.headline.Labels.{label_of, controls_of}
use Rattle.fv_jobs.specs.headline.Changes.{controls_before}

-- the first control that has this label
abbrev pub labelled_so : List ControlInfo → List ℕ → Option ℕ
labelled_so cs label = position (λ c. bytes_eq c.label label) cs

-- The label `k/g` is that of the control of job k that has the label g, after the controls of the jobs before it.
abbrev pub LabelsAreFound : Type 0
LabelsAreFound =
    (jobs : List (List ControlInfo)) (k : ℕ) (label : List ℕ) → length jobs < 2 ^ 64 → k < length jobs →
    labelled_so (controls_of jobs) (label_of k label) ≡ option_map (λ i. controls_before jobs k + i) (labelled_so (slice_index_or jobs k []) label)

-- Every other label is that of none.
abbrev pub OthersAreNot : Type 0
OthersAreNot =
    (jobs : List (List ControlInfo)) (label : List ℕ) → ((k : ℕ) (own : List ℕ) → k < length jobs → label ≡ label_of k own → ⊥) →
    labelled_so (controls_of jobs) label ≡ None

-- what a line says, with its control n places further on
abbrev pub moved : (n : ℕ) → Result (Option Change) ScriptRefusal → Result (Option Change) ScriptRefusal
moved n (Ok (Some c)) = Ok (Some (record c { control = n + c.control }))
moved n (Ok None) = Ok None
moved n (Err e) = Err e

-- What is asked of `k/g` is what is asked of g where job k is alone: a change, or why it is refused.
abbrev pub RequestsAreOfJobs : Type 0
RequestsAreOfJobs =
    (jobs : List (List ControlInfo)) (k least line : ℕ) (r : Request) → length jobs < 2 ^ 64 → k < length jobs →
    heard (controls_of jobs) least line (Some (record r { label = label_of k r.label }))
    ≡ moved (controls_before jobs k) (heard (slice_index_or jobs k []) least line (Some r))
