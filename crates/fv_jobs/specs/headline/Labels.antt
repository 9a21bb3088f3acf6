-- The labels of the controls of several jobs (this project's profile).
use Rattle.std.specs.Prelude.{ℕ, ◌+◌, List, [], ◌∷◌, ◌++◌, map, decimal}
use Rattle.fv_diagram.specs.declared.control.ControlInfo.{ControlInfo}

-- The label of a control of job k among all jobs: the job's number, `/`, and its own label.
abbrev pub label_of : (k : ℕ) → List ℕ → List ℕ
label_of k label = decimal k ++ 47 ∷ label

-- a job's controls under these labels
abbrev pub renamed : (k : ℕ) → ControlInfo → ControlInfo
renamed k c = record c { label = label_of k c.label }

-- the controls of job k under their labels among all jobs
abbrev pub labelled : (k : ℕ) → List ControlInfo → List ControlInfo
labelled k cs = map (renamed k) cs

-- the controls of jobs one after another, of which the first has this number
abbrev pub controls_from : (k : ℕ) → List (List ControlInfo) → List ControlInfo
controls_from k [] = []
controls_from k (cs ∷ jobs) = labelled k cs ++ controls_from (k + 1) jobs

-- The controls of all jobs, which are numbered from 0.
abbrev pub controls_of : List (List ControlInfo) → List ControlInfo
controls_of jobs = controls_from 0 jobs
