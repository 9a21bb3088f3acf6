-- What is asked of a job's control.
use Rattle.std.proofs.Common.{◌≡◌, ℕ, ◌+◌, Bool, true, false, not, List, [], refl, ap, ◌∙◌, Option, Some, None, Result, Ok, Err}
use Rattle.std.specs.Prelude.{if◌then◌else◌, nat_le, slice_index_or, bytes_eq}
use Rattle.std.specs.Option.{option_map}
use Rattle.fv_diagram.specs.declared.control.ControlInfo.{ControlInfo}
use Rattle.fv_control.specs.declared.script.Change.{Change}
use Rattle.fv_control.specs.declared.refusal.ScriptRefusal.{ScriptRefusal}
use Rattle.fv_control.specs.declared.refusal.ScriptRefusal.TheVariants.{ControlRange, ControlOrder}
use Rattle.fv_control.specs.headline.Script.{Request, change_of, asked, is_within, no_control}
use Rattle.fv_jobs.specs.headline.Labels.{label_of, renamed, controls_of}
use Rattle.fv_jobs.specs.Labels.{labelled_so, moved, RequestsAreOfJobs}
use Rattle.fv_jobs.specs.headline.Changes.{controls_before}
use Rattle.fv_jobs.proofs.Positions.{position_within}
use Rattle.fv_jobs.proofs.Found.{found, control_from}

-- what is answered, by whether the value is within the range, and the frame not before others
abbrev answer : (within later : Bool) → (line k : ℕ) → Request → Result (Option Change) ScriptRefusal
answer within later line k r =
    if not within then Err (ControlRange line)
    else (if later then Ok (Some (record { frame = r.frame; control = k; value = r.value })) else Err (ControlOrder line))

answers : (within later : Bool) (n line i : ℕ) (r : Request) → answer within later line (n + i) r ≡ moved n (answer within later line i r)
answers false later n line i r = refl
answers true true n line i r = refl
answers true false n line i r = refl

-- a change of the control further on, or the same refusal
change_moved : (d : ControlInfo) (j n least line i : ℕ) (label : List ℕ) (r : Request) →
    change_of (renamed j d) least line (n + i) (record r { label = label }) ≡ moved n (change_of d least line i r)
change_moved d j n least line i label r = answers (is_within d r.value) (nat_le least r.frame) n line i r

asked_moved : (cs own : List ControlInfo) (j n least line : ℕ) (label : List ℕ) (r : Request) (o : Option ℕ)
    → ((i : ℕ) → o ≡ Some i → slice_index_or cs (n + i) no_control ≡ renamed j (slice_index_or own i no_control))
    → asked cs least line (record r { label = label }) (option_map (λ i. n + i) o) ≡ moved n (asked own least line r o)
asked_moved cs own j n least line label r None same = refl
asked_moved cs own j n least line label r (Some i) same =
    ap (λ c. change_of c least line (n + i) (record r { label = label })) (same i refl)
    ∙ change_moved (slice_index_or own i no_control) j n least line i label r

pub requests : RequestsAreOfJobs
requests jobs k least line r few h =
    let own = slice_index_or jobs k [] in
    let n = controls_before jobs k in
    ap (asked (controls_of jobs) least line (record r { label = label_of k r.label })) (found jobs k r.label few h)
    ∙ asked_moved (controls_of jobs) own (0 + k) n least line (label_of k r.label) r (labelled_so own r.label)
    (λ i e. control_from jobs 0 k i no_control no_control h (position_within (λ (c : ControlInfo). bytes_eq c.label r.label) own i e))
