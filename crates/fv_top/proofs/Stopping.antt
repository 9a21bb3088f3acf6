-- How a run ends before anything is written, and how a check and a make end.
use Rattle.std.proofs.Common.{◌≡◌, ℕ, List, [], ◌∷◌, sym, ◌∙◌, subst, refl, inl, inr, ⊎_elim, arith}
use Rattle.std.specs.Prelude.{IsTrue, Option, Some, None, Err}
use Rattle.std.proofs.lemmas.List.{append-nil}
use Rattle.fv_base.specs.declared.role.Role.{Role}
use Rattle.fv_base.specs.declared.role.Role.TheVariants.{Program, Input, Controls, Output, Report}
use Rattle.fv_outside.specs.headline.Requests.{Request, to_read}
use Rattle.fv_outside.specs.headline.Desk.{DeskState, File, GoesOn}
use Rattle.fv_outside.specs.Desk.{Appends}
use Rattle.fv_outside.proofs.lemmas.States.{told_before}
use Rattle.fv_top_words.specs.declared.cause.Cause.{Cause}
use Rattle.fv_top_words.specs.declared.manner.ProgramKind.{ProgramKind}
use Rattle.fv_top_words.specs.declared.manner.ProgramKind.TheVariants.{Alone, Rack}
use Rattle.fv_top_words.specs.headline.Runs.{Run}
use Rattle.fv_top_words.specs.headline.Commands.{Job, Playing, Checking, Making, job_in}
use Rattle.fv_top_report.specs.declared.refusal.Refusal.{Refusal}
use Rattle.fv_top_report.specs.declared.refusal.Refusal.TheVariants.{Usage, NoMemory}
use Rattle.fv_pcm.specs.declared.coding.Coding.{Coding}
use Rattle.fv_pcm.specs.declared.coding.Coding.TheVariants as coding
use Rattle.fv_top_words.specs.declared.manner.InputKind.{InputKind}
use Rattle.fv_top_program.specs.Kinds.{IsOfKind}
use Rattle.fv_file_tape.specs.declared.incoming.Incoming.{Incoming}
use Rattle.fv_top_files.specs.headline.Inputs.{truncated, read_bytes}
use Rattle.fv_top.specs.headline.Stages.{Rules, Turn, fault_of, reads, writes, Ends}
use Rattle.fv_top_files.specs.headline.Loading.{HasInput, LeavesRest, ReadsWithin, IsRest, IsWithin}
use Rattle.fv_top.specs.headline.Promise.{Asks, Write, Tell, rules_of, HasCause, bad_words, of_job, HasRefusal, stages_of}
use Rattle.fv_top.specs.headline.Promise.{CutsShort, IsReadBy, IsRead, KeepsOthers}
use Rattle.fv_top.specs.inner.Running.{Reaches, CountsFaultOf, StopsBefore, Checks, StopsCheck, Makes, StopsMake, stages_before, EndsDone, Stopped}
use Rattle.fv_top.proofs.Reaching.{reaches_nothing}
use Rattle.fv_top.proofs.StageLaws.{OfSome, Judges, ends_more, judged_in}

-- a line of the report leaves the others alone
pub others_told : {Reads : Role → Type 0} {line : List ℕ} {a b c : DeskState} → GoesOn a b → KeepsOthers Reads a b → Appends Report line b c
    → KeepsOthers Reads a c
others_told on kept q = record {
  left = λ t x none. q.left (told_before on t) x ∙ kept.left t x none;
  written = λ t x n m. q.others (told_before on t) x m ∙ kept.written t x n m;
  begins = λ x n. q.begins x ∙ kept.begins x n;
}

-- and the input
pub rest_told : {kind : InputKind} {name : Option (List ℕ)} {files : List File} {line : List ℕ} {a b : DeskState} → IsTrue a.tells → Appends Report line a b
    → LeavesRest kind name files (a.left Input) → LeavesRest kind name files (b.left Input)
rest_told {kind} {name} {files} t q rest = subst (LeavesRest kind name files) (sym (q.left t Input)) rest

pub within_told : {kind : InputKind} {name : Option (List ℕ)} {files : List File} {line : List ℕ} {a b : DeskState} → IsTrue a.tells → Appends Report line a b
    → ReadsWithin kind name files (a.left Input) → ReadsWithin kind name files (b.left Input)
within_told {kind} {name} {files} t q within = subst (ReadsWithin kind name files) (sym (q.left t Input)) within

-- where the whole frames were read, nothing was read after them
pub within_all : {kind : InputKind} {name : Option (List ℕ)} {files : List File} {left : List ℕ} → LeavesRest kind name files left
    → ReadsWithin kind name files left
within_all {left = left} r = record { source = r.source; input = r.input; rest = within_of r.source.head r.source.bytes left r.rest }
  where
    within_of : (head : Option Incoming) (bytes left : List ℕ) → IsRest head bytes left → IsWithin head bytes left
    within_of None bytes left rest = tt
    within_of (Some h) bytes left rest = (read_bytes h, omega arith, rest)

-- what is asked for reads no more than the words ask for
others_for : (words : List (List ℕ)) {job : Job} {a b : DeskState} → Asks words job → KeepsOthers (IsReadBy job) a b → KeepsOthers (IsRead words) a b
others_for words {job = job} asks kept = record {
  left = λ t x none. kept.left t x (λ is. none (job, asks, is));
  written = kept.written;
  begins = kept.begins;
}

-- ---- an input that ends too early

pub no_fault : (c : Coding) (place : ℕ) (t : Turn) → truncated c place ≡ fault_of t → ⊥
no_fault coding.Wave place (reads role) is = absurd cc
no_fault coding.Wave place (writes role) is = absurd cc
no_fault coding.Au place (reads role) is = absurd cc
no_fault coding.Au place (writes role) is = absurd cc

pub no_want : (c : Coding) (place : ℕ) → truncated c place ≡ NoMemory → ⊥
no_want coding.Wave place is = absurd cc
no_want coding.Au place is = absurd cc

no_usage : (c : Coding) (place : ℕ) (cause : Cause) → Usage cause ≡ truncated c place → ⊥
no_usage coding.Wave place cause is = absurd cc
no_usage coding.Au place cause is = absurd cc

pub written_cut : (c : Coding) (place : ℕ) → HasRefusal Alone Write (truncated c place)
written_cut coding.Wave place = refl
written_cut coding.Au place = refl

judged_cut : {S : Type 0} (k : Rules S) (a b : DeskState) (steps : List S) (e : Refusal) (c : Coding) (place : ℕ) (asked : List Request)
    → e ≡ truncated c place → Ends k a b steps e asked → OfSome (Judges k (truncated c place)) steps
judged_cut k a b steps e c place asked is h =
    judged_in k a b steps (truncated c place) asked (no_fault c place) (no_want c place) (subst (λ (r : Refusal). Ends k a b steps r asked) is h)

-- it is no refusal of a program's file
no_program : (kind : ProgramKind) (c : Coding) (place : ℕ) → IsOfKind kind (truncated c place) → ⊥
no_program Alone coding.Wave place is = absurd cc
no_program Alone coding.Au place is = absurd cc
no_program Rack coding.Wave place is = absurd cc
no_program Rack coding.Au place is = absurd cc

-- before anything is written, of its stages only that of the head judges it so
head_judged : (run : Run) (a : DeskState) (c : Coding) (place : ℕ) → IsTrue a.tells →
    OfSome (Judges (rules_of (Playing run) a) (truncated c place)) stages_before
    → HasInput run.manner.input run.input a.files (Err (truncated c place))
head_judged run a coding.Wave place t (inl h) = absurd (no_program run.manner.program coding.Wave place h.0)
head_judged run a coding.Wave place t (inr (inl h)) = let no = h.0 in absurd cc
head_judged run a coding.Wave place t (inr (inr (inl h))) = h.1 t
head_judged run a coding.Wave place t (inr (inr (inr (inl h)))) = let no = h.0 in absurd cc
head_judged run a coding.Wave place t (inr (inr (inr (inr h)))) = absurd h
head_judged run a coding.Au place t (inl h) = absurd (no_program run.manner.program coding.Au place h.0)
head_judged run a coding.Au place t (inr (inl h)) = let no = h.0 in absurd cc
head_judged run a coding.Au place t (inr (inr (inl h))) = h.1 t
head_judged run a coding.Au place t (inr (inr (inr (inl h)))) = let no = h.0 in absurd cc
head_judged run a coding.Au place t (inr (inr (inr (inr h)))) = absurd h

head_cut : (run : Run) (a b : DeskState) (e : Refusal) (c : Coding) (place : ℕ) (asked : List Request) → e ≡ truncated c place → IsTrue a.tells
    → Ends (rules_of (Playing run) a) a b stages_before e asked → HasInput run.manner.input run.input a.files (Err e)
head_cut run a b e c place asked is t h =
    let head = head_judged run a c place t (judged_cut (rules_of (Playing run) a) a b stages_before e c place asked is h) in
    subst (λ (r : Refusal). HasInput run.manner.input run.input a.files (Err r)) (sym is) head

-- a check reads no input
check_judged : (name : List ℕ) (a : DeskState) (c : Coding) (place : ℕ) →
    OfSome (Judges (rules_of (Checking name) a) (truncated c place)) (stages_of (Checking name)) → ⊥
check_judged name a coding.Wave place (inl h) = let no = h.0 in absurd cc
check_judged name a coding.Wave place (inr (inl h)) = let no = h.0 in absurd cc
check_judged name a coding.Wave place (inr (inr h)) = h
check_judged name a coding.Au place (inl h) = let no = h.0 in absurd cc
check_judged name a coding.Au place (inr (inl h)) = let no = h.0 in absurd cc
check_judged name a coding.Au place (inr (inr h)) = h

-- and neither does a make
make_judged : (voices frames workers : ℕ) (a : DeskState) (c : Coding) (place : ℕ)
    → OfSome (Judges (rules_of (Making voices frames workers) a) (truncated c place)) (stages_of (Making voices frames workers)) → ⊥
make_judged voices frames workers a coding.Wave place (inl h) = let no = h.0 in absurd cc
make_judged voices frames workers a coding.Wave place (inr (inl h)) = let no = h.0 in absurd cc
make_judged voices frames workers a coding.Wave place (inr (inr h)) = h
make_judged voices frames workers a coding.Au place (inl h) = let no = h.0 in absurd cc
make_judged voices frames workers a coding.Au place (inr (inl h)) = let no = h.0 in absurd cc
make_judged voices frames workers a coding.Au place (inr (inr h)) = h

-- ---- before anything is written

stopped_by : (words : List (List ℕ)) (a b : DeskState) (e : Refusal) (asked : List Request) → Reaches (IsRead words) asked a b
    → HasCause words a b e asked → CutsShort words e a b → CountsFaultOf e a b → Stopped words a b e
stopped_by words a b e asked p cause cut faults = record {
  goes_on = p.quiet.goes_on;
  others = record { left = p.left; written = λ t r n m. p.quiet.written t r; begins = λ r n. p.quiet.begins r };
  cause = record { asked = asked; requests = p.requests; cause = cause };
  output = inl (record { begins = p.quiet.begins Output; written = λ t. p.quiet.written t Output });
  cut = cut;
  begun = [];
  appended = λ t. p.quiet.written t Report ∙ sym (append-nil (a.written Report));
  is_begun = inl refl;
  faults = faults;
}

-- the words are refused
pub stopped_usage : (words : List (List ℕ)) (a : DeskState) (cause : Cause) → job_in words ≡ Err cause → Stopped words a a (Usage cause)
stopped_usage words a cause is =
    stopped_by words a a (Usage cause) [] (reaches_nothing (IsRead words) a) (bad_words is) (λ c place cut. absurd (no_usage c place cause cut))
    (λ r other. refl)

-- a stage that reads cannot go on
pub stopped_before : {words : List (List ℕ)} {run : Run} {a b : DeskState} {e : Refusal} → Asks words (Playing run) → StopsBefore run a b e
    → Stopped words a b e
stopped_before {words} {run} {a} {b} {e} asks s =
    let p = s.reaches in
    let reaches : Reaches (IsRead words) s.asked a b = record {
      quiet = p.quiet;
      requests = p.requests;
      left = λ t x none. p.left t x (λ is. none (Playing run, asks, is));
    } in
    let ends = ends_more (rules_of (Playing run) a) a b stages_before (Write ∷ Tell ∷ []) e s.asked s.ends in
    stopped_by words a b e s.asked reaches (of_job (Playing run) asks ends)
    (λ c place is t. (run, asks, inl (head_cut run a b e c place s.asked is t s.ends)))
    s.faults

-- ---- a check

pub stopped_check : {words : List (List ℕ)} {name : List ℕ} {a b : DeskState} {e : Refusal} → Asks words (Checking name) → StopsCheck name a b e
    → Stopped words a b e
stopped_check {words} {name} {a} {b} {e} asks s = record {
  goes_on = s.goes_on;
  others = others_for words asks s.others;
  cause = record { asked = to_read Program name ∷ []; requests = s.requests; cause = of_job (Checking name) asks s.ends };
  output = inl s.output;
  cut = λ c place is t. absurd (check_judged name a c place (judged_cut (rules_of (Checking name) a) a b (stages_of (Checking name)) e c place _ is s.ends));
  begun = s.begun;
  appended = s.appended;
  is_begun = ⊎_elim inl (λ h. inr (h.0, (Checking name, asks, h.1))) s.is_begun;
  faults = s.faults;
}

pub checked : {words : List (List ℕ)} {name : List ℕ} {a b : DeskState} → Asks words (Checking name) → Checks name a b → EndsDone words 0 a b
checked {words} {name} asks c = record {
  goes_on = c.goes_on;
  others = others_for words asks c.others;
  played = record {
    job = Checking name;
    asks = asks;
    requests = c.requests;
    faults = c.faults;
    begins = c.begins;
    rest = λ t. tt;
    whole = λ t.
        elim [
          | Program ↦ λ is other. c.whole t
          | Input ↦ λ is other. absurd is
          | Controls ↦ λ is other. absurd is
          | Output ↦ λ is other. absurd is
          | Report ↦ λ is other. absurd is
        ];
    told = λ t. let x = c.told t in (x.0, refl, λ u. x.1);
  };
}

-- ---- a make

pub stopped_make : {words : List (List ℕ)} {voices frames workers : ℕ} {a b : DeskState} {e : Refusal} → Asks words (Making voices frames workers)
    → StopsMake voices frames workers a b e → Stopped words a b e
stopped_make {words} {voices} {frames} {workers} {a} {b} {e} asks s = record {
  goes_on = s.goes_on;
  others = others_for words asks s.others;
  cause = record { asked = []; requests = s.requests; cause = of_job (Making voices frames workers) asks s.ends };
  output = inl s.output;
  cut = λ c place is t. absurd (make_judged voices frames workers a c place
      (judged_cut (rules_of (Making voices frames workers) a) a b (stages_of (Making voices frames workers)) e c place _ is s.ends));
  begun = s.begun;
  appended = s.appended;
  is_begun = ⊎_elim inl (λ h. inr (h.0, (Making voices frames workers, asks, h.1))) s.is_begun;
  faults = s.faults;
}

pub made : {words : List (List ℕ)} {voices frames workers : ℕ} {a b : DeskState} → Asks words (Making voices frames workers) → Makes voices frames workers a b
    → EndsDone words frames a b
made {words} {voices} {frames} {workers} asks c = record {
  goes_on = c.goes_on;
  others = others_for words asks c.others;
  played = record {
    job = Making voices frames workers;
    asks = asks;
    requests = c.requests;
    faults = c.faults;
    begins = c.begins;
    rest = λ t. tt;
    whole = λ t r is other. absurd is;
    told = λ t. ((c.compiled, c.made), refl, c.told);
  };
}
