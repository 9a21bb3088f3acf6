-- How a check ends, from how its two stages do.
use Rattle.std.proofs.Common.{◌≡◌, ℕ, ◌+◌, ◌≤◌, List, [], ◌++◌, length, length-append, sym, ◌∙◌, ap, subst, refl, inl, inr, arith}
use Rattle.std.specs.Prelude.{IsTrue, Some}
use Rattle.std.proofs.lemmas.List.{append-nil}
use Rattle.fv_base.specs.declared.role.Role.TheVariants.{Program, Input, Controls, Output, Report}
use Rattle.fv_base.specs.headline.Lists.{IsPrefixOf}
use Rattle.fv_outside.specs.headline.Desk.{DeskState, HasFault, KeepsFaults, IsUnfailing}
use Rattle.fv_outside.specs.Desk.{Appends}
use Rattle.fv_outside.proofs.lemmas.States.{goes_on_then, fault_earlier, told_before, unfailing_later}
use Rattle.fv_top_words.specs.headline.Commands.{Checking}
use Rattle.fv_top_report.specs.declared.refusal.Refusal.{Refusal}
use Rattle.fv_top_report.specs.declared.refusal.Refusal.TheVariants.{WriteFault}
use Rattle.fv_top_program.specs.headline.Program.{TextIs}
use Rattle.fv_top_program.specs.Program.{IsProgram, IsOfText}
use Rattle.fv_top_program.specs.headline.Compiled.{Compiled}
use Rattle.fv_top_report.specs.headline.Lines.{check_line}
use Rattle.fv_top.specs.headline.Meant.{check_meant}
use Rattle.fv_top_report.specs.Parts.{AppendsPart}
use Rattle.fv_top_files.specs.Loading.{ReadsFile, StopsLoading, IsFile}
use Rattle.fv_top.specs.headline.Stages.{Halts, fault, judged, want_of_memory, reads, writes, here, later}
use Rattle.fv_top.specs.headline.Promise.{IsReadBy, ReadProgram, HasProgram, HasNoProgram, rules_of}
use Rattle.fv_top.specs.inner.Running.{Checks, StopsCheck}
use Rattle.fv_top.proofs.Reaching.{FailsToLoad, load_faults, is_another}

-- numbers that are the same give the same line
pub numbers_same : {i j o p n m s t d e : ℕ} → i ≡ j → o ≡ p → n ≡ m → s ≡ t → d ≡ e → check_line i o n s d ≡ check_line j p m t e
numbers_same a b c d e = rw (a, b, c, d, e) refl

-- ---- the program is not read

load_halts : (name : List ℕ) (a b : DeskState) (e : Refusal) → StopsLoading Program (Some name) IsOfText (HasNoProgram TextIs name a.files) a b e
    → Halts (rules_of (Checking name) a) a b ReadProgram e
load_halts name a b e (inl h) =
    subst (Halts (rules_of (Checking name) a) a b ReadProgram) (sym h.0) (fault (reads Program) refl h.1.fault (λ t sure. h.1.unsure t sure))
load_halts name a b e (inr (inl h)) = judged h.0 h.1
load_halts name a b e (inr (inr m)) = subst (Halts (rules_of (Checking name) a) a b ReadProgram) (sym m) (want_of_memory tt)

pub check_stops : {name : List ℕ} {a b : DeskState} {e : Refusal}
    → FailsToLoad Program (Some name) IsOfText (HasNoProgram TextIs name a.files) a b e → StopsCheck name a b e
check_stops {name} {a} {b} {e} f =
    let q = f.reads in
    record {
      goes_on = q.quiet.goes_on;
      others = record {
        left = λ t r none. q.others t r (λ named. is_another (IsReadBy (Checking name)) {role = Program} tt none);
        written = λ t r n m. q.quiet.written t r;
        begins = λ r n. q.quiet.begins r;
      };
      requests = q.requests;
      ends = here (load_halts name a b e f.stops);
      output = record { begins = q.quiet.begins Output; written = λ t. q.quiet.written t Output };
      begun = [];
      appended = λ t. q.quiet.written t Report ∙ sym (append-nil (a.written Report));
      is_begun = inl refl;
      faults = load_faults a f (λ h. absurd cc) (λ r. refl);
    }

-- ---- it is, and its line is reported

module _ (name : List ℕ) (p : Compiled) (a b c : DeskState) (q : ReadsFile Program (Some name) a b) (steady : KeepsFaults a b)
    (spelled : (text : List ℕ) × IsFile name text a × IsProgram text p) where
  abbrev has : IsTrue a.tells → HasProgram TextIs name a.files
  has t = record { text = spelled.0; file = spelled.1 t; compiled = p; program = spelled.2 }

  module _ (line : List ℕ) (is : line ≡ (check_meant p).line) where
    pub check_tells : AppendsPart Report line b c → HasFault Report b c →
        (IsTrue b.tells → IsUnfailing Report b → length (b.written Report) + length line ≤ b.room Report → ⊥) →
        StopsCheck name a c (WriteFault Report)
    check_tells part failed unsure =
        let on = q.quiet.goes_on in
        let r = part.2 in
        record {
          goes_on = goes_on_then on r.goes_on;
          others = record {
            left = λ t x none. r.left (told_before on t) x ∙ q.others t x (λ named. is_another (IsReadBy (Checking name)) {role = Program} tt none);
            written = λ t x n m. r.others (told_before on t) x m ∙ q.quiet.written t x;
            begins = λ x n. r.begins x ∙ q.quiet.begins x;
          };
          requests = r.requests ∙ q.requests;
          ends = later has (here (fault (writes Report) refl (fault_earlier c Report on failed) (λ t sure.
              let same = ap length (q.quiet.written t Report) in
              let size = ap length is in
              let fits = sure.1 (has t) in
              let room = on.room t Report in
              unsure (told_before on t) (unfailing_later Report on t sure.0) (omega (arith, length-append (a.written Report) (check_meant p).line)))));
          output = record {
            begins = r.begins Output ∙ q.quiet.begins Output;
            written = λ t. r.others (told_before on t) Output (λ e. absurd cc) ∙ q.quiet.written t Output;
          };
          begun = part.0;
          appended = λ t. r.appended (told_before on t) ∙ ap (λ w. w ++ part.0) (q.quiet.written t Report);
          is_begun = inr (refl, λ t. (has t, subst (IsPrefixOf part.0) is part.1));
          faults = λ x other. r.other_faults x (λ same. other (inr (ap WriteFault (sym same)))) ∙ steady x;
        }

    pub check_done : (IsTrue a.tells → b.left Program ≡ []) → Appends Report line b c → KeepsFaults b c → Checks name a c
    check_done whole r calm =
        let on = q.quiet.goes_on in
        record {
          goes_on = goes_on_then on r.goes_on;
          others = record {
            left = λ t x none. r.left (told_before on t) x ∙ q.others t x (λ named. is_another (IsReadBy (Checking name)) {role = Program} tt none);
            written = λ t x n m. r.others (told_before on t) x m ∙ q.quiet.written t x;
            begins = λ x n. r.begins x ∙ q.quiet.begins x;
          };
          requests = r.requests ∙ q.requests;
          faults = λ x. calm x ∙ steady x;
          begins = r.begins Output ∙ q.quiet.begins Output;
          whole = λ t. r.left (told_before on t) Program ∙ whole t;
          told = λ t.
              let later = told_before on t in (
                has t,
                elim [
                  | Program ↦ r.others later Program (λ e. absurd cc) ∙ q.quiet.written t Program
                  | Input ↦ r.others later Input (λ e. absurd cc) ∙ q.quiet.written t Input
                  | Controls ↦ r.others later Controls (λ e. absurd cc) ∙ q.quiet.written t Controls
                  | Output ↦ r.others later Output (λ e. absurd cc) ∙ q.quiet.written t Output
                  | Report ↦ r.appended later ∙ ap (λ w. w ++ line) (q.quiet.written t Report) ∙ ap (λ w. a.written Report ++ w) is
                ],
              );
        }
