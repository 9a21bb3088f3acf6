-- How a make ends, from how its parts do.
use Rattle.std.proofs.Common.{◌≡◌, ◌⊎◌, ℕ, ◌+◌, ◌≤◌, ℤ, pos, List, [], ◌++◌, length, length-append, sym, ◌∙◌, ap, subst, refl, inl, inr}
use Rattle.std.proofs.Common.{arith}
use Rattle.std.specs.Prelude.{IsTrue, Err}
use Rattle.std.proofs.lemmas.List.{append-nil}
use Rattle.fv_base.specs.declared.limits.TheConstants.{MOST_VOICES}
use Rattle.fv_base.specs.declared.role.Role.TheVariants.{Program, Input, Controls, Output, Report}
use Rattle.fv_base.specs.headline.Lists.{IsPrefixOf}
use Rattle.fv_outside.specs.headline.Desk.{DeskState, HasFault, KeepsFaults, IsUnfailing}
use Rattle.fv_outside.specs.Desk.{Appends}
use Rattle.fv_outside.proofs.lemmas.States.{goes_on_self}
use Rattle.fv_top_report.specs.declared.refusal.Refusal.{Refusal}
use Rattle.fv_top_report.specs.declared.refusal.Refusal.TheVariants.{WriteFault, NoMemory}
use Rattle.fv_diagram.specs.headline.Diagram.{Diagram}
use Rattle.fv_control.specs.headline.Streams.{control_streams}
use Rattle.fv_diagram.specs.headline.Samples.{answer_on}
use Rattle.fv_top_make.specs.headline.Made.{text_of, noise_behind, noise_of, sum_of}
use Rattle.fv_top_make.specs.Made.{SumsAddUp, sum_from}
use Rattle.fv_top_make.specs.Noises.{Sounds}
use Rattle.fv_top_make.specs.declared.noise_tape.Noise.{Noise}
use Rattle.fv_top_program.specs.headline.Kinds.{FileIs}
use Rattle.fv_top_program.specs.Kinds.{IsOfKind}
use Rattle.fv_top_words.specs.declared.manner.ProgramKind.TheVariants.{Alone}
use Rattle.fv_top_words.specs.headline.Commands.{Making}
use Rattle.fv_top_make.specs.Voices.{VoicesAreNotRefused}
use Rattle.fv_top_report.specs.headline.Lines.{made_line}
use Rattle.fv_top.specs.headline.Meant.{make_meant}
use Rattle.fv_top_report.specs.Parts.{AppendsPart}
use Rattle.fv_top.specs.headline.Stages.{Ends, fault, want_of_memory, writes, here, later}
use Rattle.fv_top.specs.headline.Promise.{rules_of, stages_of}
use Rattle.fv_top.specs.inner.Running.{Makes, StopsMake, HasSum}

-- ---- the program and its noise

-- only want of memory stops the reading of its text
pub only_memory : VoicesAreNotRefused → (voices : ℕ) (e : Refusal) → 1 ≤ voices → voices ≤ MOST_VOICES
    → (e ≡ NoMemory) ⊎ (IsOfKind Alone e × FileIs Alone (text_of voices) (Err e)) → e ≡ NoMemory
only_memory accepted voices e some few (inl m) = m
only_memory accepted voices e some few (inr h) = absurd (accepted voices e some few h.1)

-- what is heard of the noise of this many voices, and the sum of what is given for it
pub noise_heard : {start now : Noise} {h s : List ℤ} (voices frames : ℕ) → SumsAddUp → Sounds start now h s → length h ≡ frames → start.state ≡ pos voices
    → start.sum ≡ pos 0 → (h ≡ noise_of voices frames) × (now.sum ≡ sum_of s)
noise_heard {h = h} {s = s} voices frames add w long state none = (
  w.heard ∙ ap (λ (z : ℤ). noise_behind z (length h)) state ∙ ap (noise_behind (pos voices)) long,
  w.sum ∙ ap (λ (z : ℤ). sum_from z s) none ∙ add s,
)

-- the answer on the same samples, where the controls begin alike
pub answer_alike : (d : Diagram) (xs ys : List ℤ) (frames : ℕ) (got samples : List ℤ) → xs ≡ ys → got ≡ samples →
    answer_on d (control_streams [] xs) frames got ≡ answer_on d (control_streams [] ys) frames samples
answer_alike d xs ys frames got samples e f =
    ap (λ (zs : List ℤ). answer_on d (control_streams [] zs) frames got) e ∙ ap (λ (zs : List ℤ). answer_on d (control_streams [] ys) frames zs) f

-- ---- there is no sum

pub make_stops : (voices frames workers : ℕ) (a : DeskState) (e : Refusal) → e ≡ NoMemory → StopsMake voices frames workers a a e
make_stops voices frames workers a e m = record {
  goes_on = goes_on_self a;
  others = record { left = λ t r none. refl; written = λ t r n m. refl; begins = λ r n. refl };
  requests = sym (append-nil a.requests);
  ends = subst (λ (r : Refusal). Ends (rules_of (Making voices frames workers) a) a a (stages_of (Making voices frames workers)) r []) (sym m)
      (here (want_of_memory tt));
  output = record { begins = refl; written = λ t. refl };
  begun = [];
  appended = λ t. sym (append-nil (a.written Report));
  is_begun = inl refl;
  faults = λ r other. refl;
}

-- want of memory is no fault of the report
pub not_the_report : (e : Refusal) → e ≡ NoMemory → e ≡ WriteFault Report → ⊥
not_the_report e m is = let same : NoMemory ≡ WriteFault Report = sym m ∙ is in absurd cc

-- ---- there is one, and it is reported

pub same_sum : {voices frames : ℕ} {n m : ℤ} → n ≡ m → HasSum voices frames m → HasSum voices frames n
same_sum e h = record { compiled = h.compiled; made = h.made; is = e ∙ h.is }

module _ (voices frames workers : ℕ) (sum : ℤ) (h : HasSum voices frames sum) (a c : DeskState) where
  abbrev is : made_line voices frames sum ≡ (make_meant h.compiled voices frames).line
  is = ap (made_line voices frames) h.is

  pub make_tells : AppendsPart Report (made_line voices frames sum) a c → HasFault Report a c →
      (IsTrue a.tells → IsUnfailing Report a → length (a.written Report) + length (made_line voices frames sum) ≤ a.room Report → ⊥)
      → StopsMake voices frames workers a c (WriteFault Report)
  make_tells part failed unsure =
      let r = part.2 in
      record {
        goes_on = r.goes_on;
        others = record { left = λ t x none. r.left t x; written = λ t x n m. r.others t x m; begins = λ x n. r.begins x };
        requests = r.requests ∙ sym (append-nil a.requests);
        ends = later (λ t. tt) (here (fault (writes Report) refl failed (λ t sure.
            let size = ap length is in
            let fits = sure.1 (h.compiled, h.made) in
            unsure t sure.0 (omega (arith, length-append (a.written Report) (make_meant h.compiled voices frames).line)))));
        output = record { begins = r.begins Output; written = λ t. r.others t Output (λ e. absurd cc) };
        begun = part.0;
        appended = λ t. r.appended t;
        is_begun = inr (refl, λ t. ((h.compiled, h.made), subst (IsPrefixOf part.0) is part.1));
        faults = λ x other. r.other_faults x (λ same. other (inr (ap WriteFault (sym same))));
      }

  pub make_done : Appends Report (made_line voices frames sum) a c → KeepsFaults a c → Makes voices frames workers a c
  make_done r calm = record {
    goes_on = r.goes_on;
    others = record { left = λ t x none. r.left t x; written = λ t x n m. r.others t x m; begins = λ x n. r.begins x };
    requests = r.requests ∙ sym (append-nil a.requests);
    faults = calm;
    begins = r.begins Output;
    compiled = h.compiled;
    made = h.made;
    told = λ t.
        elim [
          | Program ↦ r.others t Program (λ e. absurd cc)
          | Input ↦ r.others t Input (λ e. absurd cc)
          | Controls ↦ r.others t Controls (λ e. absurd cc)
          | Output ↦ r.others t Output (λ e. absurd cc)
          | Report ↦ r.appended t ∙ ap (λ w. a.written Report ++ w) is
        ];
  }
