-- What a run has read before it writes, and why it stops there.
use Rattle.std.proofs.Common.{◌≡◌, ◌≢◌, ℕ, ◌==◌, Bool, true, false, List, [], ◌∷◌, ◌++◌, sym, ◌∙◌, ap, subst, refl, inl, inr, append_assoc}
use Rattle.std.specs.Prelude.{IsTrue, IsSome, Some, None, Option, Ok, Err, Result, if◌then◌else◌, nat_le}
use Rattle.std.proofs.lemmas.List.{append-nil}
use Rattle.fv_base.specs.declared.role.Role.{Role}
use Rattle.fv_base.specs.declared.role.Role.TheVariants.{Program, Controls, Input}
use Rattle.fv_outside.specs.headline.Requests.{Request, to_read}
use Rattle.fv_outside.specs.headline.Desk.{DeskState, KeepsFaults, IsUnfailing}
use Rattle.fv_outside.proofs.lemmas.States.{quiet_self, quiet_then, told_before, fault_earlier, unfailing_later}
use Rattle.fv_diagram.specs.headline.Diagram.{Diagram, inputs, outputs}
use Rattle.fv_top_words.specs.declared.manner.ProgramKind.{ProgramKind}
use Rattle.fv_top_words.specs.declared.manner.ProgramKind.TheVariants.{Alone, Rack}
use Rattle.fv_top_words.specs.headline.Runs.{Run, Settings}
use Rattle.fv_top_words.specs.headline.Commands.{Playing}
use Rattle.fv_file_tape.specs.declared.incoming.Incoming.{Incoming}
use Rattle.fv_pcm.specs.declared.coding.Coding.{Coding}
use Rattle.fv_pcm.specs.headline.Sizes.{data_size, data_limit}
use Rattle.fv_top_report.specs.declared.refusal.Refusal.{Refusal}
use Rattle.fv_top_report.specs.declared.refusal.Refusal.TheVariants.{ReadFault, Channels, FramesNeeded, OutputTooLong}
use Rattle.fv_top_program.specs.Kinds.{IsOfKind}
use Rattle.fv_top_files.specs.headline.Output.{OutputFormat, format_of, counted, channels_in, bits_in, frames_in}
use Rattle.fv_top_files.specs.headline.Inputs.{stated_frames}
use Rattle.fv_top_files.specs.headline.Loading.{IsThere, reading}
use Rattle.fv_top_files.specs.Loading.{ReadsFile, StopsLoading}
use Rattle.fv_top.specs.headline.Stages.{Halts, fault, judged, want_of_memory, reads}
use Rattle.fv_top.specs.headline.Promise.{WantsMemory, IsReadBy, Stage, Fit, TakesTurn, IsAnswered, HasRefusal, StageRefuses, rules_of}
use Rattle.fv_top.specs.inner.Running.{Reaches, CountsFaultOf, asked_before}

pub reaches_nothing : (Reads : Role → Type 0) (a : DeskState) → Reaches Reads [] a a
reaches_nothing Reads a = record { quiet = quiet_self a; requests = sym (append-nil a.requests); left = λ t r none. refl }

-- a role that is not read is not this one, which is
pub is_another : (Reads : Role → Type 0) {role r : Role} → Reads role → (Reads r → ⊥) → r ≢ role
is_another Reads is none same = none (subst Reads (sym same) is)

-- a file more was read
pub reaches_file : {Reads : Role → Type 0} {role : Role} {name : Option (List ℕ)} {asked : List Request} {a b c : DeskState} → (IsSome name → Reads role)
    → Reaches Reads asked a b → ReadsFile role name b c → Reaches Reads (asked ++ reading role name) a c
reaches_file {Reads} {role} {name} {asked} {a} is p q = record {
  quiet = quiet_then p.quiet q.quiet;
  requests = q.requests ∙ ap (λ (rs : List Request). rs ++ reading role name) p.requests ∙ append_assoc a.requests asked (reading role name);
  left = λ t r none. q.others (told_before p.quiet.goes_on t) r (λ named. is_another Reads (is named) none) ∙ p.left t r none;
}

-- ---- why a stage halts

-- A file that may be named was read and cannot be used, by a refusal of this kind, for what P says of it.
pub record FailsToLoad (role : Role) (name : Option (List ℕ)) (Kind P : Refusal → Type 0) (b c : DeskState) (e : Refusal) : Type 0 where
  pub reads : ReadsFile role name b c
  pub stops : StopsLoading role name Kind P b c e
  pub steady : (e ≡ ReadFault role → ⊥) → KeepsFaults b c

-- what stops the loading of a file halts its stage
pub loading_halts : (run : Run) (s : Stage) (role : Role) (name : Option (List ℕ)) (P : Refusal → Type 0)
    {asked : List Request} {a b c : DeskState} {e : Refusal}
    → WantsMemory s → Reaches (IsReadBy (Playing run)) asked a b → (IsSome name → TakesTurn (Playing run) s (reads role))
    → (IsAnswered (Playing run) a s (reads role) → IsUnfailing role a × IsThere name a.files)
    → (IsTrue a.tells → (r : Refusal) → P r → StageRefuses (Playing run) a.files s r) → StopsLoading role name (HasRefusal run.manner.program s) P b c e
    → Halts (rules_of (Playing run) a) a c s e
loading_halts run s role name P {a = a} {c = c} m p takes answers refuses (inl h) =
    let on = p.quiet.goes_on in
    subst (Halts (rules_of (Playing run) a) a c s) (sym h.0)
    (fault (reads role) (takes h.1.named) (fault_earlier c role on h.1.fault) (λ t sure.
    let w = answers sure in
    h.1.unsure (told_before on t) (unfailing_later role on t w.0, subst (IsThere name) (sym (on.files t)) w.1)))
loading_halts run s role name P {e = e} m p takes answers refuses (inr (inl h)) = judged h.0 (λ t. refuses t e (h.1 (told_before p.quiet.goes_on t)))
loading_halts run s role name P {a = a} {c = c} w p takes answers refuses (inr (inr m)) =
    subst (Halts (rules_of (Playing run) a) a c s) (sym m) (want_of_memory w)

-- a fault is no refusal of a program's file
pub no_kind : (kind : ProgramKind) (role : Role) → IsOfKind kind (ReadFault role) → ⊥
no_kind Alone role is = absurd cc
no_kind Rack role is = absurd cc

-- no fault is counted but the one that stops it
pub load_faults : {role : Role} {name : Option (List ℕ)} {Kind P : Refusal → Type 0} (a : DeskState) {b c : DeskState} {e : Refusal}
    → FailsToLoad role name Kind P b c e
    → (Kind (ReadFault role) → ⊥) → KeepsFaults a b → CountsFaultOf e a c
load_faults {Kind = Kind} a f apart before =
    elim f.stops [
      | inl h ↦ λ r other. f.reads.other_faults r (λ same. other (inl (h.0 ∙ ap ReadFault (sym same)))) ∙ before r
      | inr (inl h) ↦ λ r other. f.steady (λ is. apart (subst Kind is h.0)) r ∙ before r
      | inr (inr m) ↦ λ r other. f.steady (λ is. absurd cc) r ∙ before r
    ]

-- ---- a format, and one that does not fit

kind_sized : (b : Bool) (a : OutputFormat) (n : ℕ) (e : Refusal)
    → (let r : Result OutputFormat Refusal = if b then Ok a else Err (OutputTooLong n) in r ≡ Err e) → HasRefusal Alone Fit e
kind_sized true a n e is = absurd cc
kind_sized false a n e is = let same : OutputTooLong n ≡ e = cc in subst (HasRefusal Alone Fit) same refl

kind_counted : (out : Coding) (s : Settings) (channels : ℕ) (head : Option Incoming) (frames : Option ℕ) (e : Refusal)
    → counted out s channels head frames ≡ Err e → HasRefusal Alone Fit e
kind_counted out s channels head None e is = let same : FramesNeeded ≡ e = cc in subst (HasRefusal Alone Fit) same refl
kind_counted out s channels head (Some n) e is = kind_sized (nat_le (data_size channels (bits_in s head) n) data_limit) _ _ e is

kind_chosen : (b : Bool) (r : Result OutputFormat Refusal) (have want : ℕ) (e : Refusal) → (r ≡ Err e → HasRefusal Alone Fit e)
    → (if b then r else Err (Channels have want)) ≡ Err e → HasRefusal Alone Fit e
kind_chosen true r have want e k is = k is
kind_chosen false r have want e k is = let same : Channels have want ≡ e = cc in subst (HasRefusal Alone Fit) same refl

-- its refusals are those of its stage
pub fit_kind : (out : Coding) (s : Settings) (d : Diagram) (head : Option Incoming) (e : Refusal) → format_of out s d head ≡ Err e → HasRefusal Alone Fit e
fit_kind out s d head e is =
    let frames = frames_in s head in
    kind_chosen (channels_in head == inputs d) (counted out s (outputs d) head frames) (channels_in head) (inputs d) e
    (kind_counted out s (outputs d) head frames e) is

-- the frames of a format on an input are those that its head states
sized_frames : (b : Bool) (a format : OutputFormat) (e : Refusal)
    → (let r : Result OutputFormat Refusal = if b then Ok a else Err e in r ≡ Ok format) → format.frames ≡ a.frames
sized_frames true a format e is = let same : a ≡ format = cc in ap (λ (s : OutputFormat). s.frames) (sym same)
sized_frames false a format e is = absurd cc

chosen : (b : Bool) (r : Result OutputFormat Refusal) (e : Refusal) (format : OutputFormat) → (if b then r else Err e) ≡ Ok format → r ≡ Ok format
chosen true r e format is = is
chosen false r e format is = absurd cc

pub fits_frames : (out : Coding) (s : Settings) (d : Diagram) (h : Incoming) (format : OutputFormat) → format_of out s d (Some h) ≡ Ok format
    → format.frames ≡ stated_frames h
fits_frames out s d h format is =
    let r = chosen (h.channels == inputs d) (counted out s (outputs d) (Some h) (frames_in s (Some h))) _ format is in
    sized_frames (nat_le (data_size (outputs d) _ (stated_frames h)) data_limit) _ format _ r

-- nothing more is asked for by the stages that judge and compute
pub reaches_on : (run : Run) (a b : DeskState) → Reaches (IsReadBy (Playing run)) (asked_before run) a b
    → Reaches (IsReadBy (Playing run)) (to_read Program run.program ∷ (reading Controls run.controls ++ (reading Input run.input ++ []))) a b
reaches_on run a b p =
    let Asked : List Request → Type 0 = λ rs. Reaches (IsReadBy (Playing run)) (to_read Program run.program ∷ (reading Controls run.controls ++ rs)) a b in
    subst Asked (sym (append-nil (reading Input run.input))) p
