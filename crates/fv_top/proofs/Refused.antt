-- How a run ends whose refusal was reported.
use Rattle.std.proofs.Common.{◌≡◌, ◌⊎◌, ℕ, List, [], ◌∷◌, ◌++◌, sym, ◌∙◌, ap, refl, inl, inr, ⊎_elim, append_assoc}
use Rattle.std.specs.Prelude.{IsTrue, Ok, Err, OnOk, OnErr, Result}
use Rattle.fv_outside.specs.declared.desk.Failed.{Failed}
use Rattle.fv_base.specs.declared.role.Role.TheVariants.{Output, Report}
use Rattle.fv_base.specs.headline.Lists.{IsPrefixOf}
use Rattle.fv_outside.specs.headline.Requests.{Request}
use Rattle.fv_outside.specs.headline.Desk.{DeskState, GoesOn, HasFault}
use Rattle.fv_outside.specs.Desk.{Appends}
use Rattle.fv_outside.proofs.lemmas.States.{goes_on_then, fault_earlier, fault_later, told_before}
use Rattle.fv_top_words.specs.headline.Runs.{Run}
use Rattle.fv_top_report.specs.declared.refusal.Refusal.{Refusal}
use Rattle.fv_top_report.specs.headline.Lines.{refused_line}
use Rattle.fv_top.specs.headline.Stages.{Rules, role_of, Halts, fault, judged, want_of_memory, Ends, here, later}
use Rattle.fv_top.specs.headline.Promise.{rules_of, stages_of, HasCause, bad_words, of_job, LeavesOutput, HasPlayedPresent, CutsShort}
use Rattle.fv_top.specs.inner.Running.{Stopped, ReportsLine, EndsRefused}
use Rattle.fv_top.proofs.Stopping.{others_told, rest_told, within_told}

-- a cause between two states is one up to any later state
halts_later : {S : Type 0} (k : Rules S) (a b c : DeskState) (s : S) (e : Refusal) → GoesOn b c → Halts k a b s e → Halts k a c s e
halts_later k a b c s e g (fault t takes f unsure) = fault t takes (fault_later a (role_of t) g f) unsure
halts_later k a b c s e g (judged of r) = judged of r
halts_later k a b c s e g (want_of_memory w) = want_of_memory w

ends_later : {S : Type 0} (k : Rules S) (a b c : DeskState) (steps : List S) (e : Refusal) (asked : List Request) → GoesOn b c
    → Ends k a b steps e asked → Ends k a c steps e asked
ends_later k a b c [] e asked g h = elim h [ ]
ends_later k a b c (s ∷ rest) e asked g (here h) = here (halts_later k a b c s e g h)
ends_later k a b c (s ∷ rest) e asked g (later p h) = later p (ends_later k a b c rest e _ g h)

cause_later : (words : List (List ℕ)) (a b c : DeskState) (e : Refusal) (asked : List Request) → GoesOn b c
    → HasCause words a b e asked → HasCause words a c e asked
cause_later words a b c e asked g (bad_words h) = bad_words h
cause_later words a b c e asked g (of_job job asks h) = of_job job asks (ends_later (rules_of job a) a b c (stages_of job) e asked g h)

-- the line of a refusal, whether or not the report failed
pub line_reported : (r : Result (Unit {0}) Failed) (refusal : Refusal) (old new : DeskState) → OnOk r (Appends Report (refused_line refusal) old new)
    → OnErr r ((part : List ℕ) × IsPrefixOf part (refused_line refusal) × Appends Report part old new) → OnErr r (HasFault Report old new)
    → ReportsLine refusal old new
line_reported (Ok u) refusal old new ok err failed = record { line = refused_line refusal; is_line = inl refl; appends = ok }
line_reported (Err e) refusal old new ok err failed = record { line = err.0; is_line = inr (err.1, failed); appends = err.2 }

-- a line's fault counts from any earlier state on
line_earlier : (refusal : Refusal) (line : List ℕ) (old mid new : DeskState) → GoesOn old mid →
    (line ≡ refused_line refusal) ⊎ (IsPrefixOf line (refused_line refusal) × HasFault Report mid new) →
    (line ≡ refused_line refusal) ⊎ (IsPrefixOf line (refused_line refusal) × HasFault Report old new)
line_earlier refusal line old mid new g (inl e) = inl e
line_earlier refusal line old mid new g (inr p) = inr (p.0, fault_earlier new Report g p.1)

-- the report of a refusal leaves the output as it was
output_later : (words : List (List ℕ)) (line : List ℕ) (a b c : DeskState) (e : Refusal) → GoesOn a b → Appends Report line b c
    → LeavesOutput words e a b → LeavesOutput words e a c
output_later words line a b c e g r (inl k) = inl (record {
  begins = r.begins Output ∙ k.begins;
  written = λ t. r.others (told_before g t) Output (λ f. absurd cc) ∙ k.written t;
})
output_later words line a b c e g r (inr k) = inr (record {
  run = k.run;
  asks = k.asks;
  begun = r.begins Output ∙ k.begun;
  memory = k.memory;
  within = λ other t. within_told (told_before g t) r (k.within other t);
  rest = λ other said t. rest_told (told_before g t) r (k.rest other said t);
  told = λ t.
      let p = k.told t in
      let same = r.others (told_before g t) Output (λ f. absurd cc) in
      (p.0, record { rest = p.1.rest; is = p.1.is ∙ ap (λ w. w ++ p.1.rest) (sym same) });
})

-- and as much of it as was played
present_later : {run : Run} {line : List ℕ} {a b c : DeskState} → IsTrue b.tells → Appends Report line b c → HasPlayedPresent run a b
    → HasPlayedPresent run a c
present_later t r k = record {
  begun = r.begins Output ∙ k.begun;
  plays = k.plays;
  frame = k.frame;
  cut = k.cut;
  written = r.others t Output (λ f. absurd cc) ∙ k.written;
}

cut_later : (words : List (List ℕ)) {line : List ℕ} {a b c : DeskState} (e : Refusal) → GoesOn a b → Appends Report line b c
    → CutsShort words e a b → CutsShort words e a c
cut_later words e g r cut = λ c place is t.
    let x = cut c place is t in
    (x.0, x.1, ⊎_elim inl (λ k. inr (present_later (told_before g t) r k)) x.2)

pub ends_refused : {words : List (List ℕ)} {a b c : DeskState} {e : Refusal} → Stopped words a b e → ReportsLine e b c → EndsRefused words a c e
ends_refused {words} {a} {b} {c} {e} s r = record {
  goes_on = goes_on_then s.goes_on r.appends.goes_on;
  others = others_told s.goes_on s.others r.appends;
  cause = record {
    asked = s.cause.asked;
    requests = r.appends.requests ∙ s.cause.requests;
    cause = cause_later words a b c e s.cause.asked r.appends.goes_on s.cause.cause;
  };
  output = output_later words r.line a b c e s.goes_on r.appends s.output;
  cut = cut_later words e s.goes_on r.appends s.cut;
  report = record {
    begun = s.begun;
    line = r.line;
    appended = λ t. r.appends.appended (told_before s.goes_on t) ∙ ap (λ w. w ++ r.line) (s.appended t) ∙ append_assoc (a.written Report) s.begun r.line;
    is_line = line_earlier e r.line a b c s.goes_on r.is_line;
    is_begun = s.is_begun;
  };
  hands_on = λ x n other. r.appends.other_faults x n ∙ s.faults x other;
}
