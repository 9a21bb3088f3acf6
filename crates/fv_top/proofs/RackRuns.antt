-- What is played of a rack is a run of its jobs.
use Rattle.std.proofs.Common.{◌≡◌, ℕ, ◌<◌, Bool, true, false, List, length, All, Ok, Err, Some, None, refl, sym, ap, ◌∙◌, subst}
use Rattle.std.specs.Prelude.{Option, Result, ◌==◌, ◌/◌, ◌*◌, ◌+◌, if◌then◌else◌}
use Rattle.std.proofs.lemmas.Bool.{eqb-true}
use Rattle.fv_base.proofs.lemmas.Lists.{length_table, get_or_table}
use Rattle.fv_outside.specs.headline.Desk.{File}
use Rattle.fv_diagram.specs.Frames.{Frame}
use Rattle.fv_diagram.specs.headline.Diagram.{Diagram, inputs, outputs}
use Rattle.fv_pcm.specs.declared.coding.Coding.{Coding}
use Rattle.fv_pcm.specs.headline.Sizes.{frame_size}
use Rattle.fv_pcm.specs.headline.Coded.{sample_at}
use Rattle.fv_top_words.specs.declared.manner.ProgramKind.{ProgramKind}
use Rattle.fv_top_words.specs.declared.manner.ProgramKind.TheVariants.{Rack}
use Rattle.fv_top_words.specs.headline.Runs.{Run, Settings}
use Rattle.fv_top_report.specs.declared.refusal.Refusal.{Refusal}
use Rattle.fv_top_program.specs.headline.Compiled.{Compiled}
use Rattle.fv_top_program.specs.headline.Kinds.{FileIs}
use Rattle.fv_top_program.specs.headline.Runs.{JobsRun}
use Rattle.fv_top_program.specs.Runs.{JobsAnswer, RacksAreJobs}
use Rattle.fv_top_program.specs.Jobs.{jobs_in}
use Rattle.fv_file_tape.specs.declared.incoming.Incoming.{Incoming}
use Rattle.fv_top_files.specs.headline.Sources.{frames_of, data_of}
use Rattle.fv_top_files.specs.headline.Output.{OutputFormat, channels_in, coding_of, counted, format_of, frames_in, present_in}
use Rattle.fv_top.specs.headline.Promise.{Plays}
use Rattle.fv_top.specs.headline.Jobs.{PlaysJobs}

-- each frame of an input has as many samples as the input has channels
frames_wide : (stated : ℕ) (head : Option Incoming) (raw : List ℕ) → All (λ x. length x ≡ channels_in head) (frames_of stated head raw)
frames_wide stated None raw k d l =
    ap length (get_or_table stated _ k d (subst (λ n. k < n) (length_table stated _) l))
frames_wide stated (Some h) raw k d l =
    ap length (get_or_table (length raw / frame_size h.channels h.bits) _ k d (subst (λ n. k < n) (length_table _ _) l)) ∙ length_table h.channels _

-- and where a format fits, the program has as many inputs
chosen : {A E : Type 0} (b : Bool) (r : Result A E) (e : E) (a : A) → (if b then r else Err e) ≡ Ok a → b ≡ true
chosen true r e a is = refl
chosen false r e a is = absurd cc

fits_channels : (out : Coding) (s : Settings) (d : Diagram) (head : Option Incoming) (format : OutputFormat) → format_of out s d head ≡ Ok format
    → channels_in head ≡ inputs d
fits_channels out s d head format is =
    eqb-true (channels_in head) (inputs d) (chosen (channels_in head == inputs d) (counted out s (outputs d) head (frames_in s head)) _ format is)

pub plays_jobs : RacksAreJobs → JobsAnswer → {run : Run} {files : List File} → run.manner.program ≡ Rack → (p : Plays run files) → PlaysJobs p
plays_jobs racks answer {run} rack p =
    let program = subst (λ (k : ProgramKind). FileIs k p.of.text (Ok p.of.compiled)) rack p.of.program in
    let parts = racks p.of.text p.of.compiled program in
    let present = present_in p.format p.source in
    let channels = fits_channels (coding_of run.manner.output) run.settings p.of.compiled.diagram p.source.head p.format p.fits in
    let whole = channels ∙ ap (λ (c : Compiled). inputs c.diagram) (sym parts.2) in
    let jobs : JobsRun = record {
      texts = jobs_in p.of.text;
      programs = parts.0;
      are = parts.1;
      changes = p.changes;
      frames = present;
      wide = subst (λ n. All (λ (x : Frame). length x ≡ n) present) whole
          (frames_wide p.format.frames p.source.head (data_of p.source.head p.source.bytes));
    } in
    record { jobs = jobs; texts = refl; rack = parts.2; changes = refl; frames = refl; alone = answer jobs }
