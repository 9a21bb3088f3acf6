-- How a run ends once its output is written.
use Rattle.std.proofs.Common.{◌≡◌, ◌≢◌, ℕ, ◌+◌, ◌%◌, ◌^◌, ◌<◌, ◌≤◌, List, [], ◌∷◌, ◌++◌, length, take, length-append, sym, ◌∙◌, ap, ap₂, subst, refl}
use Rattle.std.proofs.Common.{inl, inr, ⊎_elim, append_assoc, arith}
use Rattle.std.specs.Prelude.{IsTrue, IsSome, is_some, Option, Some, None, option_map}
use Rattle.std.specs.Option.{ForSome}
use Rattle.std.proofs.lemmas.List.{append-nil}
use Rattle.fv_diagram.specs.Frames.{Frame}
use Rattle.fv_base.specs.declared.role.Role.{Role}
use Rattle.fv_base.specs.declared.role.Role.TheVariants.{Program, Input, Controls, Output, Report}
use Rattle.fv_base.specs.headline.Lists.{IsPrefixOf}
use Rattle.fv_outside.specs.headline.Requests.{Request, to_read, to_write}
use Rattle.fv_outside.specs.headline.Journal.{Told}
use Rattle.fv_outside.specs.headline.Desk.{DeskState, GoesOn, HasFault, KeepsFaults, IsUnfailing}
use Rattle.fv_outside.specs.Desk.{Appends}
use Rattle.fv_outside.proofs.lemmas.States.{goes_on_then, fault_earlier, told_before, unfailing_later}
use Rattle.fv_control.specs.declared.script.Change.{Change}
use Rattle.fv_control.specs.headline.Streams.{control_streams}
use Rattle.fv_engine_render.specs.headline.Render.{RanTo, initial_of}
use Rattle.fv_engine_render.specs.Render.{RanWhole}
use Rattle.fv_engine_render.specs.declared.blocks.Ran.{Ran}
use Rattle.fv_engine_render.specs.declared.blocks.RunSizes.{RunSizes}
use Rattle.fv_engine_render.specs.headline.Files.{IsCutAt}
use Rattle.fv_engine_render.specs.Files.{AreTakenOf, HasTaken, frames_at}
use Rattle.fv_file_tape.specs.headline.Tapes.{HasBegun}
use Rattle.fv_file_tape.specs.Tapes.{Streams, files_of}
use Rattle.fv_file_tape.specs.declared.incoming.Incoming.{Incoming}
use Rattle.fv_file_tape.specs.declared.file_tape.Stop.{Stop}
use Rattle.fv_file_tape.specs.declared.file_tape.Stop.TheVariants as stop
use Rattle.fv_top_words.specs.headline.Runs.{Run}
use Rattle.fv_top_words.specs.headline.Commands.{Playing}
use Rattle.fv_top_report.specs.declared.refusal.Refusal.{Refusal}
use Rattle.fv_top_report.specs.declared.refusal.Refusal.TheVariants.{ReadFault, WriteFault, NoMemory}
use Rattle.fv_pcm.specs.declared.coding.Coding.{Coding}
use Rattle.fv_top_program.specs.headline.Compiled.{Compiled}
use Rattle.fv_top.specs.declared.prepare.Prepared.{Prepared}
use Rattle.fv_top_files.specs.headline.Inputs.{truncated, stated_frames}
use Rattle.fv_top_files.specs.headline.Sources.{frames_of, data_of}
use Rattle.fv_top_files.specs.headline.Output.{OutputFormat, coding_of, format_of, present_in, cut_in, output_file}
use Rattle.fv_top.specs.headline.Meant.{written_by}
use Rattle.fv_top_report.specs.headline.Lines.{done_line}
use Rattle.fv_top_report.specs.Parts.{AppendsPart}
use Rattle.fv_top.specs.headline.Stages.{reads, writes, Halts, fault, judged, Ends, here, later}
use Rattle.fv_top_files.specs.headline.Loading.{LeavesRest, ReadsWithin, reading}
use Rattle.fv_top.specs.headline.Promise.{Asks, Plays, IsWhole, Write, Tell, HasRoom, meant, meant_to, rules_of, stages_of, CanDo, meant_of}
use Rattle.fv_top.specs.headline.Promise.{of_job, LeavesOutput, HasPlayedPresent, IsReadBy, IsRead, KeepsOthers}
use Rattle.fv_top.specs.headline.Played.{HaveRan, RanSoFar}
use Rattle.fv_top_files.specs.Formats.{format_in}
use Rattle.fv_top.specs.inner.Prepared.{CanRun, IsForRun, IsOfFiles, HasRun, IsCutIn, EndsAt, frames_there, file_on, file_to, file_there}
use Rattle.fv_top.specs.inner.Prepared.{coding_heard}
use Rattle.fv_top.specs.inner.Prepared.{refusal_of_stop}
use Rattle.fv_top.specs.inner.Running.{Reaches, CountsFaultOf, asked_before, EndsDone, Stopped}
use Rattle.fv_top.proofs.Reaching.{fits_frames}
use Rattle.fv_top.proofs.Playing.{frames_are, coding_is, end_is, taken_none, taken_within, taken_all, frame_some, end_rest, left_closed, cut_is, whole_is}
use Rattle.fv_top.proofs.Stopping.{others_told, rest_told, within_all, no_fault, no_want, written_cut}

-- what was begun once has not been begun as often as before
not_begun : (a c : DeskState) → HasBegun a c → c.begins Output ≡ a.begins Output → ⊥
not_begun a c begun same = differ (a.begins Output) (sym same ∙ begun)
  where
    differ : (n : ℕ) → n ≡ (n + 1) % 2 ^ 64 → ⊥
    differ n is = omega (arith, is)

-- from a, all was read in b, and what is ready is for this run
pub record IsReady (words : List (List ℕ)) (run : Run) (m : Compiled) (p : Prepared) (a b : DeskState) : Type 0 where
  pub asks : Asks words (Playing run)
  pub reaches : Reaches (IsReadBy (Playing run)) (asked_before run) a b
  pub before : KeepsFaults a b
  pub can : CanRun m p
  pub named : IsForRun run p
  pub of : IsTrue a.tells → IsOfFiles run a b m p
  pub whole : IsTrue a.tells → (r : Role) → IsReadBy (Playing run) r → r ≢ Input → b.left r ≡ []

-- what the desk was asked for by then
abbrev asked_by : Run → List Request
asked_by run = to_read Program run.program ∷ (reading Controls run.controls ++ (reading Input run.input ++ to_write Output run.output ∷ []))

module _ {words : List (List ℕ)} {run : Run} {m : Compiled} {p : Prepared} {a b : DeskState} (w : IsReady words run m p a b) where
  told_by : IsTrue a.tells → IsTrue b.tells
  told_by t = told_before w.reaches.quiet.goes_on t

  -- the files
  abbrev plays_by : IsTrue a.tells → Plays run a.files
  plays_by t = (w.of t).plays

  -- as many frames as are stated
  frames_by : (t : IsTrue a.tells) → (plays_by t).format.frames ≡ p.sizes.frames
  frames_by t = ap (λ (f : OutputFormat). f.frames) (w.of t).format ∙ w.can.frames

  -- those that are there are those that are present in the input's file
  there_by : (t : IsTrue a.tells) → frames_there p (b.left Input) ≡ present_in (plays_by t).format (plays_by t).source
  there_by t =
      let o = w.of t in
      let source = o.plays.source in
      let held = (files_of p.tape).held in
      let stated : p.tape.stated ≡ o.plays.format.frames = w.can.stated ∙ sym (frames_by t) in
      ap (λ i. frames_at i held p.tape.stated (b.left Input)) o.input
      ∙ frames_are source.head held source.bytes (b.left Input) p.tape.stated o.behind
      ∙ ap (λ n. frames_of n source.head (data_of source.head source.bytes)) stated

  -- and their file is what they mean
  file_by : (t : IsTrue a.tells) (X : List Frame) → file_on m p X
      ≡ output_file (plays_by t).of.compiled.diagram (control_streams (plays_by t).changes (initial_of (plays_by t).of.compiled.controls)) (plays_by t).format X
  file_by t X =
      let o = w.of t in
      let f = format_in p.format in
      sym (ap (λ (q : Compiled). output_file q.diagram (control_streams o.plays.changes (initial_of q.controls)) o.plays.format X) o.program
      ∙ ap (λ ks. output_file m.diagram (control_streams ks (initial_of m.controls)) o.plays.format X) o.changes
      ∙ ap (λ s. output_file m.diagram (control_streams p.script (initial_of m.controls)) s X) o.format)

  meant_by : (t : IsTrue a.tells) → file_there m p (b.left Input) ≡ written_by (meant (plays_by t)) a Output
  meant_by t = ap (file_on m p) (there_by t) ∙ file_by t (present_in (plays_by t).format (plays_by t).source)

  -- its head states the frames of the run
  stated_by : (t : IsTrue a.tells) → ForSome (plays_by t).source.head (λ h. p.sizes.frames ≡ stated_frames h)
  stated_by t h named =
      let q = plays_by t in
      sym (frames_by t)
      ∙ fits_frames (coding_of run.manner.output) run.settings q.of.compiled.diagram h q.format
      (ap (format_of (coding_of run.manner.output) run.settings q.of.compiled.diagram) (sym named) ∙ q.fits)

  -- all stages before it passed
  behind : (d : DeskState) (e : Refusal) (asked : List Request) → Ends (rules_of (Playing run) a) a d (Write ∷ Tell ∷ []) e asked →
      Ends (rules_of (Playing run) a) a d (stages_of (Playing run)) e
      (to_read Program run.program ∷ (reading Controls run.controls ++ (reading Input run.input ++ asked)))
  behind d e asked h =
      later (λ t. (plays_by t).of)
      (later (λ t. let q = plays_by t in (q.of, q.changes, q.under))
      (later (λ t. let q = plays_by t in (q.source, q.on))
      (later plays_by h)))

  -- where no input is read, none of its bytes is
  abbrev KeepsUnread : (c : DeskState) → Type 0
  KeepsUnread c = IsTrue b.tells → (IsSome p.tape.input → ⊥) → c.left Input ≡ b.left Input

  -- from b on, the output alone was asked for and written
  record Writes (c : DeskState) : Type 0 where
    streams : Streams p.tape.output.now b c
    kept : KeepsUnread c

  module _ (c : DeskState) (x : Writes c) where
    goes : GoesOn a c
    goes = goes_on_then w.reaches.quiet.goes_on x.streams.goes_on

    requests_by : c.requests ≡ a.requests ++ asked_by run
    requests_by =
        let output = to_write Output run.output ∷ [] in
        let behind_controls = append_assoc (reading Controls run.controls) (reading Input run.input) output in
        x.streams.requests ∙ ap (λ n. b.requests ++ to_write Output n ∷ []) w.named.output ∙ ap (λ (rs : List Request). rs ++ output) w.reaches.requests
        ∙ append_assoc a.requests (asked_before run) output ∙ ap (λ (rs : List Request). a.requests ++ (to_read Program run.program ∷ rs)) behind_controls

    left_by : IsTrue a.tells → (r : Role) → (IsRead words r → ⊥) → c.left r ≡ a.left r
    left_by t r none =
        let unread : IsReadBy (Playing run) r → ⊥ = λ is. none (Playing run, w.asks, is) in
        of_role r unread ∙ w.reaches.left t r unread
      where
        of_role : (r : Role) → (IsReadBy (Playing run) r → ⊥) → c.left r ≡ b.left r
        of_role Program unread = x.streams.left (told_by t) Program (λ e. absurd cc)
        of_role Input unread = x.kept (told_by t) (λ some. unread (sym w.named.named ∙ some))
        of_role Controls unread = x.streams.left (told_by t) Controls (λ e. absurd cc)
        of_role Output unread = x.streams.left (told_by t) Output (λ e. absurd cc)
        of_role Report unread = x.streams.left (told_by t) Report (λ e. absurd cc)

    others_by : KeepsOthers (IsRead words) a c
    others_by = record {
      left = left_by;
      written = λ t r n m. x.streams.written (told_by t) r n ∙ w.reaches.quiet.written t r;
      begins = λ r n. x.streams.begins r n ∙ w.reaches.quiet.begins r;
    }

    -- and its report as before
    report_by : IsTrue a.tells → c.written Report ≡ a.written Report
    report_by t = x.streams.written (told_by t) Report (λ e. absurd cc) ∙ w.reaches.quiet.written t Report

  begun_by : (c : DeskState) → HasBegun b c → HasBegun a c
  begun_by c h = h ∙ ap (λ n. (n + 1) % 2 ^ 64) (w.reaches.quiet.begins Output)

  -- the blocks up to a frame
  abbrev blocks_by : {upto : ℕ} {counted : Ran} {before after : Option Told}
      → RanTo m.diagram m.controls p.script p.sizes upto counted before after
      → HaveRan (Playing run) a upto counted before after
  blocks_by ran = record {
    played = record { program = m; changes = p.script; sizes = p.sizes };
    is = (w.named.sizes, λ t. let o = w.of t in (o.plays, o.program, o.changes, frames_by t));
    ran = ran;
  }

  -- all of them
  pub blocks_done : {counted : Ran} {before after : Option Told}
      → RanWhole m.diagram m.controls p.script p.sizes counted before after
      → (x : HaveRan (Playing run) a p.format.frames counted before after) × (x.played.sizes.frames ≡ p.format.frames)
  blocks_done {counted} {before} {after} ran =
      let d = m.diagram in (
        blocks_by (subst (λ n. RanTo d m.controls p.script p.sizes n counted before after) (sym w.can.frames) ran),
        sym w.can.frames,
      )

  pub blocks_told : {counted : Ran} {before after : Option Told} (c d : DeskState) → HasBegun b c → d.begins Output ≡ c.begins Output
      → RanWhole m.diagram m.controls p.script p.sizes counted before after
      → RanSoFar words (WriteFault Report) a d before after
  blocks_told {counted} c d begun same ran = record {
    job = Playing run;
    asks = w.asks;
    upto = p.sizes.frames;
    counted = counted;
    ran = blocks_by ran;
    stops = (λ is. refl, λ j at is t. absurd (no_fault j at (writes Report) (sym is)), λ is some t. absurd cc, λ is some t. absurd cc);
    first = λ is. absurd (not_begun a c (begun_by c begun) (sym same ∙ is));
  }

  -- ---- where it stops

  -- the refusal
  abbrev pub refusal_by : Stop → Refusal
  refusal_by e = refusal_of_stop (coding_heard p.tape.input) e

  module _ (c : DeskState) (g : ℕ) where
    ends_writes : (e : Stop) → EndsAt m p g b c e → Writes c
    ends_writes stop.Read k = record { streams = k.streams; kept = λ t none. absurd (none k.cause.3) }
    ends_writes (stop.End place) k = record { streams = k.streams; kept = λ t none. absurd (none (ap is_some k.cause.3)) }
    ends_writes stop.Write k = record {
      streams = k.streams;
      kept = λ t none. let y = k.cause.1 t in taken_none p.tape.input (files_of p.tape).held y.0 (b.left Input) (c.left Input) none y.2;
    }

    -- as many frames of the input as were taken
    taken_by : (t : IsTrue a.tells) (n : ℕ) → HasTaken (files_of p.tape) n b c
        → AreTakenOf (plays_by t).source.head (files_of p.tape).held n (b.left Input) (c.left Input)
    taken_by t n y = subst (λ i. AreTakenOf i (files_of p.tape).held n (b.left Input) (c.left Input)) (w.of t).input y

    within_by : (t : IsTrue a.tells) (n : ℕ) → n ≤ p.sizes.frames → HasTaken (files_of p.tape) n b c
        → ReadsWithin run.manner.input run.input a.files (c.left Input)
    within_by t n few y =
        let o = w.of t in
        let source = o.plays.source in
        record {
          source = source;
          input = o.plays.on;
          rest = taken_within source.head (files_of p.tape).held source.bytes (b.left Input) (c.left Input) n o.behind
              (λ h named. let same = stated_by t h named in omega (arith, few, same)) (taken_by t n y);
        }

    rest_by : (t : IsTrue a.tells) → HasTaken (files_of p.tape) p.sizes.frames b c → LeavesRest run.manner.input run.input a.files (c.left Input)
    rest_by t y =
        let o = w.of t in
        let source = o.plays.source in
        record {
          source = source;
          input = o.plays.on;
          rest = taken_all source.head (files_of p.tape).held source.bytes (b.left Input) (c.left Input) p.sizes.frames o.behind (stated_by t)
              (taken_by t p.sizes.frames y);
        }

    -- the file was read to its end, which is within its whole frames
    rest_cut : (t : IsTrue a.tells) (i : Incoming) (place : ℕ) → (files_of p.tape).held ≡ None → IsCutIn m p i g place b c
        → LeavesRest run.manner.input run.input a.files (c.left Input)
    rest_cut t i place fresh k =
        let o = w.of t in
        let source = o.plays.source in
        let short = subst (λ (X : List Frame). length X < p.sizes.frames) (there_by t) k.short in
        record {
          source = source;
          input = o.plays.on;
          rest = end_rest source.head source.bytes (c.left Input) p.sizes.frames (stated_by t)
              (frame_some p.tape.input source.head o.input w.can.tape.input)
              (left_closed source.head (files_of p.tape).held source.bytes (b.left Input) o.behind fresh)
              (subst (λ n. length (frames_of n source.head (data_of source.head source.bytes)) < p.sizes.frames) (frames_by t) short) k.taken;
        }

    stop_within : (e : Stop) → EndsAt m p g b c e → (refusal_by e ≡ ReadFault Input → ⊥) → IsTrue a.tells
        → ReadsWithin run.manner.input run.input a.files (c.left Input)
    stop_within stop.Read k other t = absurd (other refl)
    stop_within (stop.End place) k other t = within_all (rest_cut t k.cause.2 place k.cause.4 (k.cause.5 (told_by t)))
    stop_within stop.Write k other t = let y = k.cause.1 (told_by t) in within_by t y.0 y.1 y.2

    stop_rest : (e : Stop) → EndsAt m p g b c e → (refusal_by e ≡ ReadFault Input → ⊥) → (refusal_by e ≡ WriteFault Output → ⊥) → IsTrue a.tells
        → LeavesRest run.manner.input run.input a.files (c.left Input)
    stop_rest stop.Read k other said t = absurd (other refl)
    stop_rest (stop.End place) k other said t = rest_cut t k.cause.2 place k.cause.4 (k.cause.5 (told_by t))
    stop_rest stop.Write k other said t = absurd (said refl)

    -- the input is cut short at its end
    cut_by : (t : IsTrue a.tells) (i : Incoming) (place : ℕ) → p.tape.input ≡ Some i → (files_of p.tape).held ≡ None → IsCutIn m p i g place b c
        → cut_in (plays_by t).format (plays_by t).source ≡ Some (truncated (coding_heard p.tape.input) place)
    cut_by t i place is fresh k =
        let o = w.of t in
        let source = o.plays.source in
        let coding = ap coding_heard o.input ∙ coding_is source.head in
        let end = k.place_is ∙ end_is source.head (files_of p.tape).held source.bytes (b.left Input) i o.behind (sym o.input ∙ is) fresh in
        let short : length (present_in o.plays.format source) < o.plays.format.frames =
        subst (λ n. length (present_in o.plays.format source) < n) (sym (frames_by t))
        (subst (λ (X : List Frame). length X < p.sizes.frames) (there_by t) k.short) in
        cut_is o.plays.format source short ∙ ap₂ (λ (x : Coding) (y : ℕ). Some (truncated x y)) (sym coding) (sym end)

    -- why
    stop_halts : (e : Stop) → EndsAt m p g b c e → Halts (rules_of (Playing run) a) a c Write (refusal_by e)
    stop_halts stop.Read k =
        let on = w.reaches.quiet.goes_on in
        fault (reads Input) (inr (refl, sym w.named.named ∙ k.cause.3)) (fault_earlier c Input on k.cause.1.counted)
        (λ t sure. k.cause.1.due (told_by t) (unfailing_later Input on t sure))
    stop_halts (stop.End place) k =
        judged (written_cut (coding_heard p.tape.input) place)
        (λ t. (plays_by t, cut_by t k.cause.2 place k.cause.3 k.cause.4 (k.cause.5 (told_by t))))
    stop_halts stop.Write k =
        let on = w.reaches.quiet.goes_on in
        fault (writes Output) (inl refl) (fault_earlier c Output on k.cause.0.fault)
        (λ t sure.
        let size = ap length (meant_by t) in
        let fits = sure.1 (plays_by t) in
        let room = on.room t Output in
        k.cause.0.unsure (told_by t) (unfailing_later Output on t sure.0) (omega (arith, size, fits, room)))

    stop_some : (e : Stop) → refusal_by e ≡ NoMemory → ⊥
    stop_some stop.Read is = absurd cc
    stop_some (stop.End place) is = no_want (coding_heard p.tape.input) place is
    stop_some stop.Write is = absurd cc

    stop_output : (e : Stop) → EndsAt m p g b c e → LeavesOutput words (refusal_by e) a c
    stop_output e k =
        ⊎_elim
        (λ o. inl (record {
          begins = o.0.begins ∙ w.reaches.quiet.begins Output;
          written = λ t. o.0.written (told_by t) ∙ w.reaches.quiet.written t Output;
        }))
        (λ o. inr (record {
          run = run;
          asks = w.asks;
          begun = begun_by c o.0;
          memory = stop_some e;
          within = stop_within e k;
          rest = stop_rest e k;
          told = λ t.
              let q = o.1 (told_by t) in
              (plays_by t, record { rest = q.rest; is = sym (meant_by t) ∙ q.is });
        })) k.output

    -- the file of the frames up to this one is what they mean
    file_to_by : (t : IsTrue a.tells) → file_to m p g (b.left Input) ≡ written_by (meant_to (plays_by t) g) a Output
    file_to_by t = let q = plays_by t in
        ap (λ (X : List Frame). file_on m p (take g X)) (there_by t) ∙ file_by t (take g (present_in q.format q.source))

    -- the blocks within the frames that are present were played
    abbrev IsCutFor : (t : IsTrue a.tells) (frames : ℕ) (changes : List Change) → Type 0
    IsCutFor t frames changes = IsCutAt run.settings.block frames changes (length (present_in (plays_by t).format (plays_by t).source)) g

    cut_for : (t : IsTrue a.tells) (i : Incoming) (place : ℕ) → IsCutIn m p i g place b c → IsCutFor t p.sizes.frames p.script
    cut_for t i place k =
        let block : p.sizes.block ≡ run.settings.block = ap (λ (s : RunSizes). s.block) w.named.sizes in
        subst (λ (X : List Frame). IsCutAt run.settings.block p.sizes.frames p.script (length X) g) (there_by t)
        (subst (λ n. IsCutAt n p.sizes.frames p.script (length (frames_there p (b.left Input))) g) block k.cut)

    present_by : (t : IsTrue a.tells) (i : Incoming) (place : ℕ) → HasBegun b c → IsCutIn m p i g place b c → HasPlayedPresent run a c
    present_by t i place begun k =
        let q = plays_by t in
        record {
          begun = begun_by c begun;
          plays = q;
          frame = g;
          cut = subst (λ n. IsCutFor t n q.changes) (sym (frames_by t))
              (subst (λ ks. IsCutFor t p.sizes.frames ks) (sym (w.of t).changes) (cut_for t i place k));
          written = k.written ∙ file_to_by t;
        }

    stop_cut : (e : Stop) → EndsAt m p g b c e → (j : Coding) (at : ℕ) → refusal_by e ≡ truncated j at → IsTrue a.tells → HasPlayedPresent run a c
    stop_cut stop.Read k j at is t = absurd (no_fault j at (reads Input) (sym is))
    stop_cut (stop.End place) k j at is t = present_by t k.cause.2 place k.cause.0 (k.cause.5 (told_by t))
    stop_cut stop.Write k j at is t = absurd (no_fault j at (writes Output) (sym is))

    stop_frames : (e : Stop) → EndsAt m p g b c e → (j : Coding) (at : ℕ) → refusal_by e ≡ truncated j at → (t : IsTrue a.tells)
        → IsCutFor t p.sizes.frames p.script
    stop_frames stop.Read k j at is t = absurd (no_fault j at (reads Input) (sym is))
    stop_frames (stop.End place) k j at is t = cut_for t k.cause.2 place (k.cause.5 (told_by t))
    stop_frames stop.Write k j at is t = absurd (no_fault j at (writes Output) (sym is))

    stop_told : (e : Stop) → refusal_by e ≡ WriteFault Report → g ≡ p.sizes.frames
    stop_told stop.Read is = absurd cc
    stop_told (stop.End place) is = absurd (no_fault (coding_heard p.tape.input) place (writes Report) is)
    stop_told stop.Write is = absurd cc

    -- where the input failed, it was written
    stop_read : (e : Stop) → EndsAt m p g b c e → refusal_by e ≡ ReadFault Input → HasBegun a c → IsTrue a.tells
        → (q : Plays run a.files) × (c.written Output ≡ written_by (meant_to q g) a Output)
    stop_read stop.Read k is begun t = (plays_by t, k.cause.5 (told_by t) ∙ file_to_by t)
    stop_read (stop.End place) k is begun t = absurd (no_fault (coding_heard p.tape.input) place (reads Input) is)
    stop_read stop.Write k is begun t = absurd cc

    -- and where the output failed, a part of it was
    stop_write : (e : Stop) → EndsAt m p g b c e → refusal_by e ≡ WriteFault Output → HasBegun a c → IsTrue a.tells
        → (q : Plays run a.files) × IsPrefixOf (c.written Output) (written_by (meant_to q g) a Output)
    stop_write stop.Read k is begun t = absurd cc
    stop_write (stop.End place) k is begun t = absurd (no_fault (coding_heard p.tape.input) place (writes Output) is)
    stop_write stop.Write k is begun t =
        ⊎_elim (λ o. absurd (not_begun a c begun (o.begins ∙ w.reaches.quiet.begins Output)))
        (λ o. (plays_by t, subst (IsPrefixOf (c.written Output)) (file_to_by t) (o (told_by t)))) k.cause.2

    stop_faults : (e : Stop) → EndsAt m p g b c e → CountsFaultOf (refusal_by e) a c
    stop_faults stop.Read k r other = k.cause.2 r (λ same. other (inl (ap ReadFault (sym same)))) ∙ w.before r
    stop_faults (stop.End place) k r other = k.cause.1 r ∙ w.before r
    stop_faults stop.Write k r other = k.cause.0.others r (λ same. other (inr (ap WriteFault (sym same)))) ∙ w.before r

    pub stopped_playing : (e : Stop) → EndsAt m p g b c e → Stopped words a c (refusal_by e)
    stopped_playing e k =
        let x = ends_writes e k in
        record {
          goes_on = goes c x;
          others = others_by c x;
          cause = record {
            asked = asked_by run;
            requests = requests_by c x;
            cause = of_job (Playing run) w.asks (behind c (refusal_by e) (to_write Output run.output ∷ []) (here (stop_halts e k)));
          };
          output = stop_output e k;
          cut = λ j at is t. (run, w.asks, inr (stop_cut e k j at is t));
          begun = [];
          appended = λ t. report_by c x t ∙ sym (append-nil (a.written Report));
          is_begun = inl refl;
          faults = stop_faults e k;
        }

    -- and these blocks ran
    pub blocks_stopped : {counted : Ran} {before after : Option Told} (e : Stop) → EndsAt m p g b c e
        → RanTo m.diagram m.controls p.script p.sizes g counted before after
        → RanSoFar words (refusal_by e) a c before after
    blocks_stopped {counted} e k ran = record {
      job = Playing run;
      asks = w.asks;
      upto = g;
      counted = counted;
      ran = blocks_by ran;
      stops = (stop_told e, λ j at is t. (plays_by t, stop_frames e k j at is t), stop_read e k, stop_write e k);
      first = λ is. ⊎_elim (λ o. o.1) (λ o. absurd (not_begun a c (begun_by c o.0) is)) k.output;
    }

  -- ---- all of it was written

  module _ (c : DeskState) (k : HasRun m p b c) where
    run_writes : Writes c
    run_writes = record {
      streams = k.streams;
      kept = λ t none. taken_none p.tape.input (files_of p.tape).held p.sizes.frames (b.left Input) (c.left Input) none (k.taken t);
    }

    whole_by : (t : IsTrue a.tells) → IsWhole (plays_by t)
    whole_by t =
        let q = plays_by t in
        whole_is q.format q.source (sym (ap length (there_by t)) ∙ k.there (told_by t) ∙ sym (frames_by t))

    written_whole : (t : IsTrue a.tells) → c.written Output ≡ written_by (meant (plays_by t)) a Output
    written_whole t = k.written (told_by t) ∙ meant_by t

    -- the frames that are counted
    counted_by : (t : IsTrue a.tells) → p.format.frames ≡ (meant (plays_by t)).frames
    counted_by t = sym (ap (λ (f : OutputFormat). f.frames) (w.of t).format)

    -- it was written, and not reported
    pub stopped_telling : (d : DeskState) → AppendsPart Report (done_line p.format.frames) c d → HasFault Report c d →
        (IsTrue c.tells → IsUnfailing Report c → length (c.written Report) + length (done_line p.format.frames) ≤ c.room Report → ⊥)
        → Stopped words a d (WriteFault Report)
    stopped_telling d part failed unsure =
        let x = run_writes in
        let on = goes c x in
        let q = part.2 in
        let done = done_line p.format.frames in
        let unanswered : IsTrue a.tells → IsUnfailing Report a × HasRoom (Playing run) a Report → ⊥ = λ t sure.
        let line : a.written Report ++ done ≡ a.written Report ++ (meant (plays_by t)).line = ap (λ n. a.written Report ++ done_line n) (counted_by t) in
        let size = ap length line in
        let same = ap length (report_by c x t) in
        let fits = sure.1 (plays_by t) in
        let room = on.room t Report in
        unsure (told_before on t) (unfailing_later Report on t sure.0) (omega (arith, length-append (a.written Report) done)) in
        let begun_line : IsTrue a.tells → (can : CanDo (Playing run) a.files) × IsPrefixOf part.0 (meant_of (Playing run) a.files can).line = λ t.
        ((plays_by t, whole_by t), subst (λ (n : ℕ). IsPrefixOf part.0 (done_line n)) (counted_by t) part.1) in
        let rest : IsTrue a.tells → LeavesRest run.manner.input run.input a.files (d.left Input) = λ t.
        rest_told (told_before on t) q (rest_by c p.sizes.frames t (k.taken (told_by t))) in
        record {
          goes_on = goes_on_then on q.goes_on;
          others = others_told on (others_by c x) q;
          cause = record {
            asked = asked_by run;
            requests = q.requests ∙ requests_by c x;
            cause = of_job (Playing run) w.asks (behind d (WriteFault Report) (to_write Output run.output ∷ [])
                (later (λ t. (plays_by t, whole_by t)) (here (fault (writes Report) refl (fault_earlier d Report on failed) unanswered))));
          };
          output = inr (record {
            run = run;
            asks = w.asks;
            begun = q.begins Output ∙ begun_by c k.begun;
            memory = λ m. absurd cc;
            within = λ other t. within_all (rest t);
            rest = λ other said t. rest t;
            told = λ t.
                let same = q.others (told_before on t) Output (λ e. absurd cc) ∙ written_whole t in
                (plays_by t, record { rest = []; is = sym same ∙ sym (append-nil (d.written Output)) });
          });
          cut = λ j at is. absurd (no_fault j at (writes Report) (sym is));
          begun = part.0;
          appended = λ t. q.appended (told_before on t) ∙ ap (λ v. v ++ part.0) (report_by c x t);
          is_begun = inr (refl, (Playing run, w.asks, begun_line));
          faults = λ r other. q.other_faults r (λ same. other (inr (ap WriteFault (sym same)))) ∙ k.faults r ∙ w.before r;
        }

    -- it was written and reported
    pub played_whole : (d : DeskState) → Appends Report (done_line p.format.frames) c d → KeepsFaults c d → EndsDone words p.format.frames a d
    played_whole d q steady =
        let x = run_writes in
        let on = goes c x in
        record {
          goes_on = goes_on_then on q.goes_on;
          others = others_told on (others_by c x) q;
          played = record {
            job = Playing run;
            asks = w.asks;
            requests = q.requests ∙ requests_by c x;
            faults = λ r. steady r ∙ k.faults r ∙ w.before r;
            begins = q.begins Output ∙ begun_by c k.begun;
            rest = λ t. rest_told (told_before on t) q (rest_by c p.sizes.frames t (k.taken (told_by t)));
            whole = λ t r is other. q.left (told_before on t) r ∙ k.streams.left (told_by t) r other ∙ w.whole t r is other;
            told = λ t.
                let later = told_before on t in
                let kept = others_by c x in (
                  (plays_by t, whole_by t),
                  counted_by t,
                  λ u.
                      elim [
                        | Program ↦ q.others later Program (λ e. absurd cc) ∙ kept.written t Program (λ e. absurd cc) (λ e. absurd cc)
                        | Input ↦ q.others later Input (λ e. absurd cc) ∙ kept.written t Input (λ e. absurd cc) (λ e. absurd cc)
                        | Controls ↦ q.others later Controls (λ e. absurd cc) ∙ kept.written t Controls (λ e. absurd cc) (λ e. absurd cc)
                        | Output ↦ q.others later Output (λ e. absurd cc) ∙ written_whole t
                        | Report ↦ q.appended later ∙ ap (λ v. v ++ done_line p.format.frames) (report_by c x t)
                            ∙ ap (λ n. a.written Report ++ done_line n) (counted_by t)
                      ],
                );
          };
        }
