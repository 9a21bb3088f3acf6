-- What the code's types mean.
use Rattle.std.specs.Prelude.{ℕ, ◌≤◌, List, [], ◌∷◌, Option, Some, None, Result, Ok, Err, option_map, option_and_then, option_copied, codes}
use Rattle.fv_base.specs.declared.limits.TheConstants.{MOST_VOICES, MOST_WORKERS}
use Rattle.fv_top_words.specs.declared.cause.Cause.{Cause}
use Rattle.fv_top_words.specs.declared.word.Kind.{Kind as Kinds}
use Rattle.fv_top_words.specs.declared.word.Kind.TheVariants as kinds
use Rattle.fv_top_words.specs.declared.texts.Plain.{Plain as Plains}
use Rattle.fv_top_words.specs.declared.texts.Plain.TheVariants as plains
use Rattle.fv_top_words.specs.declared.texts.State.{State as States}
use Rattle.fv_top_words.specs.declared.texts.State.TheVariants as states
use Rattle.fv_top_words.specs.declared.texts.Texts.{Texts as Given}
use Rattle.fv_top_words.specs.declared.texts.Reader.{Reader}
use Rattle.fv_top_words.specs.declared.numbers.Numbers.{Numbers as Found}
use Rattle.fv_top_words.specs.declared.settings.Settings.{Settings as How}
use Rattle.fv_top_words.specs.declared.run.Run.{Run as Runs}
use Rattle.fv_top_words.specs.declared.command.Job.{Job as Jobs}
use Rattle.fv_top_words.specs.declared.command.Job.TheVariants as jobs
use Rattle.fv_top_words.specs.headline.Pieces.{Piece}
use Rattle.fv_top_words.specs.inner.Reader.{Kind, Bare, Ends, Apart, Joined, State, Any, Value, Names as NamesAlone, piece_of, state_after, pieces_from}
use Rattle.fv_top_words.specs.headline.Texts.{Options, Texts, take_piece, gathered}
use Rattle.fv_top_words.specs.headline.Numbers.{Numbers}
use Rattle.fv_top_words.specs.headline.Runs.{Settings, Run}
use Rattle.fv_top_words.specs.Runs.{AreValid}
use Rattle.fv_top_words.specs.headline.Commands.{Job, Playing, Checking, Making}

-- the kind of a word
abbrev pub kind_in : Kinds → Kind
kind_in kinds.Plain = Bare
kind_in kinds.Ends = Ends
kind_in kinds.Apart = Apart
kind_in (kinds.Joined name value) = Joined name.now value.now

-- the plain words
abbrev pub plain_in : Plains → List (List ℕ)
plain_in plains.None = []
plain_in (plains.One a) = a.now ∷ []
plain_in (plains.Two a b) = a.now ∷ b.now ∷ []
plain_in (plains.Three a b c) = a.now ∷ b.now ∷ c.now ∷ []

-- the options
abbrev pub options_in : Given → Options
options_in t =
    (codes "--controls", option_copied t.controls) ∷ (codes "--block", option_copied t.block) ∷ (codes "--vector", option_copied t.vector)
    ∷ (codes "--workers", option_copied t.workers) ∷ (codes "--bits", option_copied t.bits) ∷ (codes "--frames", option_copied t.frames)
    ∷ (codes "--rate", option_copied t.rate) ∷ []

-- the texts
abbrev pub texts_in : Given → Texts
texts_in t = record {
  plain = plain_in t.plain;
  options = options_in t;
}

-- what may stand next
abbrev pub state_in : States → State
state_in states.Any = Any
state_in (states.Value name) = Value name.now
state_in states.Names = NamesAlone

-- the words so far
pub record Read : Type 0 where
  pub state : State
  pub texts : Texts

-- the words so far
abbrev pub read_in : Reader → Read
read_in r = record { state = state_in r.state; texts = texts_in r.texts }

-- with one piece more, if there is one
abbrev pub with_read : Option Piece → Texts → Option Texts
with_read None t = Some t
with_read (Some p) t = take_piece p t

-- with one word more
abbrev pub read_more : Read → List ℕ → Option Read
read_more r w = option_map (λ t. record { state = state_after r.state w; texts = t }) (with_read (piece_of r.state w) r.texts)

-- what the words that are left make of those so far
abbrev pub finished : Read → List (List ℕ) → Option Texts
finished r ws = option_and_then (gathered r.texts) (pieces_from r.state ws)

-- ---- what was read

-- the numbers of the options
abbrev pub numbers_in : Found → Numbers
numbers_in n = record { block = n.block; vector = n.vector; workers = n.workers; bits = n.bits; frames = n.frames; rate = n.rate }

-- the numbers of the options, or the cause to refuse it, in the words of the definitions
abbrev pub numbers_answered : Result Found Cause → Result Numbers Cause
numbers_answered (Ok n) = Ok (numbers_in n)
numbers_answered (Err e) = Err e

-- how a run is done
abbrev pub settings_in : How → Settings
settings_in s = record { block = s.block; vector = s.vector; workers = s.workers; bits = s.bits; frames = s.frames; rate = s.rate }

-- how a run is done, or the cause to refuse it, in the words of the definitions
abbrev pub settings_answered : Result How Cause → Result Settings Cause
settings_answered (Ok s) = Ok (settings_in s)
settings_answered (Err e) = Err e

-- a run
abbrev pub run_in : Runs → Run
run_in r = record {
  program = r.program.now;
  input = option_copied r.input;
  output = r.output.now;
  controls = option_copied r.controls;
  settings = settings_in r.settings;
  manner = r.manner;
}

-- a run, or the cause to refuse it, in the words of the definitions
abbrev pub run_answered : Result Runs Cause → Result Run Cause
run_answered (Ok r) = Ok (run_in r)
run_answered (Err e) = Err e

-- what is asked for
abbrev pub job_view : Jobs → Job
job_view (jobs.Run run) = Playing (run_in run)
job_view (jobs.Check program) = Checking program.now
job_view (jobs.Make voices frames workers) = Making voices frames workers

-- what is asked for, or the cause to refuse it, in the words of the definitions
abbrev pub job_answered : Result Jobs Cause → Result Job Cause
job_answered (Ok j) = Ok (job_view j)
job_answered (Err e) = Err e

-- the numbers are within their ranges: the settings of a run, and the voices and workers of a make
abbrev pub IsJobInRange : Jobs → Type 0
IsJobInRange (jobs.Run run) = AreValid (settings_in run.settings)
IsJobInRange (jobs.Check program) = Unit {0}
IsJobInRange (jobs.Make voices frames workers) = (1 ≤ voices) × (voices ≤ MOST_VOICES) × (1 ≤ workers) × (workers ≤ MOST_WORKERS)
