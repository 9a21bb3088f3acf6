-- What a run is asked to do, and the causes to refuse it (this project's profile).
use Rattle.std.specs.Prelude.{ℕ, ◌+◌, ◌-◌, ◌/◌, ◌^◌, max, Bool, false, ◌&&◌, ◌||◌, not, ◌==◌, nat_le}
use Rattle.std.specs.Prelude.{nat_lt, List, [], ◌∷◌, Option, Some, None, is_some, Result, Ok, Err, bytes_eq, nat_eq, codes, if◌then◌else◌}
use Rattle.std.specs.List.{ends_with}
use Rattle.fv_base.specs.declared.limits.TheConstants.{MOST_BLOCK, MOST_VECTORS, MOST_WORKERS}
use Rattle.fv_top_words.specs.declared.cause.Cause.{Cause}
use Rattle.fv_top_words.specs.declared.cause.Cause.TheVariants.{Form, Range, Vectors, Together, Same}
use Rattle.fv_top_words.specs.declared.manner.Manner.{Manner}
use Rattle.fv_top_words.specs.declared.manner.ProgramKind.TheVariants as program
use Rattle.fv_top_words.specs.declared.manner.InputKind.TheVariants as input
use Rattle.fv_top_words.specs.declared.manner.OutputKind.{OutputKind}
use Rattle.fv_top_words.specs.declared.manner.OutputKind.TheVariants as output
use Rattle.fv_top_words.specs.headline.Texts.{Texts, value_of}
use Rattle.fv_top_words.specs.headline.Numbers.{◌>>=◌, Numbers, numbers_of}

-- a number of an option, if it is given, in its range
abbrev pub within : (least most : ℕ) → Option ℕ → Result (Option ℕ) Cause
within least most None = Ok None
within least most (Some n) = if nat_le least n && nat_le n most then Ok (Some n) else Err Range

-- a number in its range; one that is not given has its default
abbrev pub within_or : (least most default : ℕ) → Option ℕ → Result ℕ Cause
within_or least most default None = Ok default
within_or least most default (Some n) = if nat_le least n && nat_le n most then Ok n else Err Range

-- the bits of a sample
abbrev pub is_width : ℕ → Bool
is_width n = (n == 8) || (n == 16) || (n == 24) || (n == 32)

-- the bits of a sample, if they are given
abbrev pub width : Option ℕ → Result (Option ℕ) Cause
width None = Ok None
width (Some n) = if is_width n then Ok (Some n) else Err Range

-- the vector of a block: the whole of a short one, else at least 32 frames and no more vectors than a block may have
abbrev pub default_vector : ℕ → ℕ
default_vector block = if nat_lt block 32 then block else max 32 ((block + (MOST_VECTORS - 1)) / MOST_VECTORS)

-- the vectors of a block, of which the last may be shorter
abbrev pub vectors_in : (block vector : ℕ) → ℕ
vectors_in block vector = (block + vector - 1) / vector

-- How a run is done: how many frames a block and a vector have, how many workers there are, and, where they are given, the output's
-- bits, frames and rate.
pub record Settings : Type 0 where
  pub block : ℕ
  pub vector : ℕ
  pub workers : ℕ
  pub bits : Option ℕ
  pub frames : Option ℕ
  pub rate : Option ℕ

-- how a run is done, unless a block has too many vectors
abbrev pub checked : Settings → Result Settings Cause
checked s = if nat_lt MOST_VECTORS (vectors_in s.block s.vector) then Err Vectors else Ok s

-- how a run is done, each number in its range, or the first cause to refuse it
abbrev pub settings_of : Numbers → Result Settings Cause
settings_of n = do
  block ← within_or 1 MOST_BLOCK 512 n.block
  vector ← within_or 1 block (default_vector block) n.vector
  workers ← within_or 1 MOST_WORKERS 1 n.workers
  bits ← width n.bits
  frames ← within 0 (2 ^ 32 - 1) n.frames
  rate ← within 1 (2 ^ 32 - 1) n.rate
  checked (record { block = block; vector = vector; workers = workers; bits = bits; frames = frames; rate = rate })

-- A run: its files by their names, an input and a script only where they are given. Then how it is done, and of which kinds the
-- files are.
pub record Run : Type 0 where
  pub program : List ℕ
  pub input : Option (List ℕ)
  pub output : List ℕ
  pub controls : Option (List ℕ)
  pub settings : Settings
  pub manner : Manner

-- the files of a run: one program, and WAV files
abbrev pub wave_files : Manner
wave_files = record { program = program.Alone; input = input.Wave; output = output.Wave }

-- a name that ends in `.au` is that of an AU file
abbrev pub output_kind : List ℕ → OutputKind
output_kind name = if ends_with nat_eq name (codes ".au") then output.Au else output.Wave

-- a run where its files may be AU files: the input by its first bytes, and the output by its name
abbrev pub by_kinds : Run → Run
by_kinds run = record run { manner = record run.manner { input = input.Either; output = output_kind run.output } }

-- a run where its program's file is a file of jobs
abbrev pub of_jobs : Run → Run
of_jobs run = record run { manner = record run.manner { program = program.Rack } }

-- `-` names no input file
abbrev pub is_none_word : List ℕ → Bool
is_none_word w = bytes_eq w (codes "-")

-- the input's name, but for `-`
abbrev pub input_of : List ℕ → Option (List ℕ)
input_of w = if is_none_word w then None else Some w

-- frames and rate are those of the input, where there is one
abbrev pub is_together : (input : List ℕ) → Settings → Bool
is_together input s = not (is_none_word input) && (is_some s.frames || is_some s.rate)

-- a word is the name that may be given
abbrev pub is_named : Option (List ℕ) → List ℕ → Bool
is_named None w = false
is_named (Some v) w = bytes_eq w v

-- the output's name is that of another file of the run
abbrev pub is_same : (program input output : List ℕ) → (controls : Option (List ℕ)) → Bool
is_same program input output controls = bytes_eq output program || bytes_eq output input || is_named controls output

-- a run with these files that is done so, or the first cause to refuse it
abbrev pub run_with : (program input output : List ℕ) → (controls : Option (List ℕ)) → Settings → Result Run Cause
run_with program input output controls s =
    if is_together input s then Err Together
    else (if is_same program input output controls then Err Same
    else Ok (record { program = program; input = input_of input; output = output; controls = controls; settings = s; manner = wave_files }))

-- the run that PROGRAM INPUT OUTPUT and options ask for
abbrev pub run_named : List (List ℕ) → Texts → Result Run Cause
run_named (program ∷ input ∷ output ∷ []) t = do
  numbers ← numbers_of t.options
  settings ← settings_of numbers
  run_with program input output (value_of (codes "--controls") t.options) settings
run_named _ t = Err Form

-- the run that its texts ask for, or the first cause to refuse them
abbrev pub run_of : Texts → Result Run Cause
run_of t = run_named t.plain t
