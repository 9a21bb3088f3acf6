-- What is played, and on what: a program, the changes of its controls, and an input (RIFF WAVE 1991; Sun audio; this project's profile).
use Rattle.std.specs.Prelude.{ℕ, ◌*◌, ◌+◌, ◌-◌, ◌/◌, Bool, nat_le, List, [], length, take, option_map, Option, Some, None, Result, Ok, Err, bytes_eq, codes}
use Rattle.std.specs.Prelude.{if◌then◌else◌}
use Rattle.fv_diagram.specs.Frames.{Frame, table}
use Rattle.fv_outside.specs.headline.Desk.{File, file_named}
use Rattle.fv_diagram.specs.declared.control.ControlInfo.{ControlInfo}
use Rattle.fv_control.specs.declared.script.Change.{Change}
use Rattle.fv_control.specs.declared.refusal.ScriptRefusal.{ScriptRefusal}
use Rattle.fv_control.specs.headline.Script.{script}
use Rattle.fv_wav.specs.declared.head.Head.{Head}
use Rattle.fv_wav.specs.declared.refusal.WaveRefusal.{WaveRefusal}
use Rattle.fv_wav.specs.headline.Reading.{wave}
use Rattle.fv_pcm.specs.headline.Coded.{sample_at}
use Rattle.fv_pcm.specs.headline.Sizes.{frame_size, data_limit}
use Rattle.fv_au.specs.declared.head.AuHead.{AuHead}
use Rattle.fv_au.specs.declared.refusal.AuRefusal.{AuRefusal}
use Rattle.fv_au.specs.headline.Reading.{au}
use Rattle.fv_top_words.specs.declared.manner.InputKind.{InputKind}
use Rattle.fv_top_words.specs.declared.manner.InputKind.TheVariants as input
use Rattle.fv_top_report.specs.declared.refusal.Refusal.{Refusal}
use Rattle.fv_top_report.specs.declared.refusal.Refusal.TheVariants as no
use Rattle.fv_top_report.specs.headline.Layers.{of_script, of_wave, of_au}
use Rattle.fv_file_tape.specs.declared.incoming.Incoming.{Incoming}
use Rattle.fv_top_files.specs.headline.Inputs.{wave_incoming, au_incoming, present}

-- ---- files that may be named

-- the bytes of the file that is named, if one is named; and nothing where it is not there
abbrev pub found : List File → Option (List ℕ) → Option (Option (List ℕ))
found files None = Some None
found files (Some name) = option_map Some (file_named name files)

-- ---- scripts

-- what a script says, as a run answers it
abbrev pub scripted : Result (List Change) ScriptRefusal → Result (List Change) Refusal
scripted (Ok changes) = Ok changes
scripted (Err e) = Err (of_script e)

-- the changes that a script spells, and none where there is no script
abbrev pub script_of : List ControlInfo → Option (List ℕ) → Result (List Change) Refusal
script_of controls None = Ok []
script_of controls (Some bytes) = scripted (script controls bytes)

-- ---- inputs

-- an input: the bytes of a file and what its head says, or neither
pub record Source : Type 0 where
  pub head : Option Incoming
  pub bytes : List ℕ

-- an input with this head, in a file of these bytes
abbrev pub headed : Incoming → List ℕ → Source
headed h bytes = record { head = Some h; bytes = bytes }

-- the input that a WAV file is
abbrev pub wave_source : List ℕ → Result Head WaveRefusal → Result Source Refusal
wave_source bytes (Ok h) = Ok (headed (wave_incoming h) bytes)
wave_source bytes (Err e) = Err (of_wave e)

-- the input that has its samples up to the end of a file, if a head can state their bytes
abbrev pub open_source : List ℕ → AuHead → (size : ℕ) → Result Source Refusal
open_source bytes h size = if nat_le size data_limit then Ok (headed (au_incoming h size) bytes) else Err (no.AuFormat 8)

-- the input that has its samples of a size that is stated, or else up to the file's end
abbrev pub sized_source : List ℕ → AuHead → Option ℕ → Result Source Refusal
sized_source bytes h (Some size) = Ok (headed (au_incoming h size) bytes)
sized_source bytes h None = open_source bytes h (length bytes - h.offset)

-- the input that an AU file is
abbrev pub au_source : List ℕ → Result AuHead AuRefusal → Result Source Refusal
au_source bytes (Ok h) = sized_source bytes h h.data_bytes
au_source bytes (Err e) = Err (of_au e)

-- the first four bytes say that it is an AU file
abbrev pub is_au : List ℕ → Bool
is_au bytes = bytes_eq (take 4 bytes) (codes ".snd")

-- the input that a file of this kind is
abbrev pub file_source : InputKind → List ℕ → Result Source Refusal
file_source input.Wave bytes = wave_source bytes (wave bytes)
file_source input.Either bytes = if is_au bytes then au_source bytes (au bytes) else wave_source bytes (wave bytes)

-- the input that may be given, of this kind, and none where no file is
abbrev pub source_of : InputKind → Option (List ℕ) → Result Source Refusal
source_of kind None = Ok (record { head = None; bytes = [] })
source_of kind (Some bytes) = file_source kind bytes

-- what is there of the bytes of an input's whole frames
abbrev pub data_of : Option Incoming → List ℕ → List ℕ
data_of None bytes = []
data_of (Some h) bytes = present h bytes

-- The whole frames in these bytes; without a head, the stated number of frames of no samples.
abbrev pub frames_of : (stated : ℕ) → Option Incoming → (raw : List ℕ) → List Frame
frames_of stated None raw = table stated (λ t. [])
frames_of stated (Some h) raw =
    table (length raw / frame_size h.channels h.bits) (λ t. table h.channels (λ i. sample_at h.coding h.bits raw (t * h.channels + i)))
