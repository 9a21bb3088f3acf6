-- The output that a run makes: its format, which is its rate, its width and its length, and its file (RIFF WAVE 1991; Sun audio; this project's profile).
use Rattle.std.specs.Prelude.{ℕ, ◌==◌, nat_le, List, [], ◌++◌, length, flat_map, Option, Some, None, Result, Ok, Err, unwrap_or, if◌then◌else◌}
use Rattle.fv_diagram.specs.Frames.{Frame, Stream}
use Rattle.fv_diagram.specs.headline.Diagram.{Diagram, inputs, outputs}
use Rattle.fv_diagram.specs.headline.Streams.{run}
use Rattle.fv_diagram.specs.headline.Samples.{no_slots}
use Rattle.fv_top_words.specs.headline.Runs.{Settings}
use Rattle.fv_top_words.specs.declared.manner.OutputKind.{OutputKind}
use Rattle.fv_top_words.specs.declared.manner.OutputKind.TheVariants as output
use Rattle.fv_pcm.specs.declared.coding.Coding.{Coding}
use Rattle.fv_pcm.specs.declared.coding.Coding.TheVariants as coding
use Rattle.fv_pcm.specs.headline.Coded.{frame_bytes}
use Rattle.fv_pcm.specs.headline.Sizes.{data_size, data_limit}
use Rattle.fv_wav.specs.headline.Samples.{pad_bytes}
use Rattle.fv_file_tape.specs.headline.Tapes.{head_in}
use Rattle.fv_top_report.specs.declared.refusal.Refusal.{Refusal}
use Rattle.fv_top_report.specs.declared.refusal.Refusal.TheVariants.{Channels, OutputTooLong, FramesNeeded}
use Rattle.fv_file_tape.specs.declared.incoming.Incoming.{Incoming}
use Rattle.fv_top_files.specs.headline.Inputs.{stated_frames, truncated, coding_in}
use Rattle.fv_top_files.specs.headline.Sources.{Source, data_of, frames_of}

-- the format of an output: how its samples are stored, frames a second, bits of a sample, and the number of frames
pub record OutputFormat : Type 0 where
  pub coding : Coding
  pub rate : ℕ
  pub bits : ℕ
  pub frames : ℕ

-- no input has no channels
abbrev pub channels_in : Option Incoming → ℕ
channels_in None = 0
channels_in (Some h) = h.channels

-- without an input there are as many frames as are asked for
abbrev pub frames_in : Settings → Option Incoming → Option ℕ
frames_in s None = s.frames
frames_in s (Some h) = Some (stated_frames h)

-- frames a second: the input's, or without one what is asked for, 44,100 where nothing is
abbrev pub rate_in : Settings → Option Incoming → ℕ
rate_in s None = unwrap_or s.rate 44100
rate_in s (Some h) = h.rate

-- bits of a sample: what is asked for, or else the input's, 16 where there is none
abbrev pub bits_in : Settings → Option Incoming → ℕ
bits_in s None = unwrap_or s.bits 16
bits_in s (Some h) = unwrap_or s.bits h.bits

-- the format, where a head can state this many bytes of samples
abbrev pub sized : OutputFormat → (size : ℕ) → Result OutputFormat Refusal
sized format size = if nat_le size data_limit then Ok format else Err (OutputTooLong size)

-- the format of an output of this many frames, if they are known, with `outputs` channels
abbrev pub counted : Coding → Settings → (outputs : ℕ) → Option Incoming → Option ℕ → Result OutputFormat Refusal
counted out s outputs head None = Err FramesNeeded
counted out s outputs head (Some n) =
    sized (record { coding = out; rate = rate_in s head; bits = bits_in s head; frames = n }) (data_size outputs (bits_in s head) n)

-- The format of what a program with this many inputs and outputs makes of an input, in this coding; or why it does not fit. First
-- the channels are tried, then the frames, then the bytes.
abbrev pub format_for : Coding → Settings → (inputs outputs : ℕ) → Option Incoming → Result OutputFormat Refusal
format_for out s inputs outputs head =
    if channels_in head == inputs then counted out s outputs head (frames_in s head) else Err (Channels (channels_in head) inputs)

-- the format of what a diagram makes of an input
abbrev pub format_of : Coding → Settings → Diagram → Option Incoming → Result OutputFormat Refusal
format_of out s d head = format_for out s (inputs d) (outputs d) head

-- the frames of an input that are whole and present
abbrev pub present_in : OutputFormat → Source → List Frame
present_in format source = frames_of format.frames source.head (data_of source.head source.bytes)

-- an input of which some whole frame is missing
abbrev pub cut_in : OutputFormat → Source → Option Refusal
cut_in format source = if length (present_in format source) == format.frames then None else Some (truncated (coding_in source.head) (length source.bytes))

-- the coding of an output of this kind
abbrev pub coding_of : OutputKind → Coding
coding_of output.Wave = coding.Wave
coding_of output.Au = coding.Au

-- the bytes after size bytes of samples: in a WAV file one zero byte after an odd number
abbrev pub pad_in : Coding → (size : ℕ) → List ℕ
pad_in coding.Wave size = pad_bytes size
pad_in coding.Au size = []

-- The output file of a diagram on the frames X, which are those that are there of the stated number: the head, the
-- answer's frames and, where all frames are there, what follows their bytes.
abbrev pub output_file : Diagram → (c : ℕ → Stream) → OutputFormat → (X : List Frame) → List ℕ
output_file d c format X =
    let size = data_size (outputs d) format.bits format.frames in
    head_in format.coding (outputs d) format.rate format.bits size
    ++ (flat_map (frame_bytes format.coding format.bits) (run d c no_slots X) ++ (if length X == format.frames then pad_in format.coding size else []))
