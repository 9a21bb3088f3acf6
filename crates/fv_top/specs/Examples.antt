-- Small files, which hold by computing.
use Rattle.std.specs.Prelude.{◌≡◌, refl, false, ℕ, List, [], ◌∷◌, ◌++◌, take, drop, true, Some, None, Ok, Err}
use Rattle.fv_diagram.specs.Primitive.TheVariants.{Wire}
use Rattle.fv_diagram.specs.headline.Diagram.{Primitive}
use Rattle.fv_control.specs.headline.Streams.{control_streams}
use Rattle.fv_pcm.specs.declared.coding.Coding.TheVariants as coding
use Rattle.fv_file_tape.specs.declared.incoming.Incoming.{Incoming}
use Rattle.fv_pcm.specs.headline.Coded.{sample_at}
use Rattle.fv_top_words.specs.headline.Runs.{Settings}
use Rattle.fv_top_report.specs.declared.refusal.Refusal.TheVariants.{Channels}
use Rattle.fv_top_report.specs.headline.Lines.{done_line}
use Rattle.fv_top_words.specs.declared.manner.InputKind.TheVariants as input
use Rattle.fv_top_files.specs.headline.Sources.{frames_of, file_source}
use Rattle.fv_top_files.specs.headline.Output.{OutputFormat, format_of}
use Rattle.fv_top.specs.headline.Meant.{run_meant}

-- one channel of 16 bits at 44100 frames a second, with the samples 1, -2 and 3
three_samples : List ℕ
three_samples =
    82 ∷ 73 ∷ 70 ∷ 70 ∷ 42 ∷ 0 ∷ 0 ∷ 0 ∷ 87 ∷ 65 ∷ 86 ∷ 69 ∷ 102 ∷ 109 ∷ 116 ∷ 32 ∷ 16 ∷ 0 ∷ 0 ∷ 0 ∷ 1 ∷ 0 ∷ 1 ∷ 0 ∷ 68 ∷ 172 ∷ 0 ∷ 0 ∷ 136 ∷ 88 ∷ 1 ∷ 0
    ∷ 2 ∷ 0 ∷ 16 ∷ 0 ∷ 100 ∷ 97 ∷ 116 ∷ 97 ∷ 6 ∷ 0 ∷ 0 ∷ 0 ∷ 1 ∷ 0 ∷ 254 ∷ 255 ∷ 3 ∷ 0 ∷ []

-- the head of the file of three samples
head : Incoming
head = record { coding = coding.Wave; channels = 1; rate = 44100; bits = 16; data_bytes = 6; is_open = false; place = 44 }

-- the format of the file of three samples as an output
format : OutputFormat
format = record { coding = coding.Wave; rate = 44100; bits = 16; frames = 3 }

-- a wire gives the file back
wire_plays : run_meant (Primitive Wire) (control_streams [] []) format (frames_of 3 (Some head) (drop 44 three_samples))
    ≡ record { frames = 3; output = Some three_samples; line = done_line 3 }
unfolding three_samples head format sample_at
wire_plays = refl

-- where the head states more frames than there are, so does the output's
cut_short : (run_meant (Primitive Wire) (control_streams [] []) format (frames_of 3 (Some head) (take 5 (drop 44 three_samples)))).output
    ≡ Some (take 48 three_samples)
unfolding three_samples head format sample_at
cut_short = refl

-- no words about the format
none : Settings
none = record { block = 4096; vector = 32; workers = 1; bits = None; frames = None; rate = None }

-- the format is the input's
same_format : format_of coding.Wave none (Primitive Wire) (Some head) ≡ Ok format
unfolding head format none
same_format = refl

-- without an input a wire has no channel
no_channel : format_of coding.Wave none (Primitive Wire) None ≡ Err (Channels 0 1)
unfolding none
no_channel = refl

-- an AU file with the three samples, whose head states their size
au_samples : List ℕ
au_samples =
    46 ∷ 115 ∷ 110 ∷ 100 ∷ 0 ∷ 0 ∷ 0 ∷ 24 ∷ 0 ∷ 0 ∷ 0 ∷ 6 ∷ 0 ∷ 0 ∷ 0 ∷ 3 ∷ 0 ∷ 0 ∷ 172 ∷ 68 ∷ 0 ∷ 0 ∷ 0 ∷ 1 ∷ 0 ∷ 1 ∷ 255 ∷ 254 ∷ 0 ∷ 3 ∷ []

-- the head of the AU file
au_head : Incoming
au_head = record { coding = coding.Au; channels = 1; rate = 44100; bits = 16; data_bytes = 6; is_open = false; place = 24 }

-- a wire makes an AU file of it, and a WAV file
au_plays : run_meant (Primitive Wire) (control_streams [] []) (record format { coding = coding.Au }) (frames_of 3 (Some au_head) (drop 24 au_samples))
    ≡ record { frames = 3; output = Some au_samples; line = done_line 3 }
unfolding au_samples au_head format sample_at
au_plays = refl

au_to_wave : (run_meant (Primitive Wire) (control_streams [] []) format (frames_of 3 (Some au_head) (drop 24 au_samples))).output ≡ Some three_samples
unfolding three_samples au_samples au_head format sample_at
au_to_wave = refl

-- the AU file with a size that is not stated has the samples that are there
open_file : file_source input.Either (take 8 au_samples ++ 255 ∷ 255 ∷ 255 ∷ 255 ∷ drop 12 au_samples)
    ≡ Ok (record {
      head = Some (record au_head { is_open = true });
      bytes = take 8 au_samples ++ 255 ∷ 255 ∷ 255 ∷ 255 ∷ drop 12 au_samples;
    })
unfolding au_samples au_head
open_file = refl
