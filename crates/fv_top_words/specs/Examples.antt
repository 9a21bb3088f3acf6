-- Small command lines, which hold by computing.
use Rattle.std.specs.Prelude.{◌≡◌, refl, ℕ, List, [], ◌∷◌, Some, None, Result, Ok, Err, codes}
use Rattle.fv_top_words.specs.declared.cause.Cause.{Cause}
use Rattle.fv_top_words.specs.declared.cause.Cause.TheVariants.{Form, Number, Range, Vectors, Together, Same}
use Rattle.fv_top_words.specs.declared.manner.ProgramKind.TheVariants as program
use Rattle.fv_top_words.specs.declared.manner.InputKind.TheVariants as input
use Rattle.fv_top_words.specs.declared.manner.OutputKind.TheVariants as output
use Rattle.fv_top_words.specs.headline.Pieces.{cut, Plain, Given}
use Rattle.fv_top_words.specs.headline.Runs.{Settings, default_vector, wave_files}
use Rattle.fv_top_words.specs.headline.Commands.{Job, Playing, Checking, Making, job_in}

-- of these words after the program's own name
abbrev asked : List (List ℕ) → Result Job Cause
asked words = job_in (codes "faustvec" ∷ words)

abbrev run : List (List ℕ) → Result Job Cause
run words = asked (codes "run" ∷ words)

abbrev plain : Settings
plain = record { block = 512; vector = 32; workers = 1; bits = None; frames = None; rate = None }

abbrev from_file : Settings → Job
from_file s =
    Playing (record { program = codes "p.dsp"; input = Some (codes "in.wav"); output = codes "o.wav"; controls = None; settings = s; manner = wave_files })

-- ---- the commands

defaults : run (codes "p.dsp" ∷ codes "in.wav" ∷ codes "o.wav" ∷ []) ≡ Ok (from_file plain)
defaults = refl

checks : asked (codes "check" ∷ codes "p.dsp" ∷ []) ≡ Ok (Checking (codes "p.dsp"))
checks = refl

makes : asked (codes "make" ∷ codes "16" ∷ codes "32768" ∷ codes "1" ∷ []) ≡ Ok (Making 16 32768 1)
makes = refl

au_files : asked (codes "au" ∷ codes "p.dsp" ∷ codes "in.au" ∷ codes "o.au" ∷ codes "--bits=8" ∷ [])
    ≡ Ok (Playing (record {
      program = codes "p.dsp";
      input = Some (codes "in.au");
      output = codes "o.au";
      controls = None;
      settings = record plain { bits = Some 8 };
      manner = record { program = program.Alone; input = input.Either; output = output.Au };
    }))
au_files = refl

-- the name counts byte by byte
au_to_wave : asked (codes "au" ∷ codes "p.dsp" ∷ codes "in.wav" ∷ codes "o.AU" ∷ [])
    ≡ Ok (Playing (record {
      program = codes "p.dsp";
      input = Some (codes "in.wav");
      output = codes "o.AU";
      controls = None;
      settings = plain;
      manner = record { program = program.Alone; input = input.Either; output = output.Wave };
    }))
au_to_wave = refl

-- a rack is a run but for what its program's file is
racks : asked (codes "rack" ∷ codes "p.txt" ∷ codes "in.wav" ∷ codes "o.wav" ∷ [])
    ≡ Ok (Playing (record {
      program = codes "p.txt";
      input = Some (codes "in.wav");
      output = codes "o.wav";
      controls = None;
      settings = plain;
      manner = record wave_files { program = program.Rack };
    }))
racks = refl

-- ---- where options stand

pieces : cut None (codes "--block" ∷ codes "-8" ∷ codes "a" ∷ codes "--rate=1=2" ∷ codes "-" ∷ codes "--" ∷ codes "-b" ∷ codes "--" ∷ [])
    ≡ Some (Given (codes "--block") (codes "-8") ∷ Plain (codes "a") ∷ Given (codes "--rate") (codes "1=2") ∷ Plain (codes "-") ∷ Plain (codes "-b") ∷ Plain
    (codes "--") ∷ [])
pieces = refl

no_value : cut None (codes "a" ∷ codes "--block" ∷ []) ≡ None
no_value = refl

anywhere : run (codes "--block" ∷ codes "8" ∷ codes "p.dsp" ∷ codes "--vector=2" ∷ codes "in.wav" ∷ codes "o.wav" ∷ codes "--bits" ∷ codes "24" ∷ [])
    ≡ Ok (from_file (record { block = 8; vector = 2; workers = 1; bits = Some 24; frames = None; rate = None }))
anywhere = refl

no_input : run (codes "p.dsp" ∷ codes "-" ∷ codes "o.wav" ∷ codes "--frames=0" ∷ codes "--controls" ∷ codes "c.txt" ∷ [])
    ≡ Ok (Playing (record {
      program = codes "p.dsp";
      input = None;
      output = codes "o.wav";
      controls = Some (codes "c.txt");
      settings = record plain { frames = Some 0 };
      manner = wave_files;
    }))
no_input = refl

dashes_behind : run (codes "--" ∷ codes "-p" ∷ codes "in.wav" ∷ codes "--o" ∷ [])
    ≡ Ok (Playing (record {
      program = codes "-p";
      input = Some (codes "in.wav");
      output = codes "--o";
      controls = None;
      settings = plain;
      manner = wave_files;
    }))
dashes_behind = refl

-- ---- causes, in their order

abbrev with : List (List ℕ) → Result Job Cause
with options = run (codes "p.dsp" ∷ codes "in.wav" ∷ codes "o.wav" ∷ options)

twice : with (codes "--block=1" ∷ codes "--block=1" ∷ []) ≡ Err Form
twice = refl

unknown : with (codes "--help" ∷ codes "1" ∷ []) ≡ Err Form
unknown = refl

one_dash : with (codes "-b" ∷ codes "1" ∷ []) ≡ Err Form
one_dash = refl

four_words : with (codes "more" ∷ []) ≡ Err Form
four_words = refl

no_options : asked (codes "check" ∷ codes "p.dsp" ∷ codes "--block=1" ∷ []) ≡ Err Form
no_options = refl

number_first : with (codes "--vector=99999" ∷ codes "--block=" ∷ []) ≡ Err Number
number_first = refl

signed : with (codes "--block=+1" ∷ []) ≡ Err Number
signed = refl

eleven_digits : with (codes "--frames=00000000001" ∷ []) ≡ Err Number
eleven_digits = refl

over_block : with (codes "--block=8" ∷ codes "--vector=9" ∷ []) ≡ Err Range
over_block = refl

twelve_bits : with (codes "--bits=12" ∷ []) ≡ Err Range
twelve_bits = refl

no_voices : asked (codes "make" ∷ codes "0" ∷ codes "1" ∷ codes "1" ∷ []) ≡ Err Range
no_voices = refl

too_many : with (codes "--vector" ∷ codes "1" ∷ codes "--block" ∷ codes "4096" ∷ []) ≡ Err Vectors
too_many = refl

rate_of_file : with (codes "--rate" ∷ codes "1" ∷ []) ≡ Err Together
rate_of_file = refl

output_is_script : run (codes "p.dsp" ∷ codes "-" ∷ codes "o.wav" ∷ codes "--controls=o.wav" ∷ []) ≡ Err Same
output_is_script = refl

output_is_dash : run (codes "p.dsp" ∷ codes "-" ∷ codes "-" ∷ codes "--frames" ∷ codes "1" ∷ []) ≡ Err Same
output_is_dash = refl

short_block : default_vector 31 ≡ 31
short_block = refl

long_block : default_vector 4096 ≡ 64
long_block = refl

not_made : asked (codes "make" ∷ codes "0" ∷ codes "x" ∷ codes "1" ∷ []) ≡ Err Number
not_made = refl

all_workers : with (codes "--workers=16" ∷ [])
    ≡ Ok (from_file (record { block = 512; vector = 32; workers = 16; bits = None; frames = None; rate = None }))
all_workers = refl

too_many_workers : with (codes "--workers=17" ∷ []) ≡ Err Range
too_many_workers = refl
