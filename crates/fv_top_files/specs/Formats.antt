-- What the code's formats of outputs are.
use Rattle.std.specs.Prelude.{Result, Ok, Err}
use Rattle.fv_top_report.specs.declared.refusal.Refusal.{Refusal}
use Rattle.fv_top_files.specs.headline.Output.{OutputFormat}
use Rattle.fv_top_files.specs.declared.format.OutputFormat.{OutputFormat as Made}

-- what the code's formats are
abbrev pub format_in : Made → OutputFormat
format_in s = record { coding = s.coding; rate = s.rate; bits = s.bits; frames = s.frames }

-- a format, or why there is none, in the words of the definitions
abbrev pub format_answered : Result Made Refusal → Result OutputFormat Refusal
format_answered (Ok s) = Ok (format_in s)
format_answered (Err e) = Err e
