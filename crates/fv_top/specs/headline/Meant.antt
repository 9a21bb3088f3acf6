-- What a run that is done means (this project's profile).
use Rattle.std.specs.Prelude.{ℕ, ℤ, List, [], ◌++◌, length, Option, Some, None, unwrap_or}
use Rattle.fv_base.specs.declared.role.Role.{Role}
use Rattle.fv_base.specs.declared.role.Role.TheVariants.{Output, Report}
use Rattle.fv_outside.specs.headline.Desk.{DeskState}
use Rattle.fv_diagram.specs.Frames.{Frame, Stream}
use Rattle.fv_diagram.specs.headline.Diagram.{Diagram, inputs, outputs, size}
use Rattle.fv_top_files.specs.headline.Output.{OutputFormat, output_file}
use Rattle.fv_control.specs.headline.Streams.{control_streams}
use Rattle.fv_diagram.specs.headline.Samples.{answer_on}
use Rattle.fv_top_make.specs.headline.Made.{noise_of, sum_of}
use Rattle.fv_top_report.specs.headline.Lines.{check_line, made_line, done_line}
use Rattle.fv_top_program.specs.headline.Program.{delay_in}
use Rattle.fv_engine_render.specs.headline.Render.{initial_of}
use Rattle.fv_top_program.specs.headline.Compiled.{Compiled}

-- What something that is done means: the frames that it counts, the bytes of the output, if it writes one, and the line that it
-- reports.
pub record Meant : Type 0 where
  pub frames : ℕ
  pub output : Option (List ℕ)
  pub line : List ℕ

-- what a run of a diagram means: the frames that the format counts, and the output that the diagram makes on those that are present
abbrev pub run_meant : Diagram → (c : ℕ → Stream) → OutputFormat → (present : List Frame) → Meant
run_meant d c format present = record { frames = format.frames; output = Some (output_file d c format present); line = done_line format.frames }

-- what a check of a program means
abbrev pub check_meant : Compiled → Meant
check_meant p = record { frames = 0; output = None; line = check_line (inputs p.diagram) (outputs p.diagram) (length p.controls) (size p.diagram) (delay_in p) }

-- what a program gives on the noise for this many voices, added up
abbrev pub made_sum : Compiled → (voices frames : ℕ) → ℤ
made_sum p voices frames = sum_of (answer_on p.diagram (control_streams [] (initial_of p.controls)) frames (noise_of voices frames))

-- what a make means: a program that is made, and played on its noise
abbrev pub make_meant : Compiled → (voices frames : ℕ) → Meant
make_meant p voices frames = record { frames = frames; output = None; line = made_line voices frames (made_sum p voices frames) }

-- all that is written of a role at its end
abbrev pub written_by : Meant → DeskState → Role → List ℕ
written_by m old Output = unwrap_or m.output (old.written Output)
written_by m old Report = old.written Report ++ m.line
written_by m old r = old.written r
