-- The refusals of the layers, as those of a run (this project's profile).
use Rattle.fv_jobs.specs.declared.refusal.JobsRefusal.{JobsRefusal}
use Rattle.fv_jobs.specs.declared.refusal.JobsRefusal.TheVariants as jobs
use Rattle.fv_lex.specs.declared.refusal.LexRefusal.{LexRefusal}
use Rattle.fv_lex.specs.declared.refusal.LexRefusal.TheVariants as bytes
use Rattle.fv_parse.specs.declared.refusal.ParseRefusal.{ParseRefusal}
use Rattle.fv_parse.specs.declared.refusal.ParseRefusal.TheVariants as tokens
use Rattle.fv_rules.specs.declared.refusal.EvalRefusal.{EvalRefusal}
use Rattle.fv_rules.specs.declared.refusal.EvalRefusal.TheVariants as values
use Rattle.fv_control.specs.declared.refusal.ScriptRefusal.{ScriptRefusal}
use Rattle.fv_control.specs.declared.refusal.ScriptRefusal.TheVariants as lines
use Rattle.fv_wav.specs.declared.refusal.WaveRefusal.{WaveRefusal}
use Rattle.fv_wav.specs.declared.refusal.WaveRefusal.TheVariants as head
use Rattle.fv_au.specs.declared.refusal.AuRefusal.{AuRefusal}
use Rattle.fv_au.specs.declared.refusal.AuRefusal.TheVariants as au
use Rattle.fv_top_report.specs.declared.refusal.Refusal.{Refusal}
use Rattle.fv_top_report.specs.declared.refusal.Refusal.TheVariants as no

-- the refusals of a file of jobs, as those of a run
abbrev pub of_jobs : JobsRefusal → Refusal
of_jobs (jobs.TextTooLong role) = no.TextTooLong role
of_jobs (jobs.RackSize n) = no.RackSize n
of_jobs jobs.NoMemory = no.NoMemory

-- the refusals of a text's bytes, as those of a run
abbrev pub of_bytes : LexRefusal → Refusal
of_bytes (bytes.TextTooLong role) = no.TextTooLong role
of_bytes (bytes.BadByte line column) = no.BadByte line column
of_bytes (bytes.Unclosed line column) = no.Unclosed line column
of_bytes (bytes.RealLiteral line column) = no.RealLiteral line column
of_bytes (bytes.LiteralTooLarge line column) = no.LiteralTooLarge line column
of_bytes (bytes.Nesting line column) = no.Nesting line column
of_bytes bytes.NoMemory = no.NoMemory

-- the refusals of a text's tokens, as those of a run
abbrev pub of_tokens : ParseRefusal → Refusal
of_tokens (tokens.Syntax line column) = no.Syntax line column
of_tokens (tokens.Unsupported word) = no.Unsupported word
of_tokens (tokens.Redefined name) = no.Redefined name
of_tokens (tokens.RepeatedName name) = no.RepeatedName name
of_tokens (tokens.RuleWidths line column) = no.RuleWidths line column
of_tokens tokens.NoProcess = no.NoProcess
of_tokens tokens.NoMemory = no.NoMemory

-- the refusals of a program's value, as those of a run
abbrev pub of_value : EvalRefusal → Refusal
of_value (values.SizeBudget size) = no.SizeBudget size
of_value (values.Arity kind left right) = no.Arity kind left right
of_value (values.UnknownName name) = no.UnknownName name
of_value (values.NotANumber line column) = no.NotANumber line column
of_value (values.IterationCount count) = no.IterationCount count
of_value (values.NoRule line column) = no.NoRule line column
of_value (values.NotADiagram line column) = no.NotADiagram line column
of_value (values.TooManyArguments given inputs) = no.TooManyArguments given inputs
of_value values.EvalBudget = no.EvalBudget
of_value (values.ControlClash label) = no.ControlClash label
of_value (values.ControlBounds label) = no.ControlBounds label
of_value (values.TableForm cause) = no.TableForm cause
of_value (values.TableBudget sum) = no.TableBudget sum
of_value values.NoMemory = no.NoMemory

-- the refusals of a script, as those of a run
abbrev pub of_script : ScriptRefusal → Refusal
of_script (lines.TextTooLong role) = no.TextTooLong role
of_script (lines.ControlLine line) = no.ControlLine line
of_script (lines.ControlUnknown line) = no.ControlUnknown line
of_script (lines.ControlRange line) = no.ControlRange line
of_script (lines.ControlOrder line) = no.ControlOrder line
of_script lines.NoMemory = no.NoMemory

-- the refusals of a WAV file's head, as those of a run
abbrev pub of_wave : WaveRefusal → Refusal
of_wave (head.ReadFault role) = no.ReadFault role
of_wave (head.NotWave place) = no.NotWave place
of_wave (head.WaveTruncated place) = no.WaveTruncated place
of_wave (head.WaveFormat place) = no.WaveFormat place
of_wave (head.WaveChunks place) = no.WaveChunks place

-- the refusals of an AU file, as those of a run
abbrev pub of_au : AuRefusal → Refusal
of_au (au.ReadFault role) = no.ReadFault role
of_au (au.AuFormat place) = no.AuFormat place
of_au (au.AuTruncated place) = no.AuTruncated place
of_au au.NoMemory = no.NoMemory
