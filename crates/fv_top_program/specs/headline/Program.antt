-- What a program's text is: a program, or refused for its first fault (Faust manual, cut down by this project's profile).
use Rattle.std.specs.Prelude.{ℕ, Bool, ◌&&◌, ◌||◌, ◌==◌, nat_le, nat_lt, List, [], ◌∷◌}
use Rattle.std.specs.Prelude.{sum, pos, int_lt, Option, Some, None, Result, Ok, Err}
use Rattle.std.specs.Prelude.{if◌then◌else◌}
use Rattle.fv_base.specs.declared.limits.TheConstants.{MOST_CHANNELS}
use Rattle.fv_interval.specs.Interval.{Interval}
use Rattle.fv_lex.specs.headline.Token.{Lexed}
use Rattle.fv_lex.specs.headline.Cuts.{Has}
use Rattle.fv_parse_grammar.specs.headline.Tree.{Tree}
use Rattle.fv_parse.specs.declared.refusal.ParseRefusal.{ParseRefusal}
use Rattle.fv_parse.specs.headline.Outcomes.{IsAccepted, HasRefusal}
use Rattle.fv_interval.specs.Diagram.{Diagram, inputs, outputs}
use Rattle.fv_interval.specs.ControlInfo.{ControlInfo}
use Rattle.fv_eval.specs.EvalRefusal.{EvalRefusal}
use Rattle.fv_eval.specs.Rules.{program_value}
use Rattle.fv_interval.specs.headline.Delays.{delays_of, amounts}
use Rattle.fv_interval.specs.headline.Controls.{spans_of}
use Rattle.fv_top_report.specs.headline.Layers.{of_bytes, of_tokens, of_value}
use Rattle.fv_top_program.specs.headline.Answers.{Then, Turned, Gives}
use Rattle.fv_top_program.specs.headline.Compiled.{Compiled}
use Rattle.fv_top_report.specs.declared.refusal.Refusal.{Refusal}
use Rattle.fv_top_report.specs.declared.refusal.Refusal.TheVariants as no
use Rattle.fv_base.specs.declared.limits.TheConstants.{DELAY_BUDGET, DELAY_LIMIT}

-- the numbers of the refusals of a program: 4 to 29, and 41 to 43
abbrev pub is_of_program : ℕ → Bool
is_of_program n = (nat_le 4 n && nat_le n 29) || (nat_le 41 n && nat_le n 43)

-- ---- the layers

-- a tree, and the tokens that spell it
pub record Spelled : Type 0 where
  pub tokens : Lexed
  pub tree : Tree

-- what tokens are: the tree that they spell, or why they are refused
pub data Parses (l : Lexed) : Result Spelled ParseRefusal → Type 0 where
  spells : (x : Tree) → IsAccepted l x → Parses l (Ok (record { tokens = l; tree = x }))
  refused : (e : ParseRefusal) → HasRefusal l e → Parses l (Err e)

-- a diagram and its controls, as a program
abbrev pub valued : Result (Diagram × List ControlInfo) EvalRefusal → Result Compiled EvalRefusal
valued (Ok v) = Ok (record { diagram = v.0; controls = v.1 })
valued (Err e) = Err e

-- the program that a tree evaluates to, or why it does to none
abbrev pub evaluated : Spelled → Result Compiled EvalRefusal
evaluated s = valued (program_value s.tokens s.tree)

-- a program with this many inputs and outputs, where it has some output, and no more channels than files have
abbrev pub with_channels : (inputs outputs : ℕ) → Compiled → Result Compiled Refusal
with_channels inputs outputs p =
    if outputs == 0 then Err (no.Channels 0 1)
    else (if nat_lt MOST_CHANNELS outputs then Err (no.Channels outputs MOST_CHANNELS)
    else (if nat_lt MOST_CHANNELS inputs then Err (no.Channels inputs MOST_CHANNELS)
    else Ok p))

-- a program whose inputs and outputs are no more than a file may have channels, and which has an output
abbrev pub narrow : Compiled → Result Compiled Refusal
narrow p = with_channels (inputs p.diagram) (outputs p.diagram) p

-- the spans of a program's delays, in the order of the walk
abbrev pub delays_in : Compiled → List Interval
delays_in p = delays_of p.diagram (spans_of p.controls)

-- the sum of a program's delays
abbrev pub delay_in : Compiled → ℕ
delay_in p = sum (amounts (delays_in p))

-- a span of delays that are refused, before those after it
abbrev pub bad_delay : Interval → Option Refusal → Option Refusal
bad_delay s behind =
    if int_lt s.lo (pos 0) then Some (no.DelayNegative s.lo)
    else (if int_lt (pos DELAY_LIMIT) s.hi then Some (no.DelayTooLong s.hi) else behind)

-- the first of the spans that is refused
abbrev pub first_bad : List Interval → Option Refusal
first_bad [] = None
first_bad (s ∷ ss) = bad_delay s (first_bad ss)

-- a program whose delays have this first refusal: that refuses it, and where there is none, their sum may be over the limit
abbrev pub delayed : Compiled → Option Refusal → Result Compiled Refusal
delayed p (Some refusal) = Err refusal
delayed p None = if nat_le (delay_in p) DELAY_BUDGET then Ok p else Err (no.DelayBudget (delay_in p))

-- a program whose delays are not refused
abbrev pub checked : Compiled → Result Compiled Refusal
checked p = delayed p (first_bad (delays_in p))

-- What a text is: its tokens, then their tree, its value, its channels and its delays; or the first refusal on the way.
abbrev pub TextIs : List ℕ → Result Compiled Refusal → Type 0
TextIs =
    Then (Then (Then (Then (Turned of_bytes Has) (Turned of_tokens Parses)) (Turned of_value (Gives evaluated))) (Gives narrow)) (Gives checked)
