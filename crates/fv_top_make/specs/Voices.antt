-- The program that the text of some voices is (this project's profile).
use Rattle.std.specs.Prelude.{◌≡◌, ℕ, zero, suc, ◌+◌, ◌-◌, ◌*◌, ◌≤◌, [], pos}
use Rattle.fv_lex.specs.Limits.TheConstants.{MOST_VOICES}
use Rattle.fv_interval.specs.Op.TheVariants as op
use Rattle.fv_interval.specs.Primitive.{Primitive as Prim}
use Rattle.fv_interval.specs.Primitive.TheVariants.{Wire, Delay, Point}
use Rattle.fv_interval.specs.Diagram.{Diagram, Primitive, Constant, Par, Seq, Split, Merge, Rec}
use Rattle.fv_top_make.specs.headline.Made.{text_of}
use Rattle.fv_top_program.specs.Refusal.{Refusal}
use Rattle.fv_top_program.specs.headline.Compiled.{Compiled}
use Rattle.fv_top_program.specs.Program.{IsProgram}
use Rattle.fv_top_program.specs.Program.{IsRefusedText}

-- a primitive of two inputs, the second of which is a number
abbrev pub by : Prim → ℕ → Diagram
by p n = Seq (Par (Primitive Wire) (Constant (pos n))) (Primitive p)

-- Voice i adds what it gave before to its input: i * 37 + 1 frames and the one of the feedback later, times i + 3, and divided by 8.
abbrev pub voice : ℕ → Diagram
voice i = Rec (Primitive (Point op.Add)) (Seq (by Delay (i * 37 + 1)) (Seq (by (Point op.Mul) (i + 3)) (by (Point op.Div) 8)))

-- voice i, and this many more after it, side by side
abbrev pub voices_from : ℕ → ℕ → Diagram
voices_from i zero = voice i
voices_from i (suc k) = Par (voice i) (voices_from (suc i) k)

-- the program of this many voices: they stand on one input, are added up, and have no controls
abbrev pub program_of : ℕ → Compiled
program_of voices = record { diagram = Split (Primitive Wire) (Merge (voices_from 0 (voices - 1)) (Primitive Wire)); controls = [] }

-- The text of each number of voices that can be asked for is their program.
abbrev pub VoicesAreAProgram : Type 0
VoicesAreAProgram = (voices : ℕ) → 1 ≤ voices → voices ≤ MOST_VOICES → IsProgram (text_of voices) (program_of voices)

-- The text of each number of voices that can be asked for is no other program.
abbrev pub VoicesAreOneProgram : Type 0
VoicesAreOneProgram = (voices : ℕ) (p : Compiled) → 1 ≤ voices → voices ≤ MOST_VOICES → IsProgram (text_of voices) p → p ≡ program_of voices

-- The text of each number of voices that can be asked for is refused for nothing.
abbrev pub VoicesAreNotRefused : Type 0
VoicesAreNotRefused = (voices : ℕ) (refusal : Refusal) → 1 ≤ voices → voices ≤ MOST_VOICES → IsRefusedText (text_of voices) refusal → ⊥
