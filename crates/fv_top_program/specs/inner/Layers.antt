-- What a text is, layer by layer: `TextIs` is `Then WidthIs Delayed` (this project's profile).
use Rattle.std.specs.Prelude.{◌≡◌, ℕ, List, Result}
use Rattle.fv_lex.specs.headline.Cuts.{Has}
use Rattle.fv_eval.specs.EvalRefusal.{EvalRefusal}
use Rattle.fv_eval.specs.Rules.{program_value}
use Rattle.fv_top_report.specs.declared.refusal.Refusal.{Refusal}
use Rattle.fv_top_report.specs.headline.Layers.{of_bytes, of_tokens, of_value}
use Rattle.fv_top_program.specs.headline.Answers.{Then, Turned}
use Rattle.fv_top_program.specs.headline.Compiled.{Compiled}
use Rattle.fv_top_program.specs.headline.Program.{Spelled, Parses, valued, narrow, delayed, delays_in, first_bad}

-- the program that a tree evaluates to, or why it does to none
abbrev pub Evaluates : Spelled → Result Compiled EvalRefusal → Type 0
Evaluates s r = valued (program_value s.tokens s.tree) ≡ r

-- a program that has some output, and no more channels than files have
abbrev pub Narrow : Compiled → Result Compiled Refusal → Type 0
Narrow p r = narrow p ≡ r

-- a program whose delays are not refused
abbrev pub Delayed : Compiled → Result Compiled Refusal → Type 0
Delayed p r = delayed p (first_bad (delays_in p)) ≡ r

-- what a text is up to its tree: tokens, and then their tree
abbrev pub SpellingIs : List ℕ → Result Spelled Refusal → Type 0
SpellingIs text r = Then (Turned of_bytes Has) (Turned of_tokens Parses) text r

-- what a text is up to its value: tokens, their tree, and the tree's value
abbrev pub ValueIs : List ℕ → Result Compiled Refusal → Type 0
ValueIs text r = Then SpellingIs (Turned of_value Evaluates) text r

-- what a text is up to its channels: tokens, their tree, the tree's value, and its channels
abbrev pub WidthIs : List ℕ → Result Compiled Refusal → Type 0
WidthIs text r = Then ValueIs Narrow text r
