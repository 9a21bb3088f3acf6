-- What every diagram that evaluation gives is.
use Rattle.std.specs.Prelude.{◌≡◌, ◌≤◌, List, length, All, Ok, Err}
use Rattle.fv_lex.specs.headline.Token.{Lexed}
use Rattle.fv_parse_grammar.specs.headline.Tree.{Tree}
use Rattle.fv_diagram.specs.headline.Diagram.{Diagram, size}
use Rattle.fv_diagram.specs.Diagram.{control_bound, IsWellFormed, HasNoFreeSlot}
use Rattle.fv_diagram.specs.Controls.{IsBounded}
use Rattle.fv_diagram.specs.declared.control.ControlInfo.{ControlInfo}
use Rattle.fv_rules.specs.declared.refusal.EvalRefusal.TheVariants.{NoMemory}
use Rattle.fv_rules.specs.headline.Rules.{program_value}
use Rattle.fv_base.specs.declared.limits.TheConstants.{SIZE_LIMIT, VISIT_LIMIT}

-- A program's diagram and controls: it can run, names only these controls, and they are within their bounds.
pub record IsRunnable (d : Diagram) (cs : List ControlInfo) : Type 0 where
  pub well : IsWellFormed d
  pub within : size d ≤ SIZE_LIMIT
  pub closed : HasNoFreeSlot d
  pub reads : control_bound d ≤ length cs
  pub bounded : All IsBounded cs
  pub few : length cs ≤ VISIT_LIMIT

-- What a program's value is made of can run.
abbrev pub EvaluatesToRunnables : Type 0
EvaluatesToRunnables = (l : Lexed) (x : Tree) (d : Diagram) (cs : List ControlInfo) → program_value l x ≡ Ok (d, cs) → IsRunnable d cs

-- No rule refuses for want of memory.
abbrev pub NeverWantsMemory : Type 0
NeverWantsMemory = (l : Lexed) (x : Tree) → program_value l x ≡ Err NoMemory → ⊥
