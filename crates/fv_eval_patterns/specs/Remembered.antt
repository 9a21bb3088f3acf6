-- What is remembered of long patterns (this project's profile).
use Rattle.std.specs.Prelude.{List, []}
use Rattle.fv_eval_scopes.specs.declared.value.Binding.{Binding}
use Rattle.fv_eval_patterns.specs.declared.trials.Trial.{Trial}
use Rattle.fv_eval_patterns.specs.Surveyed.{Surveyed}

-- trials, the bindings to which they refer, and what is known of diagrams besides
pub record Remembered : Type 0 where
  pub trials : List Trial
  pub bindings : List Binding
  pub survey : Surveyed

-- nothing
abbrev pub nothing : Remembered
nothing = record { trials = []; bindings = []; survey = record { rows = []; steps = []; diagrams = [] } }
