-- A runner's fields.
use Rattle.fv_diagram_runner.specs.declared.stepper.Stepper.TheInside.{Inside}
use Rattle.fv_diagram_runner.specs.History.{numbers_of}
use Rattle.fv_diagram_runner.specs.Steps.{RunnerState, IsRunner}

-- the runner that the fields are of
abbrev pub runner_state_of : Inside → RunnerState
runner_state_of a = record {
  steps = a.steps.items;
  sources = a.sources.items;
  changes = a.changes.items;
  outs = a.outs.items;
  cells = a.cells.items;
  lists = numbers_of a.lists.items;
  controls = a.controls;
  ins = a.ins;
}

-- what holds of the fields
abbrev pub IsInside : Inside → Type 0
IsInside a = IsRunner (runner_state_of a) a.registers.items
