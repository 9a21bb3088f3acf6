-- A graph from the lists that hold it.
use Rattle.std.specs.Prelude.{ℕ, List, map, Vec, ℤ}
use Rattle.std.specs.declared.alloc.Global.{Global}
use Rattle.fv_signal.specs.declared.signal.Signal.{Signal}
use Rattle.fv_signal.specs.headline.Value.{Graph}

-- the graph of these signals, definitions, tables and outputs
abbrev pub graph_with : List Signal → List (Vec ℕ Global) → List (Vec ℤ Global) → List ℕ → Graph
graph_with signals groups tables outputs = record {
  signals = signals;
  groups = map (λ (row : Vec ℕ Global). row.items) groups;
  tables = map (λ (row : Vec ℤ Global). row.items) tables;
  outputs = outputs;
}
