-- What a board knows of its tasks (this project's profile).
use Rattle.fv_graph.specs.Graph.{Graph}
use Rattle.fv_graph.specs.Wires.{Wires, wires_of}

-- the wires of tasks as the Rust type means them
abbrev pub graph_wires : Graph → Wires
graph_wires g = wires_of g.tasks
