-- What the board knows of a graph beside its net: all edges into and out of a task, with entry and exit edges (this project's profile).
use Rattle.std.specs.Prelude.{◌≡◌, ℕ, ◌+◌, ◌<◌, Bool, true, ◌&&◌, ◌||◌, List, ◌==◌}
use Rattle.fv_outside.specs.headline.Tasks.{Tasks, bit}
use Rattle.fv_outside.specs.Tasks.{times}
use Rattle.fv_graph.specs.Net.{Net, IsNet}
use Rattle.fv_graph.specs.Graph.{net_of, edges_of, inward, outward, is_entry, is_exit}

pub record Wires : Type 0 where
  pub net : Net
  pub edges : ℕ
  -- an entry edge has no source, and an exit edge no reader
  pub is_entry : ℕ → Bool
  pub is_exit : ℕ → Bool
  -- all edges into a task, and all out of it, in order
  pub inward : ℕ → List ℕ
  pub outward : ℕ → List ℕ

-- All that the proofs on the board use of a graph
pub record IsWires (w : Wires) : Type 0 where
  pub is_net : IsNet w.net
  pub inward_once : (t e : ℕ) → t < w.net.tasks → times e (w.inward t) ≡ bit ((w.net.is_inner e || w.is_entry e) && (w.net.reader e == t))
  pub outward_once : (t e : ℕ) → t < w.net.tasks → times e (w.outward t) ≡ bit ((w.net.is_inner e || w.is_exit e) && (w.net.source e == t))
  pub in_range : (e : ℕ) → (w.net.is_inner e || w.is_entry e || w.is_exit e) ≡ true → e < w.edges
  pub exits_from : (e : ℕ) → w.is_exit e ≡ true → w.net.source e < w.net.tasks
  pub apart : (e : ℕ) → bit (w.net.is_inner e) + bit (w.is_entry e) + bit (w.is_exit e) < 2

-- the tasks as wires
abbrev pub wires_of : Tasks → Wires
wires_of g = record { net = net_of g; edges = edges_of g; is_entry = is_entry g; is_exit = is_exit g; inward = inward g; outward = outward g }
