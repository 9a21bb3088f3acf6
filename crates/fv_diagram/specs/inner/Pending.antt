-- The work that is pending in a walk over a diagram (this project's profile).
use Rattle.std.specs.Prelude.{◌≡◌, ℕ, ◌+◌, ◌*◌, ◌<◌, ◌≤◌, List, [], ◌∷◌, ◌++◌, length, drop, All}
use Rattle.fv_diagram.specs.headline.Diagram.{inputs, outputs, size}
use Rattle.fv_diagram.specs.Diagram.{IsWellFormed}
use Rattle.fv_diagram.specs.headline.Streams.{dealt}
use Rattle.fv_diagram.specs.Wires.{plugged}
use Rattle.fv_diagram.specs.Arena.{Arena, count_of, tree_of}
use Rattle.fv_diagram.specs.declared.pending.Task.{Task}
use Rattle.fv_diagram.specs.declared.pending.Task.TheVariants as task
use Rattle.fv_diagram.specs.declared.pending.Plug.{Plug}
use Rattle.fv_diagram.specs.Hooks.{Hooks, Keeps}
use Rattle.fv_diagram.specs.Walked.{walked, summed}

-- What a walk goes by: what the calls of the signals do, what holds of wires, and how many wires each open feedback feeds back. It
-- also has the wire of a slot that is not bound, and the diagrams.
pub record Rules (W S : Type 0) : Type 1 where
  pub hooks : Hooks W S
  pub is_wire : S → W → Type 0
  pub fed : S → List ℕ
  pub free : W
  pub arena : Arena

-- such rules, by their parts
abbrev pub rules : {W S : Type 0} → Hooks W S → (S → W → Type 0) → (S → List ℕ) → W → Arena → Rules W S
rules hooks is_wire fed free arena = record { hooks = hooks; is_wire = is_wire; fed = fed; free = free; arena = arena }

-- the wires of the slots, the innermost one first
abbrev pub slots_of : {W : Type 0} → W → List (Plug W) → ℕ → W
slots_of free [] s = free
slots_of free (a ∷ plugs) s = plugged (slots_of free plugs) a.slot a.wire s

-- what the tasks, done one after another, make of the wires and the signals
abbrev pub finished : {W S : Type 0} → Hooks W S → W → Arena → List (Task W) → List (Plug W) → List W → S → List W × S
finished h free ns [] plugs now s = (now, s)
finished h free ns (task.Visit id ∷ ts) plugs now s =
    let r = walked h free (tree_of ns id) (slots_of free plugs) now s in finished h free ns ts plugs r.0 r.1
finished h free ns (task.Right id rest ∷ ts) plugs now s =
    let r = walked h free (tree_of ns id) (slots_of free plugs) rest.items s in finished h free ns ts plugs (now ++ r.0) r.1
finished h free ns (task.Join left ∷ ts) plugs now s = finished h free ns ts plugs (left.items ++ now) s
finished h free ns (task.Deal m ∷ ts) plugs now s = finished h free ns ts plugs (dealt free m now) s
finished h free ns (task.Sum m ∷ ts) plugs now s =
    let r = summed h free m now s in finished h free ns ts plugs r.0 r.1
finished h free ns (task.Before ins ∷ ts) plugs now s = finished h free ns ts plugs (now ++ ins.items) s
finished h free ns (task.Close ∷ ts) plugs now s =
    let r = h.closed now s in finished h free ns ts plugs r.0 r.1
finished h free ns (task.Unplug ∷ ts) plugs now s = finished h free ns ts (drop 1 plugs) now s

-- what the tasks ask, where n wires are there, and each open feedback feeds back the number of wires that fed has for it
abbrev pub AreReady : {W : Type 0} → Arena → List (Task W) → (fed : List ℕ) → ℕ → Type 0
AreReady ns [] fed n = Unit {0}
AreReady ns (task.Visit id ∷ ts) fed n =
    (id < count_of ns) × IsWellFormed (tree_of ns id) × (n ≡ inputs (tree_of ns id)) × AreReady ns ts fed (outputs (tree_of ns id))
AreReady ns (task.Right id rest ∷ ts) fed n =
    (id < count_of ns) × IsWellFormed (tree_of ns id) × (length rest.items ≡ inputs (tree_of ns id)) × AreReady ns ts fed (n + outputs (tree_of ns id))
AreReady ns (task.Join left ∷ ts) fed n = AreReady ns ts fed (length left.items + n)
AreReady ns (task.Deal m ∷ ts) fed n = (0 < m → 0 < n) × AreReady ns ts fed m
AreReady ns (task.Sum m ∷ ts) fed n = (0 < m) × (m ≤ n) × AreReady ns ts fed m
AreReady ns (task.Before ins ∷ ts) fed n = AreReady ns ts fed (n + length ins.items)
AreReady ns (task.Close ∷ ts) fed n = (c : ℕ) × (rest : List ℕ) × (fed ≡ c ∷ rest) × (c ≤ n) × AreReady ns ts rest n
AreReady ns (task.Unplug ∷ ts) fed n = AreReady ns ts fed n

-- the wires that a task keeps
abbrev pub kept : {W : Type 0} → Task W → List W
kept (task.Right id rest) = rest.items
kept (task.Join left) = left.items
kept (task.Before ins) = ins.items
kept _ = []

-- each wire that the tasks keep is one
abbrev pub AreKept : {W : Type 0} → (W → Type 0) → List (Task W) → Type 0
AreKept P [] = Unit {0}
AreKept P (t ∷ ts) = All P (kept t) × AreKept P ts

-- a bound on the number of turns that the tasks take
abbrev pub weight : {W : Type 0} → Arena → List (Task W) → ℕ
weight ns [] = 0
weight ns (task.Visit id ∷ ts) = 4 * size (tree_of ns id) + weight ns ts
weight ns (task.Right id rest ∷ ts) = 2 + 4 * size (tree_of ns id) + weight ns ts
weight ns (t ∷ ts) = 1 + weight ns ts

-- pending work, with the signals
pub record Stage (W S : Type 0) : Type 0 where
  pub tasks : List (Task W)
  pub plugs : List (Plug W)
  pub now : List W
  pub signals : S

-- such work, by its parts
abbrev pub stage : {W S : Type 0} → List (Task W) → List (Plug W) → List W → S → Stage W S
stage ts plugs now s = record { tasks = ts; plugs = plugs; now = now; signals = s }

-- what the pending work makes
abbrev pub outcome : {W S : Type 0} → Rules W S → Stage W S → List W × S
outcome r p = finished r.hooks r.free r.arena p.tasks p.plugs p.now p.signals

-- a call gave n wires, those that are expected, and left the signals that are expected
pub record Gives {W S : Type 0} (is_wire : S → W → Type 0) (fed : S → List ℕ) (s q : S) (expected : List W × S) (outs : List W) (n : ℕ) : Type 0 where
  pub same : (outs, q) ≡ expected
  pub width : length outs ≡ n
  pub wires : All (is_wire q) outs
  pub keeps : Keeps (is_wire s) (is_wire q)
  pub held : fed q ≡ fed s

-- what holds before each turn
pub record IsReady {W S : Type 0} (r : Rules W S) (p : Stage W S) : Type 0 where
  pub tasks : AreReady r.arena p.tasks (r.fed p.signals) (length p.now)
  pub now : All (r.is_wire p.signals) p.now
  pub kept : AreKept (r.is_wire p.signals) p.tasks
  pub plugs : All (λ a. r.is_wire p.signals a.wire) p.plugs
  pub default : r.is_wire p.signals r.free

-- a turn leads from p to q
pub record Advances {W S : Type 0} (r : Rules W S) (p q : Stage W S) : Type 0 where
  pub same : outcome r q ≡ outcome r p
  pub ready : IsReady r q
  pub smaller : weight r.arena q.tasks < weight r.arena p.tasks
