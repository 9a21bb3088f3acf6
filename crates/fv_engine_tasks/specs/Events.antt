-- What the core of one worker is between events.
use Rattle.std.specs.Prelude.{◌≡◌, ℕ, false, List, [], ◌∷◌, None, Some}
use Rattle.fv_graph.specs.Core.{Now}
use Rattle.fv_graph.specs.Running.{Running}

-- the one worker runs nothing and owes nothing, and has not left
pub record IsFree (s : Now) : Type 0 where
  pub runs : s.runs ≡ None ∷ []
  pub owes : s.owes ≡ [] ∷ []
  pub left : s.left ≡ false ∷ []

-- it runs this task
pub record Runs (s : Now) (t : ℕ) : Type 0 where
  pub runs : s.runs ≡ Some t ∷ []
  pub owes : s.owes ≡ [] ∷ []
  pub left : s.left ≡ false ∷ []

-- it runs nothing and owes these edges
pub record Owes (s : Now) (es : List ℕ) : Type 0 where
  pub runs : s.runs ≡ None ∷ []
  pub owes : s.owes ≡ es ∷ []
  pub left : s.left ≡ false ∷ []

-- the core has the tasks, workers and room that it had
abbrev pub KeepsCore : (old new : Running) → Type 0
KeepsCore old new = new ≡ record old { now = new.now }
