-- What calls say beside `headline/Reach`: nodes that lead to nodes, and what is reached from a node (words of graph theory).
use Rattle.std.specs.Prelude.{◌≡◌, ℕ, ◌<◌, ◌≤◌, List, [], length, slice_index_or}
use Rattle.fv_components.specs.headline.Reach.{Links, at, Leads, Reaches}

-- the links that rows tell, one row for each node, and none where there is no row
abbrev pub next_of : List (List ℕ) → Links
next_of rows s = slice_index_or rows s []

-- each step from a node below n leads to one below n
abbrev pub AreLinks : Links → ℕ → Type 0
AreLinks next n = (a b : ℕ) → a < n → Leads next a b → b < n

-- the numbers of strongly connected components in reverse topological order: two nodes have one number exactly where each reaches the other,
-- and what a node reaches has no greater number
pub record AreComponents (next : Links) (n : ℕ) (numbers : List ℕ) : Type 0 where
  pub long : length numbers ≡ n
  pub within : (a : ℕ) → a < n → at numbers a < n
  pub alike : (a b : ℕ) → a < n → b < n → at numbers a ≡ at numbers b → Reaches next a b
  pub ordered : (a b : ℕ) → a < n → Reaches next a b → at numbers b ≤ at numbers a
