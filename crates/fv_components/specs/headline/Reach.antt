-- Nodes that lead to nodes, and what is reached from a node (words of graph theory).
use Rattle.std.specs.Prelude.{◌≡◌, ℕ, zero, suc, ◌<◌, List, length}
pub use Rattle.fv_base.specs.headline.Lists.{at}

-- the nodes that each node leads to
abbrev pub Links : Type 0
Links = ℕ → List ℕ

-- one step
pub record Leads (next : Links) (a b : ℕ) : Type 0 where
  pub place : ℕ
  pub within : place < length (next a)
  pub is : at (next a) place ≡ b

-- a walk of n steps
abbrev pub Walk : Links → ℕ → ℕ → ℕ → Type 0
Walk next a b zero = a ≡ b
Walk next a b (suc n) = (c : ℕ) × Leads next a c × Walk next c b n

-- b is found from a by following steps, a itself too
pub record Reaches (next : Links) (a b : ℕ) : Type 0 where
  pub steps : ℕ
  pub walk : Walk next a b steps
