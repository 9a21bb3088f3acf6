-- The parcels that a body is given and leaves (this project's profile).
use Rattle.std.specs.Prelude.{◌≡◌, ℕ, List, map, All}

-- the parcels are those of these edges, in order, and all have the key
pub record AreParcelsOf {C Key : Type 0} (edge_of : C → ℕ) (key_of : C → Key) (key : Key) (edges : List ℕ) (parcels : List C) : Type 0 where
  pub edges_are : map edge_of parcels ≡ edges
  pub keys : All (λ p. key_of p ≡ key) parcels
