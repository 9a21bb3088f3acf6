-- Trees in an arena: a list of nodes, in which a node names its parts by the places of earlier nodes (this project's
-- profile). `build ts n` is the tree of node n, where ts are the trees of the nodes before it.
use Rattle.std.specs.Prelude.{◌≡◌, ℕ, suc, ◌<◌, ◌≤◌, List, [], ◌∷◌, ◌++◌, length, get_or}

-- the trees of the nodes, after the trees of the nodes before them
abbrev pub trees_from : {N T : Type 0} → (List T → N → T) → List T → List N → List T
trees_from build ts [] = ts
trees_from build ts (n ∷ ns) = trees_from build (ts ++ build ts n ∷ []) ns

-- the trees of an arena's nodes, in order
abbrev pub trees : {N T : Type 0} → (List T → N → T) → List N → List T
trees build ns = trees_from build [] ns

-- each node holds to the bound that its place sets to its parts
abbrev pub AreBelowFrom : {N : Type 0} → (ℕ → N → Type 0) → ℕ → List N → Type 0
AreBelowFrom Below i [] = Unit {0}
AreBelowFrom Below i (n ∷ ns) = Below i n × AreBelowFrom Below (suc i) ns

-- the tree of a node depends on the trees of its parts alone
abbrev pub IsOfParts : {N T : Type 0} → (List T → N → T) → (ℕ → N → Type 0) → T → Type 0
IsOfParts {N} {T} build Below free =
    (ts us : List T) (i : ℕ) (n : N) → Below i n → ((j : ℕ) → j < i → get_or ts j free ≡ get_or us j free) → build ts n ≡ build us n

-- the trees that are there stay, each at its place
pub record KeepsTrees {T : Type 0} (free : T) (old new : List T) : Type 0 where
  pub longer : length old ≤ length new
  pub same : (i : ℕ) → i < length old → get_or new i free ≡ get_or old i free
