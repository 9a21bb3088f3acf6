-- The lists of edges, by task, and how they are made (this project's profile).
use Rattle.std.specs.Prelude.{◌≡◌, ℕ, zero, suc, ◌+◌, ◌*◌, ◌<◌, ◌≤◌, List, [], ◌∷◌, ◌++◌, map, length, get_or, slice_index, slice_index_or, ◌==◌}
use Rattle.std.specs.List.{slice_range}
use Rattle.fv_graph.specs.Words.{passing}
use Rattle.std.specs.Global.{Vec}
use Rattle.fv_outside.specs.headline.Tasks.{Tasks}
use Rattle.fv_outside.specs.declared.tasks.Reads.{Reads}
use Rattle.fv_graph.specs.declared.lists.EdgeLists.{EdgeLists}
use Rattle.fv_graph.specs.Graph.{pair_at, chain_edge, pair_edge}

-- xs has the list ys from place a on, up to place b
pub record HasPart (xs : List ℕ) (a b : ℕ) (ys : List ℕ) : Type 0 where
  pub rises : a ≤ b
  pub within : b ≤ length xs
  pub is : slice_range xs a b ≡ ys

-- the first n lists, one after another: that of loop j begins at the j-th place, and the last place is where they end
pub record AreFirst (list : ℕ → List ℕ) (n : ℕ) (begins edges : List ℕ) : Type 0 where
  pub long : length begins ≡ n + 1
  pub end : slice_index begins n ≡ length edges
  pub each : (j : ℕ) → j < n → HasPart edges (slice_index begins j) (slice_index begins (j + 1)) (list j)

-- where the list of a loop's task at a vector begins, and where it ends
abbrev pub begin_of : ℕ → List ℕ → ℕ → ℕ → ℕ
begin_of wide begins vector own = vector * wide + slice_index begins own

abbrev pub end_of : ℕ → List ℕ → ℕ → ℕ → ℕ
end_of wide begins vector own = vector * wide + slice_index begins (own + 1)

-- the lists of all tasks, vector after vector
pub record AreLists (list : ℕ → ℕ → List ℕ) (vectors loops wide : ℕ) (begins edges : List ℕ) : Type 0 where
  pub long : length begins ≡ loops + 1
  pub each : (v j : ℕ) → v < vectors → j < loops → HasPart edges (begin_of wide begins v j) (end_of wide begins v j) (list v j)

-- what a vector has once more in each further one, with this much added
abbrev pub again : List ℕ → ℕ → ℕ → List ℕ
again first stride zero = []
again first stride (suc v) = again first stride v ++ map (λ e. v * stride + e) first

-- the edges of pairs of a loop's task at a vector, by the loop that each pair has there
abbrev pub pairs_at : (Reads → ℕ) → Tasks → ℕ → ℕ → List ℕ
pairs_at key g v j = map (λ k. pair_edge g k v) (passing (λ k. key (pair_at g k) == j) 0 (length g.reads))

-- the lists of the edges into the tasks
abbrev pub AreInward : Tasks → EdgeLists → Type 0
AreInward g lists = AreLists (λ v j. chain_edge g j v ∷ pairs_at (λ (r : Reads). r.reader) g v j) g.vectors g.loops lists.wide lists.begins.items
    lists.edges.items

-- the lists of the edges out of the tasks
abbrev pub AreOutward : Tasks → EdgeLists → Type 0
AreOutward g lists = AreLists (λ v j. chain_edge g j (v + 1) ∷ pairs_at (λ (r : Reads). r.source) g v j) g.vectors g.loops lists.wide lists.begins.items
    lists.edges.items

-- the list of loop j, and of no loop the empty one
abbrev pub group_of : List (Vec ℕ) → ℕ → List ℕ
group_of groups j = get_or (map (λ v. v.items) groups) j []

-- the edges of a loop's task, from those pairs that its loop has: at the first vector, and at any
abbrev pub first_list : (loops ahead : ℕ) → List (Vec ℕ) → ℕ → List ℕ
first_list loops ahead groups j = (j + ahead) ∷ map (λ k. loops + k) (group_of groups j)

abbrev pub edges_at : (loops stride ahead : ℕ) → List (Vec ℕ) → ℕ → ℕ → List ℕ
edges_at loops stride ahead groups v j = map (λ e. v * stride + e) (first_list loops ahead groups j)

-- list j has, in order, the places below k whose key is j
abbrev pub Grouped : List ℕ → ℕ → ℕ → List (Vec ℕ) → Type 0
Grouped keys loops k lists = (j : ℕ) (d : Vec ℕ) → j < loops → (slice_index_or lists j d).items ≡ passing (λ i. slice_index_or keys i 0 == j) 0 k
