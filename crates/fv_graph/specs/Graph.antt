-- Tasks and edges by their numbers. A vector has `stride` edges: the edge into each loop's task, and then one for each pair.
-- No number depends on how many vectors there are, so that fewer vectors are a beginning of the same lists.
use Rattle.std.specs.Prelude.{◌≡◌, ℕ, ◌+◌, ◌-◌, ◌*◌, ◌/◌, ◌%◌, ◌<◌, Bool, true, cond, ◌&&◌, ◌||◌, not, List}
use Rattle.std.specs.Prelude.{◌∷◌, map, length, ltb, leb, ◌==◌, slice_index_or, refl}
use Rattle.std.specs.Coded.{Coded, code_by, coded×, coded_ℕ}
use Rattle.fv_outside.specs.headline.Tasks.{Tasks, bit, total}
use Rattle.fv_outside.specs.Tasks.{coded_tasks, task_count}
use Rattle.fv_outside.specs.declared.tasks.Reads.{Reads}
use Rattle.fv_outside.specs.declared.tasks.Task.{Task}
use Rattle.fv_graph.specs.Words.{passing}
use Rattle.fv_graph.specs.Net.{Net}

-- the pair after the last one
abbrev pub no_reads : Reads
no_reads = record { reader = 0; source = 0 }

-- pair k
abbrev pub pair_at : Tasks → ℕ → Reads
pair_at g k = slice_index_or g.reads k no_reads

-- how many edges a vector has
abbrev pub stride : Tasks → ℕ
stride g = g.loops + length g.reads

-- how many edges there are, with the exit edges after the last vector
abbrev pub edges_of : Tasks → ℕ
edges_of g = g.vectors * stride g + g.loops

-- the number of a loop's task at a vector
abbrev pub task_at : Tasks → ℕ → ℕ → ℕ
task_at g loop vector = vector * g.loops + loop

-- the loop of a task
abbrev pub loop_of : Tasks → ℕ → ℕ
loop_of g t = t % g.loops

-- the vector of a task
abbrev pub vector_of : Tasks → ℕ → ℕ
vector_of g t = t / g.loops

-- a task by its number
abbrev pub task_of : Tasks → ℕ → Task
task_of g t = record { loop_no = loop_of g t; vector = vector_of g t }

-- the edge into (loop, vector) from the same loop: the entry edge at vector 0. At vector `vectors` it is the exit edge
abbrev pub chain_edge : Tasks → ℕ → ℕ → ℕ
chain_edge g loop vector = vector * stride g + loop

-- the edge of pair k at a vector
abbrev pub pair_edge : Tasks → ℕ → ℕ → ℕ
pair_edge g k vector = vector * stride g + (g.loops + k)

-- the edges of pairs into a task
abbrev pub pair_edges_into : Tasks → ℕ → List ℕ
pair_edges_into g t = map (λ k. pair_edge g k (vector_of g t)) (passing (λ k. (pair_at g k).reader == loop_of g t) 0 (length g.reads))

-- the edges of pairs out of a task
abbrev pub pair_edges_out : Tasks → ℕ → List ℕ
pair_edges_out g t = map (λ k. pair_edge g k (vector_of g t)) (passing (λ k. (pair_at g k).source == loop_of g t) 0 (length g.reads))

-- the two lists of the interface
abbrev pub inward : Tasks → ℕ → List ℕ
inward g t = chain_edge g (loop_of g t) (vector_of g t) ∷ pair_edges_into g t

-- all edges out of a task: to its own loop, and then to the other loops in their order
abbrev pub outward : Tasks → ℕ → List ℕ
outward g t = chain_edge g (loop_of g t) (vector_of g t + 1) ∷ pair_edges_out g t

-- an entry edge: into a task of the first vector, from no task
abbrev pub is_entry : Tasks → ℕ → Bool
is_entry g e = ltb e g.loops

-- an exit edge: out of a task of the last vector, to no task
abbrev pub is_exit : Tasks → ℕ → Bool
is_exit g e = leb (g.vectors * stride g) e && ltb e (edges_of g)

-- the place of an edge in its vector
abbrev pub place_in : Tasks → ℕ → ℕ
place_in g e = e % stride g

-- of an edge that is no entry edge
abbrev pub source_of : Tasks → ℕ → ℕ
source_of g e = cond (ltb (place_in g e) g.loops) (task_at g (place_in g e) (e / stride g - 1))
    (task_at g (pair_at g (place_in g e - g.loops)).source (e / stride g))

-- of an edge that is no exit edge
abbrev pub reader_of : Tasks → ℕ → ℕ
reader_of g e = cond (ltb (place_in g e) g.loops) (task_at g (place_in g e) (e / stride g))
    (task_at g (pair_at g (place_in g e - g.loops)).reader (e / stride g))

-- the inner edges among them
abbrev pub needs_of : Tasks → ℕ → List ℕ
needs_of g t = cond (ltb t g.loops) (pair_edges_into g t) (inward g t)

-- the inner edges out of a task
abbrev pub feeds_of : Tasks → ℕ → List ℕ
feeds_of g t = cond (ltb (t + g.loops) (task_count g)) (outward g t) (pair_edges_out g t)

-- the tasks as a net
abbrev pub net_of : Tasks → Net
net_of g = record {
  tasks = task_count g;
  is_inner = λ e. not (is_entry g e) && ltb e (g.vectors * stride g);
  source = source_of g;
  reader = reader_of g;
  needs = needs_of g;
  feeds = feeds_of g;
}

-- one pair stands before another: by reader, and then by source
abbrev pub is_before : Reads → Reads → Bool
is_before a b = ltb a.reader b.reader || ((a.reader == b.reader) && ltb a.source b.source)

-- what a caller of `Tasks::new` shows of the pairs: each source is below its reader, each reader is a loop, and no pair stands twice
pub record ArePairs (loops : ℕ) (reads : List Reads) : Type 0 where
  pub in_order : (k : ℕ) → k < length reads → ((slice_index_or reads k no_reads).source < (slice_index_or reads k no_reads).reader)
      × ((slice_index_or reads k no_reads).reader < loops)
  pub once : (j i : ℕ) → total (λ r. bit ((r.reader == j) && (r.source == i))) reads < 2

-- what all tasks meet: the pairs rise, by reader and then by source
pub record IsGraph (g : Tasks) : Type 0 where
  pub some_loop : 0 < g.loops
  pub some_vector : 0 < g.vectors
  pub in_order : (k : ℕ) → k < length g.reads → ((pair_at g k).source < (pair_at g k).reader) × ((pair_at g k).reader < g.loops)
  pub rising : (j k : ℕ) → j < k → k < length g.reads → is_before (pair_at g j) (pair_at g k) ≡ true

-- what a value of the Rust type means: the tasks, and the most vectors that there is room for
pub record Graph : Type 0 where
  pub tasks : Tasks
  pub most : ℕ

-- as a pair of its fields
abbrev pub coded_graph : Coded Graph
coded_graph = code_by (Tasks × ℕ) (coded× coded_tasks coded_ℕ) (λ g. (g.tasks, g.most)) (λ p. record { tasks = p.0; most = p.1 }) (λ _. refl)
