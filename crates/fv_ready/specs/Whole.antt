-- The whole rule: the parts that a claim was proved under, and the others.
use Rattle.std.specs.Prelude.{◌≡◌, ℕ, ◌+◌, ◌<◌, ◌≤◌, not, ◌&&◌, List, [], ◌∷◌, ◌++◌, map, replicate, length, slice_index, Option, Some, ◌==◌, leb, ltb}
use Rattle.std.specs.List.Sorted.{IsStrictlyIncreasing}
use mathlib.Core.Option.{some}
use lib.ListN.{get_elem?}
use Rattle.atomic_table.specs.Table.{State}
use Rattle.fv_graph.specs.Tasks.{bit, total}
use Rattle.fv_graph.specs.TasksBeside.{times}
use Rattle.fv_graph.specs.Net.{Net}
use Rattle.fv_graph.specs.Core.{numbers}
use Rattle.fv_graph.specs.Net.{need_count}
use Rattle.fv_graph.specs.Wires.{Wires}
use Rattle.fv_graph.specs.Graph.{Graph}
use Rattle.fv_ready.specs.declared.view.Deed.{Deed}
use Rattle.fv_ready.specs.declared.view.Deed.TheVariants.{Stamped, Arrived, Saw, Claimed}
use Rattle.fv_ready.specs.declared.view.About.{About}
use Rattle.fv_ready.specs.declared.view.View.{View}
use Rattle.fv_ready.specs.Rule.{count_word, saw, arrives, arrives_with, starts, finishes, all, IsKept}
use Rattle.fv_ready.specs.Shown.{Reached}

-- 1 where the deed is the start of task t with the stamp k
abbrev pub starts_at : ℕ → ℕ → Deed → ℕ
starts_at k t (Stamped l u b) = bit (b && (u == t) && (l == k))
starts_at k t (Arrived e c) = 0
starts_at k t (Saw u c) = 0
starts_at k t (Claimed u b) = 0

-- 1 where the deed is the finish of task t with the stamp k
abbrev pub finishes_at : ℕ → ℕ → Deed → ℕ
finishes_at k t (Stamped l u b) = bit (not b && (u == t) && (l == k))
finishes_at k t (Arrived e c) = 0
finishes_at k t (Saw u c) = 0
finishes_at k t (Claimed u b) = 0

-- the words of a new board: no stamp, each task's count, no claim
abbrev pub first_words : Net → List ℕ
first_words n = 0 ∷ (map (need_count n) (numbers n.tasks) ++ replicate n.tasks 0)

-- the view of the first seat, which has all numbers
abbrev pub first_view : {C : Type 0} → About C → View C
first_view a = record { board = Some a; numbers = numbers a.workers; deeds = [] }

-- a seat of several numbers is cut: the first stays, and the others go on
abbrev pub first_number : List ℕ → List ℕ
first_number [] = []
first_number (k ∷ ks) = k ∷ []

-- the numbers after the first
abbrev pub other_numbers : List ℕ → List ℕ
other_numbers [] = []
other_numbers (k ∷ ks) = ks

-- the seat that stays has the first number and the deeds
abbrev pub left_part : {C : Type 0} → View C → View C
left_part v = record v { numbers = first_number v.numbers }

-- the new seat has the other numbers, and no deed
abbrev pub right_part : {C : Type 0} → View C → View C
right_part v = record { board = v.board; numbers = other_numbers v.numbers; deeds = [] }

-- how often a number stands in what all seats have, taken together
abbrev pub all_having : {C : Type 0} → ℕ → List (View C) → ℕ
all_having k views = total (λ v. times k v.numbers) views

-- no seat is spent: each knows the board
abbrev pub AllKnow : {C S : Type 0} → About C → State S (View C) → Type 0
AllKnow {C} a s = (id : ℕ) (v : View C) → get_elem? s.views id ≡ some v → v.board ≡ Some a

module _ {C Key : Type 0} (wires : Graph → Wires) (edge_of : C → ℕ) (key_of : C → Key) where
  -- the whole rule
  pub record IsWhole (a : About C) (s : State (Option C) (View C)) : Type 0 where
    pub kept : IsKept wires edge_of key_of a s
    -- seats: each number below the number of workers is had once, and each seat that is not spent has one
    pub numbered : (k : ℕ) → all_having k s.views ≡ bit (ltb k a.workers)
    pub has_one : (id : ℕ) (v : View C) → get_elem? s.views id ≡ some v → v.board ≡ Some a → 0 < length v.numbers
    -- while no seat is spent, the numbers of each rise, so its first is its least
    pub in_order : AllKnow a s → (id : ℕ) (v : View C) → get_elem? s.views id ≡ some v → IsStrictlyIncreasing v.numbers
    -- stamps
    pub drawn : slice_index s.words 0 ≡ total (λ t. all (starts t) s.views + all (finishes t) s.views) (numbers (wires a.tasks.value).net.tasks)
    pub stamped_once : (t : ℕ) → (all (starts t) s.views < 2) × (all (finishes t) s.views < 2)
    pub start_below : (k t : ℕ) → 0 < all (finishes_at k t) s.views → (m : ℕ) × (m < k) × (0 < all (starts_at m t) s.views)
    -- Counts: for each count from what the word is now up to one below the number of the task's edges, one arrival into it had that
    -- count after it, and none had another. Each look found what the word is now, or a number above it that is at most the number
    -- of the edges.
    pub counts_once : (t c : ℕ) → t < (wires a.tasks.value).net.tasks → all (arrives_with (wires a.tasks.value).net t c) s.views
        ≡ bit (leb (slice_index s.words (count_word t)) c && ltb c (length ((wires a.tasks.value).net.needs t)))
    pub seen_between : (t c : ℕ) → t < (wires a.tasks.value).net.tasks → 0 < all (saw t c) s.views
        → (slice_index s.words (count_word t) ≤ c) × (c ≤ length ((wires a.tasks.value).net.needs t))
    pub arrived_done : (e : ℕ) → all (arrives e) s.views ≤ all (finishes ((wires a.tasks.value).net.source e)) s.views
    pub after_reads : (k t e : ℕ) → t < (wires a.tasks.value).net.tasks → 0 < all (starts_at k t) s.views
        → 0 < times e ((wires a.tasks.value).net.needs t) → (m : ℕ) × (m < k) × (0 < all (finishes_at m ((wires a.tasks.value).net.source e)) s.views)
    -- what is shown, while no seat is spent
    pub reached : AllKnow a s → Reached {C = C} {S = Option C} (wires a.tasks.value).net a.workers s
