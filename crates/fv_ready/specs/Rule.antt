-- The board's rule, over words, slots and what all seats have done.
use Rattle.std.specs.Prelude.{◌≡◌, ℕ, ◌+◌, ◌-◌, ◌<◌, ◌≤◌, true, false, cond, not, ◌&&◌, ◌⊎◌, List}
use Rattle.std.specs.Prelude.{[], ◌∷◌, ◌++◌, length, slice_index, Option, Some, None, ◌==◌, ltb, MatchBool, drop}
use mathlib.Core.Option.{some}
use lib.ListN.{get_elem?}
use Rattle.atomic_table.specs.Table.{State, Me, Step, rest}
use Rattle.fv_graph.specs.Tasks.{bit, total}
use Rattle.fv_graph.specs.Net.{Net}
use Rattle.fv_graph.specs.Wires.{Wires}
use Rattle.fv_graph.specs.Graph.{Graph}
use Rattle.fv_ready.specs.declared.view.Deed.{Deed}
use Rattle.fv_ready.specs.declared.view.Deed.TheVariants.{Stamped, Arrived, Saw, Claimed}
use Rattle.fv_ready.specs.declared.view.About.{About}
use Rattle.fv_ready.specs.declared.view.View.{View}

-- where the words stand: the stamps, each task's count, each task's claim
abbrev pub count_word : ℕ → ℕ
count_word t = 1 + t

-- where the claim of a task stands
abbrev pub claim_word : ℕ → ℕ → ℕ
claim_word tasks t = 1 + tasks + t

-- 1 where the deed is a claim that took task t
abbrev pub wins : ℕ → Deed → ℕ
wins t (Stamped k u b) = 0
wins t (Arrived e c) = 0
wins t (Saw u c) = 0
wins t (Claimed u b) = bit (b && (u == t))

-- 1 where the deed is a claim of task t that came too late
abbrev pub loses : ℕ → Deed → ℕ
loses t (Stamped k u b) = 0
loses t (Arrived e c) = 0
loses t (Saw u c) = 0
loses t (Claimed u b) = bit (not b && (u == t))

-- 1 where the deed is a claim of task t, whether it took the task or came too late
abbrev pub claims : ℕ → Deed → ℕ
claims t (Stamped k u b) = 0
claims t (Arrived e c) = 0
claims t (Saw u c) = 0
claims t (Claimed u b) = bit (u == t)

-- 1 where the deed is a look at the count of task t that found c
abbrev pub saw : (t c : ℕ) → Deed → ℕ
saw t c (Stamped k u b) = 0
saw t c (Arrived e l) = 0
saw t c (Saw u l) = bit ((l == c) && (u == t))
saw t c (Claimed u b) = 0

-- 1 where the deed is a look at the count of task t that found 0
abbrev pub sees : ℕ → Deed → ℕ
sees t = saw t 0

-- 1 where the deed is the arrival at edge e
abbrev pub arrives : ℕ → Deed → ℕ
arrives e (Stamped k u b) = 0
arrives e (Arrived d c) = bit (d == e)
arrives e (Saw u c) = 0
arrives e (Claimed u b) = 0

-- 1 where the deed drew the stamp n
abbrev pub stamps : ℕ → Deed → ℕ
stamps n (Stamped k u b) = bit (k == n)
stamps n (Arrived d c) = 0
stamps n (Saw u c) = 0
stamps n (Claimed u b) = 0

-- 1 where the deed is the stamp of the start of task t
abbrev pub starts : ℕ → Deed → ℕ
starts t (Stamped k u b) = bit (b && (u == t))
starts t (Arrived d c) = 0
starts t (Saw u c) = 0
starts t (Claimed u b) = 0

-- 1 where the deed is the stamp of the finish of task t
abbrev pub finishes : ℕ → Deed → ℕ
finishes t (Stamped k u b) = bit (not b && (u == t))
finishes t (Arrived d c) = 0
finishes t (Saw u c) = 0
finishes t (Claimed u b) = 0

-- how often it stands in a seat's list
abbrev pub done_by : {C : Type 0} → (Deed → ℕ) → View C → ℕ
done_by f v = total f v.deeds

-- how often it stands in the lists of all seats, taken together
abbrev pub all : {C : Type 0} → (Deed → ℕ) → List (View C) → ℕ
all f views = total (done_by f) views

-- a view after one deed more
abbrev pub noted : {C : Type 0} → View C → Deed → View C
noted v d = record v { deeds = v.deeds ++ d ∷ [] }

-- two views as one: the numbers and the deeds of both
abbrev pub together : {C : Type 0} → View C → View C → View C
together v w = record { board = v.board; numbers = v.numbers ++ w.numbers; deeds = v.deeds ++ w.deeds }

-- the view of a seat that was joined to another: it knows no board, has no number and did nothing
abbrev pub spent : {C : Type 0} → View C
spent = record { board = None; numbers = []; deeds = [] }

-- the view of a seat that was joined to another, by its parts
abbrev pub IsSpent : {C : Type 0} → View C → Type 0
IsSpent v = (v.board ≡ None) × (v.deeds ≡ []) × (v.numbers ≡ [])

-- what one list says by itself
pub record IsOwn {C : Type 0} (n : Net) (v : View C) : Type 0 where
  pub won_seen : (t : ℕ) → 0 < done_by (wins t) v → 0 < done_by (sees t) v
  pub arrived_won : (e : ℕ) → done_by (arrives e) v ≤ done_by (wins (n.source e)) v
  pub started_won : (t : ℕ) → done_by (starts t) v ≤ done_by (wins t) v
  pub finished_started : (t : ℕ) → done_by (finishes t) v ≤ done_by (starts t) v

-- the edges whose slots are in a seat's list, in order
abbrev pub places : {S : Type 0} → List (ℕ × S) → List ℕ
places [] = []
places (x ∷ xs) = x.0 ∷ places xs

-- a fact of each slot of a list, by its edge and what it holds
abbrev pub Each : {S : Type 0} → (ℕ → S → Type 0) → List (ℕ × S) → Type 0
Each P [] = Unit {0}
Each P (x ∷ xs) = P x.0 x.1 × Each P xs

-- the task that was won last
abbrev pub last_from : Option ℕ → List Deed → Option ℕ
last_from o [] = o
last_from o (Stamped k u b ∷ ds) = last_from o ds
last_from o (Arrived e c ∷ ds) = last_from o ds
last_from o (Saw u c ∷ ds) = last_from o ds
last_from o (Claimed u b ∷ ds) = last_from (cond b (Some u) o) ds

-- the task that a list of deeds won last
abbrev pub last_won : List Deed → Option ℕ
last_won ds = last_from None ds

-- a number above those of all stamps in a seat's list
abbrev pub IsAbove : {C : Type 0} → ℕ → View C → Type 0
IsAbove n v = (k : ℕ) → 0 < done_by (stamps k) v → k < n

-- what a start tells, of the task that was won last
abbrev pub Starts : {C : Type 0} → Step (Option C) → Me (Option C) (View C) → ℕ → Me (Option C) (View C) → Type 0
Starts st m n k = (t : ℕ) → last_won m.0.deeds ≡ Some t → (k.0 ≡ noted m.0 (Stamped n t true)) × (k.1 ≡ m.1) × IsAbove n m.0

-- the edge of the slot in front
abbrev pub front_edge : {S : Type 0} → List (ℕ × S) → ℕ
front_edge [] = 0
front_edge (x ∷ xs) = x.0

-- an arrival into t after which the count was c
abbrev pub arrives_with : Net → (t c : ℕ) → Deed → ℕ
arrives_with n t c (Stamped k u b) = 0
arrives_with n t c (Arrived e l) = bit ((l == c) && (n.reader e == t))
arrives_with n t c (Saw u l) = 0
arrives_with n t c (Claimed u b) = 0

-- an arrival into t after which the count was 0
abbrev pub zeroes : Net → ℕ → Deed → ℕ
zeroes n t = arrives_with n t 0

-- What an arrival tells: it is of the slot in front, which goes back. No arrival in the seat's list has had the count 0 of its
-- reader before.
abbrev pub Gives : {C : Type 0} → (Graph → Wires) → Step (Option C) → Me (Option C) (View C) → ℕ → Me (Option C) (View C) → Type 0
Gives {C} wires st m n k = (k.0 ≡ noted m.0 (Arrived (front_edge m.1) (n - 1))) × (k.1 ≡ rest m.1) × (0 < n)
    × ((a : About C) → m.0.board ≡ Some a → let net = (wires a.tasks.value).net in done_by (zeroes net (net.reader (front_edge m.1))) m.0 ≡ 0)

-- what a load of a count tells. The word's index names the task
abbrev pub Looks : {C : Type 0} → Step (Option C) → Me (Option C) (View C) → ℕ → Me (Option C) (View C) → Type 0
Looks st m n k = (k.0 ≡ noted m.0 (Saw (st.word - 1) n)) × (k.1 ≡ m.1)

-- the seat neither took the task nor started it
abbrev pub IsFresh : {C : Type 0} → ℕ → View C → Type 0
IsFresh t v = (done_by (wins t) v ≡ 0) × (done_by (starts t) v ≡ 0)

module _ {C Key : Type 0} (wires : Graph → Wires) (edge_of : C → ℕ) (key_of : C → Key) where
  -- the parcel of this edge, with the board's key
  abbrev pub Fits : About C → ℕ → Option C → Type 0
  Fits a e x = (p : C) × (x ≡ Some p) × (edge_of p ≡ e) × (key_of p ≡ key_of a.sample.value)

  -- what words, slots and views keep, but for the numbers, the order of stamps and what is shown
  pub record IsKept (a : About C) (s : State (Option C) (View C)) : Type 0 where
    pub words_long : length s.words ≡ 1 + (wires a.tasks.value).net.tasks + (wires a.tasks.value).net.tasks
    pub homes_long : length s.homes ≡ (wires a.tasks.value).edges
    -- the seats: each knows the board, and says by itself what IsOwn asks
    pub same : (id : ℕ) (v : View C) → get_elem? s.views id ≡ some v → (v.board ≡ Some a) ⊎ IsSpent v
    pub own : (id : ℕ) (v : View C) → get_elem? s.views id ≡ some v → IsOwn (wires a.tasks.value).net v
    -- stamps: each number below the stamp word is drawn once, and no other
    pub stamped : (k : ℕ) → all (stamps k) s.views ≡ bit (ltb k (slice_index s.words 0))
    -- claims
    pub won_once : (t : ℕ) → all (wins t) s.views < 2
    pub claimed : (t : ℕ) → t < (wires a.tasks.value).net.tasks → slice_index s.words (claim_word (wires a.tasks.value).net.tasks t) ≡ all (wins t) s.views
    pub lost : (t : ℕ) → t < (wires a.tasks.value).net.tasks → 0 < all (loses t) s.views → slice_index s.words
        (claim_word (wires a.tasks.value).net.tasks t) ≡ 1
    -- counts
    pub counted : (t : ℕ) → t < (wires a.tasks.value).net.tasks
        → slice_index s.words (count_word t) + total (λ e. all (arrives e) s.views) ((wires a.tasks.value).net.needs t) ≡ length
        ((wires a.tasks.value).net.needs t)
    pub arrived_once : (e : ℕ) → all (arrives e) s.views < 2
    pub seen : (t : ℕ) → t < (wires a.tasks.value).net.tasks → 0 < all (sees t) s.views → slice_index s.words (count_word t) ≡ 0
    -- slots
    pub empty_slots : (e : ℕ) → e < (wires a.tasks.value).edges → (wires a.tasks.value).is_entry e ≡ false
        → all (wins ((wires a.tasks.value).net.source e)) s.views ≡ 0 → get_elem? s.homes e ≡ some (some None)
    pub full_slots : (e : ℕ) → ((wires a.tasks.value).is_entry e ≡ true) ⊎ (all (arrives e) s.views ≡ 1)
        → all (wins ((wires a.tasks.value).net.reader e)) s.views ≡ 0
        → (x : Option C) × (get_elem? s.homes e ≡ some (some x)) × Fits a e x
    pub exit_slots : (e : ℕ) → (wires a.tasks.value).is_exit e ≡ true
        → all (finishes ((wires a.tasks.value).net.source e)) s.views ≡ 1 → (x : Option C) × (get_elem? s.homes e ≡ some (some x)) × Fits a e x
    pub keyed : (e : ℕ) (p : C) → get_elem? s.homes e ≡ some (some (Some p)) → key_of p ≡ key_of a.sample.value

  -- the slots that a seat took, in the order of the edges, the inward ones full and the outward ones empty
  abbrev pub Took : About C → List ℕ → List ℕ → List (ℕ × Option C) → List (ℕ × Option C) → Type 0
  Took a es fs before now = (ins outs : List (ℕ × Option C)) × (now ≡ ins ++ (outs ++ before)) × (places ins ≡ es) × (places outs ≡ fs) ×
      Each (λ e x. Fits a e x) ins × Each (λ e x. x ≡ None) outs

  -- what a swap of a claim word tells. The word's index names the task
  abbrev pub Claims : Step (Option C) → Me (Option C) (View C) → ℕ → Me (Option C) (View C) → Type 0
  Claims st m n k = (a : About C) → m.0.board ≡ Some a → let w = wires a.tasks.value in let t = st.word - (1 + w.net.tasks) in
      (k.0 ≡ noted m.0 (Claimed t (n == 0))) × MatchBool (n == 0) (Took a (w.inward t) (w.outward t) m.1 k.1 × IsFresh t m.0) (k.1 ≡ m.1)

  -- how many slots go back at a finish: the inward ones, and the exit edge's
  abbrev pub going : About C → ℕ → ℕ
  going a t = let w = wires a.tasks.value in length (w.inward t) + (length (w.outward t) - length (w.net.feeds t))

  -- what a finish tells, of the task that was won last
  abbrev pub Ends : Step (Option C) → Me (Option C) (View C) → ℕ → Me (Option C) (View C) → Type 0
  Ends st m n k = (a : About C) → m.0.board ≡ Some a → (t : ℕ) → last_won m.0.deeds ≡ Some t
      → (k.0 ≡ noted m.0 (Stamped n t false)) × (k.1 ≡ drop (going a t) m.1) × IsAbove n m.0
