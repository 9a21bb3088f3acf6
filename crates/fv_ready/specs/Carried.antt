-- What a seat's slots are, by what it has in hand (this project's profile).
use Rattle.std.specs.Prelude.{◌≡◌, ℕ, ◌+◌, ◌<◌, ◌⊎◌, ◌&&◌, Bool, true, cond, ltb, List, [], ◌∷◌, ◌++◌, Option, Some, None, ◌==◌}
use Rattle.fv_graph.specs.Tasks.{bit}
use Rattle.fv_graph.specs.TasksBeside.{times}
use Rattle.fv_graph.specs.Graph.{Graph}
use Rattle.fv_graph.specs.Wires.{Wires}
use Rattle.fv_ready.specs.declared.view.About.{About}
use Rattle.fv_ready.specs.declared.view.View.{View}
use Rattle.fv_ready.specs.Rule.{wins, starts, finishes, arrives, done_by, last_won, places, Each, Fits}

-- what the slot of an edge holds
abbrev pub slot_at : {C : Type 0} → List (ℕ × Option C) → ℕ → Option C
slot_at [] e = None
slot_at (x ∷ xs) e = cond (x.0 == e) x.1 (slot_at xs e)

-- the slots, where that of an edge holds something else
abbrev pub with_slot : {C : Type 0} → List (ℕ × Option C) → ℕ → Option C → List (ℕ × Option C)
with_slot [] e y = []
with_slot (x ∷ xs) e y = cond (x.0 == e) ((e, y) ∷ xs) (x ∷ with_slot xs e y)

-- the slots but that of an edge
abbrev pub but_slot : {C : Type 0} → List (ℕ × Option C) → ℕ → List (ℕ × Option C)
but_slot [] e = []
but_slot (x ∷ xs) e = cond (x.0 == e) xs (x ∷ but_slot xs e)

module _ {C Key : Type 0} (wires : Graph → Wires) (edge_of : C → ℕ) (key_of : C → Key) where
  -- nothing, or the parcel of this edge, with the board's key
  abbrev pub MayHold : About C → ℕ → Option C → Type 0
  MayHold a e x = (p : C) → x ≡ Some p → (edge_of p ≡ e) × (key_of p ≡ key_of a.sample.value)

  -- The seat has no task in hand: each that it took is finished. The slots that it has are full, and are those of the inner edges
  -- out of these tasks that have not arrived.
  pub record IsFree (a : About C) (v : View C) (c : List (ℕ × Option C)) : Type 0 where
    pub finished : (t : ℕ) → done_by (finishes t) v ≡ done_by (wins t) v
    pub owed : (e : ℕ) → times e (places c) + done_by (arrives e) v ≡ bit
        ((wires a.tasks.value).net.is_inner e && ltb 0 (done_by (finishes ((wires a.tasks.value).net.source e)) v))
    pub full : Each (λ e x. Fits wires edge_of key_of a e x) c

  -- the seat has task t in hand, which it took last: it has the slots of all edges of t, in order, and owes nothing of other tasks
  pub record IsBusy (a : About C) (t : ℕ) (begun : Bool) (v : View C) (c : List (ℕ × Option C)) : Type 0 where
    pub there : t < (wires a.tasks.value).net.tasks
    pub last : last_won v.deeds ≡ Some t
    pub finished : (u : ℕ) → done_by (finishes u) v + bit (t == u) ≡ done_by (wins u) v
    pub unfinished : done_by (finishes t) v ≡ 0
    pub started : done_by (starts t) v ≡ bit begun
    pub arrived : (e : ℕ) → done_by (arrives e) v ≡ bit ((wires a.tasks.value).net.is_inner e && ltb 0
        (done_by (finishes ((wires a.tasks.value).net.source e)) v))
    pub at : places c ≡ (wires a.tasks.value).inward t ++ (wires a.tasks.value).outward t
    pub may : Each (λ e x. MayHold a e x) c

  -- the slots of all edges out of a task hold a parcel
  abbrev pub AreHanded : About C → ℕ → List (ℕ × Option C) → Type 0
  AreHanded a t c = (e : ℕ) → 0 < times e ((wires a.tasks.value).outward t) → (p : C) × (slot_at c e ≡ Some p)

module _ {C Key : Type 0} (wires : Graph → Wires) (edge_of : C → ℕ) (key_of : C → Key) (a : About C) (v : View C) where
  -- a slot of an edge of a task that the seat took: one into it, or one out of it that has not arrived and is not the exit edge of
  -- a finished task
  abbrev pub IsMine : ℕ → Type 0
  IsMine e = let w = wires a.tasks.value in (t : ℕ) × (t < w.net.tasks) × (0 < done_by (wins t) v)
      × ((0 < times e (w.inward t)) ⊎ ((0 < times e (w.outward t)) × (done_by (arrives e) v ≡ 0) × (w.is_exit e ≡ true → done_by (finishes t) v ≡ 0)))

  -- what a slot holds has the board's key
  abbrev pub HasKey : Option C → Type 0
  HasKey x = (p : C) → x ≡ Some p → key_of p ≡ key_of a.sample.value
