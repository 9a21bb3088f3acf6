-- What each kind of step of a seat does to a board that meets its rule, and to what the board shows (this project's profile).
use Rattle.std.specs.Prelude.{◌≡◌, ◌≢◌, ℕ, ◌+◌, ◌-◌, ◌%◌, ◌^◌, ◌<◌, ◌⊎◌, Bool, true, false, cond}
use Rattle.std.specs.Prelude.{List, [], ◌∷◌, ◌++◌, length, slice_index, slice_set, Option, Some, None, MatchBool, ◌==◌}
use mathlib.Core.Option.{some}
use lib.ListN.{get_elem?}
use Rattle.atomic_table.specs.Table.{State, Me, Act, Valid, carried_after, stepped}
use Rattle.fv_graph.specs.Graph.{net_of}
use Rattle.fv_graph.specs.Core.{Now, opening}
use Rattle.fv_graph.specs.Lean.{is_lean_legal, lean_after}
use Rattle.fv_graph.specs.declared.event.Event.{Event}
use Rattle.fv_graph.specs.declared.event.Event.TheVariants.{Take, Finish, Arrive}
use Rattle.fv_ready.specs.declared.view.Deed.{Deed}
use Rattle.fv_ready.specs.declared.view.Deed.TheVariants.{Stamped, Arrived, Saw, Claimed}
use Rattle.fv_ready.specs.declared.view.About.{About}
use Rattle.fv_ready.specs.declared.view.View.{View}
use Rattle.fv_ready.specs.Wired.{graph_wires}
use Rattle.fv_ready.specs.Rule.{count_word, claim_word, sees, done_by, all, noted, together, spent}
use Rattle.fv_ready.specs.Shown.{worker_of, Shows}
use Rattle.fv_ready.specs.Whole.{left_part, right_part, all_having, AllKnow, IsWhole}
use Rattle.fv_ready.specs.Carried.{with_slot, MayHold, IsFree, IsBusy, AreHanded}

module _ {C : Type 0} where
  -- the board shows this state of the lean core
  abbrev pub ShowsNow : About C → State (Option C) (View C) → Now → Type 0
  ShowsNow a s z = Shows {C = C} {S = Option C} (net_of a.tasks.value.tasks) a.workers s z

  -- the board shows one event of the lean core more, this legal one, or just what it showed
  abbrev pub Changes : About C → State (Option C) (View C) → State (Option C) (View C) → Option Event → Type 0
  Changes a s s' None = (z : Now) → ShowsNow a s z → ShowsNow a s' z
  Changes a s s' (Some e) = (z : Now) → ShowsNow a s z
      → (is_lean_legal (net_of a.tasks.value.tasks) z e ≡ true) × ShowsNow a s' (lean_after (net_of a.tasks.value.tasks) z e)

  -- the board where seat `id`, of view v, is cut in two: it keeps its first number, and a new seat has the others
  abbrev pub cut_at : State (Option C) (View C) → ℕ → View C → State (Option C) (View C)
  cut_at s id v = record s { views = slice_set s.views id (left_part v) ++ right_part v ∷ [] }

  -- the board where seat `id`, of view v, takes in seat `other`, of view w, which is spent then
  abbrev pub joined_at : State (Option C) (View C) → ℕ → View C → ℕ → View C → State (Option C) (View C)
  joined_at s id v other w = record s { views = slice_set (slice_set s.views id (together v w)) other spent }

  -- taken together, the seats did what they did, and have the numbers that they had
  pub record AreAsBefore (s s' : State (Option C) (View C)) : Type 0 where
    pub deeds : (f : Deed → ℕ) → all f s'.views ≡ all f s.views
    pub numbers : (k : ℕ) → all_having k s'.views ≡ all_having k s.views

module _ {C Key : Type 0} (edge_of : C → ℕ) (key_of : C → Key) where
  -- the board meets its rule
  abbrev pub Meets : About C → State (Option C) (View C) → Type 0
  Meets a s = IsWhole graph_wires edge_of key_of a s

  -- A step by which the word i becomes f of what it was, whatever the board is then. Seat `id` has a new view and an act that keep
  -- the rule. What is shown changes by the event, and `then` holds of the number found and of the seat after.
  abbrev pub Steps : About C → ℕ → Me (Option C) (View C) → ℕ → (ℕ → ℕ) → (ℕ → Option Event) → (ℕ → Me (Option C) (View C) → Type 0) → Type 0
  Steps a id me i f event then = (s : State (Option C) (View C)) → Meets a s → get_elem? s.views id ≡ some me.0 → slice_index s.words i < 2 ^ 64
      → (w : View C) × (act : Act (Option C)) × Valid s.homes me.1 act × Meets a (stepped s i (f (slice_index s.words i)) id me.1 w act)
      × Changes a s (stepped s i (f (slice_index s.words i)) id me.1 w act) (event (slice_index s.words i)) × then (slice_index s.words i)
      (w, carried_after me.1 act)

  -- of the tasks of a board, and of a seat that knows the board
  pub record StepLaw (a : About C) (id : ℕ) (v : View C) (c : List (ℕ × Option C)) : Type 0 where
    -- a load of a task's count
    pub look : (t : ℕ) → Steps a id (v, c) (count_word t) (λ k. k) (λ _. None) (λ k me. me ≡ (noted v (Saw t k), c))
    -- a swap of a task's claim word: the first one takes the task
    pub claim : (t : ℕ) → t < (net_of a.tasks.value.tasks).tasks → 0 < done_by (sees t) v → IsFree graph_wires edge_of key_of a v c → c ≡ []
        → Steps a id (v, c) (claim_word (net_of a.tasks.value.tasks).tasks t) (λ _. 1) (λ k. cond (k == 0) (Some (Take (worker_of v) t)) None)
        (λ k me. (me.0 ≡ noted v (Claimed t (k == 0))) × MatchBool (k == 0) (IsBusy graph_wires edge_of key_of a t false me.0 me.1) (me.1 ≡ []))
    -- a stamp: the start of the task in hand, or its finish
    pub start : (t : ℕ) → IsBusy graph_wires edge_of key_of a t false v c
        → Steps a id (v, c) 0 (λ k. (k + 1) % 2 ^ 64) (λ _. None) (λ k me. me ≡ (noted v (Stamped k t true), c))
    pub finish : (t : ℕ) → IsBusy graph_wires edge_of key_of a t true v c → AreHanded graph_wires edge_of key_of a t c
        → Steps a id (v, c) 0 (λ k. (k + 1) % 2 ^ 64) (λ _. Some (Finish (worker_of v) t))
        (λ k me. (me.0 ≡ noted v (Stamped k t false)) × IsFree graph_wires edge_of key_of a me.0 me.1)
    -- an arrival at an edge that the seat owes
    pub arrive : (e : ℕ) (x : Option C) (rest : List (ℕ × Option C)) → c ≡ (e, x) ∷ rest → IsFree graph_wires edge_of key_of a v c
        → Steps a id (v, c) (count_word ((net_of a.tasks.value.tasks).reader e)) (λ k. (k + (2 ^ 64 - 1)) % 2 ^ 64)
        (λ _. Some (Arrive (worker_of v) e)) (λ k me. (me ≡ (noted v (Arrived e (k - 1)), rest)) × (0 < k))
    -- an exchange of a slot that the seat has, by which a parcel is handed or received: it changes nothing that the rule sees
    pub exchange : (t e : ℕ) (started : Bool) (y : Option C) → IsBusy graph_wires edge_of key_of a t started v c
        → MayHold graph_wires edge_of key_of a e y → IsBusy graph_wires edge_of key_of a t started v (with_slot c e y)
    -- a load by which a seat gives back all slots that it has, whatever it has in hand, before another seat takes it in
    pub leave : IsFree graph_wires edge_of key_of a v c ⊎ ((t : ℕ) × (started : Bool) × IsBusy graph_wires edge_of key_of a t started v c)
        → Steps a id (v, c) 0 (λ k. k) (λ _. None) (λ k me. me ≡ (v, []))
    -- a split of a seat that has done nothing and has several numbers: while no seat is spent, just what was shown is shown
    pub split : v.deeds ≡ [] → 1 < length v.numbers → (s : State (Option C) (View C)) → Meets a s → get_elem? s.views id ≡ some v
        → Meets a (cut_at s id v) × AreAsBefore s (cut_at s id v) × (AllKnow a s → Changes a s (cut_at s id v) None)
    -- a join, by which the seat takes in another one. That one is spent then, and the board shows nothing from then on
    pub join : (other : ℕ) (w : View C) → other ≢ id → (s : State (Option C) (View C)) → Meets a s → get_elem? s.views id ≡ some v
        → get_elem? s.views other ≡ some w → Meets a (joined_at s id v other w) × AreAsBefore s (joined_at s id v other w)

  -- a board that meets its rule, in which no seat is spent and no seat has done anything, shows the lean core's opening state
  abbrev pub OpeningLaw : Type 0
  OpeningLaw = (a : About C) (s : State (Option C) (View C)) → Meets a s
      → ((id : ℕ) (v : View C) → get_elem? s.views id ≡ some v → (v.board ≡ Some a) × (v.deeds ≡ [])) → ShowsNow a s
      (opening (net_of a.tasks.value.tasks) a.workers)
