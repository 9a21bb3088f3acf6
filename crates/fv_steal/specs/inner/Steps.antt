-- What a worker does in one turn (this project's profile).
use Rattle.std.specs.Prelude.{◌≡◌, ℕ, ◌+◌, ◌<◌, List, Some, None}
use Rattle.fv_outside.specs.Tasks.{times}
use Rattle.fv_graph.specs.Net.{Net, need_count}
use Rattle.fv_ready.specs.declared.view.Deed.{Deed}
use Rattle.fv_ready.specs.declared.view.Deed.TheVariants.{Arrived, Saw}
use Rattle.fv_ready.specs.declared.view.View.{View}
use Rattle.fv_ready.specs.Rule.{done_by, arrives, zeroes}
use Rattle.fv_ready.specs.Carried.{slot_at}

-- the slots of these edges are full, or empty
abbrev pub AreFull : {C : Type 0} → List (ℕ × Rattle.std.specs.Prelude.Option C) → List ℕ → Type 0
AreFull {C} slots edges = (e : ℕ) → 0 < times e edges → (p : C) × (slot_at slots e ≡ Some p)

abbrev pub AreEmpty : {C : Type 0} → List (ℕ × Rattle.std.specs.Prelude.Option C) → List ℕ → Type 0
AreEmpty slots edges = (e : ℕ) → 0 < times e edges → slot_at slots e ≡ None

-- between two views there are looks alone
abbrev pub Looked : {C : Type 0} → (old new : View C) → Type 0
Looked old new = (f : Deed → ℕ) → ((t c : ℕ) → f (Saw t c) ≡ 0) → done_by f new ≡ done_by f old

-- between two views there are the arrivals at these edges alone
pub record HasArrived {C : Type 0} (edges : List ℕ) (old new : View C) : Type 0 where
  pub others : (f : Deed → ℕ) → ((e c : ℕ) → f (Arrived e c) ≡ 0) → done_by f new ≡ done_by f old
  pub arrived : (e : ℕ) → done_by (arrives e) new ≡ done_by (arrives e) old + times e edges

-- each task that reads others was put as often as arrivals into it had the count 0
abbrev pub PutAsZeroed : {C : Type 0} → Net → View C → List ℕ → Type 0
PutAsZeroed net v put = (x : ℕ) → x < net.tasks → 0 < need_count net x → times x put ≡ done_by (zeroes net x) v

-- what was put between two views is what the arrivals between them brought down to the count 0
abbrev pub PutBetween : {C : Type 0} → Net → (old new : View C) → (before after : List ℕ) → Type 0
PutBetween net old new before after = (x : ℕ) → times x after + done_by (zeroes net x) old ≡ times x before + done_by (zeroes net x) new
