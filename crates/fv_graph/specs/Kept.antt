-- What lists with an element for each worker mean, and how much room they have (this project's profile).
use Rattle.std.specs.Prelude.{ℕ, ◌<◌, ◌≤◌, List, map, length, get_or}
use Rattle.std.specs.Global.{Vec, Global}
use Rattle.std.specs.Vec.{vec_capacity}
use Rattle.std.specs.VecDeque.{deque_capacity}
use Rattle.std.specs.declared.collections.VecDeque.{VecDeque}

-- what stands in the deques
abbrev pub deques_of : List (VecDeque ℕ Global) → List (List ℕ)
deques_of ds = map (λ d. d.items) ds

-- how much each deque has room for
abbrev pub rooms_of : List (VecDeque ℕ Global) → List ℕ
rooms_of ds = map (λ d. deque_capacity d) ds

-- what stands in the lists of what is owed
abbrev pub owed_of : List (Vec ℕ) → List (List ℕ)
owed_of vs = map (λ v. v.items) vs

-- how much each of these has room for
abbrev pub owed_rooms : List (Vec ℕ) → List ℕ
owed_rooms vs = map (λ v. vec_capacity v) vs

-- each list has room for n numbers
abbrev pub HaveRoom : ℕ → List ℕ → Type 0
HaveRoom n rooms = (w : ℕ) → w < length rooms → n ≤ get_or rooms w 0
