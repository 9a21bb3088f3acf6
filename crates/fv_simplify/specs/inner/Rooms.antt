-- Rooms that are found signal by signal.
use Rattle.std.specs.Prelude.{ℕ, List, ℤ, pos, negsuc, Option, None, Some, max, slice_index_or, slice_set}
use Rattle.fv_signal.specs.declared.signal.Signal.{Signal}
use Rattle.fv_signal.specs.declared.signal.Signal.TheVariants.{Input, Const, Control, Point, Delay, Back, Member, Read, Write}
use Rattle.fv_signal.specs.headline.Value.{Graph}
use Rattle.fv_simplify.specs.Nodes.{number_at}

-- the room where there is a delay more by this number, or by none
abbrev pub room_with : Option ℕ → Option ℤ → Option ℕ
room_with None by = None
room_with (Some most) None = None
room_with (Some most) (Some (pos n)) = Some (max most n)
room_with (Some most) (Some (negsuc n)) = Some most

-- the rooms where there is this signal more
abbrev pub rooms_after : Graph → List (Option ℕ) → Signal → List (Option ℕ)
rooms_after g rooms (Input k) = rooms
rooms_after g rooms (Const n) = rooms
rooms_after g rooms (Control k) = rooms
rooms_after g rooms (Point op args) = rooms
rooms_after g rooms (Delay x d most) = slice_set rooms x (room_with (slice_index_or rooms x None) (number_at g d))
rooms_after g rooms (Back group k) = rooms
rooms_after g rooms (Member group k) = rooms
rooms_after g rooms (Read table r) = rooms
rooms_after g rooms (Write table w x r) = rooms
