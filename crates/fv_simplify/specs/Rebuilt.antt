-- What the images of a graph's signals are in another graph (this project's profile).
use Rattle.std.specs.Prelude.{◌≡◌, ℕ, ◌+◌, ◌<◌, ◌≤◌, List, length, take, map, All, ℤ, pos, slice_index_or, nat_le, ◌≤ℤ◌, if◌then◌else◌, Option}
use Rattle.std.specs.Prelude.{None, Some, Bool, true, false, ◌⊎◌}
use Rattle.fv_num.specs.declared.op.Op.{Op}
use Rattle.fv_num.specs.headline.Words.{apply_of, inputs_of}
use Rattle.fv_signal.specs.declared.signal.Signal.{Signal}
use Rattle.fv_signal.specs.declared.signal.Signal.TheVariants.{Input, Const, Control, Point, Delay, Back, Member, Read, Write}
use Rattle.fv_signal.specs.headline.Value.{Graph, definition, back_by, value, AreAtMost, IsGraph}
use Rattle.fv_signal.specs.Value.{AreClosedSet, StayWithin}
use Rattle.fv_num.specs.headline.Frames.{Frame, Stream}
use Rattle.fv_simplify.specs.Choices.{choice}
use Rattle.fv_simplify.specs.Nodes.{node, StandsAt, number_at, known, numbers}
use Rattle.fv_simplify.specs.Reducible.{limit, AreSmall, reach, IsDelayedBy, IsTakenOver, IsReducible}

-- x, a delay of s by m samples, as a base for delays of it: s and m where m is a number and delays of at most `room` still fit,
-- else x and 0
abbrev pub taken : (x s m : ℕ) → Option ℤ → (room : Option ℕ) → ℕ × ℕ
taken x s m (Some c) (Some room) = if nat_le (m + room) limit then (s, m) else (x, 0)
taken x s m None room = (x, 0)
taken x s m (Some c) None = (x, 0)

abbrev pub base_of : Graph → Option ℕ → (x : ℕ) → Signal → ℕ × ℕ
base_of f room x (Delay s by m) = taken x s m (number_at f by) room
base_of f room x (Input k) = (x, 0)
base_of f room x (Const n) = (x, 0)
base_of f room x (Control k) = (x, 0)
base_of f room x (Point op args) = (x, 0)
base_of f room x (Back group k) = (x, 0)
base_of f room x (Member group k) = (x, 0)
base_of f room x (Read table r) = (x, 0)
base_of f room x (Write table w y r) = (x, 0)

-- the signal of which x is taken as a delay, and by how many samples
abbrev pub base : Graph → Option ℕ → ℕ → ℕ × ℕ
base f room x = base_of f room x (node f x)

-- the image of an operation on args
pub data IsPointImage (f : Graph) (op : Op) (args : List ℕ) (image : ℕ) : Type 0 where
  AsNumber : (ns : List ℤ) → numbers f (take (inputs_of op) args) ≡ Some ns → node f image ≡ Const (apply_of op ns) → IsPointImage f op args image
  AsOperand : (i : ℕ) → choice op (known f (take (inputs_of op) args)) ≡ Some i → image ≡ slice_index_or args i 0 → IsPointImage f op args image
  AsItself : numbers f (take (inputs_of op) args) ≡ None → choice op (known f (take (inputs_of op) args)) ≡ None → node f image ≡ Point op args
      → IsPointImage f op args image

-- the image of a delay of x by d samples, up to most
pub data IsDelayImage (f : Graph) (room : Option ℕ) (x d most image : ℕ) : Type 0 where
  AtOnce : (c : ℤ) → number_at f d ≡ Some c → back_by most c ≡ 0 → image ≡ x → IsDelayImage f room x d most image
  LateNothing : (c : ℤ) → number_at f d ≡ Some c → 0 < back_by most c → node f (base f room x).0 ≡ Const (pos 0) → image ≡ (base f room x).0
      → IsDelayImage f room x d most image
  Late : (c : ℤ) (e : ℕ) → number_at f d ≡ Some c → 0 < back_by most c → (node f (base f room x).0 ≡ Const (pos 0) → ⊥) →
      node f e ≡ Const (pos ((base f room x).1 + back_by most c)) → node f image ≡ Delay (base f room x).0 e ((base f room x).1 + back_by most c)
      → IsDelayImage f room x d most image
  Nothing : number_at f d ≡ None → node f x ≡ Const (pos 0) → image ≡ x → IsDelayImage f room x d most image
  Varying : number_at f d ≡ None → (node f x ≡ Const (pos 0) → ⊥) → node f image ≡ Delay x d most → IsDelayImage f room x d most image

-- the image of a signal, where p gives the images, and room how far the delays by numbers go of which each is taken over
abbrev pub IsImage : (g f : Graph) → (p : ℕ → ℕ) → (room : ℕ → Option ℕ) → Signal → (image : ℕ) → Type 0
IsImage g f p room (Input k) image = node f image ≡ Input k
IsImage g f p room (Const n) image = node f image ≡ Const n
IsImage g f p room (Control k) image = node f image ≡ Control k
IsImage g f p room (Point op args) image = (inputs_of op ≤ length args) × IsPointImage f op (map p args) image
IsImage g f p room (Delay x d most) image = IsDelayImage f (room x) (p x) (p d) most image
IsImage g f p room (Back group k) image = (node f image ≡ Back group k) × (definition f group k ≡ p (definition g group k))
IsImage g f p room (Member group k) image = image ≡ p (definition g group k)
IsImage g f p room (Read table r) image = node f image ≡ Read table (p r)
IsImage g f p room (Write table w x r) image = node f image ≡ Write table (p w) (p x) (p r)

-- a signal that is marked
abbrev pub IsMarked : List Bool → ℕ → Type 0
IsMarked marks s = slice_index_or marks s false ≡ true

-- f is g rebuilt over the signals P, which are closed, with g's tables
pub record IsRebuilt (g f : Graph) (p : ℕ → ℕ) (room : ℕ → Option ℕ) (P : ℕ → Type 0) : Type 0 where
  pub graph : IsGraph f
  pub closed : AreClosedSet g P
  pub there : (s : ℕ) → s < length g.signals → P s → p s < length f.signals
  pub images : (s : ℕ) → s < length g.signals → P s → IsImage g f p room (node g s) (p s)
  pub made : (i : ℕ) → i < length f.signals → ((n : ℤ) × (node f i ≡ Const n)) ⊎ ((s : ℕ) × (s < length g.signals) × P s × (p s ≡ i))
  pub outputs : f.outputs ≡ map p g.outputs
  pub tables : f.tables ≡ g.tables
  pub needed : All P g.outputs

-- the outputs have their values
abbrev pub KeepsValues : Graph → Graph → Type 0
KeepsValues g f =
    (X : List Frame) (c : ℕ → Stream) → AreSmall X c → (j t : ℕ) → j < length g.outputs
    → value f (slice_index_or f.outputs j 0) X c t ≡ value g (slice_index_or g.outputs j 0) X c t

abbrev pub RebuiltKeepsValues : Graph → Graph → Type 0
RebuiltKeepsValues g f = (p : ℕ → ℕ) (room : ℕ → Option ℕ) (marks : List Bool) → IsGraph g → IsRebuilt g f p room (IsMarked marks) → KeepsValues g f

-- a rebuilt graph keeps what its delays, inputs and controls are, and operands decide nothing in it
pub record KeepsRest (g f : Graph) : Type 0 where
  pub within : (X : List Frame) (c : ℕ → Stream) → AreSmall X c → StayWithin g X c → StayWithin f X c
  pub inputs : (s k : ℕ) → StandsAt f s (Input k) → (r : ℕ) × StandsAt g r (Input k)
  pub controls : (s k : ℕ) → StandsAt f s (Control k) → (r : ℕ) × StandsAt g r (Control k)
  pub decided : (s : ℕ) → ((y : ℕ) (b : ℤ) → IsDelayedBy f s y b → IsTakenOver f y → ⊥) → IsReducible f s → ⊥

abbrev pub RebuiltKeepsRest : Graph → Graph → Type 0
RebuiltKeepsRest g f = (p : ℕ → ℕ) (room : ℕ → Option ℕ) (marks : List Bool) → IsGraph g → IsRebuilt g f p room (IsMarked marks) → KeepsRest g f

-- Where there is room at x, each delay of x among P is by a number, which is at most the room.
abbrev pub RoomIsSafe : Graph → (P : ℕ → Type 0) → (room : ℕ → Option ℕ) → Type 0
RoomIsSafe g P room = (x q s d most : ℕ) → room x ≡ Some q → StandsAt g s (Delay x d most) → P s → (c : ℤ) × (node g d ≡ Const c) × (c ≤ℤ pos q)

-- a rebuilt graph reads no further back
pub record ReadsNoFurther (g f : Graph) : Type 0 where
  pub short : AreAtMost limit g → AreAtMost limit f
  pub reach : reach f ≤ reach g

abbrev pub RebuiltReadsNoFurther : Graph → Graph → Type 0
RebuiltReadsNoFurther g f = (p : ℕ → ℕ) (room : ℕ → Option ℕ) (marks : List Bool) → IsGraph g → IsRebuilt g f p room (IsMarked marks)
    → RoomIsSafe g (IsMarked marks) room → ReadsNoFurther g f

-- The signals P of a graph are folded. Numbers decide no operation of them, and no delay is of the number 0. A delay by a number is
-- by its greatest number, and no signal of the graph is a member.
pub record IsFolded (g : Graph) (P : ℕ → Type 0) : Type 0 where
  pub points : (s : ℕ) (op : Op) (args : List ℕ) → StandsAt g s (Point op args) → P s → (numbers g (take (inputs_of op) args) ≡ None)
      × (choice op (known g (take (inputs_of op) args)) ≡ None)
  pub delays : (s x d most : ℕ) → StandsAt g s (Delay x d most) → P s → (node g x ≡ Const (pos 0) → ⊥)
      × ((c : ℤ) → number_at g d ≡ Some c → (c ≡ pos most) × (0 < most))
  pub members : (s group k : ℕ) → StandsAt g s (Member group k) → ⊥

-- The room at x is how far those delays of x go that are among P, where all of them are by numbers. There is none where one is not.
pub record IsRoom (g : Graph) (P : ℕ → Type 0) (room : ℕ → Option ℕ) : Type 0 where
  pub safe : RoomIsSafe g P room
  pub full : (x q : ℕ) → room x ≡ Some q → 0 < q → (s : ℕ) × (d : ℕ) × (most : ℕ) × StandsAt g s (Delay x d most) × P s × (node g d ≡ Const (pos q))
  pub none : (x : ℕ) → x < length g.signals → room x ≡ None → (s : ℕ) × (d : ℕ) × (most : ℕ) × StandsAt g s (Delay x d most) × P s × (number_at g d ≡ None)

-- in a graph that is rebuilt from a folded one, with all the room, no delay of a delay is reducible
abbrev pub NoDelayIsTakenOver : Graph → Graph → Type 0
NoDelayIsTakenOver g f =
    (p : ℕ → ℕ) (room : ℕ → Option ℕ) (marks : List Bool) → IsGraph g → IsRebuilt g f p room (IsMarked marks) → IsFolded g (IsMarked marks)
    → IsRoom g (IsMarked marks) room →
    (s : ℕ) → IsReducible f s → ⊥

-- what is rebuilt is folded
abbrev pub RebuiltIsFolded : Graph → Graph → Type 0
RebuiltIsFolded g f = (p : ℕ → ℕ) (room : ℕ → Option ℕ) (marks rest : List Bool) → IsGraph g → IsRebuilt g f p room (IsMarked marks)
    → IsFolded f (IsMarked rest)
