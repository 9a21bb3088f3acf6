-- The values of a graph of signals (this project's profile).
use Rattle.std.specs.Prelude.{◌≡◌, ℕ, ◌<◌, ◌≤◌, List, [], length, take, All, ℤ, pos, slice_index_or, FitsSigned}
use Rattle.std.specs.Int.{w32}
use Rattle.fv_num.specs.headline.Words.{argument, apply_of, inputs_of}
use Rattle.fv_num.specs.headline.Frames.{Frame, Stream, column, delayed, back, carried}
pub use Rattle.fv_num.specs.headline.Frames.{back_by}
use Rattle.fv_num.specs.headline.Tables.{read_at, written_at}
use Rattle.fv_num.specs.headline.Valuation.{Meaning, valuation}
use Rattle.fv_signal.specs.declared.signal.Signal.{Signal}
use Rattle.fv_signal.specs.declared.signal.Signal.TheVariants.{Input, Const, Control, Point, Delay, Back, Member, Read, Write}

-- the signals, the definitions of the members of each group, the tables, and the program's outputs
pub record Graph : Type 0 where
  pub signals : List Signal
  pub groups : List (List ℕ)
  pub tables : List (List ℤ)
  pub outputs : List ℕ

-- the definitions of a group's members
abbrev pub members : Graph → (group : ℕ) → List ℕ
members g group = slice_index_or g.groups group []

-- the signal that defines member i of a group
abbrev pub definition : Graph → (group i : ℕ) → ℕ
definition g group i = slice_index_or (members g group) i 0

-- the numbers of a table, none where it is not there
abbrev pub table_of : Graph → (table : ℕ) → List ℤ
table_of g table = slice_index_or g.tables table []

-- what a signal gives at time t on the frames X under the controls c, where signal s has the stream v s
abbrev pub signal_at : Graph → (X : List Frame) → (c : ℕ → Stream) → Meaning Signal
signal_at g X c v (Input i) t = column X i t
signal_at g X c v (Const n) t = n
signal_at g X c v (Control k) t = c k t
signal_at g X c v (Point op args) t = apply_of op (take (inputs_of op) (carried v args t))
signal_at g X c v (Delay x d max) t = back (v x) t (pos (back_by max (v d t)))
signal_at g X c v (Back group i) t = delayed (v (definition g group i)) t
signal_at g X c v (Member group i) t = v (definition g group i) t
signal_at g X c v (Read table r) t = read_at (table_of g table) (v r t)
signal_at g X c v (Write table w x r) t = written_at (table_of g table) (v w) (v x) t (v r t)

-- the value of signal s at time t
abbrev pub value : Graph → (s : ℕ) → (X : List Frame) → (c : ℕ → Stream) → Stream
value g s X c t = valuation (signal_at g X c) g.signals s t

-- the signal with number s
abbrev pub node : Graph → ℕ → Signal
node g s = slice_index_or g.signals s (Const (pos 0))

-- the signal stands at place s
pub record StandsAt (g : Graph) (s : ℕ) (signal : Signal) : Type 0 where
  pub within : s < length g.signals
  pub is : node g s ≡ signal

-- no greatest number of a delay is over n
abbrev pub AreAtMost : ℕ → Graph → Type 0
AreAtMost n g = (s x by most : ℕ) → StandsAt g s (Delay x by most) → most ≤ n

-- the operands of a signal, and a member's definition, are earlier than place i
abbrev pub OperandsBelow : Graph → ℕ → Signal → Type 0
OperandsBelow g i (Input k) = Unit {0}
OperandsBelow g i (Const n) = Unit {0}
OperandsBelow g i (Control k) = Unit {0}
OperandsBelow g i (Point op args) = All (λ a. a < i) args
OperandsBelow g i (Delay x d max) = (x < i) × (d < i)
OperandsBelow g i (Back group k) = Unit {0}
OperandsBelow g i (Member group k) = definition g group k < i
OperandsBelow g i (Read table r) = r < i
OperandsBelow g i (Write table w x r) = (w < i) × (x < i) × (r < i)

-- each signal's operands are earlier signals, and so is the definition that a Member names
abbrev pub IsOrdered : Graph → Type 0
IsOrdered g = (i : ℕ) (d : Signal) → i < length g.signals → OperandsBelow g i (slice_index_or g.signals i d)

-- the definition that a Back or a Member names is there, and the table that a Read or a Write names has a number
abbrev pub NamesWithin : Graph → Signal → Type 0
NamesWithin g (Input k) = Unit {0}
NamesWithin g (Const n) = Unit {0}
NamesWithin g (Control k) = Unit {0}
NamesWithin g (Point op args) = Unit {0}
NamesWithin g (Delay x d max) = Unit {0}
NamesWithin g (Back group k) = (group < length g.groups) × (k < length (members g group)) × (definition g group k < length g.signals)
NamesWithin g (Member group k) = (group < length g.groups) × (k < length (members g group)) × (definition g group k < length g.signals)
NamesWithin g (Read table r) = 0 < length (table_of g table)
NamesWithin g (Write table w x r) = 0 < length (table_of g table)

-- what each signal names is there
abbrev pub IsClosed : Graph → Type 0
IsClosed g = (i : ℕ) (d : Signal) → i < length g.signals → NamesWithin g (slice_index_or g.signals i d)

-- a number has 32 bits (so it is with each value of the type)
abbrev pub HasNumber : Signal → Type 0
HasNumber (Input k) = Unit {0}
HasNumber (Const n) = FitsSigned w32 n
HasNumber (Control k) = Unit {0}
HasNumber (Point op args) = Unit {0}
HasNumber (Delay x d max) = Unit {0}
HasNumber (Back group k) = Unit {0}
HasNumber (Member group k) = Unit {0}
HasNumber (Read table r) = Unit {0}
HasNumber (Write table w x r) = Unit {0}

-- each number of a graph's signals has 32 bits
abbrev pub HasNumbers : Graph → Type 0
HasNumbers g = (i : ℕ) (d : Signal) → i < length g.signals → HasNumber (slice_index_or g.signals i d)

-- each number of these tables has 32 bits
abbrev pub HaveNumbers : List (List ℤ) → Type 0
HaveNumbers tables = (table i : ℕ) → FitsSigned w32 (argument (slice_index_or tables table []) i)

-- a finished graph
pub record IsGraph (g : Graph) : Type 0 where
  pub ordered : IsOrdered g
  pub closed : IsClosed g
  pub defined : (group i : ℕ) → group < length g.groups → i < length (members g group) → definition g group i < length g.signals
  pub outputs : (j : ℕ) → j < length g.outputs → slice_index_or g.outputs j 0 < length g.signals
  pub numbers : HasNumbers g
  pub tables : HaveNumbers g.tables
