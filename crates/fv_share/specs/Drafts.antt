-- Graphs that are being built, in which equal signals stand once (this project's profile).
use Rattle.std.specs.Prelude.{◌≡◌, ◌≢◌, ℕ, zero, suc, ◌+◌, ◌<◌, ◌≤◌, List, [], ◌∷◌, ◌++◌, length, All, Bool, true, false, slice_index_or, slice_set, map, Vec}
use Rattle.std.specs.Prelude.{ℤ, nat_lt, if◌then◌else◌}
use Rattle.std.specs.Ordering.{int_eq}
use Rattle.std.specs.Cmp.Lexicographic.{pointwise}
use Rattle.std.specs.declared.alloc.Global.{Global}
use Rattle.std.specs.List.{position_or_len}
use Rattle.indexmap.specs.IndexSet.{insert_key}
use Rattle.fv_base.specs.headline.Lists.{IsPrefixOf}
use Rattle.fv_signal.specs.declared.signal.Signal.{Signal}
use Rattle.fv_signal.specs.declared.signal.Signal.TheVariants.{Input, Const, Control, Point, Delay, Back, Member, Read, Write}
use Rattle.fv_signal.specs.headline.Value.{Graph, IsOrdered, HasNumbers, HaveNumbers}

-- the signals, the definitions of each group's members, which an open group has not, which groups are closed, and the tables
pub record Draft : Type 0 where
  pub signals : List Signal
  pub groups : List (List ℕ)
  pub closed : List Bool
  pub tables : List (List ℤ)

-- the lists that rows hold
abbrev pub lists_in : {A : Type 0} → List (Vec A Global) → List (List A)
lists_in {A} rows = map (λ (row : Vec A Global). row.items) rows

-- the draft as a graph
abbrev pub graph_of : Draft → (outputs : List ℕ) → Graph
graph_of d outs = record { signals = d.signals; groups = d.groups; tables = d.tables; outputs = outs }

-- how many members a group has
abbrev pub width_of : Draft → (group : ℕ) → ℕ
width_of d group = length (slice_index_or d.groups group [])

-- the numbers of a table, none where it is not there
abbrev pub table_in : Draft → (table : ℕ) → List ℤ
table_in d table = slice_index_or d.tables table []

-- the group's members are known
abbrev pub IsShut : Draft → (group : ℕ) → Type 0
IsShut d group = (group < length d.groups) × (slice_index_or d.closed group false ≡ true)

-- they are not known yet
abbrev pub IsPending : Draft → (group : ℕ) → Type 0
IsPending d group = (group < length d.groups) × (slice_index_or d.closed group false ≡ false)

-- no group waits for its members
abbrev pub AreClosed : Draft → Type 0
AreClosed d = (group : ℕ) → group < length d.groups → slice_index_or d.closed group false ≡ true

-- the groups and members that a signal names are there, a Back's group is open, or has the member, and a table has a number
abbrev pub NamesSoFar : Draft → Signal → Type 0
NamesSoFar d (Input k) = Unit {0}
NamesSoFar d (Const n) = Unit {0}
NamesSoFar d (Control k) = Unit {0}
NamesSoFar d (Point op args) = Unit {0}
NamesSoFar d (Delay x back max) = Unit {0}
NamesSoFar d (Back group k) = (group < length d.groups) × (IsShut d group → k < width_of d group)
NamesSoFar d (Member group k) = IsShut d group × (k < width_of d group)
NamesSoFar d (Read table r) = 0 < length (table_in d table)
NamesSoFar d (Write table w x r) = 0 < length (table_in d table)

-- the operands are there
abbrev pub OperandsThere : ℕ → Signal → Type 0
OperandsThere n (Input k) = Unit {0}
OperandsThere n (Const v) = Unit {0}
OperandsThere n (Control k) = Unit {0}
OperandsThere n (Point op args) = All (λ a. a < n) args
OperandsThere n (Delay x back max) = (x < n) × (back < n)
OperandsThere n (Back group k) = Unit {0}
OperandsThere n (Member group k) = Unit {0}
OperandsThere n (Read table r) = r < n
OperandsThere n (Write table w x r) = (w < n) × (x < n) × (r < n)

-- what a signal asks of the draft into which it is put
pub record CanPut (d : Draft) (signal : Signal) : Type 0 where
  pub operands : OperandsThere (length d.signals) signal
  pub names : NamesSoFar d signal

-- each Back of the group names one of its first members
abbrev pub BacksWithin : Draft → (group members : ℕ) → Type 0
BacksWithin d group members = (s k : ℕ) (x : Signal) → s < length d.signals → slice_index_or d.signals s x ≡ Back group k → k < members

-- no signal stands at two places
abbrev pub AreDistinct : List Signal → Type 0
AreDistinct ss = (i j : ℕ) (d : Signal) → i < length ss → j < length ss → slice_index_or ss i d ≡ slice_index_or ss j d → i ≡ j

-- what holds of all drafts
pub record IsDraft (d : Draft) : Type 0 where
  pub distinct : AreDistinct d.signals
  pub ordered : IsOrdered (graph_of d [])
  pub named : (i : ℕ) (x : Signal) → i < length d.signals → NamesSoFar d (slice_index_or d.signals i x)
  pub defined : (group i : ℕ) → group < length d.groups → i < width_of d group → slice_index_or (slice_index_or d.groups group []) i 0 < length d.signals
  pub marked : length d.closed ≡ length d.groups
  pub numbers : HasNumbers (graph_of d [])
  pub tables : HaveNumbers d.tables

-- two signals are equal
abbrev pub same : Signal → Signal → Bool
same = Rattle.fv_signal.specs.contracts.signal.SignalPartialEq.TheImpl.eq-value.it

-- the place of a signal, which the draft gets where it has it not
abbrev pub put : Draft → Signal → ℕ × Draft
put d signal = (position_or_len (same signal) d.signals, record d { signals = insert_key same d.signals signal })

-- What putting a signal does: it stands at its place, the others stay where they are, and nothing else comes.
pub record IsPut (d : Draft) (signal : Signal) (put : ℕ × Draft) : Type 0 where
  pub within : put.0 < length put.1.signals
  pub stands : (x : Signal) → slice_index_or put.1.signals put.0 x ≡ signal
  pub keeps : IsPrefixOf d.signals put.1.signals
  pub alone : (i : ℕ) → i < length put.1.signals → length d.signals ≤ i → i ≡ put.0

-- each signal is put so
abbrev pub PutsStand : Type 0
PutsStand = (d : Draft) (signal : Signal) → IsPut d signal (put d signal)

-- where each Back of a group names one of its first members, it does once such a signal is put
abbrev pub BacksStayWithin : Type 0
BacksStayWithin =
    (d : Draft) (signal : Signal) (group members : ℕ) → ((k : ℕ) → signal ≡ Back group k → k < members) → BacksWithin d group members →
    BacksWithin (put d signal).1 group members

-- a table more
abbrev pub with_table : Draft → List ℤ → Draft
with_table d T = record d { tables = d.tables ++ T ∷ [] }

-- these tables more
abbrev pub with_tables : Draft → List (List ℤ) → Draft
with_tables d tables = record d { tables = d.tables ++ tables }

-- two lists of numbers are equal
abbrev pub same_list : List ℤ → List ℤ → Bool
same_list = pointwise int_eq

-- the number of the table that is this list, which the draft gets where it has it not
abbrev pub put_table : Draft → List ℤ → ℕ × Draft
put_table d T =
    let t = position_or_len (same_list T) d.tables in
    if nat_lt t (length d.tables) then (t, d) else (length d.tables, with_table d T)

-- What putting a table does: the list stands at its number, the others stay where they are, and nothing else changes.
pub record IsTablePut (d : Draft) (T : List ℤ) (put : ℕ × Draft) : Type 0 where
  pub stands : table_in put.1 put.0 ≡ T
  pub keeps : IsPrefixOf d.tables put.1.tables
  pub rest : put.1 ≡ record d { tables = put.1.tables }

-- each table is put so
abbrev pub TablesStand : Type 0
TablesStand = (d : Draft) (T : List ℤ) → IsTablePut d T (put_table d T)

-- an open group more, and its number
abbrev pub with_group : Draft → ℕ × Draft
with_group d = (length d.groups, record d { groups = d.groups ++ [] ∷ []; closed = d.closed ++ false ∷ [] })

-- the draft with this many open groups more
abbrev pub with_groups : Draft → (count : ℕ) → Draft
with_groups d zero = d
with_groups d (suc n) = (with_group (with_groups d n)).1

-- a group gets its definitions
abbrev pub with_members : Draft → (group : ℕ) → List ℕ → Draft
with_members d group members = record d { groups = slice_set d.groups group members; closed = slice_set d.closed group true }

-- What opening groups does: each new one waits for its members, and no Back names it. Those that were there stay.
pub record AreOpened (d new : Draft) (count : ℕ) : Type 0 where
  pub long : length new.groups ≡ length d.groups + count
  pub signals : new.signals ≡ d.signals
  pub pending : (g : ℕ) → g < count → IsPending new (length d.groups + g)
  pub fresh : (g : ℕ) → g < count → BacksWithin new (length d.groups + g) 0
  pub groups : (g : ℕ) → g < length d.groups → slice_index_or new.groups g [] ≡ slice_index_or d.groups g []
  pub closed : (g : ℕ) → g < length d.groups → slice_index_or new.closed g false ≡ slice_index_or d.closed g false

-- groups from this one on get their definitions, one after another, a list each
abbrev pub with_all_members : Draft → (first : ℕ) → List (List ℕ) → Draft
with_all_members d first [] = d
with_all_members d first (members ∷ lists) = with_all_members (with_members d first members) (suc first) lists

-- What that asks: each of the groups waits for its members, these are there, and no Back names one beyond them.
pub record CanClose (d : Draft) (first : ℕ) (lists : List (List ℕ)) : Type 0 where
  pub pending : (g : ℕ) → g < length lists → IsPending d (first + g)
  pub members : (g : ℕ) → g < length lists → All (λ s. s < length d.signals) (slice_index_or lists g [])
  pub backs : (g : ℕ) → g < length lists → BacksWithin d (first + g) (length (slice_index_or lists g []))

-- What that does: each of the groups is shut and has just these members, and every other group stays.
pub record AreShut (d new : Draft) (first : ℕ) (lists : List (List ℕ)) : Type 0 where
  pub long : length new.groups ≡ length d.groups
  pub signals : new.signals ≡ d.signals
  pub shut : (g : ℕ) → g < length lists → IsShut new (first + g)
  pub its : (g : ℕ) → g < length lists → slice_index_or new.groups (first + g) [] ≡ slice_index_or lists g []
  pub groups : (g : ℕ) → ((k : ℕ) → k < length lists → g ≢ first + k) → slice_index_or new.groups g [] ≡ slice_index_or d.groups g []
  pub closed : (g : ℕ) → ((k : ℕ) → k < length lists → g ≢ first + k) → slice_index_or new.closed g false ≡ slice_index_or d.closed g false

-- so it is with each draft in which each group has its mark
abbrev pub GroupsStay : Type 0
GroupsStay =
    (d : Draft) → (IsDraft d → (count : ℕ) → AreOpened d (with_groups d count) count)
    × (length d.closed ≡ length d.groups → (first : ℕ) (lists : List (List ℕ)) → ((g : ℕ) → g < length lists → IsPending d (first + g))
    → AreShut d (with_all_members d first lists) first lists)
