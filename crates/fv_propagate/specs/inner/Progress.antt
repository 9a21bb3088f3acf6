-- What a walk over a diagram makes of a graph of signals (this project's profile).
use Rattle.std.specs.Prelude.{◌≡◌, ℕ, ℤ, Bool, zero, suc, true, false, ◌<◌, List, [], ◌∷◌, ◌++◌, length, map, get_or, drop, pos}
use Rattle.fv_num.specs.declared.op.Op.TheVariants.{Add, Rem, Select2}
use Rattle.fv_signal.specs.declared.signal.Signal.{Signal}
use Rattle.fv_signal.specs.declared.signal.Signal.TheVariants.{Input, Const, Control, Point, Delay, Back, Member, Read, Write}
use Rattle.fv_share.specs.Drafts.{Draft, IsPending, BacksWithin, with_group, with_members}
use Rattle.fv_share.specs.Drafts as share
use Rattle.fv_diagram.specs.declared.signals.Leaf.{Leaf}
use Rattle.fv_diagram.specs.declared.signals.Leaf.TheVariants as leaf
use Rattle.fv_diagram.specs.Hooks.{Hooks}
use Rattle.fv_diagram.specs.Hooks.{padded}
use Rattle.fv_propagate.specs.declared.progress.Feedback.{Feedback}

-- the graph so far, the delays that are still to come, and the feedbacks that are open, the innermost one first
pub record Progress : Type 0 where
  pub draft : Draft
  pub delays : List ℕ
  pub feedbacks : List Feedback

-- one signal more, where it is not there, and its number
abbrev pub put : Progress → Signal → ℕ × Progress
put s signal = let r = share.put s.draft signal in (r.0, record s { draft = r.1 })

-- n signals more
abbrev pub puts : (ℕ → Signal) → ℕ → Progress → List ℕ × Progress
puts f zero s = ([], s)
puts f (suc n) s =
    let q = puts f n s in
    let r = put q.1 (f n) in
    (q.0 ++ r.0 ∷ [], r.1)

-- x one sample later
abbrev pub put_mem : Progress → (x : ℕ) → ℕ × Progress
put_mem s x =
    let one = put s (Const (pos 1)) in
    put one.1 (Delay x one.0 1)

-- the first sample of x, and then y one sample later: the number 1 one sample later is 0 at the first time alone, and chooses
abbrev pub put_prefix : Progress → (x y : ℕ) → ℕ × Progress
put_prefix s x y =
    let one = put s (Const (pos 1)) in
    let begun = put_mem one.1 one.0 in
    let late = put_mem begun.1 y in
    put late.1 (Point Select2 (begun.0 ∷ x ∷ late.0 ∷ begun.0 ∷ []))

-- n delays have come
abbrev pub passed : ℕ → Progress → Progress
passed n s = record s { delays = drop n s.delays }

-- x as many samples earlier as d says, up to the next delay
abbrev pub put_delay : Progress → (x d : ℕ) → ℕ × Progress
put_delay s x d = put (passed 1 s) (Delay x d (get_or s.delays 0 0))

-- what a leaf adds
abbrev pub leaf_of : Leaf → List ℕ → Progress → ℕ × Progress
leaf_of (leaf.Number n) ins s = put s (Const n)
leaf_of (leaf.Control k) ins s = put s (Control k)
leaf_of leaf.Mem ins s = put_mem (passed 1 s) (get_or ins 0 0)
leaf_of leaf.Prefix ins s = put_prefix (passed 1 s) (get_or ins 0 0) (get_or ins 1 0)
leaf_of leaf.Delay ins s = put_delay s (get_or ins 0 0) (get_or ins 1 0)
leaf_of (leaf.Point op) ins s = put s (Point op (padded ins))

-- a group more, whose number is that of the groups before
abbrev pub grouped : Progress → Progress
grouped s = record s { draft = (with_group s.draft).1 }

-- a feedback begins with a group, and a Back for each wire that is fed back
abbrev pub opened_of : ℕ → Progress → List ℕ × Progress
opened_of n s =
    let group = length s.draft.groups in
    let q = puts (Back group) n (grouped (passed n s)) in
    (q.0, record q.1 { feedbacks = record { group = group; count = n } ∷ s.feedbacks })

-- the innermost feedback ends: its group has a member for each output, and the members are what it gives
abbrev pub shut : List Feedback → List ℕ → Progress → List ℕ × Progress
shut [] outs s = (outs, s)
shut (f ∷ fs) outs s =
    puts (Member f.group) (length outs) (record s { draft = with_members s.draft f.group outs; feedbacks = fs })

-- the end of a feedback
abbrev pub closed_of : List ℕ → Progress → List ℕ × Progress
closed_of outs s = shut s.feedbacks outs s

-- x and one more, modulo n
abbrev pub put_next : Progress → (x n : ℕ) → ℕ × Progress
put_next s x n =
    let one = put s (Const (pos 1)) in
    let sum = put one.1 (Point Add (padded (x ∷ one.0 ∷ []))) in
    let many = put sum.1 (Const (pos n)) in
    put many.1 (Point Rem (padded (sum.0 ∷ many.0 ∷ [])))

-- a group gets its members
abbrev pub given : Progress → (group : ℕ) → List ℕ → Progress
given s group outs = record s { draft = with_members s.draft group outs }

-- a group of its own, and its Back
abbrev pub late_of : Progress → ℕ × Progress
late_of s = put (grouped s) (Back (length s.draft.groups) 0)

-- a group, its Back, and the number after that of the Back, modulo n
abbrev pub turned : ℕ → Progress → ℕ × Progress
turned n s = put_next (late_of s).1 (late_of s).0 n

-- A count that begins anew: the Back of a group whose one member is the number after it.
abbrev pub counted_of : ℕ → Progress → ℕ × Progress
counted_of n s = ((late_of s).0, given (turned n s).1 (length s.draft.groups) ((turned n s).0 ∷ []))

-- a table more, where it is not there, and its number
abbrev pub listed : Progress → List ℤ → ℕ × Progress
listed s T = let r = share.put_table s.draft T in (r.0, record s { draft = r.1 })

-- a table that is read at one wire, or written at the first of three, where it takes the second, and read at the third
abbrev pub table_node : (writes : Bool) → (table : ℕ) → List ℕ → Signal
table_node false table ins = Read table (get_or ins 0 0)
table_node true table ins = Write table (get_or ins 0 0) (get_or ins 1 0) (get_or ins 2 0)

abbrev pub tabled_of : Bool → List ℤ → List ℕ → Progress → ℕ × Progress
tabled_of writes T ins s =
    let q = listed s T in
    put q.1 (table_node writes q.0 ins)

-- what a walk does to the graph
abbrev pub signal_hooks : Hooks ℕ Progress
signal_hooks = record { leaf = leaf_of; opened = opened_of; closed = closed_of; counted = counted_of; tabled = tabled_of }

-- a signal that is there
abbrev pub IsThere : Progress → ℕ → Type 0
IsThere s w = w < length s.draft.signals

-- how many wires each open feedback feeds back, the innermost one first
abbrev pub fed_of : Progress → List ℕ
fed_of s = map (λ f. f.count) s.feedbacks

-- member k of a group is one of the wires of each open feedback that has the group
abbrev pub IsWireOf : List Feedback → (group k : ℕ) → Type 0
IsWireOf [] group k = Unit {0}
IsWireOf (f ∷ fs) group k = (group ≡ f.group → k < f.count) × IsWireOf fs group k

-- a Back of an open feedback is one of its wires
abbrev pub IsAdmitted : List Feedback → Signal → Type 0
IsAdmitted fs (Back group k) = IsWireOf fs group k
IsAdmitted fs (Input k) = Unit {0}
IsAdmitted fs (Const n) = Unit {0}
IsAdmitted fs (Control k) = Unit {0}
IsAdmitted fs (Point op args) = Unit {0}
IsAdmitted fs (Delay x back max) = Unit {0}
IsAdmitted fs (Member group k) = Unit {0}
IsAdmitted fs (Read table r) = Unit {0}
IsAdmitted fs (Write table w x r) = Unit {0}

-- the groups of the feedbacks have numbers below n, the inner ones greater than the outer ones
abbrev pub AreNested : (n : ℕ) → List Feedback → Type 0
AreNested n [] = Unit {0}
AreNested n (f ∷ fs) = (f.group < n) × AreNested f.group fs

-- the groups of open feedbacks wait for their members, and their Backs are their wires
abbrev pub AreOpen : Draft → List Feedback → Type 0
AreOpen d [] = Unit {0}
AreOpen d (f ∷ fs) = IsPending d f.group × BacksWithin d f.group f.count × AreOpen d fs

-- what holds of all progress
pub record IsProgress (s : Progress) : Type 0 where
  pub nested : AreNested (length s.draft.groups) s.feedbacks
  pub pending : AreOpen s.draft s.feedbacks

-- nothing so far, with all delays to come
abbrev pub unstarted : List ℕ → Progress
unstarted delays = record { draft = record { signals = []; groups = []; closed = []; tables = [] }; delays = delays; feedbacks = [] }

-- the number 0 alone
abbrev pub started : List ℕ → Progress
started delays = (put (unstarted delays) (Const (pos 0))).1
