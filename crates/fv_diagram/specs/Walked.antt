-- What the walk over a diagram makes of it: one function on trees (this project's profile).
use Rattle.std.specs.Prelude.{ℕ, suc, ◌%◌, false, List, [], ◌∷◌, ◌++◌, length, take, drop, get_or, slice_set, ℤ, pos}
use Rattle.fv_num.specs.declared.op.Op.TheVariants.{Add}
use Rattle.fv_num.specs.declared.primitive.Primitive.{Primitive as Prim}
use Rattle.fv_num.specs.declared.primitive.Primitive.TheVariants.{Wire, Cut, Mem, Prefix, Delay, Int, Attach, Point, ReadTable, WriteTable}
use Rattle.fv_diagram.specs.headline.Diagram.{Diagram, Primitive, Constant, Control, Slot, Wave, Table, Bind, Par, Seq, Split, Merge, Rec, inputs}
use Rattle.fv_diagram.specs.headline.Streams.{dealt}
use Rattle.fv_diagram.specs.Wires.{plugged}
use Rattle.fv_diagram.specs.declared.signals.Leaf.TheVariants as leaf
use Rattle.fv_diagram.specs.Hooks.{Hooks}

-- one wire, and what follows
abbrev pub one : {W S : Type 0} → W × S → List W × S
one r = (r.0 ∷ [], r.1)

-- the primitives that are no leaf hand wires on
abbrev pub primitive : {W S : Type 0} → Hooks W S → Prim → List W → S → List W × S
primitive h Wire ins s = (take 1 ins, s)
primitive h Int ins s = (take 1 ins, s)
primitive h Attach ins s = (take 1 ins, s)
primitive h Cut ins s = ([], s)
primitive h Mem ins s = one (h.leaf leaf.Mem ins s)
primitive h Prefix ins s = one (h.leaf leaf.Prefix ins s)
primitive h Delay ins s = one (h.leaf leaf.Delay ins s)
primitive h (Point op) ins s = one (h.leaf (leaf.Point op) ins s)
-- no well-formed diagram has one of these two
primitive h ReadTable ins s = ([], s)
primitive h WriteTable ins s = ([], s)

-- the terms from place i on are added to the sums, each to that of its place modulo n
abbrev pub added : {W S : Type 0} → Hooks W S → W → ℕ → ℕ → List W → List W → S → List W × S
added h free n i [] sums s = (sums, s)
added h free n i (x ∷ xs) sums s =
    let r = h.leaf (leaf.Point Add) (get_or sums (i % n) free ∷ x ∷ []) s in
    added h free n (suc i) xs (slice_set sums (i % n) r.0) r.1

-- the sums of a merge: the first n terms, to which the others are added
abbrev pub summed : {W S : Type 0} → Hooks W S → W → ℕ → List W → S → List W × S
summed h free n xs s = added h free n n (drop n xs) (take n xs) s

-- What the walk makes of a waveform: how many numbers it has, and a table of them that is read at a wire that counts.
abbrev pub waved : {W S : Type 0} → Hooks W S → List ℤ → S → List W × S
waved h w s =
    let many = h.leaf (leaf.Number (pos (length w))) [] s in
    let index = h.counted (length w) many.1 in
    let read = h.tabled false w (index.0 ∷ []) index.1 in
    (many.0 ∷ read.0 ∷ [], read.1)

-- What the walk makes of a diagram: the wires that it gives, and the signals after it.
abbrev pub walked : {W S : Type 0} → Hooks W S → W → Diagram → (ℕ → W) → List W → S → List W × S
walked h free (Primitive p) slots ins s = primitive h p ins s
walked h free (Constant n) slots ins s = one (h.leaf (leaf.Number n) [] s)
walked h free (Control k) slots ins s = one (h.leaf (leaf.Control k) [] s)
walked h free (Slot k) slots ins s = (slots k ∷ [], s)
walked h free (Wave w) slots ins s = waved h w s
walked h free (Table T writes) slots ins s = one (h.tabled writes T ins s)
walked h free (Bind k a) slots ins s = walked h free a (plugged slots k (get_or ins 0 free)) (drop 1 ins) s
walked h free (Par a b) slots ins s =
    let l = walked h free a slots (take (inputs a) ins) s in
    let r = walked h free b slots (drop (inputs a) ins) l.1 in
    (l.0 ++ r.0, r.1)
walked h free (Seq a b) slots ins s =
    let l = walked h free a slots ins s in walked h free b slots l.0 l.1
walked h free (Split a b) slots ins s =
    let l = walked h free a slots ins s in walked h free b slots (dealt free (inputs b) l.0) l.1
walked h free (Merge a b) slots ins s =
    let l = walked h free a slots ins s in
    let m = summed h free (inputs b) l.0 l.1 in
    walked h free b slots m.0 m.1
walked h free (Rec a b) slots ins s =
    let o = h.opened (inputs b) s in
    let r = walked h free b slots o.0 o.1 in
    let l = walked h free a slots (r.0 ++ ins) r.1 in
    h.closed l.0 l.1
