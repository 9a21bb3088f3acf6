-- What a pass puts for each signal (this project's profile).
use Rattle.std.specs.Prelude.{◌≡◌, ℕ, ◌+◌, ◌<◌, ◌≤◌, List, [], length, take, map, ℤ, pos, ◌==◌, Bool, false, if◌then◌else◌, slice_index_or, Option, None, Some}
use Rattle.std.specs.Ordering.{int_eq}
use Rattle.fv_num.specs.declared.op.Op.{Op}
use Rattle.fv_num.specs.headline.Words.{apply_of, inputs_of}
use Rattle.fv_base.specs.headline.Lists.{IsPrefixOf}
use Rattle.fv_signal.specs.declared.signal.Signal.{Signal}
use Rattle.fv_signal.specs.declared.signal.Signal.TheVariants.{Input, Const, Control, Point, Delay, Back, Member, Read, Write}
use Rattle.fv_signal.specs.headline.Value.{Graph, definition, IsOrdered, OperandsBelow, back_by}
use Rattle.fv_share.specs.Drafts.{Draft, put, graph_of}
use Rattle.fv_simplify.specs.Choices.{choice}
use Rattle.fv_simplify.specs.Nodes.{number_at, known, numbers}
use Rattle.fv_simplify.specs.Rebuilt.{base, IsImage}

-- the draft's signals as a graph
abbrev pub so_far : Draft → Graph
so_far d = graph_of d []

-- the number is 0
abbrev pub is_zero : Option ℤ → Bool
is_zero None = false
is_zero (Some n) = int_eq n (pos 0)

-- x later by a number of samples, as a delay that is put
abbrev pub put_late : Draft → (x by : ℕ) → ℕ × Draft
put_late d x by = let e = put d (Const (pos by)) in put e.1 (Delay x e.0 by)

-- x later by a number of samples, where the number 0 stays as it is
abbrev pub late : Draft → (x by : ℕ) → ℕ × Draft
late d x by = if is_zero (number_at (so_far d) x) then (x, d) else put_late d x by

-- x later by a number of samples
abbrev pub by_number : Draft → Option ℕ → (x by : ℕ) → ℕ × Draft
by_number d room x by =
    if by == 0 then (x, d) else
    (let b = base (so_far d) room x in late d b.0 (b.1 + by))

-- x as many samples later as d says, where this is a number or not
abbrev pub delayed_by : Draft → Option ℕ → (x by most : ℕ) → Option ℤ → ℕ × Draft
delayed_by d room x by most (Some c) = by_number d room x (back_by most c)
delayed_by d room x by most None = if is_zero (number_at (so_far d) x) then (x, d) else put d (Delay x by most)

abbrev pub delayed : Draft → Option ℕ → (x by most : ℕ) → ℕ × Draft
delayed d room x by most = delayed_by d room x by most (number_at (so_far d) by)

-- an operation whose numbers are these, if all are known, and whose value is this operand, if it is one
abbrev pub chosen : Draft → Op → List ℕ → Option ℕ → ℕ × Draft
chosen d op args (Some i) = (slice_index_or args i 0, d)
chosen d op args None = put d (Point op args)

abbrev pub folded : Draft → Op → List ℕ → Option (List ℤ) → ℕ × Draft
folded d op args (Some ns) = put d (Const (apply_of op ns))
folded d op args None = chosen d op args (choice op (known (so_far d) (take (inputs_of op) args)))

abbrev pub operation : Draft → Op → List ℕ → ℕ × Draft
operation d op args = folded d op args (numbers (so_far d) (take (inputs_of op) args))

-- the room at signal x, where a table has it: none past its end
abbrev pub room_in : List (Option ℕ) → ℕ → Option ℕ
room_in rooms x = slice_index_or rooms x None

-- the image of a signal, over the images of the earlier ones
abbrev pub image_of : Graph → (images : List ℕ) → (room : ℕ → Option ℕ) → Draft → Signal → ℕ × Draft
image_of g images room d (Input k) = put d (Input k)
image_of g images room d (Const n) = put d (Const n)
image_of g images room d (Control k) = put d (Control k)
image_of g images room d (Point op args) = operation d op (map (λ a. slice_index_or images a 0) args)
image_of g images room d (Delay x by most) = delayed d (room x) (slice_index_or images x 0) (slice_index_or images by 0) most
image_of g images room d (Back group k) = put d (Back group k)
image_of g images room d (Member group k) = (slice_index_or images (definition g group k) 0, d)
image_of g images room d (Read table r) = put d (Read table (slice_index_or images r 0))
image_of g images room d (Write table w x r) = put d (Write table (slice_index_or images w 0) (slice_index_or images x 0) (slice_index_or images r 0))

-- an operation has as many arguments as it takes
abbrev pub HasWidth : Signal → Type 0
HasWidth (Point op args) = inputs_of op ≤ length args
HasWidth _ = Unit {0}

-- What is put for a signal is its image, where the draft has the images of the earlier signals. It is so in every graph that has
-- all of the draft, and in which the definitions of its groups are the images of theirs.
abbrev pub PutsImages : Graph → Type 0
PutsImages f =
    IsOrdered f → (g : Graph) (images : List ℕ) (room : ℕ → Option ℕ) (d : Draft) (n : Signal) → OperandsBelow g (length images) n →
    ((a : ℕ) → a < length images → slice_index_or images a 0 < length d.signals) → IsPrefixOf (image_of g images room d n).1.signals f.signals → HasWidth n →
    ((group k : ℕ) → n ≡ Back group k → definition f group k ≡ slice_index_or images (definition g group k) 0) →
    IsImage g f (λ a. slice_index_or images a 0) room n (image_of g images room d n).0
