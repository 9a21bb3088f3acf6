-- What a diagram answers on a list of frames: the stream function, after the Faust manual and Orlarey, Fober, Letz (2004).
-- It knows no signals, no sharing and no state.
use Rattle.std.specs.Prelude.{ℕ, Bool, true, false, suc, ◌%◌, List, [], ◌∷◌, ◌++◌, length, map, reverse, take, drop, get_or, replicate, ℤ, pos, if◌then◌else◌}
use Rattle.std.specs.Prelude.{nat_eq}
use Rattle.fv_num.specs.declared.op.Op.TheVariants.{Add}
use Rattle.fv_num.specs.headline.Words.{apply_of, argument}
use Rattle.fv_num.specs.headline.Tables.{read_at, written_at}
pub use Rattle.fv_num.specs.headline.Frames.{Frame, Stream, frame_at, column, table, delayed, prefixed, back}
use Rattle.fv_num.specs.declared.primitive.Primitive.{Primitive as Prim}
use Rattle.fv_num.specs.declared.primitive.Primitive.TheVariants.{Wire, Cut, Mem, Prefix, Delay, Int, Attach, Point}
use Rattle.fv_diagram.specs.headline.Diagram.{Diagram, Primitive, Constant, Control, Slot, Wave, Table, Bind, Par, Seq, Split, Merge, Rec, inputs}

-- what a primitive gives at time t
abbrev pub primitive_at : Prim → List Frame → ℕ → Frame
primitive_at Wire X t = column X 0 t ∷ []
primitive_at Int X t = column X 0 t ∷ []
primitive_at Attach X t = column X 0 t ∷ []
primitive_at Cut X t = []
primitive_at Mem X t = delayed (column X 0) t ∷ []
primitive_at Prefix X t = prefixed (column X 0) (column X 1) t ∷ []
primitive_at Delay X t = back (column X 0) t (column X 1 t) ∷ []
primitive_at (Point op) X t = apply_of op (frame_at X t) ∷ []
-- no well-formed diagram has one of the two that are left
primitive_at _ X t = pos 0 ∷ []

-- what a waveform gives at time t: how many numbers it has, and the next of them, over and over
abbrev pub wave_at : List ℤ → ℕ → Frame
wave_at w t = pos (length w) ∷ argument w (t % length w) ∷ []

-- what a table gives at time t: the number at an index, as the list has it or as it was written last
abbrev pub table_at : List ℤ → Bool → List Frame → ℕ → Frame
table_at T false X t = read_at T (column X 0 t) ∷ []
table_at T true X t = written_at T (column X 0) (column X 1) t (column X 2 t) ∷ []

-- the frames of both side by side
abbrev pub beside : List Frame → List Frame → List Frame
beside [] Y = []
beside (x ∷ X) [] = []
beside (x ∷ X) (y ∷ Y) = (x ++ y) ∷ beside X Y

-- item i of n is item i modulo the length of xs
abbrev pub dealt : {A : Type 0} → A → ℕ → List A → List A
dealt d n xs = table n (λ i. get_or xs (i % length xs) d)

-- the items at the places i with i modulo n equal to j, where the first item has place i
abbrev pub every : {A : Type 0} → ℕ → ℕ → ℕ → List A → List A
every n j i [] = []
every n j i (x ∷ xs) = if nat_eq (i % n) j then x ∷ every n j (suc i) xs else every n j (suc i) xs

-- the wrapped sum, from the left
abbrev pub added : ℤ → List ℤ → ℤ
added sum [] = sum
added sum (x ∷ xs) = added (apply_of Add (sum ∷ x ∷ [])) xs

-- the wrapped sum of all, 0 of none
abbrev pub wrapped_sum : List ℤ → ℤ
wrapped_sum [] = pos 0
wrapped_sum (x ∷ xs) = added x xs

-- number j of n is the sum of the numbers i of the frame with i modulo n equal to j
abbrev pub merged : ℕ → Frame → Frame
merged n x = table n (λ j. wrapped_sum (every n j 0 x))

-- what the slots stand for, with x for slot s
abbrev pub bound : (ℕ → Stream) → ℕ → Stream → ℕ → Stream
bound e s x slot = if nat_eq slot s then x else e slot

-- the last frame
abbrev pub last : List Frame → Frame
last [] = []
last (x ∷ []) = x
last (x ∷ y ∷ X) = last (y ∷ X)

-- A zero frame and then the frames of Y, each cut to n numbers.
abbrev pub fed_back : ℕ → List Frame → List Frame
fed_back n Y = replicate n (pos 0) ∷ map (take n) Y

-- The answer of A~B, from the answers of A and of B, where B has n inputs. The frames come with the last one first:
-- where x comes after X, take the answer Y on X, and F, which B answers on what is fed back of Y. One frame is added
-- to Y: the last that A answers on F beside all frames up to x.
abbrev pub feedback : (List Frame → List Frame) → (List Frame → List Frame) → ℕ → List Frame → List Frame
feedback A B n [] = []
feedback A B n (x ∷ X) =
    let Y = feedback A B n X in
    let F = B (fed_back n Y) in
    Y ++ last (A (beside F (reverse (x ∷ X)))) ∷ []

-- The answer of a diagram, under the controls c and with the streams e of the slots, on the frames X.
abbrev pub run : Diagram → (c e : ℕ → Stream) → List Frame → List Frame
run (Primitive p) c e X = table (length X) (primitive_at p X)
run (Constant n) c e X = table (length X) (λ t. n ∷ [])
run (Control k) c e X = table (length X) (λ t. c k t ∷ [])
run (Slot s) c e X = table (length X) (λ t. e s t ∷ [])
run (Wave w) c e X = table (length X) (wave_at w)
run (Table T writes) c e X = table (length X) (table_at T writes X)
run (Bind s a) c e X = run a c (bound e s (column X 0)) (map (drop 1) X)
run (Par a b) c e X = beside (run a c e (map (take (inputs a)) X)) (run b c e (map (drop (inputs a)) X))
run (Seq a b) c e X = run b c e (run a c e X)
run (Split a b) c e X = run b c e (map (dealt (pos 0) (inputs b)) (run a c e X))
run (Merge a b) c e X = run b c e (map (merged (inputs b)) (run a c e X))
run (Rec a b) c e X = feedback (run a c e) (run b c e) (inputs b) (reverse X)
