-- What patterns see of a diagram, and what a row of bits tells of it (this project's profile).
use Rattle.std.specs.Prelude.{◌≡◌, ◌⊎◌, ℕ, ◌<◌, ℤ, Bool, false, List, [], Option, Some, None, length, get_or, slice_get}
use Rattle.std.specs.Ordering.{int_eq}
use Rattle.fv_parse.specs.Trees.{Parsed, tree_in}
use Rattle.fv_parse_grammar.specs.declared.form.Operator.{Operator}
use Rattle.fv_diagram.specs.headline.Diagram.{Diagram, Par, Seq, Split, Merge, Rec}
use Rattle.fv_diagram.specs.Arena.{Arena, count_of, tree_of}
use Rattle.fv_diagram.specs.Composed.{IsComposed}
use Rattle.fv_rules.specs.Numbers.{number_of}
use Rattle.fv_rules.specs.headline.Values.{Flat}
use Rattle.fv_rules.specs.headline.Matching.{Bindings, and_then, matched, parts_of, parts_without}
use Rattle.fv_eval_patterns.specs.Bits.{has}
use Rattle.fv_eval_patterns.specs.declared.shapes.Composition.{Composition}
use Rattle.fv_eval_patterns.specs.declared.shapes.Composition.TheVariants as by
use Rattle.fv_eval_patterns.specs.declared.shapes.Shape.{Shape}
use Rattle.fv_eval_patterns.specs.declared.shapes.Shape.TheVariants.{Number, Plain, Composed}
use Rattle.fv_eval_patterns.specs.declared.survey.ShapeRow.{ShapeRow}
use Rattle.fv_eval_patterns.specs.declared.survey.Look.{Look}
use Rattle.fv_eval_patterns.specs.declared.survey.Look.TheVariants.{Seen, Part}
use Rattle.fv_eval_patterns.specs.Surveyed.{Surveyed}

-- two diagrams, composed
abbrev pub composed : Composition → Diagram → Diagram → Diagram
composed by.Recursion x y = Rec x y
composed by.Parallel x y = Par x y
composed by.Sequence x y = Seq x y
composed by.Split x y = Split x y
composed by.Merge x y = Merge x y

-- whether a shape is that of diagrams with this number
abbrev pub number_is : ℤ → Shape → Bool
number_is k (Number n) = int_eq n k
number_is k s = false

-- a node of the text, as a pattern, does not match a diagram
abbrev pub Never : Parsed → ℕ → Diagram → Type 0
Never p x d = (bs : Bindings) → matched p.tokens (tree_in p x) (Flat d) bs ≡ None

-- two nodes of the text, as patterns after an operator, do not match the parts of a diagram
abbrev pub DeniesParts : Parsed → Operator → ℕ → ℕ → Diagram → Type 0
DeniesParts p o x y d = (bs : Bindings)
    → and_then (parts_without (number_of d) o d)
    (λ ab. and_then (matched p.tokens (tree_in p x) (Flat ab.0) bs) (λ cs. matched p.tokens (tree_in p y) (Flat ab.1) cs)) ≡ None

-- whether a row has a node of the text
abbrev pub marked : List (List ℕ) → ℕ → ℕ → Bool
marked rows r x = has (get_or rows r []) x

-- A row tells of a diagram which nodes of the text may match it: the others do not.
abbrev pub Denies : Parsed → List (List ℕ) → ℕ → Diagram → Type 0
Denies p rows r d = (x : ℕ) → marked rows r x ≡ false → Never p x d

-- the parts of a diagram, of which two rows tell
pub record AreParts (p : Parsed) (rows : List (List ℕ)) (o : Composition) (l r : ℕ) (d : Diagram) : Type 0 where
  pub unnumbered : number_of d ≡ None
  pub left : Diagram
  pub right : Diagram
  pub is : d ≡ composed o left right
  pub tells_left : Denies p rows l left
  pub tells_right : Denies p rows r right

-- a diagram has no number, and is no composition
pub record IsPlain (d : Diagram) : Type 0 where
  pub unnumbered : number_of d ≡ None
  pub alone : (o : Operator) → parts_of o d ≡ None

-- a diagram has a shape
abbrev pub IsShape : Parsed → List (List ℕ) → Shape → Diagram → Type 0
IsShape p rows (Number n) d = number_of d ≡ Some n
IsShape p rows Plain d = IsPlain d
IsShape p rows (Composed o l r) d = AreParts p rows o l r d

-- the rows of a shape are there
abbrev pub Within : ℕ → Shape → Type 0
Within n (Composed o l r) = (l < n) × (r < n)
Within n s = Unit {0}

-- a row tells of all diagrams of a shape
pub record IsShapeRow (p : Parsed) (rows : List (List ℕ)) (s : ShapeRow) : Type 0 where
  pub within : Within (length rows) s.shape
  pub there : s.row < length rows
  pub tells : (d : Diagram) → IsShape p rows s.shape d → Denies p rows s.row d

-- a row tells of diagram i
pub record IsRowed (p : Parsed) (a : Arena) (rows : List (List ℕ)) (i r : ℕ) : Type 0 where
  pub diagram : i < count_of a
  pub there : r < length rows
  pub tells : Denies p rows r (tree_of a i)

-- What a survey found is true of a text and an arena.
pub record IsSurvey (p : Parsed) (a : Arena) (s : Surveyed) : Type 0 where
  pub steps : (i : ℕ) (f : ShapeRow) → slice_get s.steps i ≡ Some (Some f) → IsShapeRow p s.rows f
  pub diagrams : (i r : ℕ) → slice_get s.diagrams i ≡ Some (Some r) → IsRowed p a s.rows i r

-- diagram i is there, and has a shape
pub record IsSeen (p : Parsed) (a : Arena) (rows : List (List ℕ)) (i : ℕ) (s : Shape) : Type 0 where
  pub diagram : i < count_of a
  pub within : Within (length rows) s
  pub is : IsShape p rows s (tree_of a i)

-- diagram i is there, and composed
pub record IsThere (a : Arena) (i : ℕ) : Type 0 where
  pub diagram : i < count_of a
  pub composed : IsComposed (tree_of a i)

-- what is seen of diagram i: its shape, or a part that has no row yet
abbrev pub Sees : Arena → Surveyed → ℕ → Look → Type 0
Sees a s i (Seen shape) = (p : Parsed) → IsSurvey p a s → IsSeen p a s.rows i shape
Sees a s i (Part d) = IsThere a d

-- what is seen of a composition: both parts have rows, or one that has none
abbrev pub SeesParts : Surveyed → Composition → ℕ → ℕ → Look → Type 0
SeesParts s o i j (Part d) = (d ≡ i) ⊎ (d ≡ j)
SeesParts s o i j (Seen shape) = (l r : ℕ) × (shape ≡ Composed o l r) × (slice_get s.diagrams i ≡ Some (Some l)) × (slice_get s.diagrams j ≡ Some (Some r))

-- what a list has there was there before, or is this at this place
abbrev pub HasNoOther : {A : Type 0} → List (Option A) → List (Option A) → ℕ → A → Type 0
HasNoOther {A} before after i x = (j : ℕ) (y : A) → slice_get after j ≡ Some (Some y) → (slice_get before j ≡ Some (Some y)) ⊎ ((j ≡ i) × (y ≡ x))
