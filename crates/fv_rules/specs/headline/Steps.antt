-- Evaluations: from a state to a result and a further state, or to the first refusal.
use Rattle.std.specs.Prelude.{ℕ, zero, suc, ◌+◌, ◌*◌, Bool, true, false, ◌&&◌, nat_eq, nat_le, ◌%◌, List, [], ◌∷◌, ◌++◌, length}
use Rattle.std.specs.Prelude.{ℤ, pos, negsuc, Option, Some, None, Result, Ok, Err, if◌then◌else◌, bytes_eq}
use Rattle.std.specs.Ordering.{int_eq}
use Rattle.std.specs.Prelude.{int_le}
use Rattle.fv_base.specs.declared.limits.TheConstants.{TABLE_LIMIT}
use Rattle.fv_lex.specs.headline.Token.{Lexed}
use Rattle.fv_arity.specs.declared.refusal.ArityKind.TheVariants as kind
use Rattle.fv_diagram.specs.Words.{argument}
use Rattle.fv_diagram.specs.Primitive.TheVariants as prim
use Rattle.fv_diagram.specs.headline.Diagram.{Diagram, Primitive, Control, Wave, Table, Par, Seq, Split, Merge, Rec, size, inputs, outputs, has_table_primitive}
use Rattle.fv_diagram_numbers.specs.headline.Numbers.{at_first}
use Rattle.fv_diagram_numbers.specs.headline.Heads.{parts, cut, is_head, table_numbers}
use Rattle.fv_rules.specs.declared.refusal.TableCause.TheVariants as cause
use Rattle.fv_diagram.specs.declared.control.ControlInfo.{ControlInfo}
use Rattle.fv_diagram.specs.declared.control.ControlKind.{ControlKind}
use Rattle.fv_diagram.specs.declared.control.ControlKind.TheVariants.{Button, Checkbox, HSlider, VSlider, NEntry}
use Rattle.fv_rules.specs.declared.refusal.EvalRefusal.{EvalRefusal}
use Rattle.fv_rules.specs.declared.refusal.EvalRefusal.TheVariants.{SizeBudget, Arity, NotANumber, NoRule, NotADiagram, EvalBudget}
use Rattle.fv_rules.specs.declared.refusal.EvalRefusal.TheVariants.{ControlClash, ControlBounds, TableForm, TableBudget}
use Rattle.fv_parse.specs.headline.Trees.{place_from}
use Rattle.fv_base.specs.declared.limits.TheConstants.{SIZE_LIMIT}

-- the visits that are left, the controls so far, the next slot, and the table sum
pub record State : Type 0 where
  pub visits : ℕ
  pub controls : List ControlInfo
  pub slot : ℕ
  pub tables : ℕ

-- a result with a further state, or a refusal
abbrev pub Outcome : Type 0 → Type 0
Outcome A = Result (A × State) EvalRefusal

-- what goes from a state to an outcome
abbrev pub Eval : Type 0 → Type 0
Eval A = State → Outcome A

-- what comes after an outcome
abbrev pub after : {A B : Type 0} → Outcome A → (A → Eval B) → Outcome B
after (Ok x) f = f x.0 x.1
after (Err r) f = Err r

-- one evaluation and then, with its result, another
infixl 10 ◌>>=◌
abbrev pub ◌>>=◌ : {A B : Type 0} → Eval A → (A → Eval B) → Eval B
◌>>=◌ m f = λ s. after (m s) f

-- a result, at no cost
abbrev pub give : {A : Type 0} → A → Eval A
give x = λ s. Ok (x, s)

-- a refusal
abbrev pub refuse : {A : Type 0} → EvalRefusal → Eval A
refuse r = λ s. Err r

-- refused at a form, from which a text has this many tokens left
abbrev pub no_number : Lexed → ℕ → EvalRefusal
no_number l start = NotANumber (place_from l start).line (place_from l start).column

-- no rule fits an application, from which a text has this many tokens left
abbrev pub no_rule : Lexed → ℕ → EvalRefusal
no_rule l start = NoRule (place_from l start).line (place_from l start).column

-- no diagram begins where a text has this many tokens left
abbrev pub no_diagram : Lexed → ℕ → EvalRefusal
no_diagram l start = NotADiagram (place_from l start).line (place_from l start).column

-- A visit takes one unit; with none left it is refused.
abbrev pub spent : ℕ → State → Outcome Unit
spent zero s = Err EvalBudget
spent (suc n) s = Ok (tt, record s { visits = n })

-- one visit
abbrev pub visit : Eval Unit
visit = λ s. spent s.visits s

-- The first of n new slots.
abbrev pub fresh_slots : ℕ → Eval ℕ
fresh_slots n = λ s. Ok (s.slot, record s { slot = s.slot + n })

-- ---- putting

-- n is a multiple of m, and neither is 0
abbrev pub is_multiple : (n m : ℕ) → Bool
is_multiple n m = nat_le 1 n && nat_le 1 m && nat_eq (n % m) 0

-- a refusal unless a test passes
abbrev pub unless : Bool → EvalRefusal → Option EvalRefusal
unless true r = None
unless false r = Some r

-- the first refusal
abbrev pub or_else : Option EvalRefusal → Option EvalRefusal → Option EvalRefusal
or_else (Some r) other = Some r
or_else None other = other

-- The condition of the outermost composition that fails: for `~` the outputs on the left are looked at first.
abbrev pub misfit : Diagram → Option EvalRefusal
misfit (Seq a b) = unless (nat_eq (outputs a) (inputs b)) (Arity kind.Seq (outputs a) (inputs b))
misfit (Split a b) = unless (is_multiple (inputs b) (outputs a)) (Arity kind.Split (outputs a) (inputs b))
misfit (Merge a b) = unless (is_multiple (outputs a) (inputs b)) (Arity kind.Merge (outputs a) (inputs b))
misfit (Rec a b) =
    or_else (unless (nat_le (inputs b) (outputs a)) (Arity kind.RecOut (outputs a) (inputs b)))
    (unless (nat_le (outputs b) (inputs a)) (Arity kind.RecIn (inputs a) (outputs b)))
misfit d = None

-- a diagram that is not too large
abbrev pub sized : Diagram → Eval Diagram
sized d = if nat_le (size d) SIZE_LIMIT then give d else refuse (SizeBudget (size d))

-- a diagram is put unless it was refused or is too large
abbrev pub put_after : Option EvalRefusal → Diagram → Eval Diagram
put_after (Some r) d = refuse r
put_after None d = sized d

-- ---- tables (Faust manual, rdtable and rwtable; this project's profile)

-- diagrams side by side, put from the right; a parallel composition always fits
abbrev pub side_by_side : Diagram → List Diagram → Eval Diagram
side_by_side d [] = give d
side_by_side d (x ∷ xs) = side_by_side x xs >>= λ r. sized (Par d r)

-- a table's size, which is its head's first output at time 0, and at least 1
abbrev pub table_size : ℤ → Eval ℕ
table_size (pos zero) = refuse (TableForm cause.Size)
table_size (pos (suc n)) = give (suc n)
table_size (negsuc n) = refuse (TableForm cause.Size)

-- the table sum grows by n, unless it is then over the limit
abbrev pub grown : ℕ → State → Outcome Unit
grown n s = if nat_le (s.tables + n) TABLE_LIMIT then Ok (tt, record s { tables = s.tables + n }) else Err (TableBudget (s.tables + n))

-- an evaluation by which the table sum grows by n
abbrev pub grow : ℕ → Eval Unit
grow n = λ s. grown n s

-- a waveform, whose numbers the table sum grows by
abbrev pub waved : List ℤ → Eval Diagram
waved values = grow (length values) >>= λ u. give (Wave values)

-- The table of a head, put after what it takes. The sum is tried before a number is computed.
abbrev pub tabled_by : Bool → List Diagram → List Diagram → Eval Diagram
tabled_by writes (d ∷ ds) (r ∷ rs) = do
  h ← side_by_side d ds
  n ← table_size (argument (at_first h) 0)
  u ← grow (n * size h)
  rest ← side_by_side r rs
  sized (Seq rest (Table (table_numbers n h) writes))
tabled_by writes _ _ = refuse (TableForm cause.Head)

-- what stands before a table primitive, cut into the table's head and what the table takes
abbrev pub tabled_of : Bool → List Diagram × List Diagram → Eval Diagram
tabled_of writes c = if is_head c.0 then tabled_by writes c.0 c.1 else refuse (TableForm cause.Head)

-- a diagram before a table primitive, as a table after what it takes
abbrev pub tabled : Bool → Diagram → Eval Diagram
tabled writes a = tabled_of writes (cut 2 (parts a))

-- what stands before a table primitive, and whether that one writes
abbrev pub before_table : Diagram → Option (Diagram × Bool)
before_table (Seq a (Primitive prim.ReadTable)) = Some (a, false)
before_table (Seq a (Primitive prim.WriteTable)) = Some (a, true)
before_table d = None

-- a table takes the place of its primitive, where the arity fits; every other diagram is put as it is
abbrev pub put_as : Option (Diagram × Bool) → Option EvalRefusal → Diagram → Eval Diagram
put_as None o d = put_after o d
put_as (Some x) (Some r) d = refuse r
put_as (Some x) None d = tabled x.1 x.0

-- A diagram is put: its arity is tried first, then its size; after `rdtable` or `rwtable` it becomes a table.
abbrev pub put : Diagram → Eval Diagram
put d = put_as (before_table d) (misfit d) d

-- a program's diagram, in which no table primitive is left
abbrev pub whole : Diagram → Eval Diagram
whole d = if has_table_primitive d then refuse (TableForm cause.Primitive) else give d

-- ---- controls

-- two kinds are the same
abbrev pub is_kind : ControlKind → ControlKind → Bool
is_kind Button Button = true
is_kind Checkbox Checkbox = true
is_kind HSlider HSlider = true
is_kind VSlider VSlider = true
is_kind NEntry NEntry = true
is_kind _ _ = false

-- two controls are of one kind, and have the same init, min and max
abbrev pub is_alike : ControlInfo → ControlInfo → Bool
is_alike a b = is_kind a.kind b.kind && (int_eq a.init b.init && (int_eq a.min b.min && int_eq a.max b.max))

-- the control with this label, and its number, where the first of the list has the number k
abbrev pub labelled : ℕ → List ControlInfo → List ℕ → Option (ℕ × ControlInfo)
labelled k [] label = None
labelled k (c ∷ cs) label = if bytes_eq c.label label then Some (k, c) else labelled (suc k) cs label

-- A label that is new gets the next number; else it has to be the same control.
abbrev pub entered : ControlInfo → State → Option (ℕ × ControlInfo) → Outcome Diagram
entered c s None = Ok (Control (length s.controls), record s { controls = s.controls ++ c ∷ [] })
entered c s (Some ko) = if is_alike c ko.1 then Ok (Control ko.0, s) else Err (ControlClash c.label)

-- a control of a program: its bounds are tried first, and then it is entered by its label
abbrev pub control : ControlInfo → Eval Diagram
control c = λ s. if int_le c.min c.init && int_le c.init c.max then entered c s (labelled 0 s.controls c.label) else Err (ControlBounds c.label)
