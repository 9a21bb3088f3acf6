-- When a pattern matches a value, and which rule is chosen (this project's profile).
use Rattle.std.specs.Prelude.{Bool, false, List, [], ◌∷◌, ℤ, pos, neg_ℤ, Option, Some, None, if◌then◌else◌}
use Rattle.std.specs.Ordering.{int_eq}
use Rattle.fv_lex.specs.headline.Token.{Lexed}
use Rattle.fv_diagram.specs.Words.{wrap}
use Rattle.fv_parse_grammar.specs.headline.Tree.{Tree}
use Rattle.fv_parse_grammar.specs.headline.Tree as tree
use Rattle.fv_parse_grammar.specs.declared.form.Operator.{Operator}
use Rattle.fv_parse_grammar.specs.declared.form.Operator.TheVariants as operators
use Rattle.fv_diagram.specs.headline.Diagram.{Diagram, Constant, Par, Seq, Split, Merge, Rec}
use Rattle.fv_parse.specs.headline.Trees.{text_of}
use Rattle.fv_rules.specs.headline.Values.{Name, Rule, Value, Flat, Env, Bound}
use Rattle.fv_diagram_numbers.specs.headline.Numbers.{number_of}

-- a diagram with a number as that integer
abbrev pub number_or : Option ℤ → Diagram → Diagram
number_or (Some n) d = Constant n
number_or None d = d

-- a diagram that has a number is that integer; every other value stays
abbrev pub settled : Value → Value
settled (Flat d) = Flat (number_or (number_of d) d)
settled v = v

-- Names with what they are bound to, the last one first.
abbrev pub Bindings : Type 0
Bindings = List (Name × Value)

-- the further result of what was found
abbrev pub and_then : {A B : Type 0} → Option A → (A → Option B) → Option B
and_then None f = None
and_then (Some x) f = f x

-- an integer, against a number
abbrev pub is_number : ℤ → Option ℤ → Bool
is_number k None = false
is_number k (Some n) = int_eq n k

-- the parts of a diagram that is put as this composition
abbrev pub parts_of : Operator → Diagram → Option (Diagram × Diagram)
parts_of operators.Recursion (Rec a b) = Some (a, b)
parts_of operators.Parallel (Par a b) = Some (a, b)
parts_of operators.Sequence (Seq a b) = Some (a, b)
parts_of operators.Split (Split a b) = Some (a, b)
parts_of operators.Merge (Merge a b) = Some (a, b)
parts_of o d = None

-- the parts of a value that is a diagram without a number
abbrev pub parts_without : Option ℤ → Operator → Diagram → Option (Diagram × Diagram)
parts_without (Some n) o d = None
parts_without None o d = parts_of o d

-- the parts of a value that is put as this composition
abbrev pub value_parts : Operator → Value → Option (Diagram × Diagram)
value_parts o (Flat d) = parts_without (number_of d) o d
value_parts o v = None

-- the number of a value
abbrev pub value_number : Value → Option ℤ
value_number (Flat d) = number_of d
value_number v = None

-- A name matches every value, and an integer a diagram with that number. A composition matches a diagram without a number that is
-- made by the same composition and whose parts match, the left one first. The bindings are added to those so far.
abbrev pub matched : Lexed → Tree → Value → Bindings → Option Bindings
matched l (tree.Named s n) v bs = Some ((text_of l n, settled v) ∷ bs)
matched l (tree.Number s n) v bs = if is_number (wrap (pos n)) (value_number v) then Some bs else None
matched l (tree.Negative s n) v bs = if is_number (wrap (neg_ℤ (pos n))) (value_number v) then Some bs else None
matched l (tree.Binary s o p q) v bs =
    and_then (value_parts o v) (λ ab. and_then (matched l p (Flat ab.0) bs) (λ cs. matched l q (Flat ab.1) cs))
matched l p v bs = None

-- whether patterns match as many values, one after the other; the bindings are added to those so far
abbrev pub all_matched : Lexed → List Tree → List Value → Bindings → Option Bindings
all_matched l [] vs bs = Some bs
all_matched l (p ∷ ps) [] bs = None
all_matched l (p ∷ ps) (v ∷ vs) bs = and_then (matched l p v bs) (λ cs. all_matched l ps vs cs)

-- an environment with bindings, the last one innermost
abbrev pub bound_in : Env → Bindings → Env
bound_in env [] = env
bound_in env (b ∷ bs) = Bound b.0 b.1 (bound_in env bs)

-- the right side with the bindings that were found, else what comes next
abbrev pub or_next : Tree → Option Bindings → Option (Tree × Bindings) → Option (Tree × Bindings)
or_next body None next = next
or_next body (Some bs) next = Some (body, bs)

-- The right side and the bindings of the first rule that matches.
abbrev pub chosen : Lexed → List Rule → List Value → Option (Tree × Bindings)
chosen l [] vs = None
chosen l (r ∷ rs) vs = or_next r.body (all_matched l r.patterns vs []) (chosen l rs vs)
