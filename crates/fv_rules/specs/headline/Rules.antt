-- Evaluation: the rules (Faust manual; this project's profile).
use Rattle.std.specs.Prelude.{ℕ, zero, suc, ◌-◌, Bool, false, ◌&&◌, nat_eq, nat_lt, List, [], ◌∷◌, ◌++◌, length, map}
use Rattle.std.specs.Prelude.{replicate, codes, ℤ, pos, negsuc, neg_ℤ, Option, Some, None, Result, Ok, Err, if◌then◌else◌}
use Rattle.fv_base.specs.declared.limits.TheConstants.{VISIT_LIMIT}
use Rattle.fv_lex.specs.headline.Token.{Lexed}
use Rattle.fv_diagram.specs.Words.{wrap, argument}
use Rattle.fv_diagram.specs.Op.TheVariants as op
use Rattle.fv_parse_grammar.specs.headline.Tree.{Tree, items, start_of}
use Rattle.fv_parse_grammar.specs.headline.Tree as tree
use Rattle.fv_parse_grammar.specs.declared.form.Literal.{Literal}
use Rattle.fv_parse_grammar.specs.declared.form.Literal.TheVariants as literals
use Rattle.fv_parse_grammar.specs.declared.form.Operator.{Operator}
use Rattle.fv_parse_grammar.specs.declared.form.Operator.TheVariants as operators
use Rattle.fv_parse_grammar.specs.Iteration.{Iteration as Repetition}
use Rattle.fv_parse_grammar.specs.Iteration.TheVariants as repetitions
use Rattle.fv_parse_grammar.specs.Side.{Side}
use Rattle.fv_parse_grammar.specs.Side.TheVariants as sides
use Rattle.fv_parse_grammar.specs.Switch.{Switch as SwitchKind}
use Rattle.fv_parse_grammar.specs.Switch.TheVariants as switches
use Rattle.fv_parse_grammar.specs.Slider.{Slider as SliderKind}
use Rattle.fv_parse_grammar.specs.Slider.TheVariants as sliders
use Rattle.fv_diagram.specs.Primitive.{Primitive as Prim}
use Rattle.fv_diagram.specs.Primitive.TheVariants as prim
use Rattle.fv_diagram.specs.headline.Diagram.{Diagram, Primitive, Constant, Slot, Bind, Par, Seq, Split, Merge, Rec, inputs, outputs, primitive_inputs}
use Rattle.fv_diagram.specs.declared.control.ControlInfo.{ControlInfo}
use Rattle.fv_diagram.specs.declared.control.ControlKind.{ControlKind}
use Rattle.fv_diagram.specs.declared.control.ControlKind.TheVariants.{Button, Checkbox, HSlider, VSlider, NEntry}
use Rattle.fv_rules.specs.declared.refusal.EvalRefusal.{EvalRefusal}
use Rattle.fv_rules.specs.declared.refusal.EvalRefusal.TheVariants.{UnknownName, IterationCount, TooManyArguments, EvalBudget}
use Rattle.fv_parse.specs.headline.Trees.{text_of, label_of}
use Rattle.fv_rules.specs.headline.Values.{Name, Rule, Value, Flat, Abstraction, Rules, Env, Outermost, Bound, Scope, Nothing, And, Definition, Plain}
use Rattle.fv_rules.specs.headline.Values.{Parameters, Cases, Meaning, IsValue, IsDefined, Unknown, lookup, rule_of, in_order, count_taken}
use Rattle.fv_diagram_numbers.specs.headline.Numbers.{number_of}
use Rattle.fv_rules.specs.headline.Matching.{Bindings, settled, value_number, bound_in, chosen}
use Rattle.fv_rules.specs.headline.Steps.{State, Outcome, Eval, ◌>>=◌, give, refuse, no_number, no_rule}
use Rattle.fv_rules.specs.headline.Steps.{no_diagram, visit, fresh_slots, put, waved, whole, control}
pub use Rattle.fv_diagram_numbers.specs.headline.Heads.{all_outputs}

-- ---- kinds of controls

-- the kind of a button or checkbox
abbrev pub switch_kind : SwitchKind → ControlKind
switch_kind switches.Button = Button
switch_kind switches.Checkbox = Checkbox

-- the kind of a slider or number entry
abbrev pub slider_kind : SliderKind → ControlKind
slider_kind sliders.Horizontal = HSlider
slider_kind sliders.Vertical = VSlider
slider_kind sliders.Number = NEntry

-- ---- what evaluates the parts

-- a tree in an environment to its value, or further to a diagram
pub record Evaluator : Type 0 where
  pub value : Tree → Env → Eval Value
  pub diagram : Tree → Env → Eval Diagram

-- a diagram, as a value
abbrev pub flat : Eval Diagram → Eval Value
flat m = m >>= λ d. give (Flat d)

-- ---- turning a value into a diagram

-- the parameters bound to slots, from this one on
abbrev pub on_slots : List Name → ℕ → Env → Env
on_slots [] slot env = env
on_slots (x ∷ xs) slot env = on_slots xs (suc slot) (Bound x (Flat (Slot slot)) env)

-- a body around which slots are bound: this many, from this one on
abbrev pub bind_all : ℕ → ℕ → Diagram → Eval Diagram
bind_all slot zero d = give d
bind_all slot (suc n) d = bind_all (suc slot) n d >>= λ b. put (Bind slot b)

-- A value as a diagram: an abstraction binds a new slot for each parameter, and rules are none.
abbrev pub turned : Lexed → Evaluator → Value → Eval Diagram
turned l e (Flat d) = give d
turned l e (Abstraction x xs body env) = do
  slot ← fresh_slots (length (x ∷ xs))
  d ← e.diagram body (on_slots (x ∷ xs) slot env)
  bind_all slot (length (x ∷ xs)) d
turned l e (Rules s rs env taken) = refuse (no_diagram l s)

-- ---- compositions

-- `a op b` is `a,b : op`
abbrev pub operated : Prim → Diagram → Diagram → Eval Diagram
operated p a b = do
  ab ← put (Par a b)
  put (Seq ab (Primitive p))

-- two diagrams under an operator: an infix one is the sequence of both side by side and the operation
abbrev pub joined : Operator → Diagram → Diagram → Eval Diagram
joined (operators.Infix p) a b = operated p a b
joined operators.Recursion a b = put (Rec a b)
joined operators.Parallel a b = put (Par a b)
joined operators.Sequence a b = put (Seq a b)
joined operators.Split a b = put (Split a b)
joined operators.Merge a b = put (Merge a b)

-- diagrams put together from the right by a composition
abbrev pub from_right : (Diagram → Diagram → Diagram) → Diagram → List Diagram → Eval Diagram
from_right compose d [] = give d
from_right compose d (x ∷ xs) = from_right compose x xs >>= λ r. put (compose d r)

-- diagrams put together from the left by an operation
abbrev pub from_left : Prim → Diagram → List Diagram → Eval Diagram
from_left p d [] = give d
from_left p d (x ∷ xs) = operated p d x >>= λ r. from_left p r xs

-- ---- names

-- what a definition gives: its right side's value, an abstraction, or rules
abbrev pub defined_value : Evaluator → Definition → Env → Eval Value
defined_value e (Plain body) env = e.value body env
defined_value e (Parameters x xs body) env = give (Abstraction x xs body env)
defined_value e (Cases s rs) env = give (Rules s rs env Nothing)

-- what a name gives by what it stands for
abbrev pub meant : Evaluator → Name → Meaning → Eval Value
meant e name (IsValue v) = give v
meant e name (IsDefined d env) = defined_value e d env
meant e name Unknown = refuse (UnknownName name)

-- one visit of a name
abbrev pub name_value : Lexed → Evaluator → Name → Env → Eval Value
name_value l e name env = visit >>= λ u. meant e name (lookup l env name)

-- ---- application

-- the values of arguments, after those that are done; one with a number is that integer
abbrev pub arguments : Evaluator → List Tree → Env → List Value → Eval (List Value)
arguments e [] env done = give done
arguments e (a ∷ more) env done = do
  v ← e.value a env
  arguments e more env (done ++ settled v ∷ [])

-- values turned into diagrams, after those that are done
abbrev pub all_turned : Lexed → Evaluator → List Value → List Diagram → Eval (List Diagram)
all_turned l e [] done = give done
all_turned l e (v ∷ more) done = do
  d ← turned l e v
  all_turned l e more (done ++ d ∷ [])

-- n wires side by side, as a list
abbrev pub wires : ℕ → List Diagram
wires n = replicate n (Primitive prim.Wire)

-- a primitive of two inputs other than `prefix`
abbrev pub takes_the_right : Diagram → Bool
takes_the_right (Primitive prim.Prefix) = false
takes_the_right (Primitive p) = nat_eq (primitive_inputs p) 2
takes_the_right d = false

-- diagrams side by side, and then the function
abbrev pub led : Diagram → List Diagram → Diagram → Eval Diagram
led d ds f = do
  p ← from_right Par d ds
  put (Seq p f)

-- A diagram on arguments, the first and more, which have k outputs.
abbrev pub fed_by : ℕ → Diagram → Diagram → List Diagram → Eval Diagram
fed_by k f d ds =
    if nat_lt (inputs f) k then refuse (TooManyArguments k (inputs f))
    else (if takes_the_right f && nat_eq k 1 then led (Primitive prim.Wire) (d ∷ ds) f
    else led d (ds ++ wires (inputs f - k)) f)

-- a diagram on diagrams; on none it stays
abbrev pub fed : Diagram → List Diagram → Eval Value
fed f [] = give (Flat f)
fed f (d ∷ ds) = flat (fed_by (all_outputs (d ∷ ds)) f d ds)

-- how many arguments rules take
abbrev pub width : List Rule → ℕ
width [] = 0
width (r ∷ rs) = length r.patterns

-- the right side of the rule that was chosen, else refused at the application
abbrev pub selected : Lexed → Evaluator → ℕ → Env → Option (Tree × Bindings) → Eval Value
selected l e start env None = refuse (no_rule l start)
selected l e start env (Some xb) = e.value xb.0 (bound_in env xb.1)

-- A value applied to arguments. From the application on, a text has `start` tokens left.
abbrev pub applied : Lexed → Evaluator → ℕ → Value → List Value → Eval Value
applied l e start v [] = give v
applied l e start (Flat f) (a ∷ more) = all_turned l e (a ∷ more) [] >>= fed f
applied l e start (Abstraction x [] body env) (a ∷ more) = e.value body (Bound x a env) >>= λ v. applied l e start v more
applied l e start (Abstraction x (y ∷ ys) body env) (a ∷ more) = applied l e start (Abstraction y ys body (Bound x a env)) more
applied l e start (Rules s rs env taken) (a ∷ more) =
    if nat_lt (count_taken (And a taken)) (width rs) then applied l e start (Rules s rs env (And a taken)) more
    else (selected l e start env (chosen l rs (in_order (And a taken) [])) >>= λ v. applied l e start v more)

-- ---- iteration

-- the bodies for i, i + 1, .., after those that are done
abbrev pub bodies : Evaluator → Name → Tree → Env → ℕ → ℕ → List Diagram → Eval (List Diagram)
bodies e x body env i zero done = give done
bodies e x body env i (suc n) done = do
  d ← e.diagram body (Bound x (Flat (Constant (pos i))) env)
  bodies e x body env (suc i) n (done ++ d ∷ [])

-- `par` and `seq` put from the right, `sum` and `prod` from the left
abbrev pub gathered_by : Repetition → Diagram → List Diagram → Eval Diagram
gathered_by repetitions.Parallel d ds = from_right Par d ds
gathered_by repetitions.Sequence d ds = from_right Seq d ds
gathered_by repetitions.Sum d ds = from_left (prim.Point op.Add) d ds
gathered_by repetitions.Product d ds = from_left (prim.Point op.Mul) d ds

-- the bodies of an iteration in one diagram; it has at least one
abbrev pub gathered : Repetition → List Diagram → Eval Value
gathered r [] = refuse (IterationCount (pos 0))
gathered r (d ∷ ds) = flat (gathered_by r d ds)

-- a count, which has to be a number and then at least 1
abbrev pub counted : Lexed → ℕ → Option ℤ → Eval ℕ
counted l start None = refuse (no_number l start)
counted l start (Some (pos zero)) = refuse (IterationCount (pos 0))
counted l start (Some (pos (suc n))) = give (suc n)
counted l start (Some (negsuc n)) = refuse (IterationCount (negsuc n))

-- ---- arities and controls

-- how many inputs or outputs a diagram has
abbrev pub ports : Side → Diagram → Diagram
ports sides.Inputs d = Constant (pos (inputs d))
ports sides.Outputs d = Constant (pos (outputs d))

-- a number, else refused at a place
abbrev pub read_number : Lexed → ℕ → Option ℤ → Eval ℤ
read_number l start None = refuse (no_number l start)
read_number l start (Some n) = give n

-- each parameter is evaluated and read as a number before the next one
abbrev pub parameters : Lexed → Evaluator → List Tree → Env → List ℤ → Eval (List ℤ)
parameters l e [] env done = give done
parameters l e (x ∷ more) env done = do
  v ← e.value x env
  n ← read_number l (start_of x) (value_number v)
  parameters l e more env (done ++ n ∷ [])

-- init, min, max and a step, which has no effect
abbrev pub slider_info : ControlKind → List ℕ → List ℤ → ControlInfo
slider_info kind label ns = record { kind = kind; label = label; init = argument ns 0; min = argument ns 1; max = argument ns 2 }

-- a button or checkbox is 0 or 1, and 0 at first
abbrev pub switch_info : ControlKind → List ℕ → ControlInfo
switch_info kind label = record { kind = kind; label = label; init = pos 0; min = pos 0; max = pos 1 }

-- an abstraction of these parameters; one without parameters is its body
abbrev pub abstraction : Lexed → Evaluator → List ℕ → Tree → Env → Eval Value
abstraction l e [] body env = e.value body env
abstraction l e (n ∷ ns) body env = give (Abstraction (text_of l n) (map (text_of l) ns) body env)

-- ---- the rules

-- the number of a literal with or without a sign
abbrev pub literal_value : Literal → ℤ
literal_value (literals.Plain n) = wrap (pos n)
literal_value (literals.Negative n) = wrap (neg_ℤ (pos n))

-- a waveform of literals; no program has one of none
abbrev pub waveform : Lexed → ℕ → List Literal → Eval Value
waveform l s [] = refuse (no_diagram l s)
waveform l s (x ∷ xs) = flat (waved (map literal_value (x ∷ xs)))

-- The value of each form in an environment, where `e` evaluates its parts.
abbrev pub rule : Lexed → Evaluator → Tree → Env → Eval Value
rule l e (tree.Number s n) env = give (Flat (Constant (wrap (pos n))))
rule l e (tree.Negative s n) env = give (Flat (Constant (wrap (neg_ℤ (pos n)))))
rule l e (tree.Primitive s p) env = give (Flat (Primitive p))
rule l e (tree.Named s n) env = meant e (text_of l n) (lookup l env (text_of l n))
rule l e (tree.MinusNamed s n) env = do
  v ← name_value l e (text_of l n) env
  d ← turned l e v
  flat (operated (prim.Point op.Sub) (Constant (pos 0)) d)
rule l e (tree.Group s x) env = e.value x env
rule l e (tree.Panel s k n x) env = e.value x env
rule l e (tree.Where s x ds) env = e.value x (Scope ds env)
rule l e (tree.Abstraction s ns x) env = abstraction l e ns x env
rule l e (tree.Case s rs) env = give (Rules s (map rule_of (items rs)) env Nothing)
rule l e (tree.Binary s o x y) env = do
  a ← e.diagram x env
  b ← e.diagram y env
  flat (joined o a b)
rule l e (tree.Delayed s x) env = do
  d ← e.diagram x env
  flat (put (Seq d (Primitive prim.Mem)))
rule l e (tree.Apply s x ys) env = do
  f ← e.value x env
  vs ← arguments e (items ys) env []
  applied l e s f vs
rule l e (tree.Iteration s r n x y) env = do
  d ← e.diagram x env
  k ← counted l (start_of x) (number_of d)
  ds ← bodies e (text_of l n) y env 0 k []
  gathered r ds
rule l e (tree.Ports s k x) env = do
  d ← e.diagram x env
  give (Flat (ports k d))
rule l e (tree.Waveform s xs) env = waveform l s xs
rule l e (tree.Switch s k n) env = flat (control (switch_info (switch_kind k) (label_of l n)))
rule l e (tree.Slider s k n x0 x1 x2 x3) env = do
  ns ← parameters l e (x0 ∷ x1 ∷ x2 ∷ x3 ∷ []) env []
  flat (control (slider_info (slider_kind k) (label_of l n) ns))
-- what is no expression is no diagram; no program has it there
rule l e x env = refuse (no_diagram l (start_of x))

-- one visit, and then the rule
abbrev pub visited : Lexed → Evaluator → Tree → Env → Eval Value
visited l e x env = visit >>= λ u. rule l e x env

-- what evaluates in one visit more
abbrev pub descend : Lexed → Evaluator → Evaluator
descend l e = record {
  value = λ x env. visited l e x env;
  diagram = λ x env. visit >>= λ u. (rule l e x env >>= turned l e);
}

-- Evaluation in which at most this many visits stand in one another.
unfoldable pub within : ℕ → Lexed → Evaluator
within zero l = record { value = λ x env. refuse EvalBudget; diagram = λ x env. refuse EvalBudget }
within (suc depth) l = descend l (within depth l)

-- No more visits stand in one another than are left.
abbrev pub ev : Lexed → Evaluator
ev l = record {
  value = λ x env s. (within s.visits l).value x env s;
  diagram = λ x env s. (within s.visits l).diagram x env s;
}

-- ---- programs

-- the state before a program
abbrev pub start : State
start = record { visits = VISIT_LIMIT; controls = []; slot = 0; tables = 0 }

-- what a whole program's value is made of: its diagram and its controls
abbrev pub finished : Outcome Diagram → Result (Diagram × List ControlInfo) EvalRefusal
finished (Ok x) = Ok (x.0, x.1.controls)
finished (Err r) = Err r

-- The diagram and the controls of a program: its `process`, among its outermost definitions, turned into a diagram in which no
-- table primitive is left.
abbrev pub program_value : Lexed → Tree → Result (Diagram × List ControlInfo) EvalRefusal
program_value l x = finished ((name_value l (ev l) (codes "process") (Scope x Outermost) >>= turned l (ev l) >>= whole) start)
