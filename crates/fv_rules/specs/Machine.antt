-- Evaluation by a machine that keeps its pending work in a list (this project's profile).
use Rattle.std.specs.Prelude.{◌≡◌, ℕ, zero, suc, ◌+◌, nat_lt, List, [], ◌∷◌, ◌++◌, length, map}
use Rattle.std.specs.Prelude.{codes, ℤ, pos, neg_ℤ, Option, Some, None, Ok, Err, if◌then◌else◌}
use Rattle.fv_rules.specs.Token.{Lexed}
use Rattle.fv_rules.specs.Words.{wrap}
use Rattle.fv_rules.specs.Op.TheVariants as op
use Rattle.fv_rules.specs.Tree.{Tree, items, start_of}
use Rattle.fv_rules.specs.Tree as tree
use Rattle.fv_rules.specs.Operator.{Operator}
use Rattle.fv_rules.specs.Iteration.{Iteration as Repetition}
use Rattle.fv_rules.specs.Side.{Side}
use Rattle.fv_rules.specs.Primitive.TheVariants as prim
use Rattle.fv_rules.specs.Diagram.{Diagram, Primitive, Constant, Seq}
use Rattle.fv_rules.specs.ControlKind.{ControlKind}
use Rattle.fv_rules.specs.declared.refusal.EvalRefusal.TheVariants.{UnknownName}
use Rattle.fv_rules.specs.Trees.{text_of, label_of}
use Rattle.fv_rules.specs.headline.Values.{Name, Value, Flat, Abstraction, Rules, Env, Outermost, Bound, Scope, Nothing, And, Definition, Plain}
use Rattle.fv_rules.specs.headline.Values.{Parameters, Cases, Meaning, IsValue, IsDefined, Unknown, lookup, rule_of, in_order, count_taken}
use Rattle.fv_rules.specs.Numbers.{number_of}
use Rattle.fv_rules.specs.headline.Matching.{Bindings, settled, value_number, bound_in, chosen}
use Rattle.fv_rules.specs.headline.Steps.{State, Outcome, Eval, ◌>>=◌, give, no_rule, no_diagram, spent, put, control}
use Rattle.fv_rules.specs.headline.Rules.{waveform, switch_kind, slider_kind, Evaluator, flat, on_slots, bind_all}
use Rattle.fv_rules.specs.headline.Rules.{turned, operated, joined, name_value, arguments, all_turned, fed, width, applied}
use Rattle.fv_rules.specs.headline.Rules.{bodies, gathered, counted, ports, read_number, parameters, slider_info, switch_info, ev}

-- What waits for a value.
pub data ForValue : Type 0 where
  Function : (start : ℕ) → (args : List Tree) → (env : Env) → ForValue
  Argument : (start : ℕ) → (function : Value) → (more : List Tree) → (env : Env) → (done : List Value) → ForValue
  Leftover : (start : ℕ) → (args : List Value) → ForValue
  Parameter : (kind : ControlKind) → (label : List ℕ) → (start : ℕ) → (more : List Tree) → (env : Env) → (done : List ℤ) → ForValue

-- What waits for a diagram.
pub data ForDiagram : Type 0 where
  Left : (operator : Operator) → (right : Tree) → (env : Env) → ForDiagram
  Right : (operator : Operator) → (left : Diagram) → ForDiagram
  Later : ForDiagram
  Negated : ForDiagram
  Ports : (side : Side) → ForDiagram
  Binding : (slot : ℕ) → (slots : ℕ) → ForDiagram
  Turning : (function : Diagram) → (more : List Value) → (done : List Diagram) → ForDiagram
  Counting : (kind : Repetition) → (name : Name) → (start : ℕ) → (body : Tree) → (env : Env) → ForDiagram
  Body : (kind : Repetition) → (name : Name) → (body : Tree) → (env : Env) → (next : ℕ) → (left : ℕ) → (done : List Diagram) → ForDiagram
  Finish : ForDiagram

pub data Continuation : Type 0 where
  Valued : ForValue → Continuation
  Drawn : ForDiagram → Continuation

-- What is done next: a tree or a name is visited, or a value is given to the first continuation.
pub data Focus : Type 0 where
  Visit : (tree : Tree) → (env : Env) → Focus
  Call : (name : Name) → (env : Env) → Focus
  Give : (value : Value) → Focus

pub data Config : Type 0 where
  Running : Focus → List Continuation → State → Config
  Ended : Outcome Value → Config

-- ---- what a configuration stands for, by the rules
abbrev pub valued : Lexed → Evaluator → ForValue → Value → Eval Value
valued l e (Function start args env) v = arguments e args env [] >>= applied l e start v
valued l e (Argument start f more env done) v = arguments e more env (done ++ settled v ∷ []) >>= applied l e start f
valued l e (Leftover start args) v = applied l e start v args
valued l e (Parameter kind label start more env done) v =
    read_number l start (value_number v) >>= λ n. (parameters l e more env (done ++ n ∷ []) >>= λ ns. flat (control (slider_info kind label ns)))

-- what waits for a diagram goes on with it so
abbrev pub drawn : Lexed → Evaluator → ForDiagram → Diagram → Eval Value
drawn l e (Left o y env) a = e.diagram y env >>= λ b. flat (joined o a b)
drawn l e (Right o a) b = flat (joined o a b)
drawn l e Later d = flat (put (Seq d (Primitive prim.Mem)))
drawn l e Negated d = flat (operated (prim.Point op.Sub) (Constant (pos 0)) d)
drawn l e (Ports side) d = give (Flat (ports side d))
drawn l e (Binding slot n) d = flat (bind_all slot n d)
drawn l e (Turning f more done) d = all_turned l e more (done ++ d ∷ []) >>= fed f
drawn l e (Counting r x start b env) d = counted l start (number_of d) >>= λ k. (bodies e x b env 0 k [] >>= gathered r)
drawn l e (Body r x b env i n done) d = bodies e x b env i n (done ++ d ∷ []) >>= gathered r
drawn l e Finish d = give (Flat d)

-- A continuation goes on with a value, which is turned into a diagram where it waits for one.
abbrev pub resumed : Lexed → Evaluator → Continuation → Value → Eval Value
resumed l e (Valued f) v = valued l e f v
resumed l e (Drawn g) v = turned l e v >>= drawn l e g

-- all continuations go on, the first one first
abbrev pub unwound : Lexed → Evaluator → List Continuation → Value → Eval Value
unwound l e [] v = give v
unwound l e (f ∷ fs) v = resumed l e f v >>= unwound l e fs

-- what is done next, and then the continuations
abbrev pub focused : Lexed → Evaluator → Focus → List Continuation → Eval Value
focused l e (Visit x env) fs = e.value x env >>= unwound l e fs
focused l e (Call name env) fs = name_value l e name env >>= unwound l e fs
focused l e (Give v) fs = unwound l e fs v

-- What a configuration stands for: the outcome that the rules give to all of it.
abbrev pub meaning : Lexed → Config → Outcome Value
meaning l (Running focus fs s) = focused l (ev l) focus fs s
meaning l (Ended o) = o

-- ---- one step
abbrev pub given : Outcome Value → List Continuation → Config
given (Ok x) fs = Running (Give x.0) fs x.1
given (Err r) fs = Ended (Err r)

-- a definition that a name stands for: its right side is visited, or it is a value
abbrev pub begin_definition : Definition → Env → List Continuation → State → Config
begin_definition (Plain body) env fs s = Running (Visit body env) fs s
begin_definition (Parameters x xs body) env fs s = Running (Give (Abstraction x xs body env)) fs s
begin_definition (Cases start rs) env fs s = Running (Give (Rules start rs env Nothing)) fs s

-- what a name stands for is given or visited, or the name is unknown
abbrev pub begin_name : Name → Meaning → List Continuation → State → Config
begin_name x (IsValue v) fs s = Running (Give v) fs s
begin_name x (IsDefined d env) fs s = begin_definition d env fs s
begin_name x Unknown fs s = Ended (Err (UnknownName x))

-- an abstraction is a value; one without parameters is its body
abbrev pub begin_abstraction : Lexed → List ℕ → Tree → Env → List Continuation → State → Config
begin_abstraction l [] body env fs s = Running (Visit body env) fs s
begin_abstraction l (n ∷ ns) body env fs s = Running (Give (Abstraction (text_of l n) (map (text_of l) ns) body env)) fs s

-- the next parameter of a slider is visited, or the slider is given
abbrev pub next_parameter : ControlKind → List ℕ → List Tree → Env → List ℤ → List Continuation → State → Config
next_parameter kind label [] env done fs s = given (flat (control (slider_info kind label done)) s) fs
next_parameter kind label (x ∷ more) env done fs s = Running (Visit x env) (Valued (Parameter kind label (start_of x) more env done) ∷ fs) s

-- The rule of each form, up to the next visit or value.
abbrev pub begin : Lexed → Tree → Env → List Continuation → State → Config
begin l (tree.Number s n) env fs t = Running (Give (Flat (Constant (wrap (pos n))))) fs t
begin l (tree.Negative s n) env fs t = Running (Give (Flat (Constant (wrap (neg_ℤ (pos n)))))) fs t
begin l (tree.Primitive s p) env fs t = Running (Give (Flat (Primitive p))) fs t
begin l (tree.Named s n) env fs t = begin_name (text_of l n) (lookup l env (text_of l n)) fs t
begin l (tree.MinusNamed s n) env fs t = Running (Call (text_of l n) env) (Drawn Negated ∷ fs) t
begin l (tree.Group s x) env fs t = Running (Visit x env) fs t
begin l (tree.Panel s k n x) env fs t = Running (Visit x env) fs t
begin l (tree.Where s x ds) env fs t = Running (Visit x (Scope ds env)) fs t
begin l (tree.Abstraction s ns x) env fs t = begin_abstraction l ns x env fs t
begin l (tree.Case s rs) env fs t = Running (Give (Rules s (map rule_of (items rs)) env Nothing)) fs t
begin l (tree.Binary s o x y) env fs t = Running (Visit x env) (Drawn (Left o y env) ∷ fs) t
begin l (tree.Delayed s x) env fs t = Running (Visit x env) (Drawn Later ∷ fs) t
begin l (tree.Apply s x ys) env fs t = Running (Visit x env) (Valued (Function s (items ys) env) ∷ fs) t
begin l (tree.Iteration s r n x y) env fs t = Running (Visit x env) (Drawn (Counting r (text_of l n) (start_of x) y env) ∷ fs) t
begin l (tree.Ports s k x) env fs t = Running (Visit x env) (Drawn (Ports k) ∷ fs) t
begin l (tree.Waveform s xs) env fs t = given (waveform l s xs t) fs
begin l (tree.Switch s k n) env fs t = given (flat (control (switch_info (switch_kind k) (label_of l n))) t) fs
begin l (tree.Slider s k n x0 x1 x2 x3) env fs t = next_parameter (slider_kind k) (label_of l n) (x0 ∷ x1 ∷ x2 ∷ x3 ∷ []) env [] fs t
begin l x env fs t = Ended (Err (no_diagram l (start_of x)))

-- a tree is visited where a visit was left
abbrev pub visiting : Lexed → Outcome Unit → Tree → Env → List Continuation → Config
visiting l (Ok u) x env fs = begin l x env fs u.1
visiting l (Err r) x env fs = Ended (Err r)

-- a name is called where a visit was left
abbrev pub calling : Lexed → Outcome Unit → Name → Env → List Continuation → Config
calling l (Ok u) name env fs = begin_name name (lookup l env name) fs u.1
calling l (Err r) name env fs = Ended (Err r)

-- the next argument of a diagram is turned into a diagram, or the diagram is fed with all of them
abbrev pub next_turned : Diagram → List Value → List Diagram → List Continuation → State → Config
next_turned f [] done fs s = given (fed f done s) fs
next_turned f (v ∷ more) done fs s = Running (Give v) (Drawn (Turning f more done) ∷ fs) s

-- the right side of the rule that was chosen is visited, and the arguments that are left wait
abbrev pub select : Lexed → ℕ → Env → Option (Tree × Bindings) → List Value → List Continuation → State → Config
select l start env None more fs s = Ended (Err (no_rule l start))
select l start env (Some xb) more fs s = Running (Visit xb.0 (bound_in env xb.1)) (Valued (Leftover start more) ∷ fs) s

-- A value is applied to arguments, up to the next visit or value.
abbrev pub apply : Lexed → ℕ → Value → List Value → List Continuation → State → Config
apply l start v [] fs s = Running (Give v) fs s
apply l start (Flat f) (a ∷ more) fs s = next_turned f (a ∷ more) [] fs s
apply l start (Abstraction x [] body env) (a ∷ more) fs s = Running (Visit body (Bound x a env)) (Valued (Leftover start more) ∷ fs) s
apply l start (Abstraction x (y ∷ ys) body env) (a ∷ more) fs s = apply l start (Abstraction y ys body (Bound x a env)) more fs s
apply l start (Rules p rs env taken) (a ∷ more) fs s =
    if nat_lt (count_taken (And a taken)) (width rs) then apply l start (Rules p rs env (And a taken)) more fs s
    else select l start env (chosen l rs (in_order (And a taken) [])) more fs s

-- the next argument of an application is visited, or its function is applied to all of them
abbrev pub next_argument : Lexed → ℕ → Value → List Tree → Env → List Value → List Continuation → State → Config
next_argument l start f [] env done fs s = apply l start f done fs s
next_argument l start f (a ∷ more) env done fs s = Running (Visit a env) (Valued (Argument start f more env done) ∷ fs) s

-- the next body of an iteration is visited, or the bodies are put together
abbrev pub next_body : Repetition → Name → Tree → Env → ℕ → ℕ → List Diagram → List Continuation → State → Config
next_body r x b env i zero done fs s = given (gathered r done s) fs
next_body r x b env i (suc n) done fs s = Running (Visit b (Bound x (Flat (Constant (pos i))) env)) (Drawn (Body r x b env (suc i) n done) ∷ fs) s

-- the first one, where the count is a number
abbrev pub first_body : Repetition → Name → Tree → Env → Outcome ℕ → List Continuation → Config
first_body r x b env (Ok k) fs = next_body r x b env 0 k.0 [] fs k.1
first_body r x b env (Err e) fs = Ended (Err e)

-- a slider goes on where its parameter has a number
abbrev pub parameter_read : ControlKind → List ℕ → List Tree → Env → List ℤ → Outcome ℤ → List Continuation → Config
parameter_read kind label more env done (Ok n) fs = next_parameter kind label more env (done ++ n.0 ∷ []) fs n.1
parameter_read kind label more env done (Err r) fs = Ended (Err r)

-- a value arrives where one is waited for
abbrev pub value_arrives : Lexed → ForValue → Value → List Continuation → State → Config
value_arrives l (Function start args env) v fs s = next_argument l start v args env [] fs s
value_arrives l (Argument start f more env done) v fs s = next_argument l start f more env (done ++ settled v ∷ []) fs s
value_arrives l (Leftover start args) v fs s = apply l start v args fs s
value_arrives l (Parameter kind label start more env done) v fs s = parameter_read kind label more env done (read_number l start (value_number v) s) fs

-- a diagram arrives where one is waited for
abbrev pub diagram_arrives : Lexed → ForDiagram → Diagram → List Continuation → State → Config
diagram_arrives l (Left o y env) a fs s = Running (Visit y env) (Drawn (Right o a) ∷ fs) s
diagram_arrives l (Right o a) b fs s = given (flat (joined o a b) s) fs
diagram_arrives l Later d fs s = given (flat (put (Seq d (Primitive prim.Mem))) s) fs
diagram_arrives l Negated d fs s = given (flat (operated (prim.Point op.Sub) (Constant (pos 0)) d) s) fs
diagram_arrives l (Ports side) d fs s = Running (Give (Flat (ports side d))) fs s
diagram_arrives l (Binding slot n) d fs s = given (flat (bind_all slot n d) s) fs
diagram_arrives l (Turning f more done) d fs s = next_turned f more (done ++ d ∷ []) fs s
diagram_arrives l (Counting r x start b env) d fs s = first_body r x b env (counted l start (number_of d) s) fs
diagram_arrives l (Body r x b env i n done) d fs s = next_body r x b env i n (done ++ d ∷ []) fs s
diagram_arrives l Finish d fs s = Running (Give (Flat d)) fs s

-- a diagram arrives; an abstraction is turned into one first
abbrev pub to_diagram : Lexed → ForDiagram → Value → List Continuation → State → Config
to_diagram l g (Flat d) fs s = diagram_arrives l g d fs s
to_diagram l g (Abstraction x xs body env) fs s =
    Running (Visit body (on_slots (x ∷ xs) s.slot env)) (Drawn (Binding s.slot (length (x ∷ xs))) ∷ Drawn g ∷ fs)
    (record s { slot = s.slot + length (x ∷ xs) })
to_diagram l g (Rules start rs env taken) fs s = Ended (Err (no_diagram l start))

-- a value is given to the first continuation; with none the machine has ended
abbrev pub arrives : Lexed → Value → List Continuation → State → Config
arrives l v [] s = Ended (Ok (v, s))
arrives l v (Valued f ∷ fs) s = value_arrives l f v fs s
arrives l v (Drawn g ∷ fs) s = to_diagram l g v fs s

-- One step.
abbrev pub step : Lexed → Config → Config
step l (Running (Visit x env) fs s) = visiting l (spent s.visits s) x env fs
step l (Running (Call name env) fs s) = calling l (spent s.visits s) name env fs
step l (Running (Give v) fs s) = arrives l v fs s
step l (Ended o) = Ended o

-- where the machine begins with a program
abbrev pub first : Tree → State → Config
first x s = Running (Call (codes "process") (Scope x Outermost)) (Drawn Finish ∷ []) s

-- No step changes what a configuration stands for.
abbrev pub StepsMean : Type 0
StepsMean = (l : Lexed) (c : Config) → meaning l (step l c) ≡ meaning l c

-- The first configuration stands for what `process` is as a diagram.
abbrev pub StartsMean : Type 0
StartsMean = (l : Lexed) (x : Tree) (s : State)
    → meaning l (first x s) ≡ (flat (name_value l (ev l) (codes "process") (Scope x Outermost) >>= turned l (ev l))) s
