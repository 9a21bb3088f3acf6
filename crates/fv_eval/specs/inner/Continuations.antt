-- What the machine's lists and pending work stand for.
use Rattle.std.specs.Prelude.{◌≡◌, ◌⊎◌, ℕ, suc, ◌+◌, ◌<◌, ◌^◌, nat_lt, List, [], ◌∷◌, ◌++◌, length, drop, Option, Some, None, Result, Ok, Err, if◌then◌else◌}
use Rattle.fv_parse.specs.Token.{Lexed}
use Rattle.fv_parse_grammar.specs.headline.Tree.{Tree, items, start_of}
use Rattle.fv_parse_grammar.specs.headline.Tree as tree
use Rattle.fv_parse_grammar.specs.Slider.{Slider as SliderKind}
use Rattle.fv_parse_grammar.specs.Iteration.{Iteration as Repetition}
use Rattle.fv_parse.specs.headline.Trees.{text_of, label_of}
use Rattle.fv_parse.specs.Trees.{Parsed, size_of, tree_in}
use Rattle.fv_diagram.specs.headline.Diagram.{Diagram}
use Rattle.fv_diagram.specs.Arena.{count_of, empty_arena}
use Rattle.fv_eval_drawing.specs.Makes.{AreThere, trees_of}
use Rattle.fv_rules.specs.declared.refusal.EvalRefusal.{EvalRefusal}
use Rattle.fv_rules.specs.declared.refusal.EvalRefusal.TheVariants.{NoMemory}
use Rattle.fv_eval_scopes.specs.declared.value.Value as code_value
use Rattle.fv_eval_scopes.specs.declared.value.Value.TheVariants as value
use Rattle.fv_rules.specs.headline.Values.{Name, Value, Flat, Abstraction, Rules, Env, Bound, Taken, And, count_taken, in_order}
use Rattle.fv_rules.specs.headline.Matching.{Bindings, chosen}
use Rattle.fv_rules.specs.headline.Steps.{State, Outcome}
use Rattle.fv_rules.specs.headline.Rules.{slider_kind, width}
use Rattle.fv_eval_scopes.specs.Shows.{World, ShowsTree, Draws, ShowsValue, ShowsValues, ShowsEnv, ShowsTaken, IsNamed, IsInside, Grows, rules_in}
use Rattle.fv_rules.specs.Machine.{ForValue, Function, Argument, Leftover, Parameter, ForDiagram, Left, Right, Later, Negated, Ports, Binding, Turning}
use Rattle.fv_rules.specs.Machine.{Counting, Body, Finish, Continuation, Valued, Drawn, Visit, Call, Give, Config, Running, Ended}
use Rattle.fv_rules.specs.Machine.{meaning, begin, next_turned}
use Rattle.fv_rules.specs.Machine.{select}
use Rattle.fv_eval.specs.declared.continuation.Continuation as code_continuation
use Rattle.fv_eval.specs.declared.continuation.Continuation.TheVariants as continuation
use Rattle.fv_eval.specs.declared.continuation.ForValue as code_for_value
use Rattle.fv_eval.specs.declared.continuation.ForValue.TheVariants as valued
use Rattle.fv_eval.specs.declared.continuation.ForDiagram as code_for_diagram
use Rattle.fv_eval.specs.declared.continuation.ForDiagram.TheVariants as drawn
use Rattle.fv_eval.specs.declared.continuation.Focus as code_focus
use Rattle.fv_eval.specs.declared.continuation.Focus.TheVariants as focus
use Rattle.fv_eval.specs.declared.machine.Machine as code_machine
use Rattle.fv_parse.specs.TreeId.{TreeId}
use Rattle.fv_eval_scopes.specs.declared.value.Ruled.{Ruled}
use Rattle.fv_eval_scopes.specs.declared.value.Binding as code_binding
use Rattle.fv_eval_lookup.specs.Chosen.{ShowsChoice}
use Rattle.fv_eval_patterns.specs.Trials.{Recalls}
use Rattle.fv_eval_lookup.specs.Shortcuts.{AreShortcuts}
use Rattle.fv_eval_scopes.specs.declared.value.Scope.{Scope as AScope}
use Rattle.fv_eval_patterns.specs.Remembered.{nothing}
use Rattle.fv_eval_drawing.specs.Controls.{AreLabelled}

-- the lists of a machine over a tree
abbrev pub world : Parsed → code_machine.Machine → World
world p m = record { tree = p; diagrams = m.drawing.diagrams; scopes = m.scopes.scopes; taken = m.scopes.taken }

abbrev pub state_of : code_machine.Machine → State
state_of m = record { visits = m.visits; controls = m.controls; slot = m.slot; tables = m.drawing.tables }

-- nothing was drawn yet, no scope was opened, nothing waits and nothing is remembered, in a machine that begins in this state
abbrev pub IsNew : code_machine.Machine → State → Type 0
IsNew m s =
    (m.drawing.diagrams ≡ empty_arena) × (m.scopes ≡ record { scopes = []; taken = [] }) × (m.continuations ≡ []) × (state_of m ≡ s)
    × (m.trials ≡ nothing) × ((p : Parsed) (scopes : List AScope) → AreShortcuts p scopes m.shortcuts) × (m.labels ≡ [])

-- what the machine remembers of patterns, of ways outward and of labels is true of the tree
abbrev pub Knows : Parsed → code_machine.Machine → Type 0
Knows p m =
    Recalls p m.drawing.diagrams m.trials × AreShortcuts p m.scopes.scopes m.shortcuts × AreLabelled p m.controls m.labels

-- these numbers are these diagrams, in order
abbrev pub AllDraw : World → List ℕ → List Diagram → Type 0
AllDraw w is ds = AreThere w.diagrams is × (trees_of w.diagrams is ≡ ds)

-- ---- the form of a node

-- two parts with an operator between them
abbrev pub IsBinary : Tree → Type 0
IsBinary (tree.Binary s o x y) = Unit {0}
IsBinary x = ⊥

abbrev pub IsIteration : Tree → Type 0
IsIteration (tree.Iteration s r n c b) = Unit {0}
IsIteration x = ⊥

abbrev pub IsApplication : Tree → Type 0
IsApplication (tree.Apply s f ys) = Unit {0}
IsApplication x = ⊥

abbrev pub IsSlider : Tree → Type 0
IsSlider (tree.Slider s k n x0 x1 x2 x3) = Unit {0}
IsSlider x = ⊥

-- ---- a continuation of the code shows one of the machine

-- an application, whose first arguments are done
pub record ShowsArgument (w : World) (apply : ℕ)
    (u : code_value.Value) (e : ℕ) (us : List code_value.Value) (start : ℕ) (v : Value) (more : List Tree) (E : Env) (vs : List Value) : Type 0 where
  pub f : Tree
  pub ys : Tree
  pub tree : ShowsTree w apply (tree.Apply start f ys)
  pub more_are : more ≡ drop (suc (length us)) (items ys)
  pub function : ShowsValue w u v
  pub env : ShowsEnv w e E
  pub done : ShowsValues w us vs

-- arguments of an application, from a place on
pub record ShowsLeftover (w : World) (apply : ℕ) (us : List code_value.Value) (next start : ℕ) (vs : List Value) : Type 0 where
  pub f : Tree
  pub ys : Tree
  pub tree : ShowsTree w apply (tree.Apply start f ys)
  pub arguments : ShowsValues w (drop next us) vs

-- the four parameters of a slider
abbrev pub parameters_of : Tree → List Tree
parameters_of (tree.Slider s k n x0 x1 x2 x3) = x0 ∷ x1 ∷ x2 ∷ x3 ∷ []
parameters_of x = []

-- a slider, of whose parameters some are done
pub record ShowsSlider (w : World) (slider e done : ℕ) (kind : SliderKind) (label : List ℕ) (E : Env) (xs : List Tree) : Type 0 where
  pub s : ℕ
  pub n : ℕ
  pub x0 : Tree
  pub x1 : Tree
  pub x2 : Tree
  pub x3 : Tree
  pub tree : ShowsTree w slider (tree.Slider s kind n x0 x1 x2 x3)
  pub label_is : label ≡ label_of w.tree.tokens n
  pub rest : xs ≡ drop done (x0 ∷ x1 ∷ x2 ∷ x3 ∷ [])
  pub env : ShowsEnv w e E

abbrev pub ShowsForValue : World → code_for_value.ForValue → ForValue → Type 0
ShowsForValue w (valued.Function a e) (Function s args E) = (f ys : Tree) × ShowsTree w a (tree.Apply s f ys) × (args ≡ items ys) × ShowsEnv w e E
ShowsForValue w (valued.Argument a u e us) (Argument s v more E vs) = ShowsArgument w a u e us.items s v more E vs
ShowsForValue w (valued.Leftover a us i) (Leftover s vs) = ShowsLeftover w a us.items i s vs
ShowsForValue w (valued.Parameter a e ns) (Parameter kind label s more E ms) =
    (k : SliderKind) × (x : Tree) × (kind ≡ slider_kind k) × (s ≡ start_of x) × (ns.items ≡ ms) × ShowsSlider w a e (length ns.items) k label E (x ∷ more)
ShowsForValue w f g = ⊥

-- ---- what waits for a diagram is that

-- the bodies of an iteration, of which the first are done
pub record ShowsBodies (w : World) (iteration e : ℕ) (is : List ℕ) (kind : Repetition) (x : Name) (b : Tree) (E : Env) (ds : List Diagram) : Type 0 where
  pub s : ℕ
  pub n : ℕ
  pub count : Tree
  pub tree : ShowsTree w iteration (tree.Iteration s kind n count b)
  pub name : x ≡ text_of w.tree.tokens n
  pub env : ShowsEnv w e E
  pub done : AllDraw w is ds

-- the slots from this one on have numbers
abbrev pub AreNumbered : (slot slots : ℕ) → Type 0
AreNumbered slot slots = slot + slots < 2 ^ 64

-- the indices of bodies that are done and of bodies that are left are integers
abbrev pub AreIndexed : (done left : ℕ) → Type 0
AreIndexed done left = done + left < 2 ^ 31

abbrev pub ShowsForDiagram : World → code_for_diagram.ForDiagram → ForDiagram → Type 0
ShowsForDiagram w (drawn.Left b e) (Left o y E) = (s : ℕ) × (x : Tree) × ShowsTree w b (tree.Binary s o x y) × ShowsEnv w e E
ShowsForDiagram w (drawn.Right o i) (Right p a) = (o ≡ p) × Draws w i a
ShowsForDiagram w drawn.Later Later = Unit {0}
ShowsForDiagram w drawn.Negated Negated = Unit {0}
ShowsForDiagram w (drawn.Ports s) (Ports t) = s ≡ t
ShowsForDiagram w (drawn.Binding s n) (Binding t m) = (s ≡ t) × (n ≡ m) × AreNumbered s n
ShowsForDiagram w (drawn.Turning i us next is) (Turning f vs ds) = Draws w i f × ShowsValues w (drop next us.items) vs × AllDraw w is.items ds
ShowsForDiagram w (drawn.Counting a e) (Counting r x s b E) =
    (t n : ℕ) × (c : Tree) × ShowsTree w a (tree.Iteration t r n c b) × (x ≡ text_of w.tree.tokens n) × (s ≡ start_of c) × ShowsEnv w e E
ShowsForDiagram w (drawn.Body a e left is) (Body r x b E i n ds) =
    ShowsBodies w a e is.items r x b E ds × (i ≡ suc (length is.items)) × (left ≡ n) × AreIndexed (suc (length is.items)) left
ShowsForDiagram w drawn.Finish Finish = Unit {0}
ShowsForDiagram w f g = ⊥

abbrev pub ShowsContinuation : World → code_continuation.Continuation → Continuation → Type 0
ShowsContinuation w (continuation.Valued f) (Valued g) = ShowsForValue w f g
ShowsContinuation w (continuation.Drawn f) (Drawn g) = ShowsForDiagram w f g
ShowsContinuation w f g = ⊥

-- these continuations, the last one first
abbrev pub ShowsContinuations : World → List code_continuation.Continuation → List Continuation → Type 0
ShowsContinuations w fs [] = fs ≡ []
ShowsContinuations w fs (F ∷ Fs) = (below : List code_continuation.Continuation) × (f : code_continuation.Continuation) ×
    (fs ≡ below ++ f ∷ []) × ShowsContinuation w f F × ShowsContinuations w below Fs

-- ---- configurations

-- the pending work is shown
abbrev pub Keeps : Parsed → code_machine.Machine → List Continuation → Type 0
Keeps p m Fs = Knows p m × ShowsContinuations (world p m) m.continuations Fs

-- What the machine does next is that configuration, unless memory ran out.
abbrev pub Goes : Parsed → code_machine.Machine → Result code_focus.Focus EvalRefusal → Config → Type 0
Goes p m (Ok (focus.Visit i e)) c =
    (x : Tree) × (E : Env) × (Fs : List Continuation) × (c ≡ Running (Visit x E) Fs (state_of m)) × ShowsTree (world p m) i x × ShowsEnv
    (world p m) e E × Keeps p m Fs
Goes p m (Ok (focus.Call n e)) c =
    (x : List ℕ) × (E : Env) × (Fs : List Continuation) × (c ≡ Running (Call x E) Fs (state_of m)) × IsNamed (world p m) n x × ShowsEnv
    (world p m) e E × Keeps p m Fs
Goes p m (Ok (focus.Give u)) c = (v : Value) × (Fs : List Continuation) × (c ≡ Running (Give v) Fs (state_of m)) × ShowsValue (world p m) u v × Keeps p m Fs
Goes p m (Ok (focus.Done u)) c = (v : Value) × (c ≡ Ended (Ok (v, state_of m))) × ShowsValue (world p m) u v
Goes p m (Err r) c = (r ≡ NoMemory) ⊎ (c ≡ Ended (Err r))

-- from one machine to the next, where pending work stays what it was
abbrev pub Steps : Parsed → (old new : code_machine.Machine) → Result code_focus.Focus EvalRefusal → (List Continuation → State → Config) → Type 0
Steps p old new r next = (Fs : List Continuation) → Keeps p old Fs → Goes p new r (next Fs (state_of old))

-- what is done next with a diagram that was put, or was refused
abbrev pub gave : Result ℕ EvalRefusal → Result code_focus.Focus EvalRefusal
gave (Ok i) = Ok (focus.Give (value.Diagram i))
gave (Err r) = Err r

-- the machine stands at some configuration
abbrev pub Runs : Parsed → code_machine.Machine → code_focus.Focus → Type 0
Runs p m f = (c : Config) × Goes p m (Ok f) c

-- the machine goes on with what this configuration stands for
abbrev pub Continues : Lexed → Parsed → code_machine.Machine → Result code_focus.Focus EvalRefusal → Outcome Value → Type 0
Continues l p m result whole = (c : Config) × Goes p m result c × (meaning l c ≡ whole)

-- the machine has ended with this outcome, unless memory ran out
abbrev pub Ends : Parsed → code_machine.Machine → Result code_value.Value EvalRefusal → Outcome Value → Type 0
Ends p m (Ok u) o = (v : Value) × (o ≡ Ok (v, state_of m)) × ShowsValue (world p m) u v
Ends p m (Err r) o = (r ≡ NoMemory) ⊎ (o ≡ Err r)

-- ---- what numbers have to be there for what is shown

-- the nodes and diagrams that a value names are there
abbrev pub IsThere : World → code_value.Value → Type 0
IsThere w (value.Diagram i) = i < count_of w.diagrams
IsThere w (value.Abstraction f n e) = f < size_of w.tree
IsThere w (value.Rules r e n i) = IsInside w.tree r

-- a value stands for one of the rules
abbrev pub IsShown : World → code_value.Value → Type 0
IsShown w u = (v : Value) × ShowsValue w u v

-- values stand for some, in order
abbrev pub AreShown : World → List code_value.Value → Type 0
AreShown w us = (vs : List Value) × ShowsValues w us vs

-- what waits for a value stands for one of the machine's continuations
abbrev pub ValuedShown : World → code_for_value.ForValue → Type 0
ValuedShown w f = (F : ForValue) × ShowsForValue w f F

-- What waits for a diagram is there: nodes of their forms, diagrams, and numbers that have their types.
abbrev pub DrawnThere : World → code_for_diagram.ForDiagram → Type 0
DrawnThere w (drawn.Left b e) = (b < size_of w.tree) × IsBinary (tree_in w.tree b)
DrawnThere w (drawn.Right o i) = i < count_of w.diagrams
DrawnThere w (drawn.Binding s n) = AreNumbered s n
DrawnThere w (drawn.Turning i us next is) = (i < count_of w.diagrams) × AreThere w.diagrams is.items
DrawnThere w (drawn.Counting a e) = (a < size_of w.tree) × IsIteration (tree_in w.tree a)
DrawnThere w (drawn.Body a e left is) =
    (a < size_of w.tree) × IsIteration (tree_in w.tree a) × AreThere w.diagrams is.items × AreIndexed (suc (length is.items)) left
DrawnThere w f = Unit {0}

-- ---- machines

-- Lists have grown, and nothing else has changed.
pub record Grew (p : Parsed) (old new : code_machine.Machine) : Type 0 where
  pub lists : Grows (world p old) (world p new)
  pub continuations : new.continuations ≡ old.continuations
  pub state : state_of new ≡ state_of old
  pub knows : Knows p old → Knows p new

-- Lists have grown, this many slots were taken, and nothing else has changed.
pub record Slots (p : Parsed) (old new : code_machine.Machine) (count : ℕ) : Type 0 where
  pub lists : Grows (world p old) (world p new)
  pub continuations : new.continuations ≡ old.continuations
  pub state : state_of new ≡ record (state_of old) { slot = old.slot + count }
  pub knows : Knows p old → Knows p new

-- the rule of a tree is begun in an environment
abbrev pub Begins : Parsed → (old new : code_machine.Machine) → Result code_focus.Focus EvalRefusal → ℕ → Tree → Type 0
Begins p old new r env x = (E : Env) → ShowsEnv (world p old) env E → Steps p old new r (λ Fs s. begin p.tokens x E Fs s)

-- ---- application

-- A function with one argument more, where it wants others after it.
abbrev pub took : Value → Value → Option Value
took (Abstraction x (y ∷ ys) b E) a = Some (Abstraction y ys b (Bound x a E))
took (Rules s rs E T) a = if nat_lt (count_taken (And a T)) (width rs) then Some (Rules s rs E (And a T)) else None
took v a = None

-- A function with the last argument that it wants, before others.
abbrev pub completed : Lexed → ℕ → Value → Value → List Value → List Continuation → State → Config
completed l start (Flat f) a more fs s = next_turned f (a ∷ more) [] fs s
completed l start (Abstraction x xs b E) a more fs s = Running (Visit b (Bound x a E)) (Valued (Leftover start more) ∷ fs) s
completed l start (Rules r rs E T) a more fs s = select l start E (chosen l rs (in_order (And a T) [])) more fs s

-- a function with the last argument that it wants goes on as the rules do
abbrev pub Completes : Parsed → (m n : code_machine.Machine) → Result code_focus.Focus EvalRefusal → ℕ → code_value.Value → List code_value.Value → ℕ → Type 0
Completes p m n r app u us at =
    (s : ℕ) (f ys : Tree) (v a : Value) (more : List Value) → ShowsTree (world p m) app (tree.Apply s f ys) → ShowsValue (world p m) u v → took v a ≡ None
    → ShowsValues (world p m) (drop at us) (a ∷ more) → Steps p m n r (λ Fs t. completed p.tokens s v a more Fs t)

-- this is the right side that rules choose with one argument more
abbrev pub Chooses : Parsed → (m n : code_machine.Machine) → Ruled → ℕ → ℕ → code_value.Value → Option (TreeId × List code_binding.Binding) → Type 0
Chooses p m n r count last u o =
    (T : Taken) (a : Value) → ShowsTaken (world p m) count last T → ShowsValue (world p m) u a
    → ShowsChoice (world p n) o (chosen p.tokens (rules_in p r) (in_order (And a T) []))

-- the right side that was chosen is visited with its bindings, or the application is refused
abbrev pub Selects : Parsed → (m n : code_machine.Machine) → Result code_focus.Focus EvalRefusal → ℕ → Option (TreeId × List code_binding.Binding) → ℕ
    → List code_value.Value → ℕ → Type 0
Selects p m n r app choice e us at =
    (s : ℕ) (f ys : Tree) (E : Env) (a : Value) (more : List Value) (o : Option (Tree × Bindings)) → ShowsTree (world p m) app (tree.Apply s f ys)
    → ShowsEnv (world p m) e E → ShowsValues (world p m) (drop at us) (a ∷ more) → ShowsChoice (world p m) choice o
    → Steps p m n r (λ Fs t. select p.tokens s E o more Fs t)

-- A value of the code shows the value that was taken; or there is neither.
abbrev pub ShowsTaking : World → Option code_value.Value → Option Value → Type 0
ShowsTaking w None None = Unit {0}
ShowsTaking w (Some u) (Some v) = ShowsValue w u v
ShowsTaking w o q = ⊥
