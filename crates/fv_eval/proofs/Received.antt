-- A diagram arrives where one is waited for.
use Rattle.std.proofs.Common.{◌≡◌, ℕ, suc, ◌+◌, List, [], ◌∷◌, ◌++◌, length, drop, Some, None, Vec, Result, Ok, Err, pos, refl, sym, ap, subst, ◌∙◌, arith}
use Rattle.std.specs.Prelude.{slice_get}
use Rattle.std.specs.declared.alloc.Global.{Global}
use Rattle.std.proofs.lemmas.List.{length_push}
use Rattle.fv_parse_grammar.specs.headline.Tree.{Tree, start_of}
use Rattle.fv_parse_grammar.specs.headline.Tree as tree
use Rattle.fv_parse_grammar.specs.declared.form.Operator.{Operator}
use Rattle.fv_parse_grammar.specs.Iteration.{Iteration as Repetition}
use Rattle.fv_parse_grammar.specs.Side.{Side}
use Rattle.fv_diagram.specs.Op.TheVariants as op
use Rattle.fv_parse.specs.headline.Trees.{text_of}
use Rattle.fv_parse.specs.Trees.{Parsed}
use Rattle.fv_diagram.specs.Primitive.TheVariants as prim
use Rattle.fv_diagram.specs.headline.Diagram.{Diagram, Primitive, Constant, Seq}
use Rattle.fv_diagram.specs.Arena.{tree_of}
use Rattle.fv_eval_drawing.specs.Makes.{Canvas, Extends, Makes, MakesValue, trees_of}
use Rattle.fv_eval_drawing.proofs.lemmas.Gathered.{as_value}
use Rattle.fv_rules.specs.declared.refusal.EvalRefusal.{EvalRefusal}
use Rattle.fv_eval_scopes.specs.declared.value.Value as code_value
use Rattle.fv_eval_scopes.specs.declared.value.Value.TheVariants as value
use Rattle.fv_rules.specs.headline.Values.{Name, Value, Flat, Env}
use Rattle.fv_rules.specs.Numbers.{number_of}
use Rattle.fv_rules.specs.headline.Steps.{Eval, put}
use Rattle.fv_rules.specs.headline.Rules.{bind_all, counted, fed, flat, joined, operated, ports}
use Rattle.fv_eval_scopes.specs.Shows.{World, Draws, ShowsTree, ShowsValues, ShowsEnv}
use Rattle.fv_rules.specs.Machine.{ForDiagram, Left, Right, Later, Negated, Ports, Binding, Turning, Counting, Body, Finish, Drawn, Visit, Give, Running}
use Rattle.fv_rules.specs.Machine.{diagram_arrives, first_body, given, next_body, next_turned}
use Rattle.fv_eval.specs.declared.continuation.Continuation as code_continuation
use Rattle.fv_eval.specs.declared.continuation.Continuation.TheVariants as continuation
use Rattle.fv_eval.specs.declared.continuation.Focus as code_focus
use Rattle.fv_eval.specs.declared.continuation.Focus.TheVariants as focus
use Rattle.fv_eval.specs.declared.continuation.ForDiagram as code_for_diagram
use Rattle.fv_eval.specs.declared.continuation.ForDiagram.TheVariants as drawn
use Rattle.fv_eval.specs.declared.machine.Machine as code_machine
use Rattle.fv_eval.specs.inner.Continuations.{AllDraw, gave, ShowsBodies, ShowsForDiagram, Steps, world}
use Rattle.fv_eval.proofs.Moves.{gives, put_goes, put_refused}
use Rattle.fv_eval.proofs.Places.{drop_at_end, drop_at_get, drop_behind}
use Rattle.fv_eval.proofs.There.{draws_push, first_left}

-- ---- what was put

pub made_goes : (p : Parsed) (m : code_machine.Machine) (new : Canvas) (r : Result ℕ EvalRefusal) (o : Eval Value) → Extends m.drawing new
    → MakesValue m.drawing new o r
    → Steps p m (record m { drawing = new }) (gave r) (λ Fs s. given (o s) Fs)
made_goes p m new (Ok i) o g h = put_goes p m new i o g h
made_goes p m new (Err e) o g h = put_refused p m (record m { drawing = new }) new e o h

-- ---- the continuations

-- what a continuation makes of a diagram
abbrev pub Receives : Parsed → (m n : code_machine.Machine) → Result code_focus.Focus EvalRefusal → code_for_diagram.ForDiagram → ℕ → Type 0
Receives p m n r f i =
    (F : ForDiagram) (d : Diagram) → ShowsForDiagram (world p m) f F → Draws (world p m) i d → Steps p m n r (λ Fs s. diagram_arrives p.tokens F d Fs s)

pub left_receives : (p : Parsed) (m n : code_machine.Machine) (r : Result code_focus.Focus EvalRefusal) (b e i : ℕ)
    → ((s : ℕ) (o : Operator) (x y : Tree) (E : Env) (a : Diagram)
    → ShowsTree (world p m) b (tree.Binary s o x y) → ShowsEnv (world p m) e E → Draws (world p m) i a
    → Steps p m n r (λ Fs t. Running (Visit y E) (Drawn (Right o a) ∷ Fs) t)) → Receives p m n r (drawn.Left b e) i
left_receives p m n r b e i go (Left o y E) d h k = go h.0 o h.1 y E d h.2 h.3 k
left_receives p m n r b e i go F d h k = absurd h

pub right_receives : (p : Parsed) (m : code_machine.Machine) (new : Canvas) (r : Result ℕ EvalRefusal) (o : Operator) (left i : ℕ)
    → Extends m.drawing new
    → Makes m.drawing new (joined o (tree_of m.drawing.diagrams left) (tree_of m.drawing.diagrams i)) r
    → Receives p m (record m { drawing = new }) (gave r) (drawn.Right o left) i
right_receives p m new r o left i g h (Right q a) d k e =
    let h0 = subst (λ (x : Operator). Makes m.drawing new
    (joined x (tree_of m.drawing.diagrams left) (tree_of m.drawing.diagrams i)) r) k.0 h in
    let h1 = subst (λ (x : Diagram). Makes m.drawing new (joined q x (tree_of m.drawing.diagrams i)) r) k.1.1 h0 in
    let h2 = subst (λ (x : Diagram). Makes m.drawing new (joined q a x) r) e.1 h1 in
    made_goes p m new r (flat (joined q a d)) g (as_value m.drawing new (joined q a d) r h2)
right_receives p m new r o left i g h F d k e = absurd k

pub later_receives : (p : Parsed) (m : code_machine.Machine) (new : Canvas) (r : Result ℕ EvalRefusal) (i : ℕ) → Extends m.drawing new
    → Makes m.drawing new (put (Seq (tree_of m.drawing.diagrams i) (Primitive prim.Mem))) r
    → Receives p m (record m { drawing = new }) (gave r) drawn.Later i
later_receives p m new r i g h Later d k e =
    let h1 = subst (λ (x : Diagram). Makes m.drawing new (put (Seq x (Primitive prim.Mem))) r) e.1 h in
    made_goes p m new r (flat (put (Seq d (Primitive prim.Mem)))) g (as_value m.drawing new (put (Seq d (Primitive prim.Mem))) r h1)
later_receives p m new r i g h F d k e = absurd k

pub negated_receives : (p : Parsed) (m : code_machine.Machine) (new : Canvas) (r : Result ℕ EvalRefusal) (i : ℕ) → Extends m.drawing new
    → Makes m.drawing new (operated (prim.Point op.Sub) (Constant (pos 0)) (tree_of m.drawing.diagrams i)) r
    → Receives p m (record m { drawing = new }) (gave r) drawn.Negated i
negated_receives p m new r i g h Negated d k e =
    let h1 = subst (λ (x : Diagram). Makes m.drawing new (operated (prim.Point op.Sub) (Constant (pos 0)) x) r) e.1 h in
    made_goes p m new r (flat (operated (prim.Point op.Sub) (Constant (pos 0)) d)) g
    (as_value m.drawing new (operated (prim.Point op.Sub) (Constant (pos 0)) d) r h1)
negated_receives p m new r i g h F d k e = absurd k

pub binding_receives : (p : Parsed) (m : code_machine.Machine) (new : Canvas) (r : Result ℕ EvalRefusal) (slot slots i : ℕ)
    → Extends m.drawing new
    → Makes m.drawing new (bind_all slot slots (tree_of m.drawing.diagrams i)) r
    → Receives p m (record m { drawing = new }) (gave r) (drawn.Binding slot slots) i
binding_receives p m new r slot slots i g h (Binding t n) d k e =
    let h0 = subst (λ (x : ℕ). Makes m.drawing new (bind_all x slots (tree_of m.drawing.diagrams i)) r) k.0 h in
    let h1 = subst (λ (x : ℕ). Makes m.drawing new (bind_all t x (tree_of m.drawing.diagrams i)) r) k.1 h0 in
    let h2 = subst (λ (x : Diagram). Makes m.drawing new (bind_all t n x) r) e.1 h1 in
    made_goes p m new r (flat (bind_all t n d)) g (as_value m.drawing new (bind_all t n d) r h2)
binding_receives p m new r slot slots i g h F d k e = absurd k

pub ports_receives : (p : Parsed) (m n : code_machine.Machine) (r : Result code_focus.Focus EvalRefusal) (side : Side) (i : ℕ)
    → ((d : Diagram) → Draws (world p m) i d → Steps p m n r (λ Fs s. Running (Give (Flat (ports side d))) Fs s)) → Receives p m n r (drawn.Ports side) i
ports_receives p m n r side i go (Ports t) d k e = subst (λ (x : Side). Steps p m n r (λ Fs s. Running (Give (Flat (ports x d))) Fs s)) k (go d e)
ports_receives p m n r side i go F d k e = absurd k

-- what going on with the arguments of a diagram answers
abbrev pub Feeds : Parsed → (m n : code_machine.Machine) → Result code_focus.Focus EvalRefusal → ℕ → List code_value.Value → List ℕ → Type 0
Feeds p m n r f us is = (d : Diagram) (vs : List Value) (ds : List Diagram) → Draws (world p m) f d → ShowsValues (world p m) us vs → AllDraw (world p m) is ds
    → Steps p m n r (λ Fs s. next_turned d vs ds Fs s)

pub turning_receives : (p : Parsed) (m n : code_machine.Machine) (r : Result code_focus.Focus EvalRefusal) (f : ℕ) (us : Vec code_value.Value Global) (next : ℕ)
    (is : Vec ℕ Global) (js : List ℕ) (i : ℕ)
    → js ≡ is.items ++ i ∷ [] → Feeds p m n r f (drop next us.items) js → Receives p m n r (drawn.Turning f us next is) i
turning_receives p m n r f us next is js i e go (Turning g vs ds) d k h =
    go g vs (ds ++ d ∷ []) k.0 k.1 (subst (λ xs. AllDraw (world p m) xs (ds ++ d ∷ [])) (sym e) (draws_push (world p m) is.items ds i d k.2 h))
turning_receives p m n r f us next is js i e go F d k h = absurd k

pub counting_receives : (p : Parsed) (m n : code_machine.Machine) (r : Result code_focus.Focus EvalRefusal) (a e i : ℕ)
    → ((s : ℕ) (q : Repetition) (x : ℕ) (c b : Tree) (E : Env) (d : Diagram)
    → ShowsTree (world p m) a (tree.Iteration s q x c b) → ShowsEnv (world p m) e E → Draws (world p m) i d
    → Steps p m n r (λ Fs t. first_body q (text_of p.tokens x) b E (counted p.tokens (start_of c) (number_of d) t) Fs))
    → Receives p m n r (drawn.Counting a e) i
counting_receives p m n r a e i go (Counting q x s b E) d k h =
    let g = go k.0 q k.1 k.2 b E d k.3 k.6 h in
    let g1 = subst (λ (y : Name). Steps p m n r (λ Fs t. first_body q y b E (counted p.tokens (start_of k.2) (number_of d) t) Fs)) (sym k.4) g in
    subst (λ (y : ℕ). Steps p m n r (λ Fs t. first_body q x b E (counted p.tokens y (number_of d) t) Fs)) (sym k.5) g1
counting_receives p m n r a e i go F d k h = absurd k

-- what going on with the bodies of an iteration answers
abbrev pub Repeats : Parsed → (m n : code_machine.Machine) → Result code_focus.Focus EvalRefusal → (a e left : ℕ) → List ℕ → Type 0
Repeats p m n r a e left is = (q : Repetition) (x : Name) (b : Tree) (E : Env) (ds : List Diagram) → ShowsBodies (world p m) a e is q x b E ds
    → Steps p m n r (λ Fs t. next_body q x b E (length is) left ds Fs t)

one_body_more : (w : World) (a e : ℕ) (is : List ℕ) (q : Repetition) (x : Name) (b : Tree) (E : Env) (ds : List Diagram) (i : ℕ) (d : Diagram)
    → ShowsBodies w a e is q x b E ds → Draws w i d
    → ShowsBodies w a e (is ++ i ∷ []) q x b E (ds ++ d ∷ [])
one_body_more w a e is q x b E ds i d h k =
    record { s = h.s; n = h.n; count = h.count; tree = h.tree; name = h.name; env = h.env; done = draws_push w is ds i d h.done k }

pub body_receives : (p : Parsed) (m n : code_machine.Machine) (r : Result code_focus.Focus EvalRefusal) (a e left : ℕ) (is : Vec ℕ Global) (js : List ℕ) (i : ℕ)
    → js ≡ is.items ++ i ∷ [] → Repeats p m n r a e left js → Receives p m n r (drawn.Body a e left is) i
body_receives p m n r a e left is js i is_more go (Body q x b E next k ds) d h g =
    let all = ds ++ d ∷ [] in
    let shown =
    subst (λ (xs : List ℕ). ShowsBodies (world p m) a e xs q x b E all) (sym is_more) (one_body_more (world p m) a e is.items q x b E ds i d h.0 g) in
    let count : length js ≡ next = omega (arith, ap length is_more, length_push is.items i, h.1) in
    let t = go q x b E all shown in
    let t1 = subst (λ (j : ℕ). Steps p m n r (λ Fs s. next_body q x b E j left all Fs s)) count t in
    subst (λ (j : ℕ). Steps p m n r (λ Fs s. next_body q x b E next j all Fs s)) h.2 t1
body_receives p m n r a e left is js i is_more go F d h g = absurd h

pub finish_receives : (p : Parsed) (m : code_machine.Machine) (i : ℕ) → Receives p m m (Ok (focus.Give (value.Diagram i))) drawn.Finish i
finish_receives p m i Finish d h g = gives p m (value.Diagram i) (Flat d) g
finish_receives p m i F d h g = absurd h

-- the same of another name for the continuation and for what is done next
pub received : (p : Parsed) (m n : code_machine.Machine) (r s : Result code_focus.Focus EvalRefusal) (f g : code_for_diagram.ForDiagram) (i : ℕ) → s ≡ r → f ≡ g
    → Receives p m n r g i → Receives p m n s f i
received p m n r s f g i e k go =
    subst (λ (x : Result code_focus.Focus EvalRefusal). Receives p m n x f i)
    (sym e) (subst (λ (x : code_for_diagram.ForDiagram). Receives p m n r x i) (sym k) go)

-- ---- the arguments of a diagram

-- the next one is turned
pub next_turns : (p : Parsed) (m : code_machine.Machine)
    (fs : List code_continuation.Continuation) (f at next : ℕ) (us : Vec code_value.Value Global) (is : Vec ℕ Global) (u : code_value.Value)
    → slice_get us.items at ≡ Some u → next ≡ at + 1 → fs ≡ m.continuations ++ continuation.Drawn (drawn.Turning f us next is) ∷ []
    → Feeds p m (record m { continuations = fs }) (Ok (focus.Give u)) f (drop at us.items) is.items
next_turns p m fs f at next us is u got one pushed d [] ds h k g Fs kept = let here = drop_at_get us.items at u got in absurd (cc)
next_turns p m fs f at next us is u got one pushed d (v ∷ more) ds h k g Fs kept =
    let next_is : next ≡ suc at = omega (arith, one) in
    let left : drop next us.items ≡ k.1 = ap (λ (j : ℕ). drop j us.items) next_is ∙ drop_behind us.items at k.0 k.1 k.2 in
    let rest : ShowsValues (world p m) (drop next us.items) more = subst (λ (xs : List code_value.Value). ShowsValues (world p m) xs more) (sym left) k.4 in (
      v,
      Drawn (Turning d more ds) ∷ Fs,
      refl,
      first_left (world p m) us.items at u v more got k,
      (kept.0, (m.continuations, continuation.Drawn (drawn.Turning f us next is), pushed, (h, rest, g), kept.1)),
    )

-- all are turned, and the diagram is fed with them
pub feeds_all : (p : Parsed) (m : code_machine.Machine)
    (new : Canvas) (r : Result ℕ EvalRefusal) (res : Result code_focus.Focus EvalRefusal) (f at : ℕ) (us : List code_value.Value)
    (is : List ℕ)
    → slice_get us at ≡ None → Extends m.drawing new
    → MakesValue m.drawing new (fed (tree_of m.drawing.diagrams f) (trees_of m.drawing.diagrams is)) r → res ≡ gave r
    → Feeds p m (record m { drawing = new }) res f (drop at us) is
feeds_all p m new r res f at us is none g made res_is d [] ds h k shown =
    let made1 = subst (λ (x : Diagram). MakesValue m.drawing new (fed x (trees_of m.drawing.diagrams is)) r) h.1 made in
    let made2 = subst (λ (xs : List Diagram). MakesValue m.drawing new (fed d xs) r) shown.1 made1 in
    subst (λ (x : Result code_focus.Focus EvalRefusal). Steps p m (record m { drawing = new }) x (λ Fs s. next_turned d [] ds Fs s))
    (sym res_is) (made_goes p m new r (fed d ds) g made2)
feeds_all p m new r res f at us is none g made res_is d (v ∷ more) ds h k shown = let ended = drop_at_end us at none in let here = k.2 in absurd (cc)
