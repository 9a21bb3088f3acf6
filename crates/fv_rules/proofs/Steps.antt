-- No step changes what a configuration stands for.
use Rattle.std.proofs.Common.{◌≡◌, ℕ, zero, suc, ◌+◌, Bool, true, false, List, [], ◌∷◌, ◌++◌, length, ℤ, pos, Option, Some, None, Ok, Err, refl, sym, ap, ◌∙◌}
use Rattle.std.specs.Prelude.{codes, nat_lt, if◌then◌else◌}
use Rattle.fv_rules.specs.Token.{Lexed}
use Rattle.fv_rules.specs.Tree.{Tree, items, start_of}
use Rattle.fv_rules.specs.Tree as tree
use Rattle.fv_rules.specs.Iteration.{Iteration as Repetition}
use Rattle.fv_rules.specs.Op.TheVariants as op
use Rattle.fv_rules.specs.Primitive.TheVariants as prim
use Rattle.fv_rules.specs.Diagram.{Diagram, Primitive, Constant, Seq}
use Rattle.fv_rules.specs.ControlKind.{ControlKind}
use Rattle.fv_rules.specs.Trees.{text_of, label_of}
use Rattle.fv_rules.specs.headline.Values.{Name, Value, Flat, Abstraction, Rules, Env, Outermost, Bound, Scope, And, Definition, Plain}
use Rattle.fv_rules.specs.headline.Values.{Parameters, Cases, Meaning, IsValue, IsDefined, Unknown, lookup, in_order, count_taken}
use Rattle.fv_rules.specs.Numbers.{number_of}
use Rattle.fv_rules.specs.headline.Matching.{Bindings, settled, value_number, bound_in, chosen}
use Rattle.fv_rules.specs.headline.Steps.{State, Outcome, Eval, after, ◌>>=◌, give, spent, put, control}
use Rattle.fv_rules.specs.headline.Rules.{waveform, switch_kind, slider_kind, flat, on_slots, bind_all, turned, operated, joined}
use Rattle.fv_rules.specs.headline.Rules.{defined_value, meant, name_value, arguments, all_turned, fed, width, selected, applied, bodies}
use Rattle.fv_rules.specs.headline.Rules.{gathered, counted, read_number, parameters, slider_info, switch_info, abstraction, rule, ev}
use Rattle.fv_rules.specs.Rules.{FollowsValue, FollowsDiagram}
use Rattle.fv_rules.specs.Machine.{ForValue, Function, Argument, Leftover, Parameter, ForDiagram, Left, Right, Later, Negated, Ports, Binding}
use Rattle.fv_rules.specs.Machine.{Turning, Counting, Body, Finish, Continuation, Valued, Drawn, Visit, Call, Give, Config, Running, Ended}
use Rattle.fv_rules.specs.Machine.{valued, drawn, resumed, unwound, meaning, given, begin_definition, begin_name, begin_abstraction}
use Rattle.fv_rules.specs.Machine.{next_parameter, begin, visiting, calling, next_turned, select, apply, next_argument, next_body, first_body}
use Rattle.fv_rules.specs.Machine.{parameter_read, value_arrives, diagram_arrives, to_diagram, arrives, step, first}

after_after : {A B C : Type 0} (r : Outcome A) (f : A → Eval B) (g : B → Eval C) → after (after r f) g ≡ after r (λ x. f x >>= g)
after_after (Ok x) f g = refl
after_after (Err r) f g = refl

-- two evaluations one after the other, and a third: in either order of brackets
assoc : {A B C : Type 0} (m : Eval A) (f : A → Eval B) (g : B → Eval C) (s : State) → ((m >>= f) >>= g) s ≡ (m >>= λ x. (f x >>= g)) s
assoc m f g s = after_after (m s) f g

-- evaluations with the same outcomes, within a larger one
same_after : {A B : Type 0} (r : Outcome A) (f g : A → Eval B) → ((x : A) (s : State) → f x s ≡ g x s) → after r f ≡ after r g
same_after (Ok x) f g h = h x.0 x.1
same_after (Err r) f g h = refl

module _ (value : FollowsValue) (diagram : FollowsDiagram) where
  -- what follows is the same on both sides of a test
  choice_means : (l : Lexed) (b : Bool) (c d : Config) (m n : Eval Value) (K : Value → Eval Value) (s : State)
      → meaning l c ≡ (m >>= K) s → meaning l d ≡ (n >>= K) s → meaning l (if b then c else d) ≡ ((if b then m else n) >>= K) s
  choice_means l true c d m n K s p q = p
  choice_means l false c d m n K s p q = q

  -- a tree that is to be turned into a diagram is visited with a continuation for its diagram
  drawn_next : (l : Lexed) (g : ForDiagram) (x : Tree) (env : Env) (fs : List Continuation) (s : State)
      → meaning l (Running (Visit x env) (Drawn g ∷ fs) s) ≡ (((ev l).diagram x env >>= drawn l (ev l) g) >>= unwound l (ev l) fs) s
  drawn_next l g x env fs s =
      let e = ev l in
      let K : Value → Eval Value = unwound l e fs in
      sym (assoc (e.value x env) (resumed l e (Drawn g)) K s)
      ∙ ap (λ r. after r K) (sym (assoc (e.value x env) (turned l e) (drawn l e g) s) ∙ ap (λ r. after r (drawn l e g)) (sym (diagram l x env s)))

  -- and a tree whose value a continuation waits for
  valued_next : (l : Lexed) (f : ForValue) (x : Tree) (env : Env) (fs : List Continuation) (s : State)
      → meaning l (Running (Visit x env) (Valued f ∷ fs) s) ≡ (((ev l).value x env >>= valued l (ev l) f) >>= unwound l (ev l) fs) s
  valued_next l f x env fs s = sym (assoc ((ev l).value x env) (valued l (ev l) f) (unwound l (ev l) fs) s)

  given_means : (l : Lexed) (o : Outcome Value) (fs : List Continuation) → meaning l (given o fs) ≡ after o (unwound l (ev l) fs)
  given_means l (Ok x) fs = refl
  given_means l (Err r) fs = refl

  definition_means : (l : Lexed) (d : Definition) (env : Env) (fs : List Continuation) (s : State)
      → meaning l (begin_definition d env fs s) ≡ (defined_value (ev l) d env >>= unwound l (ev l) fs) s
  definition_means l (Plain body) env fs s = refl
  definition_means l (Parameters x xs body) env fs s = refl
  definition_means l (Cases start rs) env fs s = refl

  name_means : (l : Lexed) (x : Name) (m : Meaning) (fs : List Continuation) (s : State)
      → meaning l (begin_name x m fs s) ≡ (meant (ev l) x m >>= unwound l (ev l) fs) s
  name_means l x (IsValue v) fs s = refl
  name_means l x (IsDefined d env) fs s = definition_means l d env fs s
  name_means l x Unknown fs s = refl

  abstraction_means : (l : Lexed) (xs : List ℕ) (b : Tree) (env : Env) (fs : List Continuation) (s : State)
      → meaning l (begin_abstraction l xs b env fs s) ≡ (abstraction l (ev l) xs b env >>= unwound l (ev l) fs) s
  abstraction_means l [] b env fs s = refl
  abstraction_means l (x ∷ xs) b env fs s = refl

  parameter_means : (l : Lexed) (kind : ControlKind) (label : List ℕ) (xs : List Tree) (env : Env) (done : List ℤ) (fs : List Continuation) (s : State)
      → meaning l (next_parameter kind label xs env done fs s)
      ≡ ((parameters l (ev l) xs env done >>= λ ns. flat (control (slider_info kind label ns))) >>= unwound l (ev l) fs) s
  parameter_means l kind label [] env done fs s = given_means l (flat (control (slider_info kind label done)) s) fs
  parameter_means l kind label (x ∷ more) env done fs s =
      let e = ev l in
      let finish : List ℤ → Eval Value = λ ns. flat (control (slider_info kind label ns)) in
      let read : Value → Eval ℤ = λ v. read_number l (start_of x) (value_number v) in
      valued_next l (Parameter kind label (start_of x) more env done) x env fs s
      ∙ ap (λ r. after r (unwound l e fs)) (
      same_after (e.value x env s) _ _ (λ v t. sym (assoc (read v) (λ n. parameters l e more env (done ++ n ∷ [])) finish t))
      ∙ sym (assoc (e.value x env) (λ v. read v >>= λ n. parameters l e more env (done ++ n ∷ [])) finish s))

  begin_means : (l : Lexed) (x : Tree) (env : Env) (fs : List Continuation) (t : State)
      → meaning l (begin l x env fs t) ≡ (rule l (ev l) x env >>= unwound l (ev l) fs) t
  begin_means l (tree.Number s n) env fs t = refl
  begin_means l (tree.Negative s n) env fs t = refl
  begin_means l (tree.Primitive s p) env fs t = refl
  begin_means l (tree.Named s n) env fs t = name_means l (text_of l n) (lookup l env (text_of l n)) fs t
  begin_means l (tree.MinusNamed s n) env fs t =
      let e = ev l in
      let K : Value → Eval Value = unwound l e fs in
      let m : Eval Value = name_value l e (text_of l n) env in
      sym (assoc m (resumed l e (Drawn Negated)) K t)
  begin_means l (tree.Group s x) env fs t = refl
  begin_means l (tree.Panel s k n x) env fs t = refl
  begin_means l (tree.Where s x ds) env fs t = refl
  begin_means l (tree.Abstraction s ns x) env fs t = abstraction_means l ns x env fs t
  begin_means l (tree.Case s rs) env fs t = refl
  begin_means l (tree.Binary s o x y) env fs t = drawn_next l (Left o y env) x env fs t
  begin_means l (tree.Delayed s x) env fs t = drawn_next l Later x env fs t
  begin_means l (tree.Apply s x ys) env fs t = valued_next l (Function s (items ys) env) x env fs t
  begin_means l (tree.Iteration s r n x y) env fs t = drawn_next l (Counting r (text_of l n) (start_of x) y env) x env fs t
  begin_means l (tree.Ports s k x) env fs t = drawn_next l (Ports k) x env fs t
  begin_means l (tree.Waveform s xs) env fs t = given_means l (waveform l s xs t) fs
  begin_means l (tree.Switch s k n) env fs t = given_means l (flat (control (switch_info (switch_kind k) (label_of l n))) t) fs
  begin_means l (tree.Slider s k n x0 x1 x2 x3) env fs t = parameter_means l (slider_kind k) (label_of l n) (x0 ∷ x1 ∷ x2 ∷ x3 ∷ []) env [] fs t
  begin_means l x env fs t = refl

  visiting_means : (l : Lexed) (o : Outcome Unit) (x : Tree) (env : Env) (fs : List Continuation)
      → meaning l (visiting l o x env fs) ≡ after o (λ u. rule l (ev l) x env >>= unwound l (ev l) fs)
  visiting_means l (Ok u) x env fs = begin_means l x env fs u.1
  visiting_means l (Err r) x env fs = refl

  calling_means : (l : Lexed) (o : Outcome Unit) (x : Name) (env : Env) (fs : List Continuation)
      → meaning l (calling l o x env fs) ≡ after o (λ u. meant (ev l) x (lookup l env x) >>= unwound l (ev l) fs)
  calling_means l (Ok u) x env fs = name_means l x (lookup l env x) fs u.1
  calling_means l (Err r) x env fs = refl

  turned_means : (l : Lexed) (f : Diagram) (vs : List Value) (done : List Diagram) (fs : List Continuation) (s : State)
      → meaning l (next_turned f vs done fs s) ≡ ((all_turned l (ev l) vs done >>= fed f) >>= unwound l (ev l) fs) s
  turned_means l f [] done fs s = given_means l (fed f done s) fs
  turned_means l f (v ∷ more) done fs s =
      ap (λ r. after r (unwound l (ev l) fs)) (sym (assoc (turned l (ev l) v) (λ d. all_turned l (ev l) more (done ++ d ∷ [])) (fed f) s))

  select_means : (l : Lexed) (start : ℕ) (env : Env) (o : Option (Tree × Bindings)) (more : List Value) (fs : List Continuation) (s : State)
      → meaning l (select l start env o more fs s) ≡ ((selected l (ev l) start env o >>= λ v. applied l (ev l) start v more) >>= unwound l (ev l) fs) s
  select_means l start env None more fs s = refl
  select_means l start env (Some xb) more fs s = valued_next l (Leftover start more) xb.0 (bound_in env xb.1) fs s

  apply_means : (l : Lexed) (start : ℕ) (v : Value) (vs : List Value) (fs : List Continuation) (s : State)
      → meaning l (apply l start v vs fs s) ≡ (applied l (ev l) start v vs >>= unwound l (ev l) fs) s
  apply_means l start v [] fs s = refl
  apply_means l start (Flat f) (a ∷ more) fs s = turned_means l f (a ∷ more) [] fs s
  apply_means l start (Abstraction x [] b env) (a ∷ more) fs s = valued_next l (Leftover start more) b (Bound x a env) fs s
  apply_means l start (Abstraction x (y ∷ ys) b env) (a ∷ more) fs s = apply_means l start (Abstraction y ys b (Bound x a env)) more fs s
  apply_means l start (Rules p rs env taken) (a ∷ more) fs s =
      choice_means l (nat_lt (count_taken (And a taken)) (width rs)) _ _ _ _ (unwound l (ev l) fs) s
      (apply_means l start (Rules p rs env (And a taken)) more fs s)
      (select_means l start env (chosen l rs (in_order (And a taken) [])) more fs s)

  argument_means : (l : Lexed) (start : ℕ) (f : Value) (xs : List Tree) (env : Env) (done : List Value) (fs : List Continuation) (s : State)
      → meaning l (next_argument l start f xs env done fs s) ≡ ((arguments (ev l) xs env done >>= applied l (ev l) start f) >>= unwound l (ev l) fs) s
  argument_means l start f [] env done fs s = apply_means l start f done fs s
  argument_means l start f (x ∷ xs) env done fs s =
      valued_next l (Argument start f xs env done) x env fs s
      ∙ ap (λ r. after r (unwound l (ev l) fs)) (sym (assoc ((ev l).value x env) (λ w. arguments (ev l) xs env (done ++ settled w ∷ [])) (applied l (ev l)
      start f) s))

  body_means : (l : Lexed) (r : Repetition) (x : Name) (b : Tree) (env : Env) (i k : ℕ) (done : List Diagram) (fs : List Continuation) (s : State)
      → meaning l (next_body r x b env i k done fs s) ≡ ((bodies (ev l) x b env i k done >>= gathered r) >>= unwound l (ev l) fs) s
  body_means l r x b env i zero done fs s = given_means l (gathered r done s) fs
  body_means l r x b env i (suc k) done fs s =
      let inside : Env = Bound x (Flat (Constant (pos i))) env in
      drawn_next l (Body r x b env (suc i) k done) b inside fs s
      ∙ ap (λ o. after o (unwound l (ev l) fs)) (sym (assoc ((ev l).diagram b inside) (λ d. bodies (ev l) x b env (suc i) k (done ++ d ∷ [])) (gathered r) s))

  first_body_means : (l : Lexed) (r : Repetition) (x : Name) (b : Tree) (env : Env) (o : Outcome ℕ) (fs : List Continuation)
      → meaning l (first_body r x b env o fs) ≡ after (after o (λ k. bodies (ev l) x b env 0 k [] >>= gathered r)) (unwound l (ev l) fs)
  first_body_means l r x b env (Ok k) fs = body_means l r x b env 0 k.0 [] fs k.1
  first_body_means l r x b env (Err e) fs = refl

  read_means : (l : Lexed) (kind : ControlKind) (label : List ℕ) (more : List Tree) (env : Env) (done : List ℤ) (o : Outcome ℤ) (fs : List Continuation)
      → meaning l (parameter_read kind label more env done o fs)
      ≡ after (after o (λ n. parameters l (ev l) more env (done ++ n ∷ []) >>= λ ns. flat (control (slider_info kind label ns)))) (unwound l (ev l) fs)
  read_means l kind label more env done (Ok n) fs = parameter_means l kind label more env (done ++ n.0 ∷ []) fs n.1
  read_means l kind label more env done (Err r) fs = refl

  value_means : (l : Lexed) (f : ForValue) (v : Value) (fs : List Continuation) (s : State)
      → meaning l (value_arrives l f v fs s) ≡ (valued l (ev l) f v >>= unwound l (ev l) fs) s
  value_means l (Function start args env) v fs s = argument_means l start v args env [] fs s
  value_means l (Argument start f more env done) v fs s = argument_means l start f more env (done ++ settled v ∷ []) fs s
  value_means l (Leftover start args) v fs s = apply_means l start v args fs s
  value_means l (Parameter kind label start more env done) v fs s = read_means l kind label more env done (read_number l start (value_number v) s) fs

  diagram_means : (l : Lexed) (g : ForDiagram) (d : Diagram) (fs : List Continuation) (s : State)
      → meaning l (diagram_arrives l g d fs s) ≡ (drawn l (ev l) g d >>= unwound l (ev l) fs) s
  diagram_means l (Left o y env) a fs s = drawn_next l (Right o a) y env fs s
  diagram_means l (Right o a) b fs s = given_means l (flat (joined o a b) s) fs
  diagram_means l Later d fs s = given_means l (flat (put (Seq d (Primitive prim.Mem))) s) fs
  diagram_means l Negated d fs s = given_means l (flat (operated (prim.Point op.Sub) (Constant (pos 0)) d) s) fs
  diagram_means l (Ports side) d fs s = refl
  diagram_means l (Binding slot n) d fs s = given_means l (flat (bind_all slot n d) s) fs
  diagram_means l (Turning f more done) d fs s = turned_means l f more (done ++ d ∷ []) fs s
  diagram_means l (Counting r x start b env) d fs s = first_body_means l r x b env (counted l start (number_of d) s) fs
  diagram_means l (Body r x b env i n done) d fs s = body_means l r x b env i n (done ++ d ∷ []) fs s
  diagram_means l Finish d fs s = refl

  to_diagram_means : (l : Lexed) (g : ForDiagram) (v : Value) (fs : List Continuation) (s : State)
      → meaning l (to_diagram l g v fs s) ≡ ((turned l (ev l) v >>= drawn l (ev l) g) >>= unwound l (ev l) fs) s
  to_diagram_means l g (Flat d) fs s = diagram_means l g d fs s
  to_diagram_means l g (Abstraction x xs b env) fs s =
      let e = ev l in
      let n = length (x ∷ xs) in
      let inside : Env = on_slots (x ∷ xs) s.slot env in
      let t : State = record s { slot = s.slot + n } in
      let K : Value → Eval Value = unwound l e fs in
      drawn_next l (Binding s.slot n) b inside (Drawn g ∷ fs) t
      ∙ sym (assoc (e.diagram b inside >>= drawn l e (Binding s.slot n)) (resumed l e (Drawn g)) K t)
      ∙ ap (λ r. after r K) (
      after_after ((e.diagram b inside) t) (drawn l e (Binding s.slot n)) (resumed l e (Drawn g))
      ∙ same_after ((e.diagram b inside) t) (λ d. drawn l e (Binding s.slot n) d >>= resumed l e (Drawn g)) (λ d. bind_all s.slot n d >>= drawn l e g)
      (λ d u. assoc (bind_all s.slot n d) (λ c. give (Flat c)) (resumed l e (Drawn g)) u)
      ∙ sym (after_after ((e.diagram b inside) t) (λ d. bind_all s.slot n d) (drawn l e g)))
  to_diagram_means l g (Rules start rs env taken) fs s = refl

  arrives_means : (l : Lexed) (v : Value) (fs : List Continuation) (s : State) → meaning l (arrives l v fs s) ≡ unwound l (ev l) fs v s
  arrives_means l v [] s = refl
  arrives_means l v (Valued f ∷ fs) s = value_means l f v fs s
  arrives_means l v (Drawn g ∷ fs) s = to_diagram_means l g v fs s

  -- one step
  pub step_means : (l : Lexed) (c : Config) → meaning l (step l c) ≡ meaning l c
  step_means l (Running (Visit x env) fs s) =
      visiting_means l (spent s.visits s) x env fs
      ∙ sym (after_after (spent s.visits s) (λ u. rule l (ev l) x env) (unwound l (ev l) fs))
      ∙ ap (λ r. after r (unwound l (ev l) fs)) (sym (value l x env s))
  step_means l (Running (Call name env) fs s) =
      calling_means l (spent s.visits s) name env fs
      ∙ sym (after_after (spent s.visits s) (λ u. meant (ev l) name (lookup l env name)) (unwound l (ev l) fs))
  step_means l (Running (Give v) fs s) = arrives_means l v fs s
  step_means l (Ended o) = refl

-- where it begins
pub start_means : (l : Lexed) (x : Tree) (s : State)
    → meaning l (first x s) ≡ (flat (name_value l (ev l) (codes "process") (Scope x Outermost) >>= turned l (ev l))) s
start_means l x s =
    let e = ev l in
    let m : Eval Value = name_value l e (codes "process") (Scope x Outermost) in
    sym (assoc m (resumed l e (Drawn Finish)) (unwound l e []) s)
    ∙ after_give ((m >>= resumed l e (Drawn Finish)) s)
    ∙ sym (assoc m (turned l e) (drawn l e Finish) s)
  where
    after_give : (r : Outcome Value) → after r (λ v. give v) ≡ r
    after_give (Ok y) = refl
    after_give (Err r) = refl
