-- Lists that have grown show the pending work that they showed.
use Rattle.std.proofs.Common.{◌≡◌, ℕ, ◌<◌, List, [], ◌∷◌, length, drop, refl, sym, ap, subst, ◌∙◌}
use Rattle.std.proofs.lemmas.List.Elements.{All-head, All-tail, All-cons, All-nil}
use Rattle.fv_parse_grammar.specs.headline.Tree.{Tree}
use Rattle.fv_parse_grammar.specs.headline.Tree as tree
use Rattle.fv_parse_grammar.specs.Slider.{Slider as SliderKind}
use Rattle.fv_parse_grammar.specs.Iteration.{Iteration as Repetition}
use Rattle.fv_parse.specs.headline.Trees.{text_of, label_of}
use Rattle.fv_parse.specs.Trees.{Parsed}
use Rattle.fv_diagram.specs.headline.Diagram.{Diagram}
use Rattle.fv_diagram.specs.Arena.{count_of, tree_of}
use Rattle.fv_eval_scopes.specs.declared.value.Value as code_value
use Rattle.fv_rules.specs.headline.Values.{Name, Value, Env}
use Rattle.fv_eval_scopes.specs.Shows.{World, Draws, Grows}
use Rattle.fv_eval_scopes.proofs.lemmas.Grown.{tree_grows, value_grows, env_grows, values_grow}
use Rattle.fv_rules.specs.Machine.{ForValue, Function, Argument, Leftover, Parameter, ForDiagram, Left, Right, Later, Negated, Ports, Binding, Turning}
use Rattle.fv_rules.specs.Machine.{Counting, Body, Finish, Continuation, Valued, Drawn}
use Rattle.fv_eval_drawing.specs.Makes.{trees_of}
use Rattle.fv_eval.specs.declared.continuation.Continuation as code_continuation
use Rattle.fv_eval.specs.declared.continuation.Continuation.TheVariants as continuation
use Rattle.fv_eval.specs.declared.continuation.ForValue as code_for_value
use Rattle.fv_eval.specs.declared.continuation.ForValue.TheVariants as valued
use Rattle.fv_eval.specs.declared.continuation.ForDiagram as code_for_diagram
use Rattle.fv_eval.specs.declared.continuation.ForDiagram.TheVariants as drawn
use Rattle.fv_eval.specs.inner.Continuations.{AllDraw, ShowsArgument, ShowsLeftover, ShowsSlider, ShowsBodies, ShowsForValue, ShowsForDiagram}
use Rattle.fv_eval.specs.inner.Continuations.{ShowsContinuation, ShowsContinuations}

module _ (a b : World) (g : Grows a b) where
  -- diagrams that are there stay
  pub draws_grow : (is : List ℕ) (ds : List Diagram) → AllDraw a is ds → AllDraw b is ds
  draws_grow [] ds h = (All-nil (λ i. i < count_of b.diagrams), h.1)
  draws_grow (i ∷ is) ds h =
      let here : i < count_of a.diagrams = All-head (λ k. k < count_of a.diagrams) i is h.0 in
      let more : AllDraw b is (trees_of a.diagrams is) = draws_grow is (trees_of a.diagrams is) (All-tail (λ k. k < count_of a.diagrams) i is h.0, refl) in
      let d : Draws b i (tree_of a.diagrams i) = g.diagrams i (tree_of a.diagrams i) (here, refl) in (
        All-cons (λ k. k < count_of b.diagrams) i is d.0 more.0,
        ap (λ x. x ∷ trees_of b.diagrams is) d.1 ∙ ap (λ xs. tree_of a.diagrams i ∷ xs) more.1 ∙ h.1,
      )

  argument_grows : (i : ℕ) (u : code_value.Value) (e : ℕ) (us : List code_value.Value) (s : ℕ) (v : Value) (more : List Tree) (E : Env) (vs : List Value)
      → ShowsArgument a i u e us s v more E vs → ShowsArgument b i u e us s v more E vs
  argument_grows i u e us s v more E vs h = record {
    f = h.f;
    ys = h.ys;
    tree = tree_grows a b g i (tree.Apply s h.f h.ys) h.tree;
    more_are = h.more_are;
    function = value_grows a b g u v h.function;
    env = env_grows a b g e E h.env;
    done = values_grow a b g us vs h.done;
  }

  leftover_grows : (i : ℕ) (us : List code_value.Value) (next s : ℕ) (vs : List Value) → ShowsLeftover a i us next s vs → ShowsLeftover b i us next s vs
  leftover_grows i us next s vs h = record {
    f = h.f;
    ys = h.ys;
    tree = tree_grows a b g i (tree.Apply s h.f h.ys) h.tree;
    arguments = values_grow a b g (drop next us) vs h.arguments;
  }

  slider_grows : (i e done : ℕ) (k : SliderKind) (label : List ℕ) (E : Env) (xs : List Tree)
      → ShowsSlider a i e done k label E xs → ShowsSlider b i e done k label E xs
  slider_grows i e done k label E xs h = record {
    s = h.s;
    n = h.n;
    x0 = h.x0;
    x1 = h.x1;
    x2 = h.x2;
    x3 = h.x3;
    tree = tree_grows a b g i (tree.Slider h.s k h.n h.x0 h.x1 h.x2 h.x3) h.tree;
    label_is = subst (λ (p : Parsed). label ≡ label_of p.tokens h.n) (sym g.tree) h.label_is;
    rest = h.rest;
    env = env_grows a b g e E h.env;
  }

  pub for_value_grows : (f : code_for_value.ForValue) (F : ForValue) → ShowsForValue a f F → ShowsForValue b f F
  for_value_grows (valued.Function i e) (Function s args E) h = (h.0, h.1, tree_grows a b g i (tree.Apply s h.0 h.1) h.2, h.3, env_grows a b g e E h.4)
  for_value_grows (valued.Argument i u e us) (Argument s v more E vs) h = argument_grows i u e us.items s v more E vs h
  for_value_grows (valued.Leftover i us next) (Leftover s vs) h = leftover_grows i us.items next s vs h
  for_value_grows (valued.Parameter i e ns) (Parameter kind label s more E ms) h =
      (h.0, h.1, h.2, h.3, h.4, slider_grows i e (length ns.items) h.0 label E (h.1 ∷ more) h.5)
  for_value_grows f F h = absurd h

  bodies_grow : (i e : ℕ) (is : List ℕ) (r : Repetition) (x : Name) (t : Tree) (E : Env) (ds : List Diagram)
      → ShowsBodies a i e is r x t E ds → ShowsBodies b i e is r x t E ds
  bodies_grow i e is r x t E ds h = record {
    s = h.s;
    n = h.n;
    count = h.count;
    tree = tree_grows a b g i (tree.Iteration h.s r h.n h.count t) h.tree;
    name = subst (λ (p : Parsed). x ≡ text_of p.tokens h.n) (sym g.tree) h.name;
    env = env_grows a b g e E h.env;
    done = draws_grow is ds h.done;
  }

  pub for_diagram_grows : (f : code_for_diagram.ForDiagram) (F : ForDiagram) → ShowsForDiagram a f F → ShowsForDiagram b f F
  for_diagram_grows (drawn.Left i e) (Left o y E) h = (h.0, h.1, tree_grows a b g i (tree.Binary h.0 o h.1 y) h.2, env_grows a b g e E h.3)
  for_diagram_grows (drawn.Right o i) (Right q d) h = (h.0, g.diagrams i d h.1)
  for_diagram_grows drawn.Later Later h = h
  for_diagram_grows drawn.Negated Negated h = h
  for_diagram_grows (drawn.Ports s) (Ports t) h = h
  for_diagram_grows (drawn.Binding s n) (Binding t m) h = h
  for_diagram_grows (drawn.Turning i us next is) (Turning f vs ds) h =
      (g.diagrams i f h.0, values_grow a b g (drop next us.items) vs h.1, draws_grow is.items ds h.2)
  for_diagram_grows (drawn.Counting i e) (Counting r x s t E) h = (
    h.0,
    h.1,
    h.2,
    tree_grows a b g i (tree.Iteration h.0 r h.1 h.2 t) h.3,
    subst (λ (p : Parsed). x ≡ text_of p.tokens h.1) (sym g.tree) h.4,
    h.5,
    env_grows a b g e E h.6,
  )
  for_diagram_grows (drawn.Body i e left is) (Body r x t E k n ds) h = (bodies_grow i e is.items r x t E ds h.0, h.1, h.2, h.3)
  for_diagram_grows drawn.Finish Finish h = h
  for_diagram_grows f F h = absurd h

  pub continuation_grows : (f : code_continuation.Continuation) (F : Continuation) → ShowsContinuation a f F → ShowsContinuation b f F
  continuation_grows (continuation.Valued f) (Valued F) h = for_value_grows f F h
  continuation_grows (continuation.Drawn f) (Drawn F) h = for_diagram_grows f F h
  continuation_grows f F h = absurd h

  pub continuations_grow : (fs : List code_continuation.Continuation) (Fs : List Continuation) → ShowsContinuations a fs Fs
      → ShowsContinuations b fs Fs
  continuations_grow fs [] h = h
  continuations_grow fs (F ∷ Fs) h = (h.0, h.1, h.2, continuation_grows h.1 F h.3, continuations_grow h.0 Fs h.4)
