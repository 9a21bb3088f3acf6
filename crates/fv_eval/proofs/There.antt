-- What is shown is there.
use Rattle.std.proofs.Common.{◌≡◌, ℕ, ◌<◌, List, [], ◌∷◌, ◌++◌, drop, Some, Vec, All, refl, sym, ap, subst, ◌∙◌}
use Rattle.std.specs.Prelude.{slice_get}
use Rattle.std.proofs.lemmas.List.Elements.{All-cons, All-nil, All-append}
use Rattle.std.specs.declared.alloc.Global.{Global}
use Rattle.std.proofs.lemmas.List.{map-append}
use Rattle.fv_diagram.specs.headline.Diagram.{Diagram}
use Rattle.fv_diagram.specs.Arena.{count_of, tree_of}
use Rattle.fv_eval_scopes.specs.declared.value.Value as code_value
use Rattle.fv_eval_scopes.specs.declared.value.Value.TheVariants as value
use Rattle.fv_rules.specs.headline.Values.{Value, Flat, Abstraction, Rules}
use Rattle.fv_eval_scopes.specs.Shows.{World, Draws, Grows, ShowsValue, ShowsValues}
use Rattle.fv_rules.specs.headline.Matching.{settled}
use Rattle.fv_eval_scopes.proofs.lemmas.Grown.{value_grows, values_grow}
use Rattle.fv_rules.specs.Machine.{ForValue, Argument, ForDiagram, Left, Right, Binding, Turning, Counting, Body}
use Rattle.fv_eval_drawing.specs.Makes.{IsThere as IsDrawn}
use Rattle.fv_eval.specs.declared.continuation.ForValue.TheVariants as valued
use Rattle.fv_eval.specs.declared.continuation.ForDiagram as code_for_diagram
use Rattle.fv_eval.specs.declared.continuation.ForDiagram.TheVariants as drawn
use Rattle.fv_eval.proofs.Forms.{is_binary, is_iteration}
use Rattle.fv_eval.proofs.Places.{get_at_drop}
use Rattle.fv_eval.specs.inner.Continuations.{AllDraw, AreShown, DrawnThere, IsShown, IsThere, ShowsForDiagram, ShowsForValue, ValuedShown}

-- ---- values

pub value_there : (w : World) (u : code_value.Value) (v : Value) → ShowsValue w u v → IsThere w u
value_there w (value.Diagram i) (Flat d) h = h.0
value_there w (value.Abstraction f n e) (Abstraction x xs b E) h = h.0
value_there w (value.Rules r e n i) (Rules s rs E T) h = h.0
value_there w u v h = absurd h

pub shown_there : (w : World) (u : code_value.Value) → IsShown w u → IsThere w u
shown_there w u h = value_there w u h.0 h.1

pub there_drawn : (w : World) (u : code_value.Value) → IsThere w u → IsDrawn w.diagrams u
there_drawn w (value.Diagram i) h = h
there_drawn w u h = tt

pub values_drawn : (w : World) (us : List code_value.Value) (vs : List Value) → ShowsValues w us vs → All (IsDrawn w.diagrams) us
values_drawn w us [] h = subst (λ (xs : List code_value.Value). All (IsDrawn w.diagrams) xs) (sym h) (All-nil (IsDrawn w.diagrams))
values_drawn w us (v ∷ vs) h =
    subst (λ (xs : List code_value.Value). All (IsDrawn w.diagrams) xs) (sym h.2)
    (All-cons (IsDrawn w.diagrams) h.0 h.1 (there_drawn w h.0 (value_there w h.0 v h.3)) (values_drawn w h.1 vs h.4))

-- one value more, after the others
pub values_push : (w : World) (us : List code_value.Value) (vs : List Value) (u : code_value.Value) (v : Value) → ShowsValues w us vs → ShowsValue w u v
    → ShowsValues w (us ++ u ∷ []) (vs ++ v ∷ [])
values_push w us [] u v h k = (u, [], ap (λ (xs : List code_value.Value). xs ++ u ∷ []) h, k, refl)
values_push w us (x ∷ vs) u v h k =
    (h.0, h.1 ++ u ∷ [], ap (λ (xs : List code_value.Value). xs ++ u ∷ []) h.2, h.3, values_push w h.1 vs u v h.4 k)

-- the first of the values that are left is the one at the place
pub first_left : (w : World) (us : List code_value.Value) (at : ℕ) (u : code_value.Value) (a : Value) (more : List Value) → slice_get us at ≡ Some u
    → ShowsValues w (drop at us) (a ∷ more) → ShowsValue w u a
first_left w us at u a more e h =
    let same : Some u ≡ Some h.0 = sym e ∙ get_at_drop us at h.0 h.1 h.2 in
    let is : h.0 ≡ u = cc in
    subst (λ (x : code_value.Value). ShowsValue w x a) is h.3

-- one diagram more, after the others
pub draws_push : (w : World) (is : List ℕ) (ds : List Diagram) (i : ℕ) (d : Diagram) → AllDraw w is ds → Draws w i d → AllDraw w (is ++ i ∷ []) (ds ++ d ∷ [])
draws_push w is ds i d h k = (
  All-append (λ j. j < count_of w.diagrams) is (i ∷ []) h.0 (All-cons (λ j. j < count_of w.diagrams) i [] k.0 (All-nil (λ j. j < count_of w.diagrams))),
  map-append (λ j. tree_of w.diagrams j) is (i ∷ []) ∙ ap (λ xs. xs ++ tree_of w.diagrams i ∷ []) h.1 ∙ ap (λ (x : Diagram). ds ++ x ∷ []) k.1,
)

-- ---- continuations

pub drawn_there : (w : World) (f : code_for_diagram.ForDiagram) (F : ForDiagram) → ShowsForDiagram w f F → DrawnThere w f
drawn_there w drawn.Later F h = tt
drawn_there w drawn.Negated F h = tt
drawn_there w (drawn.Ports s) F h = tt
drawn_there w (drawn.Binding s n) (Binding t m) h = h.2
drawn_there w drawn.Finish F h = tt
drawn_there w (drawn.Left b e) (Left o y E) h = (h.2.0, is_binary h.2.1)
drawn_there w (drawn.Right o i) (Right q a) h = h.1.0
drawn_there w (drawn.Turning i us next is) (Turning f vs ds) h = (h.0.0, h.2.0)
drawn_there w (drawn.Counting a e) (Counting r x s b E) h = (h.3.0, is_iteration h.3.1)
drawn_there w (drawn.Body a e left is) (Body r x b E i n ds) h = (h.0.tree.0, is_iteration h.0.tree.1, h.0.done.0, h.3)
drawn_there w f F h = absurd h

pub argument_shown : (w : World) (a : ℕ) (u : code_value.Value) (e : ℕ) (us : Vec code_value.Value Global)
    → ValuedShown w (valued.Argument a u e us) → IsShown w u × AreShown w us.items
argument_shown w a u e us h = parts h.0 h.1
  where
    parts : (F : ForValue) → ShowsForValue w (valued.Argument a u e us) F → IsShown w u × AreShown w us.items
    parts (Argument s v more E vs) k = ((v, k.function), (vs, k.done))
    parts F k = absurd k

-- the same after lists have grown
pub function_stays_shown : (a b : World)
    → Grows a b → (app : ℕ) (u : code_value.Value) (e : ℕ) (us : Vec code_value.Value Global) → ValuedShown a (valued.Argument app u e us) → IsShown b u
function_stays_shown a b g app u e us h = let q = (argument_shown a app u e us h).0 in (q.0, value_grows a b g u q.0 q.1)

pub arguments_more_shown : (a b : World)
    → Grows a b → (app : ℕ) (u : code_value.Value) (e : ℕ) (us : Vec code_value.Value Global) (x y : code_value.Value) (ys : List code_value.Value)
    → ValuedShown a (valued.Argument app u e us)
    → IsShown a x → ((v : Value) → ShowsValue a x v → ShowsValue b y (settled v)) → ys ≡ us.items ++ y ∷ [] → AreShown b ys
arguments_more_shown a b g app u e us x y ys h k shows is =
    let q = (argument_shown a app u e us h).1 in
    let vs = q.0 ++ settled k.0 ∷ [] in (
      vs,
      subst (λ (xs : List code_value.Value). ShowsValues b xs vs)
          (sym is) (values_push b us.items q.0 y (settled k.0) (values_grow a b g us.items q.0 q.1) (shows k.0 k.1)),
    )
