-- The last argument that a function wants.
use Rattle.std.proofs.Common.{inr, ◌≡◌, ℕ, ◌<◌, List, [], ◌∷◌, ◌++◌, length, drop, Option, Some, None, Result, Err, All, refl, sym, ap, subst, ◌∙◌}
use Rattle.std.specs.Prelude.{slice_get}
use Rattle.std.proofs.lemmas.List.Elements.{All-nil}
use Rattle.fv_parse_grammar.specs.headline.Tree.{Tree, start_of}
use Rattle.fv_parse_grammar.specs.headline.Tree as tree
use Rattle.fv_parse.specs.Trees.{Parsed, size_of, tree_in}
use Rattle.fv_parse.specs.TreeId.{TreeId}
use Rattle.fv_diagram.specs.Arena.{Arena, count_of}
use Rattle.fv_eval_drawing.specs.Makes.{Canvas, IsThere as IsDrawn}
use Rattle.fv_rules.specs.declared.refusal.EvalRefusal.{EvalRefusal}
use Rattle.fv_eval_scopes.specs.declared.value.Value as code_value
use Rattle.fv_eval_scopes.specs.declared.value.Value.TheVariants as value
use Rattle.fv_eval_scopes.specs.declared.value.Ruled.{Ruled}
use Rattle.fv_eval_scopes.specs.declared.value.Scope.TheVariants as scope
use Rattle.fv_eval_scopes.specs.declared.value.Argument as code_argument
use Rattle.fv_eval_scopes.specs.declared.value.Binding as code_binding
use Rattle.fv_eval_scopes.specs.Environments.{Environments, next_number, with_scope}
use Rattle.fv_rules.specs.headline.Values.{Value, Flat, Abstraction, Rules, Env, Bound, Taken, Nothing, And, in_order}
use Rattle.fv_rules.specs.headline.Matching.{Bindings, bound_in, chosen}
use Rattle.fv_rules.specs.headline.Steps.{no_rule}
use Rattle.fv_eval_scopes.specs.Shows.{World, Grows, IsInside, ShowsBindings, ShowsEnv, ShowsTaken, ShowsTree, ShowsValue, ShowsValues, body_in, parameters_in}
use Rattle.fv_eval_scopes.specs.Shows.{rules_in}
use Rattle.fv_eval_patterns.specs.Patterns.{with_diagrams}
use Rattle.fv_eval_lookup.specs.Chosen.{ShowsChoice}
use Rattle.fv_eval_scopes.proofs.lemmas.Grown.{env_grows, tree_grows, values_grow}
use Rattle.fv_rules.specs.Machine.{Leftover, Valued, Visit, Running, Ended, select}
use Rattle.fv_eval.specs.declared.continuation.Focus as code_focus
use Rattle.fv_eval.specs.declared.machine.Machine as code_machine
use Rattle.fv_eval.specs.inner.Continuations.{AllDraw, AreShown, Chooses, Completes, Grew, IsShown, Selects, Steps, completed, world}
use Rattle.fv_eval_scopes.specs.Parameters.{ShowsName}
use Rattle.fv_eval.proofs.Moves.{knows_scoped, scoped_grew, steps_on}
use Rattle.fv_eval.proofs.Places.{drop_at_get}
use Rattle.fv_eval.proofs.Received.{Feeds}
use Rattle.fv_eval.proofs.Taking.{bind_shows, named_at}
use Rattle.fv_eval.proofs.There.{first_left, values_drawn, values_push}

-- the clause of `leave`
abbrev pub Leaves : Parsed → (m n : code_machine.Machine) → Result code_focus.Focus EvalRefusal → (app body : ℕ) → ℕ → List code_value.Value → ℕ → Type 0
Leaves p m n r app body e us at =
    (s : ℕ) (f ys x : Tree) (E : Env) (a : Value) (more : List Value) → ShowsTree (world p m) app (tree.Apply s f ys) → ShowsTree (world p m) body x
    → ShowsEnv (world p m) e E → ShowsValues (world p m) (drop at us) (a ∷ more) → Steps p m n r (λ Fs t. Running (Visit x E) (Valued (Leftover s more) ∷ Fs) t)

pub diagram_completes : (p : Parsed) (m n : code_machine.Machine) (r : Result code_focus.Focus EvalRefusal) (app i : ℕ) (us : List code_value.Value)
    (at : ℕ) (js : List ℕ) → js ≡ []
    → Feeds p m n r i (drop at us) js → Completes p m n r app (value.Diagram i) us at
diagram_completes p m n r app i us at js e go s f ys (Flat d) a more t h k g =
    let none : AllDraw (world p m) js [] = subst (λ (xs : List ℕ). AllDraw (world p m) xs []) (sym e)
    (All-nil (λ j. j < count_of m.drawing.diagrams), refl) in
    go d (a ∷ more) [] h g none
diagram_completes p m n r app i us at js e go s f ys v a more t h k g = absurd h

pub abstraction_completes : (p : Parsed)
    (m n : code_machine.Machine) (r : Result code_focus.Focus EvalRefusal) (new : Environments) (app f k e i name body : ℕ) (u : code_value.Value)
    (us : List code_value.Value) (at : ℕ)
    → (0 < length (parameters_in p.tokens (tree_in p f)) → ShowsName p.tokens (Some name) (slice_get (parameters_in p.tokens (tree_in p f)) k))
    → slice_get us at ≡ Some u → i ≡ next_number m.scopes.scopes → new ≡ with_scope m.scopes (scope.Bound name u e)
    → body < size_of p → tree_in p body ≡ body_in (tree_in p f) → Leaves p (record m { scopes = new }) n r app body i us at
    → Completes p m n r app (value.Abstraction f k e) us at
abstraction_completes p m n r new app f k e i name body u us at named got place is inside same go s x ys (Abstraction y xs b E) a more t h none g =
    let n1 : code_machine.Machine = record m { scopes = new } in
    let grew = scoped_grew p m new (scope.Bound name u e) is in
    let env = bind_shows p m new name u e i y a E place is (named_at p f k (Some name) y xs named h.1) (first_left (world p m) us at u a more got g) h.3 in
    steps_on p m n1 n r (λ Fs q. completed p.tokens s (Abstraction y xs b E) a more Fs q) grew
    (go s x ys b (Bound y a E) a more (tree_grows (world p m) (world p n1) grew.lists app (tree.Apply s x ys) t) (inside, same ∙ h.2) env
    (values_grow (world p m) (world p n1) grew.lists (drop at us) (a ∷ more) g))
abstraction_completes p m n r new app f k e i name body u us at named got place is inside same go s x ys v a more t h none g = absurd h

-- ---- rules

-- what rules have taken, with the last one
abbrev pub Orders : Environments → ℕ → ℕ → List code_value.Value → Type 0
Orders s count last xs = (w : World) (T : Taken) → w.taken ≡ s.taken → ShowsTaken w count last T → ShowsValues w xs (in_order T [])

-- what choosing a rule answers
abbrev pub ChoosesOf : Parsed → (old new : Arena) → Ruled → List code_value.Value → Option (TreeId × List code_binding.Binding) → Type 0
ChoosesOf p old new r xs o =
    (w : World) (vs : List Value) → w.tree ≡ p
    → w.diagrams ≡ old → ShowsValues w xs vs → ShowsChoice (with_diagrams w new) o (chosen p.tokens (rules_in p r) vs)

in_order_push : (T : Taken) (xs ys : List Value) → in_order T (xs ++ ys) ≡ in_order T xs ++ ys
in_order_push Nothing xs ys = refl
in_order_push (And v T) xs ys = in_order_push T (v ∷ xs) ys

-- the arguments that rules have taken, and one more, are shown
pub all_shown : (p : Parsed) (m : code_machine.Machine) (n i : ℕ) (u : code_value.Value) (us all : List code_value.Value)
    → Orders m.scopes n i us → all ≡ us ++ u ∷ [] → (a : Value) (T : Taken)
    → ShowsTaken (world p m) n i T → ShowsValue (world p m) u a → ShowsValues (world p m) all (in_order (And a T) [])
all_shown p m n i u us all orders pushed a T h k =
    subst (λ (vs : List Value). ShowsValues (world p m) all vs) (sym (in_order_push T [] (a ∷ [])))
    (subst (λ (xs : List code_value.Value). ShowsValues (world p m) xs (in_order T [] ++ a ∷ [])) (sym pushed)
    (values_push (world p m) us (in_order T []) u a (orders (world p m) T refl h) k))

pub taken_drawn : (p : Parsed) (m : code_machine.Machine) (n i : ℕ) (u : code_value.Value) (us all : List code_value.Value)
    → Orders m.scopes n i us → all ≡ us ++ u ∷ [] → (T : Taken) × ShowsTaken (world p m) n i T → IsShown (world p m) u
    → All (IsDrawn m.drawing.diagrams) all
taken_drawn p m n i u us all orders pushed T a =
    values_drawn (world p m) all (in_order (And a.0 T.0) []) (all_shown p m n i u us all orders pushed a.0 T.0 T.1 a.1)

-- the choice is the one among the rules
pub choice_shows : (p : Parsed) (m : code_machine.Machine) (d : Canvas) (r : Ruled) (n i : ℕ) (u : code_value.Value)
    (us all : List code_value.Value)
    (o : Option (TreeId × List code_binding.Binding)) → Orders m.scopes n i us → all ≡ us ++ u ∷ []
    → ChoosesOf p m.drawing.diagrams d.diagrams r all o
    → Chooses p m (record m { drawing = d }) r n i u o
choice_shows p m d r n i u us all o orders pushed choice T a h k =
    choice (world p m) (in_order (And a T) []) refl refl (all_shown p m n i u us all orders pushed a T h k)

-- what rules have, and what stands first among arguments
pub rules_inside : (p : Parsed) (m : code_machine.Machine) (r : Ruled) (e n i : ℕ) → IsShown (world p m) (value.Rules r e n i) → IsInside p r
rules_inside p m r e n i v = parts v.0 v.1
  where
    parts : (V : Value) → ShowsValue (world p m) (value.Rules r e n i) V → IsInside p r
    parts (Rules s rs E T) h = h.0
    parts V h = absurd h

pub rules_took : (p : Parsed) (m : code_machine.Machine) (r : Ruled) (e n i : ℕ) → IsShown (world p m) (value.Rules r e n i)
    → (T : Taken) × ShowsTaken (world p m) n i T
rules_took p m r e n i v = parts v.0 v.1
  where
    parts : (V : Value) → ShowsValue (world p m) (value.Rules r e n i) V → (T : Taken) × ShowsTaken (world p m) n i T
    parts (Rules s rs E T) h = (T, h.4)
    parts V h = absurd h

pub first_shown : (w : World) (us : List code_value.Value) (at : ℕ) (u : code_value.Value) → slice_get us at ≡ Some u → AreShown w (drop at us) → IsShown w u
first_shown w us at u got vs = parts vs.0 vs.1
  where
    parts : (VS : List Value) → ShowsValues w (drop at us) VS → IsShown w u
    parts (a ∷ more) k = (a, first_left w us at u a more got k)
    parts [] k = let here = drop_at_get us at u got in absurd (cc)

-- the names of the rule that was chosen are bound
pub record BindsAll (m : code_machine.Machine) (new : Environments) (e i : ℕ) (bindings : List code_binding.Binding) : Type 0 where
  pub grows : (w : World) → w.scopes ≡ m.scopes.scopes → Grows w (record w { scopes = new.scopes })
  pub same : new.taken ≡ m.scopes.taken
  pub bound : (w : World) (F : Env) (bs : Bindings) → w.scopes ≡ m.scopes.scopes → ShowsEnv w e F → ShowsBindings w bindings bs
      → ShowsEnv (record w { scopes = new.scopes }) i (bound_in F bs)

-- the right side of the rule that was chosen
pub chose : (p : Parsed) (m n : code_machine.Machine)
    (r : Result code_focus.Focus EvalRefusal) (new : Environments) (app body e i : ℕ) (bindings : List code_binding.Binding)
    (us : List code_value.Value) (at : ℕ) → BindsAll m new e i bindings → Leaves p (record m { scopes = new }) n r app body i us at
    → Selects p m n r app (Some (body, bindings)) e us at
chose p m n r new app body e i bindings us at binds go s f ys E a more (Some xb) t env g h =
    let grows = binds.grows in let same = binds.same in let bound = binds.bound in
    let n1 : code_machine.Machine = record m { scopes = new } in
    let w : World = record (world p m) { scopes = new.scopes } in
    let with_taken : List code_argument.Argument → World = λ q. record w { taken = q } in
    let lists : Grows (world p m) (world p n1) =
    subst (λ (q : List code_argument.Argument). Grows (world p m) (with_taken q)) (sym same) (grows (world p m) refl) in
    let grew : Grew p m n1 = record { lists = lists; continuations = refl; state = refl; knows = knows_scoped p m new lists } in
    let inner : ShowsEnv (world p n1) i (bound_in E xb.1) =
    subst (λ (q : List code_argument.Argument). ShowsEnv (with_taken q) i (bound_in E xb.1)) (sym same) (bound (world p m) E xb.1 refl env h.1) in
    steps_on p m n1 n r (λ Fs q. select p.tokens s E (Some xb) more Fs q) grew
    (go s f ys xb.0 (bound_in E xb.1) a more (tree_grows (world p m) (world p n1) lists app (tree.Apply s f ys) t)
    (tree_grows (world p m) (world p n1) lists body xb.0 h.0) inner
    (values_grow (world p m) (world p n1) lists (drop at us) (a ∷ more) g))
chose p m n r new app body e i bindings us at binds go s f ys E a more None t env g h = absurd h

pub rules_complete : (p : Parsed) (m m2 n : code_machine.Machine) (res : Result code_focus.Focus EvalRefusal) (r : Ruled) (app e k i : ℕ) (u : code_value.Value)
    (us : List code_value.Value) (at : ℕ) (choice : Option (TreeId × List code_binding.Binding)) → slice_get us at ≡ Some u → Grew p m m2
    → Chooses p m m2 r k i u choice → Selects p m2 n res app choice e us at → Completes p m n res app (value.Rules r e k i) us at
rules_complete p m m2 n res r app e k i u us at choice got grew chooses selects s f ys (Rules q rs E T) a more t h none g =
    let shown = chooses T a h.4 (first_left (world p m) us at u a more got g) in
    let shown1 = subst (λ zs. ShowsChoice (world p m2) choice (chosen p.tokens zs (in_order (And a T) []))) h.2 shown in
    steps_on p m m2 n res (λ Fs z. completed p.tokens s (Rules q rs E T) a more Fs z) grew
    (selects s f ys E a more (chosen p.tokens rs (in_order (And a T) []))
    (tree_grows (world p m) (world p m2) grew.lists app (tree.Apply s f ys) t) (env_grows (world p m) (world p m2) grew.lists e E h.3)
    (values_grow (world p m) (world p m2) grew.lists (drop at us) (a ∷ more) g) shown1)
rules_complete p m m2 n res r app e k i u us at choice got grew chooses selects s f ys v a more t h none g = absurd h

-- no rule fits
pub refuses : (p : Parsed) (m : code_machine.Machine) (x : EvalRefusal) (app e : ℕ) (us : List code_value.Value) (at : ℕ)
    → x ≡ no_rule p.tokens (start_of (tree_in p app)) → Selects p m m (Err x) app None e us at
refuses p m x app e us at refusal s f ys E a more None t env g h =
    λ Fs k. inr (ap (λ (y : EvalRefusal). Ended (Err y)) (sym (refusal ∙ ap (λ (z : Tree). no_rule p.tokens (start_of z)) t.1)))
refuses p m x app e us at refusal s f ys E a more (Some xb) t env g h = absurd h
