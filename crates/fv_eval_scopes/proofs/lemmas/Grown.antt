-- Lists that have grown show what they showed.
use Rattle.std.proofs.Common.{◌≡◌, inl, inr, ℕ, zero, suc, ◌<◌, ◌≤◌, arith, List, [], ◌∷◌, ◌++◌, length, drop, Some, refl, sym, subst, ◌∙◌}
use Rattle.std.specs.Prelude.{slice_get}
use Rattle.std.proofs.lemmas.Option.{none-some}
use Rattle.fv_diagram.specs.Arena.{Arena, count_of, tree_of}
use Rattle.fv_parse.specs.Trees.{Parsed, size_of, tree_in}
use Rattle.fv_eval_scopes.specs.declared.value.Value as code_value
use Rattle.fv_eval_scopes.specs.declared.value.Value.TheVariants as value
use Rattle.fv_eval_scopes.specs.declared.value.Scope as code_scope
use Rattle.fv_eval_scopes.specs.declared.value.Scope.TheVariants as scope
use Rattle.fv_eval_scopes.specs.declared.value.Argument as code_argument
use Rattle.fv_eval_scopes.specs.declared.value.Binding as code_binding
use Rattle.fv_eval_scopes.specs.Environments.{next_number, scope_in}
use Rattle.fv_rules.specs.headline.Values.{Name, Value, Flat, Abstraction, Rules, Env, Outermost, Bound, Scope, Taken, Nothing, And}
use Rattle.fv_rules.specs.headline.Matching.{Bindings}
use Rattle.fv_parse.specs.Tree.{Tree}
use Rattle.fv_eval_scopes.specs.Shows.{World, IsNamed, IsInside, parameters_in, body_in, rules_in, begins_in, ShowsTree, ShowsValue, ShowsValues, ShowsEnv}
use Rattle.fv_eval_scopes.specs.Shows.{ShowsTaken, ShowsBindings, Grows, IsSlot}
use Rattle.fv_eval_scopes.proofs.lemmas.Numbered.{scope_below, scope_first, scope_stays}

-- what is said of the tree alone stays
pub named_grows : (a b : World) → Grows a b → (n : ℕ) (x : Name) → IsNamed a n x → IsNamed b n x
named_grows a b g n x h = subst (λ (p : Parsed). IsNamed (record b { tree = p }) n x) (sym g.tree) h

pub tree_grows : (a b : World) → Grows a b → (id : ℕ) (x : Tree) → ShowsTree a id x → ShowsTree b id x
tree_grows a b g id x h = subst (λ (p : Parsed). ShowsTree (record b { tree = p }) id x) (sym g.tree) h

scope_grows : (a b : World) → Grows a b → (i : ℕ) (x : code_scope.Scope) → scope_in a.scopes i ≡ Some x → scope_in b.scopes i ≡ Some x
scope_grows a b g i x h = scope_stays a.scopes b.scopes g.scopes i x h

slot_grows : (a b : World) → Grows a b → (i j : ℕ) (x : Name) (v : Value) → IsSlot a i j x v → IsSlot b i j x v
slot_grows a b g i j x v h = record {
  node = h.node;
  parameter = h.parameter;
  slot = h.slot;
  kept = scope_grows a b g i _ h.kept;
  inside = subst (λ (p : Parsed). h.node < size_of p) (sym g.tree) h.inside;
  name = subst (λ (p : Parsed). slice_get (parameters_in p.tokens (tree_in p h.node)) h.parameter ≡ Some x) (sym g.tree) h.name;
  value = h.value;
}

mutual
  pub value_grows : (a b : World) → Grows a b → (u : code_value.Value) (v : Value) → ShowsValue a u v → ShowsValue b u v
  value_grows a b g (value.Diagram i) (Flat d) h = g.diagrams i d h
  value_grows a b g (value.Abstraction f n e) (Abstraction x xs t E) h =
      subst (λ (p : Parsed).
      (f < size_of p) × (drop n (parameters_in p.tokens (tree_in p f)) ≡ x ∷ xs) × (body_in (tree_in p f) ≡ t) × ShowsEnv b e E) (sym g.tree)
      (h.0, h.1, h.2, env_grows a b g e E h.3)
  value_grows a b g (value.Rules r e n i) (Rules s rs E T) h =
      subst (λ (p : Parsed). IsInside p r × (begins_in p r ≡ s) × (rules_in p r ≡ rs) × ShowsEnv b e E × ShowsTaken b n i T) (sym g.tree)
      (h.0, h.1, h.2, env_grows a b g e E h.3, taken_grows a b g n i T h.4)
  value_grows a b g u v h = absurd h

  pub env_grows : (a b : World) → Grows a b → (i : ℕ) (E : Env) → ShowsEnv a i E → ShowsEnv b i E
  env_grows a b g i Outermost h = h
  env_grows a b g i (Bound x v E) (j, l, k, inl h) =
      (j, l, env_grows a b g j E k, inl (h.0, h.1, scope_grows a b g i _ h.2, named_grows a b g h.0 x h.3, value_grows a b g h.1 v h.4))
  env_grows a b g i (Bound x v E) (j, l, k, inr h) = (j, l, env_grows a b g j E k, inr (slot_grows a b g i j x v h))
  env_grows a b g i (Scope d E) h = (h.0, h.1, scope_grows a b g i _ h.2, h.3, tree_grows a b g h.0 d h.4, env_grows a b g h.1 E h.5)

  pub taken_grows : (a b : World) → Grows a b → (n i : ℕ) (T : Taken) → ShowsTaken a n i T → ShowsTaken b n i T
  taken_grows a b g n i Nothing h = h
  taken_grows a b g n i (And v T) h = (h.0, h.1, h.2, g.taken i h.1 h.3, value_grows a b g h.1.value v h.4, taken_grows a b g h.0 h.1.before T h.5)

pub values_grow : (a b : World) → Grows a b → (us : List code_value.Value) (vs : List Value) → ShowsValues a us vs → ShowsValues b us vs
values_grow a b g us [] h = h
values_grow a b g us (v ∷ vs) h = (h.0, h.1, h.2, value_grows a b g h.0 v h.3, values_grow a b g h.1 vs h.4)

pub bindings_grow : (a b : World) → Grows a b → (us : List code_binding.Binding) (bs : Bindings) → ShowsBindings a us bs → ShowsBindings b us bs
bindings_grow a b g us [] h = h
bindings_grow a b g us (nv ∷ more) h =
    (h.0, h.1, h.2, named_grows a b g h.1.name nv.0 h.3, value_grows a b g h.1.value nv.1 h.4, bindings_grow a b g h.0 more h.5)

-- an item at the end changes no place before it
pub place_stays : {A : Type 0} (xs : List A) (x : A) (i : ℕ) (y : A) → slice_get xs i ≡ Some y → slice_get (xs ++ x ∷ []) i ≡ Some y
place_stays (z ∷ xs) x zero y h = h
place_stays (z ∷ xs) x (suc i) y h = place_stays xs x i y h
place_stays [] x i y h = absurd (none-some y h)

-- and stands at the end
pub last_place : {A : Type 0} (xs : List A) (x : A) → slice_get (xs ++ x ∷ []) (length xs) ≡ Some x
last_place [] x = refl
last_place (z ∷ xs) x = last_place xs x

-- ---- what `Scopes` does

-- one scope more
pub scope_opens : (w : World) (x : code_scope.Scope) → Grows w (record w { scopes = w.scopes ++ x ∷ [] })
scope_opens w x = record { tree = refl; diagrams = λ i d h. h; scopes = λ i y h. place_stays w.scopes x i y h; taken = λ i y h. h }

-- one argument more
pub argument_comes : (w : World) (x : code_argument.Argument) → Grows w (record w { taken = w.taken ++ x ∷ [] })
argument_comes w x = record { tree = refl; diagrams = λ i d h. h; scopes = λ i y h. h; taken = λ i y h. place_stays w.taken x i y h }

-- trees that stay
pub diagrams_come : (w : World) (new : Arena) → count_of w.diagrams ≤ count_of new → ((i : ℕ) → i < count_of w.diagrams → tree_of new i ≡ tree_of w.diagrams i)
    → Grows w (record w { diagrams = new })
diagrams_come w new more stay =
    record { tree = refl; diagrams = λ i d h. (omega (arith, h.0, more), stay i h.0 ∙ h.1); scopes = λ i y h. h; taken = λ i y h. h }

pub grows_on : (a b c : World) → Grows a b → Grows b c → Grows a c
grows_on a b c g h = record {
  tree = h.tree ∙ g.tree;
  diagrams = λ i d x. h.diagrams i d (g.diagrams i d x);
  scopes = λ i x y. h.scopes i x (g.scopes i x y);
  taken = λ i x y. h.taken i x (g.taken i x y);
}

-- an environment's number is below the next one
pub env_inside : (w : World) (i : ℕ) (E : Env) → ShowsEnv w i E → i < next_number w.scopes
env_inside w i Outermost h = let e : i ≡ 0 = h in omega (arith, e)
env_inside w i (Bound x v E) (j, l, k, inl h) = scope_below w.scopes i _ h.2
env_inside w i (Bound x v E) (j, l, k, inr h) = scope_below w.scopes i _ h.kept
env_inside w i (Scope d E) h = scope_below w.scopes i _ h.2

-- the number that `bind` gives is the name bound in the environment
pub bound_shows : (w : World) (n : ℕ) (x : Name) (u : code_value.Value) (v : Value) (e : ℕ) (E : Env) → IsNamed w n x → ShowsValue w u v → ShowsEnv w e E
    → ShowsEnv (record w { scopes = w.scopes ++ scope.Bound n u e ∷ [] }) (next_number w.scopes) (Bound x v E)
bound_shows w n x u v e E h k m =
    let s = scope.Bound n u e in
    let new : World = record w { scopes = w.scopes ++ s ∷ [] } in
    let g = scope_opens w s in
    let i = env_inside w e E m in
    (e, i, env_grows w new g e E m, inl (n, u, scope_first new.scopes (length w.scopes) s (last_place w.scopes s), h, value_grows w new g u v k))

-- the number that `open` gives is the list of definitions in the environment
pub opened_shows : (w : World) (id : ℕ) (ds : Tree) (e : ℕ) (E : Env) → ShowsTree w id ds → ShowsEnv w e E
    → ShowsEnv (record w { scopes = w.scopes ++ scope.Definitions id e ∷ [] }) (next_number w.scopes) (Scope ds E)
opened_shows w id ds e E h m =
    let s = scope.Definitions id e in
    let new : World = record w { scopes = w.scopes ++ s ∷ [] } in
    let g = scope_opens w s in
    let i = env_inside w e E m in
    (id, e, scope_first new.scopes (length w.scopes) s (last_place w.scopes s), i, h, env_grows w new g e E m)

-- the number that `take` gives is the argument after those before
pub taken_shows : (w : World) (u : code_value.Value) (v : Value) (n i : ℕ) (T : Taken) → ShowsValue w u v → ShowsTaken w n i T
    → ShowsTaken (record w { taken = w.taken ++ record { value = u; before = i } ∷ [] }) (suc n) (length w.taken) (And v T)
taken_shows w u v n i T h k =
    let a : code_argument.Argument = record { value = u; before = i } in
    let new : World = record w { taken = w.taken ++ a ∷ [] } in
    let g = argument_comes w a in
    (n, a, refl, last_place w.taken a, value_grows w new g u v h, taken_grows w new g n i T k)
