-- A value is applied to arguments, one after the other.
use Rattle.std.proofs.Common.{◌≡◌, ℕ, zero, suc, ◌+◌, ◌<◌, ◌≤◌, List, [], ◌∷◌, length, drop, Option, Some, None, Vec, Result, Ok, map, All, get_or, refl, sym}
use Rattle.std.proofs.Common.{ap, subst, ◌∙◌, arith}
use Rattle.std.specs.Prelude.{slice_get, option_map}
use Rattle.std.specs.declared.alloc.Global.{Global}
use Rattle.std.proofs.lemmas.List.{drop_all}
use Rattle.std.proofs.lemmas.Option.{none-some, slice_get_within}
use Rattle.fv_parse_grammar.specs.headline.Tree.{Tree, items}
use Rattle.fv_parse_grammar.specs.headline.Tree as tree
use Rattle.fv_parse.specs.Trees.{Parsed, size_of, tree_in}
use Rattle.fv_rules.specs.declared.refusal.EvalRefusal.{EvalRefusal}
use Rattle.fv_eval_scopes.specs.declared.value.Value as code_value
use Rattle.fv_rules.specs.headline.Values.{Value, Env}
use Rattle.fv_rules.specs.headline.Steps.{State}
use Rattle.fv_eval_scopes.specs.Shows.{ShowsEnv, ShowsTree, ShowsValue, ShowsValues}
use Rattle.fv_eval_scopes.proofs.lemmas.Grown.{tree_grows, value_grows, values_grow}
use Rattle.fv_rules.specs.Machine.{Argument, Continuation, Valued, Visit, Config, Running, apply, next_argument}
use Rattle.fv_eval.specs.declared.continuation.Continuation.TheVariants as continuation
use Rattle.fv_eval.specs.declared.continuation.ForValue.TheVariants as valued
use Rattle.fv_eval.specs.declared.continuation.Focus as code_focus
use Rattle.fv_eval.specs.declared.continuation.Focus.TheVariants as focus
use Rattle.fv_eval.specs.declared.machine.Machine as code_machine
use Rattle.fv_eval.specs.inner.Continuations.{AreShown, Goes, Grew, IsShown, ShowsContinuation, ShowsTaking, Steps, completed, state_of, took, world}
use Rattle.fv_eval.proofs.Applied.{apply_completes, apply_took}
use Rattle.fv_eval.proofs.Arrived.{Applies, Argues}
use Rattle.fv_eval.specs.inner.Continuations.{Completes}
use Rattle.fv_eval.proofs.Moves.{gives, grew_on, steps_on}
use Rattle.fv_eval_scopes.proofs.lemmas.Binders.{get_map}
use Rattle.fv_eval.proofs.Places.{drop_at_end, drop_at_get, drop_behind}
use Rattle.fv_eval.proofs.Taking.{Takes}
use Rattle.fv_eval.proofs.There.{first_left}

-- ---- the next argument

read_is : (xs : List ℕ) (n x : ℕ) → slice_get xs n ≡ Some x → get_or xs n 0 ≡ x
read_is [] n x e = absurd (none-some x e)
read_is (y ∷ ys) zero x e = cc
read_is (y ∷ ys) (suc n) x e = read_is ys n x e

-- the list of an application is the one that its node has
same_list : (s t : ℕ) (f g ys zs : Tree) → tree.Apply s f ys ≡ tree.Apply t g zs → ys ≡ zs
same_list s t f g ys zs e = cc

-- the parts of a list by their numbers
at_place : (p : Parsed) (ids : List ℕ) (ts : List Tree) (n id : ℕ) → map (tree_in p) ids ≡ ts → slice_get ids n ≡ Some id → slice_get ts n ≡ Some (tree_in p id)
at_place p ids ts n id e g = ap (λ us. slice_get us n) (sym e) ∙ get_map (tree_in p) ids n ∙ ap (option_map (tree_in p)) g

past_places : (p : Parsed) (ids : List ℕ) (ts : List Tree) (n : ℕ) → map (tree_in p) ids ≡ ts → slice_get ids n ≡ None → slice_get ts n ≡ None
past_places p ids ts n e g = ap (λ us. slice_get us n) (sym e) ∙ get_map (tree_in p) ids n ∙ ap (option_map (tree_in p)) g

-- and they are there
pub below_list : (p : Parsed) (a x list id : ℕ) (ids : List ℕ) (n : ℕ)
    → a < size_of p → (x < a) × (list < a) → All (λ (j : ℕ). j < list) ids → slice_get ids n ≡ Some id → id < size_of p
below_list p a x list id ids n here parts below got =
    let l = slice_get_within ids n id got in
    let k : get_or ids n 0 < list = below n 0 l in
    let e : get_or ids n 0 ≡ id = read_is ids n id got in
    let q = parts.1 in
    omega (arith, k, e, q, here)

-- it is visited
pub next_waits : (p : Parsed) (m n : code_machine.Machine)
    (r : Result code_focus.Focus EvalRefusal) (a : ℕ) (u : code_value.Value) (e : ℕ) (done : Vec code_value.Value Global)
    (start : ℕ) (g zs : Tree) (ids : List ℕ) (id : ℕ)
    → tree_in p a ≡ tree.Apply start g zs → map (tree_in p) ids ≡ items zs → slice_get ids (length done.items) ≡ Some id → id < size_of p
    → ((F : Continuation) (x : Tree) (E : Env)
    → ShowsContinuation (world p m) (continuation.Valued (valued.Argument a u e done)) F → ShowsTree (world p m) id x → ShowsEnv (world p m) e E
    → Steps p m n r (λ Fs s. Running (Visit x E) (F ∷ Fs) s))
    → Argues p m n r a u e done.items
next_waits p m n r a u e done start g zs ids id node all got inside wait s f ys v E vs t h k w =
    let count = length done.items in
    let same : ys ≡ zs = same_list s start f g ys zs (sym t.1 ∙ node) in
    let place : slice_get (items ys) count ≡ Some (tree_in p id) = at_place p ids (items ys) count id (all ∙ ap items (sym same)) got in
    let rest : drop count (items ys) ≡ tree_in p id ∷ drop (suc count) (items ys) = drop_at_get (items ys) count (tree_in p id) place in
    let F : Continuation = Valued (Argument s v (drop (suc count) (items ys)) E vs) in
    subst (λ ts. Steps p m n r (λ Fs q. next_argument p.tokens s v ts E vs Fs q)) (sym rest)
    (wait F (tree_in p id) E (record { f = f; ys = ys; tree = t; more_are = refl; function = h; env = k; done = w }) (inside, refl) k)

-- there are no more
pub next_applies : (p : Parsed)
    (m n : code_machine.Machine) (r : Result code_focus.Focus EvalRefusal) (a : ℕ) (u : code_value.Value) (e : ℕ) (us : List code_value.Value)
    (start : ℕ) (g zs : Tree) (ids : List ℕ) → tree_in p a ≡ tree.Apply start g zs → map (tree_in p) ids ≡ items zs → slice_get ids (length us) ≡ None
    → Applies p m n r a u us → Argues p m n r a u e us
next_applies p m n r a u e us start g zs ids node all got go s f ys v E vs t h k w =
    let count = length us in
    let same : ys ≡ zs = same_list s start f g ys zs (sym t.1 ∙ node) in
    let none : drop count (items ys) ≡ [] = drop_at_end (items ys) count (past_places p ids (items ys) count (all ∙ ap items (sym same)) got) in
    subst (λ ts. Steps p m n r (λ Fs q. next_argument p.tokens s v ts E vs Fs q)) (sym none) (go s f ys v vs t h w)

-- ---- one argument after the other

-- a value on arguments that is the same application as another
pub record Same (p : Parsed) (m : code_machine.Machine) (u : code_value.Value) (us : List code_value.Value) (v0 : Value) (vs0 : List Value) : Type 0 where
  pub v : Value
  pub vs : List Value
  pub function : ShowsValue (world p m) u v
  pub arguments : ShowsValues (world p m) us vs
  pub same : (s : ℕ) (Fs : List Continuation) (t : State) → apply p.tokens s v vs Fs t ≡ apply p.tokens s v0 vs0 Fs t

-- the function that is left on the arguments that are left is the whole application
pub record AppliesOn (p : Parsed) (m0 m : code_machine.Machine) (u0 u : code_value.Value) (us : List code_value.Value) (next at : ℕ) : Type 0 where
  pub grew : Grew p m0 m
  pub goes_on : (v0 : Value) (vs0 : List Value) → ShowsValue (world p m0) u0 v0 → ShowsValues (world p m0) (drop next us) vs0 → Same p m u (drop at us) v0 vs0

-- what is left is shown
left_shown : (p : Parsed) (m0 m : code_machine.Machine) (u0 u : code_value.Value) (us : List code_value.Value) (next at : ℕ)
    → AppliesOn p m0 m u0 u us next at → IsShown (world p m0) u0
    → AreShown (world p m0) (drop next us) → IsShown (world p m) u × AreShown (world p m) (drop at us)
left_shown p m0 m u0 u us next at inv h k = let q = inv.goes_on h.0 k.0 h.1 k.1 in ((q.v, q.function), (q.vs, q.arguments))

pub function_stays : (p : Parsed) (m0 m : code_machine.Machine) (u0 u : code_value.Value) (us : List code_value.Value) (next at : ℕ)
    → AppliesOn p m0 m u0 u us next at → IsShown (world p m0) u0
    → AreShown (world p m0) (drop next us) → IsShown (world p m) u
function_stays p m0 m u0 u us next at inv h k = (left_shown p m0 m u0 u us next at inv h k).0

-- and stays shown where lists have grown
pub function_shown : (p : Parsed) (m0 m n : code_machine.Machine) (u0 u : code_value.Value) (us : List code_value.Value) (next at : ℕ)
    → AppliesOn p m0 m u0 u us next at → Grew p m n
    → IsShown (world p m0) u0 → AreShown (world p m0) (drop next us) → IsShown (world p n) u
function_shown p m0 m n u0 u us next at inv g h k =
    let q = left_shown p m0 m u0 u us next at inv h k in (q.0.0, value_grows (world p m) (world p n) g.lists u q.0.0 q.0.1)

pub arguments_shown : (p : Parsed) (m0 m n : code_machine.Machine) (u0 u : code_value.Value) (us : List code_value.Value) (next at : ℕ)
    → AppliesOn p m0 m u0 u us next at → Grew p m n
    → IsShown (world p m0) u0 → AreShown (world p m0) (drop next us) → AreShown (world p n) (drop at us)
arguments_shown p m0 m n u0 u us next at inv g h k =
    let q = left_shown p m0 m u0 u us next at inv h k in (q.1.0, values_grow (world p m) (world p n) g.lists (drop at us) q.1.0 q.1.1)

-- ---- one was taken

took_one : (p : Parsed) (m n : code_machine.Machine) (u x y : code_value.Value) (us : List code_value.Value) (at : ℕ) (v0 : Value) (vs0 : List Value)
    → slice_get us at ≡ Some x → Grew p m n
    → Takes p m n u x (Some y) → Same p m u (drop at us) v0 vs0 → Same p n y (drop (suc at) us) v0 vs0
took_one p m n u x y us at v0 vs0 got g takes q = parts q.vs q.arguments q.same
  where
    taken : (a : Value) (more : List Value) (o : Option Value)
        → took q.v a ≡ o → ShowsTaking (world p n) (Some y) o → ShowsValues (world p n) (drop (suc at) us) more
        → ((s : ℕ) (Fs : List Continuation) (t : State) → apply p.tokens s q.v (a ∷ more) Fs t ≡ apply p.tokens s v0 vs0 Fs t)
        → Same p n y (drop (suc at) us) v0 vs0
    taken a more None e h k same = absurd h
    taken a more (Some w) e h k same = record {
      v = w;
      vs = more;
      function = h;
      arguments = k;
      same = λ s Fs t. sym (apply_took p.tokens s q.v a w more Fs t e) ∙ same s Fs t;
    }

    parts : (vs : List Value)
        → ShowsValues (world p m) (drop at us) vs → ((s : ℕ) (Fs : List Continuation) (t : State)
        → apply p.tokens s q.v vs Fs t ≡ apply p.tokens s v0 vs0 Fs t)
        → Same p n y (drop (suc at) us) v0 vs0
    parts [] h same = let here = drop_at_get us at x got in absurd (cc)
    parts (a ∷ more) h same =
        let rest : drop (suc at) us ≡ h.1 = drop_behind us at h.0 h.1 h.2 in
        let left : ShowsValues (world p n) (drop (suc at) us) more =
        subst (λ xs. ShowsValues (world p n) xs more) (sym rest) (values_grow (world p m) (world p n) g.lists h.1 more h.4) in
        taken a more (took q.v a) refl (takes q.v a q.function (first_left (world p m) us at x a more got h)) left same

pub applies_on : (p : Parsed) (m0 m n : code_machine.Machine) (u0 u x y : code_value.Value) (us : List code_value.Value) (next at at1 : ℕ)
    → AppliesOn p m0 m u0 u us next at
    → slice_get us at ≡ Some x → at1 ≡ at + 1 → Grew p m n → Takes p m n u x (Some y) → AppliesOn p m0 n u0 y us next at1
applies_on p m0 m n u0 u x y us next at at1 inv got one g takes =
    let k : suc at ≡ at1 = omega (arith, one) in
    record {
      grew = grew_on p m0 m n inv.grew g;
      goes_on = λ v0 vs0 h k0. subst (λ (i : ℕ). Same p n y (drop i us) v0 vs0) k (took_one p m n u x y us at v0 vs0 got g takes (inv.goes_on v0 vs0 h k0));
    }

-- ---- all were taken

gives_whole : (p : Parsed) (m : code_machine.Machine) (u : code_value.Value) (v0 : Value) (vs0 : List Value) (s : ℕ) → Same p m u [] v0 vs0
    → Steps p m m (Ok (focus.Give u)) (λ Fs t. apply p.tokens s v0 vs0 Fs t)
gives_whole p m u v0 vs0 s q = parts q.vs q.arguments q.same
  where
    parts : (vs : List Value)
        → ShowsValues (world p m) [] vs → ((i : ℕ) (Fs : List Continuation) (t : State) → apply p.tokens i q.v vs Fs t ≡ apply p.tokens i v0 vs0 Fs t)
        → Steps p m m (Ok (focus.Give u)) (λ Fs t. apply p.tokens s v0 vs0 Fs t)
    parts [] h same = λ Fs k. subst (λ (c : Config). Goes p m (Ok (focus.Give u)) c) (same s Fs (state_of m)) (gives p m u q.v q.function Fs k)
    parts (a ∷ more) h same = let e = h.2 in absurd (cc)

pub all_taken : (p : Parsed) (m0 m : code_machine.Machine) (a : ℕ) (u0 u : code_value.Value) (us : List code_value.Value) (next at : ℕ)
    → AppliesOn p m0 m u0 u us next at → length us ≤ at
    → Applies p m0 m (Ok (focus.Give u)) a u0 (drop next us)
all_taken p m0 m a u0 u us next at inv past s f ys v vs t h k =
    let none : drop at us ≡ [] = drop_all at us past in
    steps_on p m0 m m (Ok (focus.Give u)) (λ Fs q. apply p.tokens s v vs Fs q) inv.grew
    (gives_whole p m u v vs s (subst (λ xs. Same p m u xs v vs) none (inv.goes_on v vs h k)))

-- ---- the last one

completes_whole : (p : Parsed) (m m1 n : code_machine.Machine)
    (r : Result code_focus.Focus EvalRefusal) (app : ℕ) (u x : code_value.Value) (us : List code_value.Value) (at s : ℕ) (f ys : Tree)
    (v0 : Value) (vs0 : List Value)
    → slice_get us at ≡ Some x → Grew p m m1 → Takes p m m1 u x None → Completes p m1 n r app u us at → ShowsTree (world p m1) app (tree.Apply s f ys)
    → Same p m u (drop at us) v0 vs0 → Steps p m n r (λ Fs t. apply p.tokens s v0 vs0 Fs t)
completes_whole p m m1 n r app u x us at s f ys v0 vs0 got g takes go t q = parts q.vs q.arguments q.same
  where
    none : (o : Option Value) → ShowsTaking (world p m1) None o → o ≡ None
    none None h = refl
    none (Some w) h = absurd h

    parts : (vs : List Value)
        → ShowsValues (world p m) (drop at us) vs → ((i : ℕ) (Fs : List Continuation) (z : State)
        → apply p.tokens i q.v vs Fs z ≡ apply p.tokens i v0 vs0 Fs z)
        → Steps p m n r (λ Fs z. apply p.tokens s v0 vs0 Fs z)
    parts [] h same = let here = drop_at_get us at x got in absurd (cc)
    parts (a ∷ more) h same =
        let last : took q.v a ≡ None = none (took q.v a) (takes q.v a q.function (first_left (world p m) us at x a more got h)) in
        let old = world p m in
        let new = world p m1 in
        let done = go s f ys q.v a more t (value_grows old new g.lists u q.v q.function) last (values_grow old new g.lists (drop at us) (a ∷ more) h) in
        λ Fs k. subst (λ (c : Config). Goes p n r c) (sym (apply_completes p.tokens s q.v a more Fs (state_of m) last) ∙ same s Fs (state_of m))
        (steps_on p m m1 n r (λ Gs z. completed p.tokens s q.v a more Gs z) g done Fs k)

pub last_taken : (p : Parsed) (m0 m m1 n : code_machine.Machine)
    (r : Result code_focus.Focus EvalRefusal) (app : ℕ) (u0 u x : code_value.Value) (us : List code_value.Value) (next at : ℕ)
    → AppliesOn p m0 m u0 u us next at
    → slice_get us at ≡ Some x → Grew p m m1 → Takes p m m1 u x None → Completes p m1 n r app u us at → Applies p m0 n r app u0 (drop next us)
last_taken p m0 m m1 n r app u0 u x us next at inv got g takes go s f ys v vs t h k =
    steps_on p m0 m n r (λ Fs q. apply p.tokens s v vs Fs q) inv.grew
    (completes_whole p m m1 n r app u x us at s f ys v vs got g takes go
    (tree_grows (world p m0) (world p m1) (grew_on p m0 m m1 inv.grew g).lists app (tree.Apply s f ys) t) (inv.goes_on v vs h k))
