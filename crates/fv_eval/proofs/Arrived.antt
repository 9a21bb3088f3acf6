-- A value arrives where one is waited for.
use Rattle.std.proofs.Common.{◌≡◌, ℕ, suc, List, [], ◌∷◌, ◌++◌, length, drop, Vec, Result, Ok, ℤ, refl, sym, ap, subst, ◌∙◌, arith}
use Rattle.std.specs.declared.alloc.Global.{Global}
use Rattle.std.proofs.lemmas.List.{length_push, same_from_push}
use Rattle.fv_parse_grammar.specs.headline.Tree.{Tree, items, start_of}
use Rattle.fv_parse_grammar.specs.headline.Tree as tree
use Rattle.fv_parse_grammar.specs.Slider.{Slider as SliderKind}
use Rattle.fv_parse.specs.Trees.{Parsed}
use Rattle.fv_diagram.specs.declared.control.ControlKind.{ControlKind}
use Rattle.fv_rules.specs.declared.refusal.EvalRefusal.{EvalRefusal}
use Rattle.fv_eval_scopes.specs.declared.value.Value as code_value
use Rattle.fv_rules.specs.headline.Values.{Value, Env}
use Rattle.fv_rules.specs.headline.Matching.{settled, value_number}
use Rattle.fv_rules.specs.headline.Rules.{read_number, slider_kind}
use Rattle.fv_eval_scopes.specs.Shows.{ShowsTree, ShowsValue, ShowsValues, ShowsEnv}
use Rattle.fv_eval_scopes.proofs.lemmas.Grown.{tree_grows, value_grows, env_grows, values_grow}
use Rattle.fv_rules.specs.Machine.{ForValue, Function, Argument, Leftover, Parameter, ForDiagram, Continuation, Valued, Drawn}
use Rattle.fv_rules.specs.Machine.{apply, arrives, next_argument}
use Rattle.fv_rules.specs.Machine.{parameter_read, to_diagram, value_arrives}
use Rattle.fv_eval.specs.declared.continuation.Continuation as code_continuation
use Rattle.fv_eval.specs.declared.continuation.Continuation.TheVariants as continuation
use Rattle.fv_eval.specs.declared.continuation.Focus as code_focus
use Rattle.fv_eval.specs.declared.continuation.Focus.TheVariants as focus
use Rattle.fv_eval.specs.declared.continuation.ForValue as code_for_value
use Rattle.fv_eval.specs.declared.continuation.ForValue.TheVariants as valued
use Rattle.fv_eval.specs.declared.continuation.ForDiagram as code_for_diagram
use Rattle.fv_eval.specs.declared.machine.Machine as code_machine
use Rattle.fv_eval.specs.inner.Continuations.{DrawnThere, Goes, Grew, IsShown, Keeps, Knows, Runs, ShowsForDiagram, ShowsForValue, ShowsContinuation}
use Rattle.fv_eval.specs.inner.Continuations.{ShowsContinuations, ShowsSlider, Steps}
use Rattle.fv_eval.specs.inner.Continuations.{ValuedShown, state_of, world}
use Rattle.fv_eval.proofs.Moves.{steps_on}
use Rattle.fv_eval.proofs.There.{drawn_there, values_push}

-- ---- what is gone on with, as the clauses of the methods say it

abbrev pub Argues : Parsed → (m n : code_machine.Machine) → Result code_focus.Focus EvalRefusal → ℕ → code_value.Value → ℕ → List code_value.Value → Type 0
Argues p m n r a u e us = (s : ℕ) (f ys : Tree) (v : Value) (E : Env) (vs : List Value) → ShowsTree (world p m) a (tree.Apply s f ys)
    → ShowsValue (world p m) u v → ShowsEnv (world p m) e E → ShowsValues (world p m) us vs
    → Steps p m n r (λ Fs t. next_argument p.tokens s v (drop (length us) (items ys)) E vs Fs t)

abbrev pub Applies : Parsed → (m n : code_machine.Machine) → Result code_focus.Focus EvalRefusal → ℕ → code_value.Value → List code_value.Value → Type 0
Applies p m n r a u us = (s : ℕ) (f ys : Tree) (v : Value) (vs : List Value) → ShowsTree (world p m) a (tree.Apply s f ys)
    → ShowsValue (world p m) u v → ShowsValues (world p m) us vs → Steps p m n r (λ Fs t. apply p.tokens s v vs Fs t)

abbrev pub Reads : Parsed → (m n : code_machine.Machine) → Result code_focus.Focus EvalRefusal → ℕ → ℕ → List ℤ → code_value.Value → Type 0
Reads p m n r a e ns u = (k : SliderKind) (label : List ℕ) (E : Env) (x : Tree) (more : List Tree) (v : Value)
    → ShowsSlider (world p m) a e (length ns) k label E (x ∷ more) → ShowsValue (world p m) u v
    → Steps p m n r (λ Fs s. parameter_read (slider_kind k) label more E ns (read_number p.tokens (start_of x) (value_number v) s) Fs)

-- what a continuation makes of a value
abbrev pub Resumes : Parsed → (m n : code_machine.Machine) → Result code_focus.Focus EvalRefusal → code_for_value.ForValue → code_value.Value → Type 0
Resumes p m n r f u =
    (F : ForValue) (v : Value) → ShowsForValue (world p m) f F → ShowsValue (world p m) u v → Steps p m n r (λ Fs s. value_arrives p.tokens F v Fs s)

-- ---- the continuations

pub function_resumes : (p : Parsed)
    (m n : code_machine.Machine) (r : Result code_focus.Focus EvalRefusal) (a e : ℕ) (u : code_value.Value) (us : List code_value.Value)
    → us ≡ [] → Argues p m n r a u e us → Resumes p m n r (valued.Function a e) u
function_resumes p m n r a e u us is go (Function s args E) v h k =
    subst (λ ts. Steps p m n r (λ Fs t. next_argument p.tokens s v ts E [] Fs t)) (sym h.3)
    (subst (λ xs. Argues p m n r a u e xs) is go s h.0 h.1 v E [] h.2 k h.4 refl)
function_resumes p m n r a e u us is go F v h k = absurd h

-- the rest of the arguments is one shorter
rest_behind : (us vs : List code_value.Value) (u : code_value.Value) (ts more : List Tree)
    → vs ≡ us ++ u ∷ [] → more ≡ drop (suc (length us)) ts → drop (length vs) ts ≡ more
rest_behind us vs u ts more e is = let n : length vs ≡ suc (length us) = omega (arith, ap length e, length_push us u) in ap (λ i. drop i ts) n ∙ sym is

pub argument_resumes : (p : Parsed)
    (m m1 n : code_machine.Machine) (r : Result code_focus.Focus EvalRefusal) (a e : ℕ) (f u w : code_value.Value) (us : Vec code_value.Value Global)
    (vs : List code_value.Value) → Grew p m m1 → ((v : Value) → ShowsValue (world p m) u v → ShowsValue (world p m1) w (settled v)) → vs ≡ us.items ++ w ∷ []
    → Argues p m1 n r a f e vs → Resumes p m n r (valued.Argument a f e us) u
argument_resumes p m m1 n r a e f u w us vs g shows is go (Argument s v more E done) x h k =
    let old = world p m in
    let new = world p m1 in
    let done' = done ++ settled x ∷ [] in
    let all : ShowsValues new vs done' =
    subst (λ xs. ShowsValues new xs done')
    (sym is) (values_push new us.items done w (settled x) (values_grow old new g.lists us.items done h.done) (shows x k)) in
    let q = go s h.f h.ys v E done' (tree_grows old new g.lists a (tree.Apply s h.f h.ys) h.tree)
    (value_grows old new g.lists f v h.function) (env_grows old new g.lists e E h.env) all in
    steps_on p m m1 n r (λ Fs t. next_argument p.tokens s v more E done' Fs t) g
    (subst (λ ts. Steps p m1 n r (λ Fs t. next_argument p.tokens s v ts E done' Fs t)) (rest_behind us.items vs w (items h.ys) more is h.more_are) q)
argument_resumes p m m1 n r a e f u w us vs g shows is go F x h k = absurd h

pub leftover_resumes : (p : Parsed)
    (m n : code_machine.Machine) (r : Result code_focus.Focus EvalRefusal) (a : ℕ) (u : code_value.Value) (us : Vec code_value.Value Global) (next : ℕ)
    → Applies p m n r a u (drop next us.items) → Resumes p m n r (valued.Leftover a us next) u
leftover_resumes p m n r a u us next go (Leftover s vs) v h k = go s h.f h.ys v vs h.tree k h.arguments
leftover_resumes p m n r a u us next go F v h k = absurd h

pub parameter_resumes : (p : Parsed) (m n : code_machine.Machine) (r : Result code_focus.Focus EvalRefusal) (a e : ℕ) (u : code_value.Value) (ns : Vec ℤ Global)
    → Reads p m n r a e ns.items u → Resumes p m n r (valued.Parameter a e ns) u
parameter_resumes p m n r a e u ns go (Parameter kind label s more E ms) v h k =
    let q = go h.0 label E h.1 more v h.5 k in
    let q1 = subst (λ (i : ℕ). Steps p m n r (λ Fs t. parameter_read (slider_kind h.0) label more E ns.items (read_number p.tokens i (value_number v) t) Fs))
    (sym h.3) q in
    let q2 = subst
    (λ (xs : List ℤ). Steps p m n r (λ Fs t. parameter_read (slider_kind h.0) label more E xs (read_number p.tokens s (value_number v) t) Fs)) h.4 q1 in
    subst (λ (c : ControlKind). Steps p m n r (λ Fs t. parameter_read c label more E ms (read_number p.tokens s (value_number v) t) Fs)) (sym h.2) q2
parameter_resumes p m n r a e u ns go F v h k = absurd h

-- ---- the innermost continuation

no_push : {A : Type 0} (xs : List A) (x : A) → xs ++ x ∷ [] ≡ [] → ⊥
no_push [] x e = cc
no_push (y ∷ xs) x e = cc

-- the innermost continuation and the others
pub popped : (p : Parsed) (m : code_machine.Machine) (fs : List code_continuation.Continuation) (f : code_continuation.Continuation) (Fs : List Continuation)
    → m.continuations ≡ fs ++ f ∷ [] → Keeps p m Fs
    → (F : Continuation) × (Gs : List Continuation) × (Fs ≡ F ∷ Gs) × ShowsContinuation (world p m) f F × ShowsContinuations (world p m) fs Gs
popped p m fs f [] e k = absurd (no_push fs f (sym e ∙ k.1))
popped p m fs f (F ∷ Gs) e k =
    let same = same_from_push k.1.0 fs k.1.1 f (sym k.1.2 ∙ e) in (
      F,
      Gs,
      refl,
      subst (λ (x : code_continuation.Continuation). ShowsContinuation (world p m) x F) same.1 k.1.3,
      subst (λ (xs : List code_continuation.Continuation). ShowsContinuations (world p m) xs Gs) same.0 k.1.4,
    )

-- it is shown
pub first_shown : (p : Parsed) (m : code_machine.Machine) (fs : List code_continuation.Continuation) (f : code_continuation.Continuation) (u : code_value.Value)
    → m.continuations ≡ fs ++ f ∷ [] → Runs p m (focus.Give u)
    → (F : Continuation) × ShowsContinuation (world p m) f F
first_shown p m fs f u e h = let t = popped p m fs f h.1.1 e h.1.4 in (t.0, t.3)

pub first_valued : (p : Parsed) (m : code_machine.Machine) (fs : List code_continuation.Continuation) (f : code_for_value.ForValue) (u : code_value.Value)
    → m.continuations ≡ fs ++ continuation.Valued f ∷ []
    → Runs p m (focus.Give u) → ValuedShown (world p m) f
first_valued p m fs f u e h = let t = first_shown p m fs (continuation.Valued f) u e h in parts t.0 t.1
  where
    parts : (F : Continuation) → ShowsContinuation (world p m) (continuation.Valued f) F → ValuedShown (world p m) f
    parts (Valued G) k = (G, k)
    parts (Drawn G) k = absurd k

pub first_drawn : (p : Parsed) (m : code_machine.Machine) (fs : List code_continuation.Continuation) (f : code_for_diagram.ForDiagram) (u : code_value.Value)
    → m.continuations ≡ fs ++ continuation.Drawn f ∷ []
    → Runs p m (focus.Give u) → DrawnThere (world p m) f
first_drawn p m fs f u e h = let t = first_shown p m fs (continuation.Drawn f) u e h in parts t.0 t.1
  where
    parts : (F : Continuation) → ShowsContinuation (world p m) (continuation.Drawn f) F → DrawnThere (world p m) f
    parts (Drawn G) k = drawn_there (world p m) f G k
    parts (Valued G) k = absurd k

-- what is given is shown
pub given_shown : (p : Parsed) (m : code_machine.Machine) (u : code_value.Value) → Runs p m (focus.Give u) → IsShown (world p m) u
given_shown p m u h = (h.1.0, h.1.3)

-- what is remembered of patterns is true
pub given_known : (p : Parsed) (m : code_machine.Machine) (u : code_value.Value) → Runs p m (focus.Give u) → Knows p m
given_known p m u h = h.1.4.0

-- ---- a value is given

-- nothing waits
pub arrives_last : (p : Parsed) (m : code_machine.Machine) (fs : List code_continuation.Continuation) (u : code_value.Value)
    → m.continuations ≡ [] → (v : Value) → ShowsValue (world p m) u v
    → Steps p m (record m { continuations = fs }) (Ok (focus.Done u)) (λ Fs s. arrives p.tokens v Fs s)
arrives_last p m fs u e v h [] k = (v, refl, h)
arrives_last p m fs u e v h (F ∷ Gs) k = absurd (no_push k.1.0 k.1.1 (sym k.1.2 ∙ e))

valued_first : (p : Parsed) (m n : code_machine.Machine)
    (fs : List code_continuation.Continuation) (f : code_for_value.ForValue) (r : Result code_focus.Focus EvalRefusal) (u : code_value.Value)
    → Resumes p (record m { continuations = fs }) n r f u
    → (v : Value) → ShowsValue (world p m) u v → (F : Continuation) (Gs : List Continuation) → ShowsContinuation (world p m) (continuation.Valued f) F
    → Keeps p (record m { continuations = fs }) Gs → Goes p n r (arrives p.tokens v (F ∷ Gs) (state_of m))
valued_first p m n fs f r u go v h (Valued G) Gs k ks = go G v k h Gs ks
valued_first p m n fs f r u go v h (Drawn G) Gs k ks = absurd k

-- a value is waited for
pub arrives_valued : (p : Parsed)
    (m n : code_machine.Machine) (fs : List code_continuation.Continuation) (f : code_for_value.ForValue)
    (r : Result code_focus.Focus EvalRefusal) (u : code_value.Value)
    → m.continuations ≡ fs ++ continuation.Valued f ∷ [] → Resumes p (record m { continuations = fs }) n r f u → (v : Value)
    → ShowsValue (world p m) u v
    → Steps p m n r (λ Fs s. arrives p.tokens v Fs s)
arrives_valued p m n fs f r u e go v h Fs k =
    let t = popped p m fs (continuation.Valued f) Fs e k in
    subst (λ (Hs : List Continuation). Goes p n r (arrives p.tokens v Hs (state_of m))) (sym t.2) (valued_first p m n fs f r u go v h t.0 t.1 t.3 (k.0, t.4))

-- what a continuation makes of a value that is turned into a diagram
abbrev pub Turns : Parsed → (m n : code_machine.Machine) → Result code_focus.Focus EvalRefusal → code_for_diagram.ForDiagram → code_value.Value → Type 0
Turns p m n r f u =
    (F : ForDiagram) (v : Value) → ShowsForDiagram (world p m) f F → ShowsValue (world p m) u v → Steps p m n r (λ Fs s. to_diagram p.tokens F v Fs s)

drawn_first : (p : Parsed) (m n : code_machine.Machine)
    (fs : List code_continuation.Continuation) (f : code_for_diagram.ForDiagram) (r : Result code_focus.Focus EvalRefusal) (u : code_value.Value)
    → Turns p (record m { continuations = fs }) n r f u
    → (v : Value) → ShowsValue (world p m) u v → (F : Continuation) (Gs : List Continuation) → ShowsContinuation (world p m) (continuation.Drawn f) F
    → Keeps p (record m { continuations = fs }) Gs → Goes p n r (arrives p.tokens v (F ∷ Gs) (state_of m))
drawn_first p m n fs f r u go v h (Drawn G) Gs k ks = go G v k h Gs ks
drawn_first p m n fs f r u go v h (Valued G) Gs k ks = absurd k

-- a diagram is waited for
pub arrives_drawn : (p : Parsed)
    (m n : code_machine.Machine) (fs : List code_continuation.Continuation) (f : code_for_diagram.ForDiagram)
    (r : Result code_focus.Focus EvalRefusal) (u : code_value.Value)
    → m.continuations ≡ fs ++ continuation.Drawn f ∷ [] → Turns p (record m { continuations = fs }) n r f u → (v : Value) → ShowsValue (world p m) u v
    → Steps p m n r (λ Fs s. arrives p.tokens v Fs s)
arrives_drawn p m n fs f r u e go v h Fs k =
    let t = popped p m fs (continuation.Drawn f) Fs e k in
    subst (λ (Hs : List Continuation). Goes p n r (arrives p.tokens v Hs (state_of m))) (sym t.2) (drawn_first p m n fs f r u go v h t.0 t.1 t.3 (k.0, t.4))
