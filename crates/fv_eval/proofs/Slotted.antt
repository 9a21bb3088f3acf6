-- An abstraction is turned into a diagram: its parameters are bound to new slots.
use Rattle.std.proofs.Common.{inr, ◌≡◌, ℕ, suc, ◌+◌, ◌-◌, ◌<◌, ◌≤◌, List, [], ◌∷◌, ◌++◌, length, drop, Some, Result, Ok, Err, refl, sym, ap, subst, ◌∙◌}
use Rattle.std.proofs.Common.{◌*◌, arith, length-drop}
use Rattle.std.proofs.lemmas.List.{drop_all}
use Rattle.std.specs.Prelude.{slice_get}
use Rattle.fv_parse.specs.Trees.{Parsed, size_of, tree_in}
use Rattle.fv_diagram.specs.headline.Diagram.{Slot}
use Rattle.fv_rules.specs.declared.refusal.EvalRefusal.{EvalRefusal}
use Rattle.fv_eval_scopes.specs.declared.value.Value.TheVariants as value
use Rattle.fv_eval_scopes.specs.declared.value.Ruled.{Ruled}
use Rattle.fv_eval_scopes.specs.declared.value.Scope as code_scope
use Rattle.fv_eval_scopes.specs.declared.value.Scope.TheVariants as scope
use Rattle.fv_eval_scopes.specs.declared.scopes.TheConstants.{STRIDE}
use Rattle.fv_eval_scopes.specs.Environments.{Environments, first_number, next_number, scope_in, with_scope}
use Rattle.fv_rules.specs.headline.Values.{Name, Flat, Abstraction, Rules, Env, Bound}
use Rattle.fv_rules.specs.headline.Steps.{State, no_diagram}
use Rattle.fv_rules.specs.headline.Rules.{on_slots}
use Rattle.fv_eval_scopes.specs.Shows.{World, IsSlot, ShowsEnv, begins_in, body_in, parameters_in}
use Rattle.fv_eval_scopes.proofs.lemmas.Grown.{env_grows, env_inside, last_place, scope_opens}
use Rattle.fv_eval_scopes.proofs.lemmas.Numbered.{scope_behind, scope_first}
use Rattle.fv_rules.specs.Machine.{Binding, Continuation, Drawn, Visit, Running, Ended}
use Rattle.fv_eval.specs.declared.continuation.Continuation as code_continuation
use Rattle.fv_eval.specs.declared.continuation.Continuation.TheVariants as continuation
use Rattle.fv_eval.specs.declared.continuation.ForDiagram as code_for_diagram
use Rattle.fv_eval.specs.declared.continuation.ForDiagram.TheVariants as drawn
use Rattle.fv_eval.specs.declared.continuation.Focus as code_focus
use Rattle.fv_eval.specs.declared.continuation.Focus.TheVariants as focus
use Rattle.fv_eval.specs.declared.machine.Machine as code_machine
use Rattle.fv_eval.specs.inner.Continuations.{AreNumbered, ShowsContinuations, Slots, state_of, world}
use Rattle.fv_eval.proofs.Grown.{for_diagram_grows, continuations_grow}
use Rattle.fv_eval.proofs.Moves.{grew_itself, scoped_grew}
use Rattle.fv_eval.proofs.Places.{drop_behind, get_at_drop}
use Rattle.fv_eval.proofs.Arrived.{Turns}
use Rattle.fv_eval.proofs.Received.{Receives}

-- ---- parameters that one scope binds to slots

-- the parameters after one are bound to the slots after its own
slots_go_on : (w : World) (n f i slot o : ℕ) → slice_get w.scopes n ≡ Some (scope.Slots f i slot o) → f < size_of w.tree
    → (xs : List Name) (k : ℕ) (F : Env) → drop (i + suc k) (parameters_in w.tree.tokens (tree_in w.tree f)) ≡ xs → k + length xs < STRIDE
    → ShowsEnv w (first_number n + k) F → ShowsEnv w (first_number n + (k + length xs)) (on_slots xs (slot + suc k) F)
slots_go_on w n f i slot o at inside [] k F e l h =
    let same : k ≡ k + 0 = omega arith in subst (λ j. ShowsEnv w (first_number n + j) F) same h
slots_go_on w n f i slot o at inside (x ∷ xs) k F e l h =
    let names = parameters_in w.tree.tokens (tree_in w.tree f) in
    let G : Env = Bound x (Flat (Slot (slot + suc k))) F in
    let small : suc k < STRIDE = omega (arith, l) in
    let before : n * STRIDE + suc k ≡ first_number n + k = omega arith in
    let kept : scope_in w.scopes (first_number n + suc k) ≡ Some (scope.Slots f (i + suc k) (slot + suc k) (first_number n + k)) =
    scope_behind w.scopes n (suc k) (scope.Slots f i slot o) small at ∙ ap (λ j. Some (scope.Slots f (i + suc k) (slot + suc k) j)) before in
    let one : IsSlot w (first_number n + suc k) (first_number n + k) x (Flat (Slot (slot + suc k))) = record {
      node = f;
      parameter = i + suc k;
      slot = slot + suc k;
      kept = kept;
      inside = inside;
      name = get_at_drop names (i + suc k) x xs e;
      value = refl;
    } in
    let shown : ShowsEnv w (first_number n + suc k) G = (first_number n + k, omega arith, h, inr one) in
    let further : suc (i + suc k) ≡ i + suc (suc k) = omega arith in
    let behind : drop (i + suc (suc k)) names ≡ xs = ap (λ j. drop j names) (sym further) ∙ drop_behind names (i + suc k) x xs e in
    let rest = slots_go_on w n f i slot o at inside xs (suc k) G behind (omega (arith, l)) shown in
    let number : suc k + length xs ≡ k + suc (length xs) = omega arith in
    let next : slot + suc (suc k) ≡ suc (slot + suc k) = omega arith in
    subst (λ j. ShowsEnv w (first_number n + j) (on_slots xs (suc (slot + suc k)) G)) number
    (subst (λ j. ShowsEnv w (first_number n + (suc k + length xs)) (on_slots xs j G)) next rest)

-- one scope binds all of them
slots_bound : (w : World) (f i slot o count : ℕ) (E : Env) → f < size_of w.tree → 1 ≤ count → count ≤ STRIDE → ShowsEnv w o E
    → (xs : List Name) → drop i (parameters_in w.tree.tokens (tree_in w.tree f)) ≡ xs → length xs ≡ count
    → ShowsEnv (record w { scopes = w.scopes ++ scope.Slots f i slot o ∷ [] }) (next_number w.scopes + (count - 1)) (on_slots xs slot E)
slots_bound w f i slot o count E inside some few h [] e many = absurd (omega (arith, some, many))
slots_bound w f i slot o count E inside some few h (x ∷ xs) e many =
    let names = parameters_in w.tree.tokens (tree_in w.tree f) in
    let s = scope.Slots f i slot o in
    let n = length w.scopes in
    let new : World = record w { scopes = w.scopes ++ s ∷ [] } in
    let at : slice_get new.scopes n ≡ Some s = last_place w.scopes s in
    let one : IsSlot new (first_number n) o x (Flat (Slot slot)) = record {
      node = f;
      parameter = i;
      slot = slot;
      kept = scope_first new.scopes n s at;
      inside = inside;
      name = get_at_drop names i x xs e;
      value = refl;
    } in
    let G : Env = Bound x (Flat (Slot slot)) E in
    let shown : ShowsEnv new (first_number n) G = (o, env_inside w o E h, env_grows w new (scope_opens w s) o E h, inr one) in
    let zeroth : first_number n ≡ first_number n + 0 = omega arith in
    let next : suc i ≡ i + 1 = omega arith in
    let behind : drop (i + 1) names ≡ xs = ap (λ j. drop j names) (sym next) ∙ drop_behind names i x xs e in
    let rest = slots_go_on new n f i slot o at inside xs 0 G behind (omega (arith, many, few)) (subst (λ j. ShowsEnv new j G) zeroth shown) in
    let number : 0 + length xs ≡ count - 1 = omega (arith, many) in
    let second : slot + 1 ≡ suc slot = omega arith in
    subst (λ j. ShowsEnv new (first_number n + j) (on_slots xs (suc slot) G)) number
    (subst (λ j. ShowsEnv new (first_number n + (0 + length xs)) (on_slots xs j G)) second rest)

-- the machine after it
abbrev pub with_slots : code_machine.Machine → Environments → ℕ → code_machine.Machine
with_slots m s next = record m { scopes = s; slot = next }

pub slots_taken : (p : Parsed) (m : code_machine.Machine) (s : Environments) (x : code_scope.Scope) (left next : ℕ)
    → s ≡ with_scope m.scopes x → next ≡ m.slot + left → Slots p m (with_slots m s next) left
slots_taken p m s x left next is more =
    let g = scoped_grew p m s x is in
    record {
      lists = g.lists;
      continuations = g.continuations;
      state = ap (λ (t : State). record t { slot = next }) g.state ∙ ap (λ (k : ℕ). record (state_of m) { slot = k }) more;
      knows = λ k. g.knows k;
    }

pub slots_shown : (p : Parsed) (m : code_machine.Machine) (s : Environments) (f i o count left inner next : ℕ) (E : Env)
    → s ≡ with_scope m.scopes (scope.Slots f i m.slot o) → f < size_of p → left ≡ count - i → 1 ≤ left → left ≤ STRIDE
    → inner ≡ next_number m.scopes.scopes + (left - 1) → count ≡ length (parameters_in p.tokens (tree_in p f)) → ShowsEnv (world p m) o E
    → ShowsEnv (world p (with_slots m s next)) inner (on_slots (drop i (parameters_in p.tokens (tree_in p f))) m.slot E)
slots_shown p m s f i o count left inner next E is inside are some few number all h =
    let names = parameters_in p.tokens (tree_in p f) in
    let many : length (drop i names) ≡ left = omega (arith, length-drop i names, are, all) in
    let shown = slots_bound (world p m) f i m.slot o left E inside some few h (drop i names) refl many in
    subst (λ (t : Environments). ShowsEnv (world p (with_slots m t next)) inner (on_slots (drop i names) m.slot E)) (sym is)
    (subst (λ j. ShowsEnv (world p (with_slots m (with_scope m.scopes (scope.Slots f i m.slot o)) next)) j (on_slots (drop i names) m.slot E))
    (sym number) shown)

-- none are left
pub none_taken : (p : Parsed) (m : code_machine.Machine) (left : ℕ) → left ≡ 0 → Slots p m m left
none_taken p m left none =
    let g = grew_itself p m in
    let same : m.slot ≡ m.slot + left = omega (arith, none) in
    record { lists = g.lists; continuations = refl; state = ap (λ (k : ℕ). record (state_of m) { slot = k }) same; knows = λ k. k }

pub no_slots : (p : Parsed) (m : code_machine.Machine) (f i o count left : ℕ) (E : Env) → left ≡ count - i → left ≡ 0
    → count ≡ length (parameters_in p.tokens (tree_in p f)) → ShowsEnv (world p m) o E
    → ShowsEnv (world p m) o (on_slots (drop i (parameters_in p.tokens (tree_in p f))) m.slot E)
no_slots p m f i o count left E are none all h =
    let names = parameters_in p.tokens (tree_in p f) in
    let nothing : drop i names ≡ [] = drop_all i names (omega (arith, are, none, all)) in
    subst (λ xs. ShowsEnv (world p m) o (on_slots xs m.slot E)) (sym nothing) h

-- ---- an abstraction is turned

pub abstraction_turns : (p : Parsed)
    (m m1 : code_machine.Machine) (fs gs : List code_continuation.Continuation) (g : code_for_diagram.ForDiagram) (f bound env count inner body slots : ℕ)
    → (0 < length (parameters_in p.tokens (tree_in p f)) → count ≡ length (parameters_in p.tokens (tree_in p f))) → Slots p m m1 (count - bound)
    → ((E : Env) → f < size_of p → count ≡ length (parameters_in p.tokens (tree_in p f)) → ShowsEnv (world p m) env E
    → ShowsEnv (world p m1) inner (on_slots (drop bound (parameters_in p.tokens (tree_in p f))) m.slot E))
    → fs ≡ m1.continuations ++ continuation.Drawn g ∷ [] → gs ≡ fs ++ continuation.Drawn (drawn.Binding m.slot slots) ∷ []
    → slots ≡ count - bound → AreNumbered m.slot slots
    → body < size_of p → tree_in p body ≡ body_in (tree_in p f)
    → Turns p m (record m1 { continuations = gs }) (Ok (focus.Visit body inner)) g (value.Abstraction f bound env)
abstraction_turns p m m1 fs gs g f bound env count inner body slots counted taken shows first second many numbered inside is F (Abstraction x xs b E)
    h k Fs kept =
    let names = parameters_in p.tokens (tree_in p f) in
    let n : code_machine.Machine = record m1 { continuations = gs } in
    let old = world p m in
    let new = world p n in
    let left : length names - bound ≡ length (x ∷ xs) = sym (length-drop bound names) ∙ ap length k.1 in
    let some : 0 < length names = omega (arith, left) in
    let all : count ≡ length names = counted some in
    let number : count - bound ≡ length (x ∷ xs) = omega (arith, all, left) in
    let inner_shown : ShowsEnv new inner (on_slots (x ∷ xs) m.slot E) =
    subst (λ (ys : List Name). ShowsEnv new inner (on_slots ys m.slot E)) k.1 (shows E k.0 all k.3) in
    let state : state_of n ≡ record (state_of m) { slot = m.slot + length (x ∷ xs) } =
    taken.state ∙ ap (λ (j : ℕ). record (state_of m) { slot = m.slot + j }) number in
    let below : ShowsContinuations new m1.continuations Fs =
    subst (λ (ys : List code_continuation.Continuation). ShowsContinuations new ys Fs) (sym taken.continuations)
    (continuations_grow old new taken.lists m.continuations Fs kept.1) in
    let waits : ShowsContinuations new fs (Drawn F ∷ Fs) = (
      m1.continuations,
      continuation.Drawn g,
      first,
      for_diagram_grows old new
          taken.lists g F h,
      below,
    ) in
    let Gs : List Continuation = Drawn (Binding m.slot (length (x ∷ xs))) ∷ Drawn F ∷ Fs in
    let binds : ShowsContinuations new gs Gs = (
      fs,
      continuation.Drawn (drawn.Binding m.slot slots),
      second,
      (
        refl,
        many
            ∙ number,
        numbered,
      ),
      waits,
    ) in (
      b,
      on_slots (x ∷ xs) m.slot E,
      Gs,
      ap (λ (t : State). Running (Visit b (on_slots (x ∷ xs) m.slot E)) Gs t) (sym state),
      (inside, is ∙ k.2),
      inner_shown,
      (taken.knows kept.0, binds),
    )
abstraction_turns p m m1 fs gs g f bound env count inner body slots counted taken shows first second many numbered inside is F v h k Fs kept = absurd k

pub diagram_turns : (p : Parsed) (m n : code_machine.Machine) (r : Result code_focus.Focus EvalRefusal) (g : code_for_diagram.ForDiagram) (i : ℕ)
    → Receives p m n r g i → Turns p m n r g (value.Diagram i)
diagram_turns p m n r g i go F (Flat d) h k = go F d h k
diagram_turns p m n r g i go F v h k = absurd k

pub rules_turn : (p : Parsed) (m n : code_machine.Machine) (x : EvalRefusal) (g : code_for_diagram.ForDiagram) (r : Ruled) (e k i : ℕ)
    → x ≡ no_diagram p.tokens (begins_in p r)
    → Turns p m n (Err x) g (value.Rules r e k i)
rules_turn p m n x g r e k i is F (Rules s rs E T) h q Fs kept = inr (ap (λ (y : EvalRefusal). Ended (Err y)) (sym (is ∙ ap (no_diagram p.tokens) q.1)))
rules_turn p m n x g r e k i is F v h q Fs kept = absurd q
