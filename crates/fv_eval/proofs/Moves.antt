-- Where the machine goes.
use Rattle.std.proofs.Common.{inl, inr, ◌≡◌, ℕ, List, Result, Ok, Err, refl, sym, ap, subst, ◌∙◌}
use Rattle.fv_parse_grammar.specs.headline.Tree.{Tree}
use Rattle.fv_parse.specs.Trees.{Parsed, tree_in, node_tree}
use Rattle.fv_parse.specs.TreeNode.{TreeNode}
use Rattle.fv_diagram.specs.headline.Diagram.{Diagram}
use Rattle.fv_diagram.specs.Arena.{tree_of}
use Rattle.fv_eval_drawing.specs.Makes.{AddsDiagrams, Canvas, Extends, Draws as IsDrawn, MakesValue}
use Rattle.fv_rules.specs.declared.refusal.EvalRefusal.{EvalRefusal}
use Rattle.fv_eval_scopes.specs.declared.value.Value as code_value
use Rattle.fv_eval_scopes.specs.declared.value.Value.TheVariants as value
use Rattle.fv_eval_scopes.specs.declared.value.Scope as code_scope
use Rattle.fv_eval_scopes.specs.Environments.{Environments, with_scope}
use Rattle.fv_rules.specs.headline.Values.{Value, Flat, Env}
use Rattle.fv_rules.specs.headline.Steps.{State, Outcome, Eval}
use Rattle.fv_eval_scopes.specs.Shows.{Grows, ShowsTree, ShowsValue, ShowsEnv}
use Rattle.fv_eval_scopes.proofs.lemmas.Grown.{diagrams_come, scope_opens, grows_on}
use Rattle.fv_eval_patterns.specs.Remembered.{Remembered}
use Rattle.fv_eval_patterns.specs.Trials.{Recalls}
use Rattle.fv_eval_patterns.proofs.lemmas.LongPatterns.{recalls_grow}
use Rattle.fv_eval_lookup.proofs.lemmas.Skipped.{shortcuts_grow}
use Rattle.fv_rules.specs.Machine.{Continuation, Visit, Give, Config, Running, Ended, given}
use Rattle.fv_eval.specs.declared.continuation.Focus as code_focus
use Rattle.fv_eval.specs.declared.continuation.Focus.TheVariants as focus
use Rattle.fv_eval.specs.declared.machine.Machine as code_machine
use Rattle.fv_eval.specs.inner.Continuations.{world, state_of, ShowsContinuations, Keeps, Knows, Goes, Steps, Grew}
use Rattle.fv_eval.proofs.Grown.{continuations_grow}

-- ---- lists that grow

pub grew_on : (p : Parsed) (a b c : code_machine.Machine) → Grew p a b → Grew p b c → Grew p a c
grew_on p a b c g h = record {
  lists = grows_on (world p a) (world p b) (world p c) g.lists h.lists;
  continuations = h.continuations
      ∙ g.continuations;
  state = h.state ∙ g.state;
  knows = λ k. h.knows (g.knows k);
}

pub grew_itself : (p : Parsed) (m : code_machine.Machine) → Grew p m m
grew_itself p m = record {
  lists = record { tree = refl; diagrams = λ i d h. h; scopes = λ i x h. h; taken = λ i x h. h };
  continuations = refl;
  state = refl;
  knows = λ k. k;
}

-- diagrams were put
pub drawn_grows : (p : Parsed) (m : code_machine.Machine) (new : Canvas) → Extends m.drawing new
    → Grows (world p m) (world p (record m { drawing = new }))
drawn_grows p m new g = diagrams_come (world p m) new.diagrams g.longer g.trees

knows_drawn : (p : Parsed) (m : code_machine.Machine) (new : Canvas) → Extends m.drawing new → Knows p m → Knows p (record m { drawing = new })
knows_drawn p m new g k = (recalls_grow p m.drawing.diagrams new.diagrams g.longer g.trees m.trials k.0, k.1, k.2)

-- what is remembered of ways outward stays true where scopes were added
pub knows_scoped : (p : Parsed) (m : code_machine.Machine) (new : Environments) → Grows (world p m) (world p (record m { scopes = new }))
    → Knows p m → Knows p (record m { scopes = new })
knows_scoped p m new g k = (k.0, shortcuts_grow p m.scopes.scopes new.scopes g.scopes m.shortcuts k.1, k.2)

-- and the table sum is the same
pub drawn_grew : (p : Parsed) (m : code_machine.Machine) (new : Canvas) → AddsDiagrams m.drawing new → Grew p m (record m { drawing = new })
drawn_grew p m new g = record {
  lists = drawn_grows p m new g.keeps;
  continuations = refl;
  state = ap (λ (n : ℕ). record (state_of m) { tables = n }) g.tables;
  knows = knows_drawn p m new g.keeps;
}

-- a rule was chosen
pub chosen_grew : (p : Parsed) (m : code_machine.Machine) (new : Canvas) (fs : Remembered) → AddsDiagrams m.drawing new → Recalls p new.diagrams fs
    → Grew p m (record m { drawing = new; trials = fs })
chosen_grew p m new fs g recalls = record {
  lists = drawn_grows p m new g.keeps;
  continuations = refl;
  state = ap (λ (n : ℕ). record (state_of m) { tables = n }) g.tables;
  knows = λ k. (recalls, k.1, k.2);
}

-- an environment was made
pub scoped_grew : (p : Parsed) (m : code_machine.Machine) (new : Environments) (x : code_scope.Scope)
    → new ≡ with_scope m.scopes x → Grew p m (record m { scopes = new })
scoped_grew p m new x e =
    subst (λ (s : Environments). Grew p m (record m { scopes = s })) (sym e)
    (record {
      lists = scope_opens (world p m) x;
      continuations = refl;
      state = refl;
      knows = knows_scoped p m (with_scope m.scopes x) (scope_opens (world p m) x);
    })

-- pending work is still shown
pub keeps_on : (p : Parsed) (a b : code_machine.Machine) → Grew p a b → (Fs : List Continuation) → Keeps p a Fs → Keeps p b Fs
keeps_on p a b g Fs k = (
  g.knows k.0,
  subst (λ fs. ShowsContinuations (world p b) fs Fs) (sym g.continuations) (continuations_grow (world p a) (world p b) g.lists a.continuations Fs k.1),
)

-- after growing the rest goes on as from the start
pub steps_on : (p : Parsed) (a b c : code_machine.Machine) (r : Result code_focus.Focus EvalRefusal) (next : List Continuation → State → Config)
    → Grew p a b → Steps p b c r next → Steps p a c r next
steps_on p a b c r next g h Fs k = subst (λ s. Goes p c r (next Fs s)) g.state (h Fs (keeps_on p a b g Fs k))

-- ---- where it goes

pub visits : (p : Parsed) (m : code_machine.Machine) (i e : ℕ) (x : Tree) (E : Env) → ShowsTree (world p m) i x → ShowsEnv (world p m) e E
    → Steps p m m (Ok (focus.Visit i e)) (λ Fs s. Running (Visit x E) Fs s)
visits p m i e x E t h Fs k = (x, E, Fs, refl, t, h, k)

pub gives : (p : Parsed) (m : code_machine.Machine) (u : code_value.Value) (v : Value)
    → ShowsValue (world p m) u v → Steps p m m (Ok (focus.Give u)) (λ Fs s. Running (Give v) Fs s)
gives p m u v h Fs k = (v, Fs, refl, h, k)

pub refused : (p : Parsed) (old new : code_machine.Machine) (e r : EvalRefusal) → e ≡ r → Steps p old new (Err e) (λ Fs s. Ended (Err r))
refused p old new e r h Fs k = inr (ap (λ x. Ended (Err x)) (sym h))

-- ---- what was put is given

-- a diagram that was put
pub put_goes : (p : Parsed) (m : code_machine.Machine) (new : Canvas) (i : ℕ) (o : Eval Value) → Extends m.drawing new
    → MakesValue m.drawing new o (Ok i)
    → Steps p m (record m { drawing = new }) (Ok (focus.Give (value.Diagram i))) (λ Fs s. given (o s) Fs)
put_goes p m new i o g h Fs k = (
  Flat (tree_of new.diagrams i),
  Fs,
  ap (λ (x : Outcome Value). given x Fs) (h.1 (state_of m)),
  (h.0, refl),
  (
    knows_drawn p m new g k.0,
    continuations_grow (world p m) (world p (record m { drawing = new })) (drawn_grows p m new g) m.continuations Fs k.1,
  ),
)

-- one that was refused
pub put_refused : (p : Parsed) (m n : code_machine.Machine) (new : Canvas) (e : EvalRefusal) (o : Eval Value)
    → MakesValue m.drawing new o (Err e) → Steps p m n (Err e) (λ Fs s. given (o s) Fs)
put_refused p m n new e o (inl h) Fs k = inl h
put_refused p m n new e o (inr h) Fs k = inr (ap (λ (x : Outcome Value). given x Fs) (h (state_of m)))

-- a leaf that was put
pub leaf_goes : (p : Parsed) (m : code_machine.Machine) (new : Canvas) (i : ℕ) (d : Diagram) → AddsDiagrams m.drawing new
    → IsDrawn new.diagrams i d
    → Steps p m (record m { drawing = new }) (Ok (focus.Give (value.Diagram i))) (λ Fs s. Running (Give (Flat d)) Fs s)
leaf_goes p m new i d g h =
    let n : code_machine.Machine = record m { drawing = new } in
    steps_on p m n n (Ok (focus.Give (value.Diagram i)))
    (λ Fs s. Running (Give (Flat d)) Fs s) (drawn_grew p m new g) (gives p n (value.Diagram i) (Flat d) (h.inside, h.is))

-- ---- nodes

-- what is said of a node's tree is said by its form
pub at_node : (p : Parsed) (id start : ℕ) (node form : TreeNode) (P : Tree → Type 0)
    → tree_in p id ≡ node_tree p node start → node ≡ form → P (node_tree p form start) → P (tree_in p id)
at_node p id start node form P t e h = subst P (sym (t ∙ ap (λ n. node_tree p n start) e)) h
