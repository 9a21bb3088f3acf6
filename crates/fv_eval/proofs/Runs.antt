-- A run of the machine, and what a program stands for.
use Rattle.std.proofs.Common.{inl, inr, ◌≡◌, ◌⊎◌, ℕ, ◌<◌, List, [], ◌∷◌, ◌++◌, Result, Some, Ok, Err, refl, sym, ap, subst, ◌∙◌, arith}
use Rattle.std.specs.Prelude.{codes}
use Rattle.fv_parse.specs.Token.{Lexed}
use Rattle.fv_parse_grammar.specs.headline.Tree.{Tree}
use Rattle.fv_parse.specs.headline.Trees.{text_of}
use Rattle.fv_parse.specs.Trees.{Parsed, program_of, size_of, first_named}
use Rattle.fv_diagram.specs.headline.Diagram.{Diagram, has_table_primitive}
use Rattle.fv_diagram.specs.Arena.{count_of, tree_of}
use Rattle.fv_eval_patterns.specs.Trials.{Recalls}
use Rattle.fv_eval_patterns.proofs.lemmas.LongPatterns.{recalls_nothing}
use Rattle.fv_rules.specs.declared.refusal.EvalRefusal.{EvalRefusal}
use Rattle.fv_rules.specs.declared.refusal.EvalRefusal.TheVariants.{NoMemory}
use Rattle.fv_eval_scopes.specs.declared.value.Value as code_value
use Rattle.fv_eval_scopes.specs.declared.value.Value.TheVariants as value
use Rattle.fv_eval_scopes.specs.declared.value.Scope.TheVariants as scope
use Rattle.fv_eval_scopes.specs.Environments.{Environments, next_number, scope_in, with_scope}
use Rattle.fv_rules.specs.headline.Values.{Value, Flat, Outermost, Scope}
use Rattle.std.proofs.Common.{ap₂, Bool, true, false}
use Rattle.std.specs.Prelude.{if◌then◌else◌}
use Rattle.fv_rules.specs.declared.refusal.EvalRefusal.TheVariants.{TableForm}
use Rattle.fv_rules.specs.declared.refusal.TableCause.TheVariants as cause
use Rattle.fv_rules.specs.headline.Steps.{State, Outcome, Eval, after, ◌>>=◌, give, refuse, whole as no_primitive}
use Rattle.fv_rules.specs.headline.Rules.{ev, flat, finished, name_value, program_value, start, turned}
use Rattle.fv_eval_drawing.specs.Controls.{AreLabelled}
use Rattle.fv_eval_scopes.specs.Shows.{ShowsValue, ShowsEnv}
use Rattle.fv_rules.specs.Machine.{Config, Drawn, Finish, Ended, StartsMean, StepsMean, first, meaning, step}
use Rattle.fv_eval.specs.declared.continuation.Continuation as code_continuation
use Rattle.fv_eval.specs.declared.continuation.Continuation.TheVariants as continuation
use Rattle.fv_eval.specs.declared.continuation.ForDiagram.TheVariants as drawn
use Rattle.fv_eval.specs.declared.continuation.Focus as code_focus
use Rattle.fv_eval.specs.declared.continuation.Focus.TheVariants as focus
use Rattle.fv_eval.specs.declared.machine.Machine as code_machine
use Rattle.fv_eval.specs.inner.Continuations.{world, state_of, Goes, Continues, Ends, IsNew, Runs}

-- what `process` is, as a diagram
abbrev pub of_process : Lexed → Tree → Eval Diagram
of_process l x = name_value l (ev l) (codes "process") (Scope x Outermost) >>= turned l (ev l)

-- what the first configuration stands for
abbrev pub whole : Lexed → Tree → Outcome Value
whole l x = meaning l (first x start)

-- ---- ends

came : (o : Outcome Diagram) (d : Diagram) (s : State) → after o (λ x. give (Flat x)) ≡ Ok (Flat d, s) → o ≡ Ok (d, s)
came (Ok x) d s e =
    let both : ◌≡◌ {A = Value × State} (Flat x.0, x.1) (Flat d, s) = cc in
    let value : ◌≡◌ {A = Value} (Flat x.0) (Flat d) = ap (λ (q : Value × State). q.0) both in
    let diagram : x.0 ≡ d = cc in
    ap₂ (λ (y : Diagram) (t : State). Ok (y, t)) diagram (ap (λ (q : Value × State). q.1) both)
came (Err r) d s e = absurd (cc)

came_not : (o : Outcome Diagram) (r : EvalRefusal) → after o (λ x. give (Flat x)) ≡ Err r → o ≡ Err r
came_not (Ok x) r e = absurd (cc)
came_not (Err q) r e = let h : q ≡ r = cc in ap Err h

-- what the third rule of tables makes of a diagram
abbrev judged : Bool → Diagram → State → Outcome Diagram
judged b d s = (if b then refuse (TableForm cause.Primitive) else give d) s

-- a diagram without a table primitive is the program's, with the controls
pub is_program : (p : Parsed) (d : Diagram) (s : State) → of_process p.tokens (program_of p) start ≡ Ok (d, s) → has_table_primitive d ≡ false
    → program_value p.tokens (program_of p) ≡ Ok (d, s.controls)
is_program p d s e h = ap (λ (o : Outcome Diagram). finished (after o no_primitive)) e ∙ ap (λ b. finished (judged b d s)) h

-- and one with such a primitive is refused
pub is_left : (p : Parsed) (d : Diagram) (s : State) → of_process p.tokens (program_of p) start ≡ Ok (d, s) → has_table_primitive d ≡ true
    → program_value p.tokens (program_of p) ≡ Err (TableForm cause.Primitive)
is_left p d s e h = ap (λ (o : Outcome Diagram). finished (after o no_primitive)) e ∙ ap (λ b. finished (judged b d s)) h

-- a run that is done has the diagram of `process`, and the state
pub done : (p : Parsed) (m : code_machine.Machine) (i : ℕ) → StartsMean → Ends p m (Ok (value.Diagram i)) (whole p.tokens (program_of p))
    → (i < count_of m.drawing.diagrams) × (of_process p.tokens (program_of p) start ≡ Ok (tree_of m.drawing.diagrams i, state_of m))
done p m i mean h = shown h.0 (sym (mean p.tokens (program_of p) start) ∙ h.1) h.2
  where
    shown : (v : Value) → flat (of_process p.tokens (program_of p)) start ≡ Ok (v, state_of m) → ShowsValue (world p m) (value.Diagram i) v
        → (i < count_of m.drawing.diagrams) × (of_process p.tokens (program_of p) start ≡ Ok (tree_of m.drawing.diagrams i, state_of m))
    shown (Flat d) e k = (
      k.0,
      came (of_process p.tokens (program_of p) start)
          (tree_of m.drawing.diagrams i) (state_of m) (e ∙ ap (λ (x : Diagram). Ok (Flat x, state_of m)) (sym k.1)),
    )
    shown v e k = absurd k

flat_value : (o : Outcome Diagram) (v : Value) (s : State) → after o (λ x. give (Flat x)) ≡ Ok (v, s) → (d : Diagram) × (v ≡ Flat d)
flat_value (Ok x) v s e =
    let both : ◌≡◌ {A = Value × State} (Flat x.0, x.1) (v, s) = cc in
    (x.0, sym (ap (λ (q : Value × State). q.0) both))
flat_value (Err r) v s e = absurd (cc)

diagram_shown : (p : Parsed) (m : code_machine.Machine) (u : code_value.Value) (d : Diagram) → ShowsValue (world p m) u (Flat d) →
    (i : ℕ) × (u ≡ value.Diagram i)
diagram_shown p m (value.Diagram i) d h = (i, refl)
diagram_shown p m u d h = absurd h

-- and its value is a diagram
pub done_flat : (p : Parsed) (m : code_machine.Machine) (u : code_value.Value) → StartsMean → Ends p m (Ok u) (whole p.tokens (program_of p))
    → (i : ℕ) × (u ≡ value.Diagram i)
done_flat p m u mean h =
    let v = flat_value (of_process p.tokens (program_of p) start) h.0 (state_of m) (sym (mean p.tokens (program_of p) start) ∙ h.1) in
    diagram_shown p m u v.0 (subst (ShowsValue (world p m) u) v.1 h.2)

-- one that is refused, the program's refusal
pub refused : (p : Parsed) (m : code_machine.Machine) (r : EvalRefusal) → StartsMean → Ends p m (Err r) (whole p.tokens (program_of p))
    → (r ≡ NoMemory) ⊎ (program_value p.tokens (program_of p) ≡ Err r)
refused p m r mean (inl h) = inl h
refused p m r mean (inr h) =
    inr (ap (λ (o : Outcome Diagram). finished (after o no_primitive))
    (came_not (of_process p.tokens (program_of p) start) r (sym (mean p.tokens (program_of p) start) ∙ h)))

-- ---- steps of a run

-- the configuration that a run has come to has ended
pub run_done : (p : Parsed) (m : code_machine.Machine) (u : code_value.Value) (o : Outcome Value)
    → Continues p.tokens p m (Ok (focus.Done u)) o → Ends p m (Ok u) o
run_done p m u o h = (h.1.0, sym h.2 ∙ ap (meaning p.tokens) h.1.1, h.1.2)

pub run_refused : (p : Parsed) (m : code_machine.Machine) (r : EvalRefusal) (o : Outcome Value) → Continues p.tokens p m (Err r) o → Ends p m (Err r) o
run_refused p m r o h = stops h.1
  where
    stops : (r ≡ NoMemory) ⊎ (h.0 ≡ Ended (Err r)) → Ends p m (Err r) o
    stops (inl e) = inl e
    stops (inr e) = inr (sym h.2 ∙ ap (meaning p.tokens) e)

pub goes_on : (p : Parsed) (m n : code_machine.Machine) (f : code_focus.Focus) (r : Result code_focus.Focus EvalRefusal) (o : Outcome Value) → StepsMean
    → ((c : Config) → Goes p m (Ok f) c → Goes p n r (step p.tokens c)) → Continues p.tokens p m (Ok f) o → Continues p.tokens p n r o
goes_on p m n f r o mean goes h = (step p.tokens h.0, goes h.0 h.1, mean p.tokens h.0 ∙ h.2)

-- ---- a whole run

-- a new machine to which its first environment and its first continuation were added
pub starts : (p : Parsed) (m : code_machine.Machine) (s : Environments) (fs : List code_continuation.Continuation) (root name env : ℕ)
    → IsNew m start
    → (env ≡ next_number m.scopes.scopes) × (s ≡ with_scope m.scopes (scope.Definitions root 0))
    → fs ≡ m.continuations ++ continuation.Drawn drawn.Finish ∷ [] → root ≡ p.root
    → root < size_of p → (text_of p.tokens name ≡ codes "process") × (first_named p.tokens name ≡ name)
    → Continues p.tokens p (record m { scopes = s; continuations = fs }) (Ok (focus.Call name env)) (whole p.tokens (program_of p))
starts p m s fs root name env new opened pushed rooted inside named =
    let x : Tree = program_of p in
    let n : code_machine.Machine = record m { scopes = s; continuations = fs } in
    let outermost : ℕ → Environments = λ i. record { scopes = scope.Definitions i 0 ∷ []; taken = [] } in
    let one : env ≡ 1 = opened.0 ∙ ap (λ (e : Environments). next_number e.scopes) new.1 in
    let scopes : s ≡ outermost p.root = opened.1 ∙ ap (λ (e : Environments). with_scope e (scope.Definitions root 0)) new.1 ∙ ap outermost rooted in
    let continuations : fs ≡ continuation.Drawn drawn.Finish ∷ [] = pushed
    ∙ ap (λ (xs : List code_continuation.Continuation). xs ++ continuation.Drawn drawn.Finish ∷ []) new.2 in
    let found : scope_in s.scopes env ≡ Some (scope.Definitions p.root 0) =
    ap (λ (e : Environments). scope_in e.scopes env) scopes ∙ ap (λ (i : ℕ). scope_in (scope.Definitions p.root 0 ∷ []) i) one in
    let there : p.root < size_of p = subst (λ (i : ℕ). i < size_of p) rooted inside in
    let shown : ShowsEnv (world p n) env (Scope x Outermost) = (p.root, 0, found, omega (arith, one), (there, refl), refl) in (
      first x (state_of m),
      (
        codes "process",
        Scope x Outermost,
        Drawn Finish ∷ [],
        refl,
        named,
        shown,
        (
          (
            subst (Recalls p m.drawing.diagrams) (sym new.4) (recalls_nothing p m.drawing.diagrams),
            new.5 p s.scopes,
            subst (AreLabelled p m.controls) (sym new.6) (λ i k e. absurd (cc)),
          ),
          ([], continuation.Drawn drawn.Finish, continuations, tt, refl),
        ),
      ),
      ap (λ (t : State). meaning p.tokens (first x t)) new.3,
    )

-- its first configuration is one that it stands at
pub runs_first : (p q : Parsed) (m : code_machine.Machine) (f : code_focus.Focus) (o : Outcome Value) → q ≡ p → Continues p.tokens p m (Ok f) o → Runs q m f
runs_first p q m f o e h = subst (λ (x : Parsed). Runs x m f) (sym e) (h.0, h.1)

-- and its end is that of the program
pub run_ends : (p q : Parsed) (m n : code_machine.Machine) (f : code_focus.Focus) (r s : Result code_value.Value EvalRefusal) (o : Outcome Value)
    → q ≡ p → r ≡ s
    → Continues p.tokens p m (Ok f) o → ((w : Outcome Value) → Continues q.tokens q m (Ok f) w → Ends q n r w) → Ends p n s o
run_ends p q m n f r s o e is h run =
    subst (λ (t : Result code_value.Value EvalRefusal). Ends p n t o) is
    (subst (λ (x : Parsed). (w : Outcome Value) → Continues x.tokens x m (Ok f) w → Ends x n r w) e run o h)
