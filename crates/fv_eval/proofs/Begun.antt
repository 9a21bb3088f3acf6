-- How the forms begin.
use Rattle.std.proofs.Common.{inr, ◌≡◌, ℕ, ◌<◌, List, [], ◌∷◌, length, drop, map, Result, Ok, Err, refl, sym, ap, subst, ◌∙◌}
use Rattle.std.specs.Prelude.{ℤ}
use Rattle.fv_parse.specs.Token.{Lexed}
use Rattle.fv_parse_grammar.specs.headline.Tree.{Tree, items, start_of, End}
use Rattle.fv_parse_grammar.specs.headline.Tree as tree
use Rattle.fv_parse_grammar.specs.Slider.{Slider as SliderKind}
use Rattle.fv_parse.specs.Arena.{forest, trees}
use Rattle.fv_parse.specs.TreeId.{TreeId}
use Rattle.fv_parse.specs.headline.Trees.{text_of, label_of}
use Rattle.fv_parse.specs.Trees.{Parsed, size_of, tree_in}
use Rattle.fv_rules.specs.declared.refusal.EvalRefusal.{EvalRefusal}
use Rattle.fv_eval_scopes.specs.declared.value.Value.TheVariants as value
use Rattle.fv_eval_scopes.specs.declared.value.Ruled.TheVariants as ruled
use Rattle.fv_eval_scopes.specs.declared.value.Scope.TheVariants as scope
use Rattle.fv_eval_scopes.specs.Environments.{Environments, next_number, with_scope}
use Rattle.fv_rules.specs.headline.Values.{Env, Scope, Abstraction, Rules, Nothing, rule_of}
use Rattle.fv_rules.specs.headline.Steps.{State, no_diagram}
use Rattle.fv_rules.specs.headline.Rules.{slider_kind}
use Rattle.fv_eval_scopes.specs.Shows.{ShowsTree, ShowsEnv, body_in, parameters_in, case_in}
use Rattle.fv_eval_scopes.proofs.lemmas.Grown.{opened_shows}
use Rattle.fv_rules.specs.Machine.{Continuation, Visit, Running, Ended, begin, next_parameter}
use Rattle.fv_eval.specs.declared.continuation.Focus as code_focus
use Rattle.fv_eval.specs.declared.continuation.Focus.TheVariants as focus
use Rattle.fv_eval.specs.declared.machine.Machine as code_machine
use Rattle.fv_eval.specs.inner.Continuations.{Begins, ShowsSlider, Steps, state_of, world}
use Rattle.fv_eval.proofs.Moves.{scoped_grew, steps_on, visits}
use Rattle.fv_eval.proofs.SliderLemmas.{GoesOn}

-- a tree among definitions
pub among_goes : (p : Parsed) (m : code_machine.Machine) (new : Environments) (list id e inner : ℕ) (ds x : Tree) (E : Env)
    → inner ≡ next_number m.scopes.scopes
    → new ≡ with_scope m.scopes (scope.Definitions list e) → ShowsTree (world p m) list ds → ShowsTree (world p m) id x → ShowsEnv (world p m) e E
    → Steps p m (record m { scopes = new }) (Ok (focus.Visit id inner)) (λ Fs s. Running (Visit x (Scope ds E)) Fs s)
among_goes p m new list id e inner ds x E i is t u h =
    let n : code_machine.Machine = record m { scopes = new } in
    let opened : ShowsEnv (world p (record m { scopes = with_scope m.scopes (scope.Definitions list e) })) (next_number m.scopes.scopes) (Scope ds E) =
    opened_shows (world p m) list ds e E t h in
    let shown : ShowsEnv (world p n) inner (Scope ds E) =
    subst (λ (j : ℕ). ShowsEnv (world p n) j (Scope ds E)) (sym i)
    (subst (λ (w : Environments). ShowsEnv (world p (record m { scopes = w })) (next_number m.scopes.scopes) (Scope ds E)) (sym is) opened) in
    steps_on p m n n (Ok (focus.Visit id inner))
    (λ Fs s. Running (Visit x (Scope ds E)) Fs s) (scoped_grew p m new (scope.Definitions list e) is) (visits p n id inner x (Scope ds E) u shown)

-- an abstraction with parameters is a value
abstraction_shown : (p : Parsed) (m : code_machine.Machine) (id e start : ℕ) (ns : List ℕ) (b : Tree)
    → id < size_of p → tree_in p id ≡ tree.Abstraction start ns b → (ns ≡ [] → ⊥)
    → (E : Env)
    → ShowsEnv (world p m) e E → Steps p m m (Ok (focus.Give (value.Abstraction id 0 e))) (λ Fs s. begin p.tokens (tree.Abstraction start ns b) E Fs s)
abstraction_shown p m id e start [] b l t n E h Fs k = absurd (n refl)
abstraction_shown p m id e start (x ∷ xs) b l t n E h Fs k =
    (Abstraction (text_of p.tokens x) (map (text_of p.tokens) xs) b E, Fs, refl, (l, ap (λ u. drop 0 (parameters_in p.tokens u)) t, ap body_in t, h), k)

pub abstraction_begins : (p : Parsed) (m : code_machine.Machine) (id e start : ℕ) (ns : List ℕ) (b : Tree)
    → id < size_of p → tree_in p id ≡ tree.Abstraction start ns b → (ns ≡ [] → ⊥)
    → Begins p m m (Ok (focus.Give (value.Abstraction id 0 e))) e (tree_in p id)
abstraction_begins p m id e start ns b l t n =
    subst (Begins p m m (Ok (focus.Give (value.Abstraction id 0 e))) e) (sym t) (abstraction_shown p m id e start ns b l t n)

-- the node is an abstraction
pub record IsAbstraction (p : Parsed) (id start body : ℕ) (ns : List ℕ) : Type 0 where
  pub inside : id < size_of p
  pub below : body < size_of p
  pub is : tree_in p id ≡ tree.Abstraction start ns (tree_in p body)

-- it is its body where it has no parameters, else a value
pub names_begin : (p : Parsed) (m : code_machine.Machine) (id e start body : ℕ) (ns : List ℕ) (f : code_focus.Focus) → IsAbstraction p id start body ns
    → (ns ≡ [] → f ≡ focus.Visit body e) → ((ns ≡ [] → ⊥) → f ≡ focus.Give (value.Abstraction id 0 e)) → Begins p m m (Ok f) e (tree_in p id)
names_begin p m id e start body [] f node bare named =
    subst (λ (g : code_focus.Focus). Begins p m m (Ok g) e (tree_in p id)) (sym (bare refl))
    (subst (Begins p m m (Ok (focus.Visit body e)) e) (sym node.is) (λ E h. visits p m body e (tree_in p body) E (node.below, refl) h))
names_begin p m id e start body (x ∷ xs) f node bare named =
    subst (λ (g : code_focus.Focus). Begins p m m (Ok g) e (tree_in p id)) (sym (named (λ z. cc)))
    (abstraction_begins p m id e start (x ∷ xs) (tree_in p body) node.inside node.is (λ z. cc))

-- a `case` is rules
pub case_begins : (p : Parsed) (m : code_machine.Machine) (id e start : ℕ) (rs : Tree) → id < size_of p → tree_in p id ≡ tree.Case start rs
    → Begins p m m (Ok (focus.Give (value.Rules (ruled.Case id) e 0 0))) e (tree_in p id)
case_begins p m id e start rs l t =
    subst (Begins p m m (Ok (focus.Give (value.Rules (ruled.Case id) e 0 0))) e) (sym t)
    (λ E h Fs k. (Rules start (map rule_of (items rs)) E Nothing, Fs, refl, (l, ap start_of t, ap (λ u. map rule_of (case_in u)) t, h, refl), k))

-- a list is no expression
list_ends : (l : Lexed) (ts : List Tree) (ids : List TreeId) (E : Env) (Fs : List Continuation) (s : State)
    → begin l (forest ts ids End) E Fs s ≡ Ended (Err (no_diagram l (start_of (forest ts ids End))))
list_ends l ts [] E Fs s = refl
list_ends l ts (i ∷ is) E Fs s = refl

pub list_begins : (p : Parsed) (m n : code_machine.Machine) (id e : ℕ) (ids : List TreeId) (r : EvalRefusal) → tree_in p id ≡ forest (trees p.entries) ids End
    → r ≡ no_diagram p.tokens (start_of (tree_in p id)) → Begins p m n (Err r) e (tree_in p id)
list_begins p m n id e ids r t is =
    λ E h Fs k. inr
    (ap (λ (x : Tree). begin p.tokens x E Fs (state_of m)) t ∙ list_ends p.tokens (trees p.entries) ids E Fs (state_of m)
    ∙ ap (λ (q : EvalRefusal). Ended (Err q)) (sym (is ∙ ap (λ (x : Tree). no_diagram p.tokens (start_of x)) t)))

-- a slider begins with its first parameter
pub slider_begins : (p : Parsed)
    (m n : code_machine.Machine) (r : Result code_focus.Focus EvalRefusal) (id e start l : ℕ) (k : SliderKind) (x0 x1 x2 x3 : Tree) (ns : List ℤ)
    → id < size_of p → tree_in p id ≡ tree.Slider start k l x0 x1 x2 x3 → ns ≡ []
    → GoesOn p m n r id e ns → Begins p m n r e (tree_in p id)
slider_begins p m n r id e start l k x0 x1 x2 x3 ns inside t none next = λ E h.
    let four : List Tree = x0 ∷ x1 ∷ x2 ∷ x3 ∷ [] in
    let shown : ShowsSlider (world p m) id e (length ns) k (label_of p.tokens l) E four = record {
      s = start;
      n = l;
      x0 = x0;
      x1 = x1;
      x2 = x2;
      x3 = x3;
      tree = (inside, t);
      label_is = refl;
      rest = sym (ap (λ (xs : List ℤ). drop (length xs) four) none);
      env = h;
    } in
    subst (λ (x : Tree). Steps p m n r (λ Fs s. begin p.tokens x E Fs s)) (sym t)
    (subst (λ (xs : List ℤ). Steps p m n r (λ Fs s. next_parameter (slider_kind k) (label_of p.tokens l) four E xs Fs s)) none
    (next k (label_of p.tokens l) E four shown))
