-- The parameters of a slider.
use Rattle.std.proofs.Common.{inr, ◌≡◌, ℕ, suc, List, [], ◌∷◌, ◌++◌, length, drop, Option, Some, None, Result, Err, refl, sym, ap, subst, ◌∙◌, arith}
use Rattle.std.specs.Prelude.{ℤ, slice_get}
use Rattle.std.proofs.lemmas.List.{length_push}
use Rattle.fv_parse_grammar.specs.headline.Tree.{Tree, start_of}
use Rattle.fv_parse_grammar.specs.headline.Tree as tree
use Rattle.fv_parse_grammar.specs.Slider.{Slider as SliderKind}
use Rattle.fv_parse.specs.headline.Trees.{label_of}
use Rattle.fv_parse.specs.Trees.{Parsed, tree_in}
use Rattle.fv_diagram.specs.Arena.{tree_of}
use Rattle.fv_rules.specs.declared.refusal.EvalRefusal.{EvalRefusal}
use Rattle.fv_eval_scopes.specs.declared.value.Value.TheVariants as value
use Rattle.fv_eval_scopes.specs.declared.value.Ruled.{Ruled}
use Rattle.fv_rules.specs.headline.Values.{Value, Flat, Abstraction, Rules, Env}
use Rattle.fv_rules.specs.Numbers.{number_of}
use Rattle.fv_rules.specs.headline.Matching.{value_number}
use Rattle.fv_rules.specs.headline.Steps.{control, no_number}
use Rattle.fv_rules.specs.headline.Rules.{flat, read_number, slider_info, slider_kind}
use Rattle.fv_eval_scopes.specs.Shows.{World, ShowsValue}
use Rattle.fv_rules.specs.Machine.{Ended, given, next_parameter, parameter_read}
use Rattle.fv_eval.specs.declared.continuation.Focus as code_focus
use Rattle.fv_eval.specs.declared.machine.Machine as code_machine
use Rattle.fv_eval.specs.inner.Continuations.{ShowsSlider, Steps, parameters_of, state_of, world}
use Rattle.fv_eval.proofs.Places.{get_at_drop, drop_behind, drop_at_end}

-- ---- numbers of values

pub diagram_number : (w : World) (i : ℕ) (o : Option ℤ)
    → o ≡ number_of (tree_of w.diagrams i) → (v : Value) → ShowsValue w (value.Diagram i) v → o ≡ value_number v
diagram_number w i o e (Flat d) h = e ∙ ap number_of h.1
diagram_number w i o e (Abstraction x xs b E) h = absurd h
diagram_number w i o e (Rules s rs E T) h = absurd h

pub abstraction_number : (w : World) (f n e : ℕ) (v : Value) → ShowsValue w (value.Abstraction f n e) v → None ≡ value_number v
abstraction_number w f n e (Flat d) h = absurd h
abstraction_number w f n e (Abstraction x xs b E) h = refl
abstraction_number w f n e (Rules s rs E T) h = refl

pub rules_number : (w : World) (r : Ruled) (e n i : ℕ) (v : Value) → ShowsValue w (value.Rules r e n i) v → None ≡ value_number v
rules_number w r e n i (Flat d) h = absurd h
rules_number w r e n i (Abstraction x xs b E) h = refl
rules_number w r e n i (Rules s rs E T) h = refl

-- ---- parameters

-- what ends a slider whose numbers are known
abbrev pub Finishes : (p : Parsed) (m n : code_machine.Machine) (r : Result code_focus.Focus EvalRefusal) (slider : ℕ) (ns : List ℤ) → Type 0
Finishes p m n r slider ns =
    (s : ℕ) (k : SliderKind) (l : ℕ) (x0 x1 x2 x3 : Tree) → tree_in p slider ≡ tree.Slider s k l x0 x1 x2 x3
    → Steps p m n r (λ Fs t. given (flat (control (slider_info (slider_kind k) (label_of p.tokens l) ns)) t) Fs)

-- what goes on with a slider whose first parameters have these numbers
abbrev pub GoesOn : (p : Parsed) (m n : code_machine.Machine) (r : Result code_focus.Focus EvalRefusal) (slider e : ℕ) (ns : List ℤ) → Type 0
GoesOn p m n r slider e ns =
    (k : SliderKind) (label : List ℕ) (E : Env) (xs : List Tree) → ShowsSlider (world p m) slider e (length ns) k label E xs
    → Steps p m n r (λ Fs s. next_parameter (slider_kind k) label xs E ns Fs s)

all_done : (p : Parsed) (m n : code_machine.Machine) (r : Result code_focus.Focus EvalRefusal) (slider e : ℕ) (ns : List ℤ)
    → None ≡ slice_get (parameters_of (tree_in p slider)) (length ns) → Finishes p m n r slider ns → GoesOn p m n r slider e ns
all_done p m n r slider e ns none finish k label E xs h =
    let four : List Tree = h.x0 ∷ h.x1 ∷ h.x2 ∷ h.x3 ∷ [] in
    let ended : slice_get four (length ns) ≡ None = sym (none ∙ ap (λ (t : Tree). slice_get (parameters_of t) (length ns)) h.tree.1) in
    let empty : xs ≡ [] = h.rest ∙ drop_at_end four (length ns) ended in
    subst (λ (ys : List Tree). Steps p m n r (λ Fs s. next_parameter (slider_kind k) label ys E ns Fs s)) (sym empty)
    (subst (λ (name : List ℕ). Steps p m n r (λ Fs s. given (flat (control (slider_info (slider_kind k) name ns)) s) Fs)) (sym h.label_is)
    (finish h.s k h.n h.x0 h.x1 h.x2 h.x3 h.tree.1))

-- all are done, and the slider is given
pub slider_ends : (p q : Parsed) (m n : code_machine.Machine) (r : Result code_focus.Focus EvalRefusal) (slider e : ℕ) (ns numbers : List ℤ)
    → q ≡ p → numbers ≡ ns
    → None ≡ slice_get (parameters_of (tree_in q slider)) (length ns) → Finishes q m n r slider numbers → GoesOn p m n r slider e ns
slider_ends p q m n r slider e ns numbers same numbered none finish =
    subst (λ (t : Parsed). GoesOn t m n r slider e ns) same
    (all_done q m n r slider e ns none (subst (λ (xs : List ℤ). Finishes q m n r slider xs) numbered finish))

-- one parameter more is done
pub slider_more : (w : World) (slider e : ℕ) (ns : List ℤ) (number : ℤ) (k : SliderKind) (label : List ℕ) (E : Env) (x : Tree) (more : List Tree)
    → ShowsSlider w slider e (length ns) k label E (x ∷ more) → ShowsSlider w slider e (length (ns ++ number ∷ [])) k label E more
slider_more w slider e ns number k label E x more h =
    let four : List Tree = h.x0 ∷ h.x1 ∷ h.x2 ∷ h.x3 ∷ [] in
    let count : suc (length ns) ≡ length (ns ++ number ∷ []) = omega (arith, length_push ns number) in
    let rest : more ≡ drop (suc (length ns)) four = sym (drop_behind four (length ns) x more (sym h.rest)) in
    record {
      s = h.s;
      n = h.n;
      x0 = h.x0;
      x1 = h.x1;
      x2 = h.x2;
      x3 = h.x3;
      tree = h.tree;
      label_is = h.label_is;
      rest = rest ∙ ap (λ (i : ℕ). drop i four) count;
      env = h.env;
    }

-- a parameter with a number was read
pub parameter_goes : (p : Parsed) (m n : code_machine.Machine) (r : Result code_focus.Focus EvalRefusal) (slider e : ℕ) (ns ms : List ℤ) (number : ℤ)
    → ms ≡ ns ++ number ∷ []
    → GoesOn p m n r slider e ms → (k : SliderKind) (label : List ℕ) (E : Env) (x : Tree) (more : List Tree) (o : Option ℤ) → Some number ≡ o
    → ShowsSlider (world p m) slider e (length ns) k label E (x ∷ more)
    → Steps p m n r (λ Fs s. parameter_read (slider_kind k) label more E ns (read_number p.tokens (start_of x) o s) Fs)
parameter_goes p m n r slider e ns ms number pushed next k label E x more o known h =
    let shown : ShowsSlider (world p m) slider e (length ms) k label E more =
    subst (λ (xs : List ℤ). ShowsSlider (world p m) slider e (length xs) k label E more)
    (sym pushed) (slider_more (world p m) slider e ns number k label E x more h) in
    subst (λ (q : Option ℤ). Steps p m n r (λ Fs s. parameter_read (slider_kind k) label more E ns (read_number p.tokens (start_of x) q s) Fs)) known
    (subst (λ (xs : List ℤ). Steps p m n r (λ Fs s. next_parameter (slider_kind k) label more E xs Fs s)) pushed (next k label E more shown))

-- one that has none is refused at its place
pub parameter_refused : (p : Parsed) (m n : code_machine.Machine) (slider e id : ℕ) (ns : List ℤ) (r : EvalRefusal)
    → Some (tree_in p id) ≡ slice_get (parameters_of (tree_in p slider)) (length ns) → r ≡ no_number p.tokens (start_of (tree_in p id))
    → (k : SliderKind) (label : List ℕ) (E : Env) (x : Tree) (more : List Tree) (o : Option ℤ)
    → None ≡ o → ShowsSlider (world p m) slider e (length ns) k label E (x ∷ more)
    → Steps p m n (Err r) (λ Fs s. parameter_read (slider_kind k) label more E ns (read_number p.tokens (start_of x) o s) Fs)
parameter_refused p m n slider e id ns r part is k label E x more o none h =
    let four : List Tree = h.x0 ∷ h.x1 ∷ h.x2 ∷ h.x3 ∷ [] in
    let here : slice_get four (length ns) ≡ Some x = get_at_drop four (length ns) x more (sym h.rest) in
    let both : Some (tree_in p id) ≡ Some x = part ∙ ap (λ (t : Tree). slice_get (parameters_of t) (length ns)) h.tree.1 ∙ here in
    let same : tree_in p id ≡ x = cc in
    λ Fs kept. inr
    (ap (λ (q : Option ℤ). parameter_read (slider_kind k) label more E ns (read_number p.tokens (start_of x) q (state_of m)) Fs) (sym none)
    ∙ ap (λ (t : EvalRefusal). Ended (Err t)) (sym (is ∙ ap (λ (t : Tree). no_number p.tokens (start_of t)) same)))
