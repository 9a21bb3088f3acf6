-- The count and the bodies of an iteration.
use Rattle.std.proofs.Common.{◌≡◌, ℕ, zero, suc, ◌<◌, false, List, [], ◌∷◌, length, Option, Some, Vec, Result, ℤ, pos, negsuc, refl, sym, ap, subst, ◌∙◌}
use Rattle.std.specs.declared.alloc.Global.{Global}
use lib.Signed.{lt_z}
use Rattle.std.proofs.lemmas.List.Elements.{All-nil}
use Rattle.fv_parse_grammar.specs.headline.Tree.{Tree, start_of}
use Rattle.fv_parse_grammar.specs.headline.Tree as tree
use Rattle.fv_parse_grammar.specs.Iteration.{Iteration as Repetition}
use Rattle.fv_parse.specs.headline.Trees.{text_of}
use Rattle.fv_parse.specs.Trees.{Parsed, first_named, size_of, tree_in}
use Rattle.fv_diagram.specs.headline.Diagram.{Diagram, Constant}
use Rattle.fv_diagram.specs.Arena.{count_of, tree_of}
use Rattle.fv_eval_drawing.specs.Makes.{AddsDiagrams, Canvas, Draws as IsDrawn, Extends, MakesValue, trees_of}
use Rattle.fv_rules.specs.declared.refusal.EvalRefusal.{EvalRefusal}
use Rattle.fv_eval_scopes.specs.declared.value.Value.TheVariants as value
use Rattle.fv_eval_scopes.specs.declared.value.Scope.TheVariants as scope
use Rattle.fv_eval_scopes.specs.Environments.{Environments, next_number, with_scope}
use Rattle.fv_rules.specs.headline.Values.{Flat, Env, Bound}
use Rattle.fv_rules.specs.Numbers.{number_of}
use Rattle.fv_rules.specs.headline.Rules.{counted, gathered}
use Rattle.fv_eval_scopes.specs.Shows.{Draws, IsNamed, ShowsEnv, ShowsTree}
use Rattle.fv_eval_scopes.proofs.lemmas.Grown.{env_grows}
use Rattle.fv_rules.specs.Machine.{Body, Continuation, Drawn, Visit, Running, first_body, next_body}
use Rattle.fv_eval.specs.declared.continuation.Continuation.TheVariants as continuation
use Rattle.fv_eval.specs.declared.continuation.ForDiagram.TheVariants as drawn
use Rattle.fv_eval.specs.declared.continuation.Focus as code_focus
use Rattle.fv_eval.specs.declared.machine.Machine as code_machine
use Rattle.fv_eval.specs.inner.Continuations.{AllDraw, AreIndexed, gave, Grew, ShowsForDiagram, ShowsContinuation, Steps, world}
use Rattle.fv_eval.proofs.Grown.{for_diagram_grows}
use Rattle.fv_eval.proofs.Moves.{drawn_grew, grew_on, scoped_grew, steps_on}
use Rattle.fv_eval.proofs.Received.{Repeats, made_goes}
use Rattle.fv_eval.proofs.Taking.{bind_shows}

-- the clause of `count`
abbrev pub Counts : Parsed → (m n : code_machine.Machine) → Result code_focus.Focus EvalRefusal → (a e i : ℕ) → Type 0
Counts p m n r a e i =
    (s : ℕ) (q : Repetition) (x : ℕ) (c b : Tree) (E : Env) (d : Diagram) → ShowsTree (world p m) a (tree.Iteration s q x c b) → ShowsEnv (world p m) e E
    → Draws (world p m) i d → Steps p m n r (λ Fs t. first_body q (text_of p.tokens x) b E (counted p.tokens (start_of c) (number_of d) t) Fs)

same_kind : (s t : ℕ) (q r : Repetition) (x y : ℕ) (c d a b : Tree) → tree.Iteration s q x c a ≡ tree.Iteration t r y d b → q ≡ r
same_kind s t q r x y c d a b e = cc

same_name : (s t : ℕ) (q r : Repetition) (x y : ℕ) (c d a b : Tree) → tree.Iteration s q x c a ≡ tree.Iteration t r y d b → x ≡ y
same_name s t q r x y c d a b e = cc

same_body : (s t : ℕ) (q r : Repetition) (x y : ℕ) (c d a b : Tree) → tree.Iteration s q x c a ≡ tree.Iteration t r y d b → a ≡ b
same_body s t q r x y c d a b e = cc

-- ---- the count

-- the first body comes
pub count_goes : (p : Parsed) (m n : code_machine.Machine) (r : Result code_focus.Focus EvalRefusal) (a e i left k : ℕ) (is : List ℕ)
    → Some (pos (suc k)) ≡ number_of (tree_of m.drawing.diagrams i)
    → left ≡ suc k → is ≡ [] → Repeats p m n r a e left is → Counts p m n r a e i
count_goes p m n r a e i left k is some count none go s q y c b E d t h g =
    let w = world p m in
    let empty : AllDraw w [] [] = (All-nil (λ j. j < count_of w.diagrams), refl) in
    let go1 = subst (λ (js : List ℕ). Repeats p m n r a e left js) none go in
    let go2 = subst (λ (j : ℕ). Repeats p m n r a e j []) count go1 in
    let step = go2 q (text_of p.tokens y) b E [] (record { s = s; n = y; count = c; tree = t; name = refl; env = h; done = empty }) in
    subst (λ (o : Option ℤ). Steps p m n r (λ Fs u. first_body q (text_of p.tokens y) b E (counted p.tokens (start_of c) o u) Fs))
    (some ∙ ap number_of g.1) step

-- the same, where the number is not below 1
pub count_from : (p : Parsed) (m n : code_machine.Machine) (r : Result code_focus.Focus EvalRefusal) (a e i left : ℕ) (is : List ℕ) (z : ℤ)
    → Some z ≡ number_of (tree_of m.drawing.diagrams i)
    → lt_z z (pos 1) ≡ false → ((k : ℕ) → z ≡ pos (suc k) → left ≡ suc k) → is ≡ [] → Repeats p m n r a e left is → Counts p m n r a e i
count_from p m n r a e i left is (pos zero) some low count none go = absurd (cc)
count_from p m n r a e i left is (pos (suc k)) some low count none go = count_goes p m n r a e i left k is some (count k refl) none go
count_from p m n r a e i left is (negsuc k) some low count none go = absurd (cc)

-- ---- the bodies

-- all are there
pub bodies_end : (p : Parsed) (m : code_machine.Machine) (new : Canvas) (r : Result ℕ EvalRefusal) (a e t0 y0 : ℕ) (q0 : Repetition)
    (c0 b0 : Tree) (is : List ℕ)
    → tree_in p a ≡ tree.Iteration t0 q0 y0 c0 b0
    → Extends m.drawing new → MakesValue m.drawing new (gathered q0 (trees_of m.drawing.diagrams is)) r
    → Repeats p m (record m { drawing = new }) (gave r) a e 0 is
bodies_end p m new r a e t0 y0 q0 c0 b0 is node g made q x b E ds h =
    let kind : q0 ≡ q = sym (same_kind h.s t0 q q0 h.n y0 h.count c0 b b0 (sym h.tree.1 ∙ node)) in
    let made1 = subst (λ (k : Repetition). MakesValue m.drawing new (gathered k (trees_of m.drawing.diagrams is)) r) kind made in
    let made2 = subst (λ (xs : List Diagram). MakesValue m.drawing new (gathered q xs) r) h.done.1 made1 in
    made_goes p m new r (gathered q ds) g made2

-- the next one is visited
pub body_waits : (p : Parsed) (m n : code_machine.Machine) (r : Result code_focus.Focus EvalRefusal) (d : Canvas) (s : Environments)
    (a e left left1 inner number name body t0 y0 : ℕ) (q0 : Repetition) (c0 b0 : Tree)
    (index : ℤ) (done : Vec ℕ Global) → tree_in p a ≡ tree.Iteration t0 q0 y0 c0 b0 → left ≡ suc left1 → index ≡ pos (length done.items)
    → AddsDiagrams m.drawing d → IsDrawn d.diagrams number (Constant index) → text_of p.tokens name ≡ text_of p.tokens y0
    → first_named p.tokens name ≡ name
    → inner ≡ next_number m.scopes.scopes → s ≡ with_scope m.scopes (scope.Bound name (value.Diagram number) e)
    → body < size_of p → tree_in p body ≡ b0 → AreIndexed (suc (length done.items)) left1
    → ((F : Continuation) (x : Tree) (E : Env) → ShowsContinuation (world p (record m { drawing = d; scopes = s }))
    (continuation.Drawn (drawn.Body a e left1 done)) F
    → ShowsTree (world p (record m { drawing = d; scopes = s })) body x → ShowsEnv (world p (record m { drawing = d; scopes = s })) inner E
    → Steps p (record m { drawing = d; scopes = s }) n r (λ Fs t. Running (Visit x E) (F ∷ Fs) t))
    → Repeats p m n r a e left done.items
body_waits p m n r d s a e left
    left1 inner number name body t0 y0 q0 c0 b0 index done node one index_is g drawn_is text canonical place is inside body_is indexed wait q x b E ds h =
    let m1 : code_machine.Machine = record m { drawing = d } in
    let m2 : code_machine.Machine = record m { drawing = d; scopes = s } in
    let grew : Grew p m m2 = grew_on p m m1 m2 (drawn_grew p m d g) (scoped_grew p m1 s (scope.Bound name (value.Diagram number) e) is) in
    let node_is = sym h.tree.1 ∙ node in
    let i : ℤ = pos (length done.items) in
    let named : IsNamed (world p m1) name x =
    (text ∙ ap (text_of p.tokens) (sym (same_name h.s t0 q q0 h.n y0 h.count c0 b b0 node_is)) ∙ sym h.name, canonical) in
    let env1 = env_grows (world p m) (world p m1) (drawn_grew p m d g).lists e E h.env in
    let bound : ShowsEnv (world p m2) inner (Bound x (Flat (Constant i)) E) =
    bind_shows p m1 s name (value.Diagram number) e inner x (Flat (Constant i)) E place is named (drawn_is.inside, drawn_is.is ∙ ap Constant index_is) env1 in
    let F : Continuation = Drawn (Body q x b E (suc (length done.items)) left1 ds) in
    let waits : ShowsForDiagram (world p m2) (drawn.Body a e left1 done) (Body q x b E (suc (length done.items)) left1 ds) =
    for_diagram_grows (world p m) (world p m2) grew.lists (drawn.Body a e left1 done) (Body q x b E (suc (length done.items)) left1 ds)
    (h, refl, refl, indexed) in
    let shown : tree_in p body ≡ b = body_is ∙ sym (same_body h.s t0 q q0 h.n y0 h.count c0 b b0 node_is) in
    let step = wait F b (Bound x (Flat (Constant i)) E) waits (inside, shown) bound in
    subst (λ (j : ℕ). Steps p m n r (λ Fs t. next_body q x b E (length done.items) j ds Fs t)) (sym one)
    (steps_on p m m2 n r (λ Fs t. next_body q x b E (length done.items) (suc left1) ds Fs t) grew step)
