-- More depth than visits changes nothing, so evaluation follows its rules.
use Rattle.std.proofs.Common.{◌≡◌, ℕ, zero, suc, ◌-◌, ◌≤◌, Bool, true, false, List, [], ◌∷◌, ◌++◌, length}
use Rattle.std.proofs.Common.{Option, Some, None, Ok, Err, ℤ, pos, negsuc, map, refl, sym, ap, ◌∙◌, arith}
use Rattle.std.specs.Prelude.{nat_le, nat_lt, nat_eq, ◌&&◌, int_le, if◌then◌else◌}
use Rattle.fv_lex.specs.headline.Token.{Lexed}
use Rattle.fv_parse_grammar.specs.headline.Tree.{Tree, items, start_of}
use Rattle.fv_parse_grammar.specs.headline.Tree as tree
use Rattle.fv_parse_grammar.specs.declared.form.Operator.{Operator}
use Rattle.fv_parse_grammar.specs.declared.form.Operator.TheVariants as operators
use Rattle.fv_parse_grammar.specs.Iteration.{Iteration as Repetition}
use Rattle.fv_parse_grammar.specs.Iteration.TheVariants as repetitions
use Rattle.fv_diagram.specs.Op.TheVariants as op
use Rattle.fv_diagram.specs.Primitive.{Primitive as Prim}
use Rattle.fv_diagram.specs.Primitive.TheVariants as prim
use Rattle.fv_diagram.specs.headline.Diagram.{Diagram, Primitive, Constant, Table, Bind, Par, Seq, Split, Merge, Rec, size, inputs}
use Rattle.fv_diagram_numbers.specs.headline.Numbers.{at_first, number_of}
use Rattle.fv_diagram.specs.Words.{argument}
use Rattle.std.proofs.Common.{◌+◌, ◌*◌}
use Rattle.fv_diagram.specs.declared.control.ControlInfo.{ControlInfo}
use Rattle.fv_rules.specs.declared.refusal.EvalRefusal.{EvalRefusal}
use Rattle.fv_rules.specs.declared.refusal.EvalRefusal.TheVariants.{EvalBudget}
use Rattle.fv_parse.specs.headline.Trees.{text_of, label_of}
use Rattle.fv_rules.specs.headline.Values.{Name, Value, Flat, Abstraction, Rules, Env, Bound, Scope, And, Definition, Plain}
use Rattle.fv_rules.specs.headline.Values.{Parameters, Cases, Meaning, IsValue, IsDefined, Unknown, lookup, in_order, count_taken}
use Rattle.fv_rules.specs.headline.Matching.{Bindings, settled, value_number, bound_in, chosen}
use Rattle.fv_rules.specs.headline.Steps.{State, Outcome, Eval, after, ◌>>=◌, give, refuse, spent, visit, fresh_slots, misfit, put_after, put_as, put, is_alike}
use Rattle.fv_diagram_numbers.specs.headline.Heads.{parts, cut, is_head, table_numbers}
use Rattle.fv_rules.specs.headline.Steps.{sized, side_by_side, table_size, grow, tabled_by}
use Rattle.fv_rules.specs.headline.Steps.{tabled, waved, before_table, labelled, entered, control}
use Rattle.fv_rules.specs.headline.Rules.{literal_value, switch_kind, slider_kind, Evaluator, flat, on_slots, bind_all, turned}
use Rattle.fv_rules.specs.headline.Rules.{operated, joined, from_right, from_left, defined_value, meant, name_value, arguments, all_turned, wires}
use Rattle.fv_rules.specs.headline.Rules.{all_outputs, takes_the_right, led, fed_by, fed, width, selected, applied, bodies, gathered, counted}
use Rattle.fv_rules.specs.headline.Rules.{read_number, parameters, slider_info, switch_info, abstraction, rule, visited, descend, within, ev}
use Rattle.fv_base.specs.declared.limits.TheConstants.{SIZE_LIMIT, TABLE_LIMIT}

-- ---- what does not raise the visits, and what agrees below a number of visits
abbrev pub AtMost : {A : Type 0} → ℕ → Outcome A → Type 0
AtMost n (Ok x) = x.1.visits ≤ n
AtMost n (Err r) = Unit {0}

-- the same answer, which has no more visits left
pub record Agrees {A : Type 0} (n : ℕ) (m m' : Eval A) : Type 0 where
  pub same : (s : State) → s.visits ≤ n → (m s ≡ m' s) × AtMost s.visits (m s)

-- an evaluation that calls no evaluator
abbrev pub Keeps : {A : Type 0} → Eval A → Type 0
Keeps m = (s : State) → AtMost s.visits (m s)

lift : {A : Type 0} (n k : ℕ) (r : Outcome A) → n ≤ k → AtMost n r → AtMost k r
lift n k (Ok x) h a = omega arith
lift n k (Err r) h a = tt

keeps : {A : Type 0} (n : ℕ) (m : Eval A) → Keeps m → Agrees n m m
keeps n m k = record { same = λ s h. (refl, k s) }

after_ok : {A B : Type 0} (n v : ℕ) (r : Outcome A) (f f' : A → Eval B) → v ≤ n → AtMost v r → ((x : A) → Agrees n (f x) (f' x))
    → (after r f ≡ after r f') × AtMost v (after r f)
after_ok n v (Ok x) f f' h a g =
    let p = (g x.0).same x.1 (omega arith) in (p.0, lift x.1.visits v (f x.0 x.1) a p.1)
after_ok n v (Err r) f f' h a g = (refl, tt)

pub bind_agrees : {A B : Type 0} {n : ℕ} {m m' : Eval A} {f f' : A → Eval B} → Agrees n m m' → ((x : A) → Agrees n (f x) (f' x))
    → Agrees n (m >>= f) (m' >>= f')
bind_agrees {n = n} {m = m} {f = f} {f' = f'} a g = record {
  same = λ s h.
      let p = a.same s h in
      let q = after_ok n s.visits (m s) f f' h p.1 g in
      (q.0 ∙ ap (λ r. after r f') p.0, q.1);
}

pub give_agrees : {A : Type 0} {n : ℕ} {x : A} → Agrees n (give x) (give x)
give_agrees = record { same = λ s h. (refl, omega arith) }

pub refuse_agrees : {A : Type 0} {n : ℕ} {r : EvalRefusal} → Agrees {A = A} n (refuse r) (refuse r)
refuse_agrees = record { same = λ s h. (refl, tt) }

choice : {A : Type 0} {n : ℕ} {m m' k k' : Eval A} (b : Bool) → Agrees n m m' → Agrees n k k' → Agrees n (if b then m else k) (if b then m' else k')
choice true p q = p
choice false p q = q

-- ---- the parts of the rules that call no evaluator
flat_agrees : {n : ℕ} {m m' : Eval Diagram} → Agrees n m m' → Agrees n (flat m) (flat m')
flat_agrees a = bind_agrees a (λ d. give_agrees)

sized_agrees : (n : ℕ) (d : Diagram) → Agrees n (sized d) (sized d)
sized_agrees n d = choice (nat_le (size d) SIZE_LIMIT) give_agrees refuse_agrees

put_after_agrees : (n : ℕ) (o : Option EvalRefusal) (d : Diagram) → Agrees n (put_after o d) (put_after o d)
put_after_agrees n (Some r) d = refuse_agrees
put_after_agrees n None d = sized_agrees n d

side_agrees : (n : ℕ) (d : Diagram) (ds : List Diagram) → Agrees n (side_by_side d ds) (side_by_side d ds)
side_agrees n d [] = give_agrees
side_agrees n d (x ∷ xs) = bind_agrees (side_agrees n x xs) (λ r. sized_agrees n (Par d r))

table_size_agrees : (n : ℕ) (z : ℤ) → Agrees n (table_size z) (table_size z)
table_size_agrees n (pos zero) = refuse_agrees
table_size_agrees n (pos (suc k)) = give_agrees
table_size_agrees n (negsuc k) = refuse_agrees

if_at_most : {A : Type 0} (n : ℕ) (b : Bool) (x y : Outcome A) → AtMost n x → AtMost n y → AtMost n (if b then x else y)
if_at_most n true x y p q = p
if_at_most n false x y p q = q

grow_agrees : (n k : ℕ) → Agrees n (grow k) (grow k)
grow_agrees n k = keeps n (grow k) (λ s. if_at_most s.visits (nat_le (s.tables + k) TABLE_LIMIT) _ _ (omega arith) tt)

waved_agrees : (n : ℕ) (values : List ℤ) → Agrees n (waved values) (waved values)
waved_agrees n values = bind_agrees (grow_agrees n (length values)) (λ u. give_agrees)

tabled_by_agrees : (n : ℕ) (writes : Bool) (ds rs : List Diagram) → Agrees n (tabled_by writes ds rs) (tabled_by writes ds rs)
tabled_by_agrees n writes [] rs = refuse_agrees
tabled_by_agrees n writes (d ∷ ds) [] = refuse_agrees
tabled_by_agrees n writes (d ∷ ds) (r ∷ rs) =
    bind_agrees (side_agrees n d ds) (λ h. bind_agrees (table_size_agrees n (argument (at_first h) 0)) (λ k.
    bind_agrees (grow_agrees n (k * size h)) (λ u. bind_agrees (side_agrees n r rs) (λ rest. sized_agrees n (Seq rest (Table (table_numbers k h) writes))))))

tabled_agrees : (n : ℕ) (writes : Bool) (d : Diagram) → Agrees n (tabled writes d) (tabled writes d)
tabled_agrees n writes d =
    let c = cut 2 (parts d) in choice (is_head c.0) (tabled_by_agrees n writes c.0 c.1) refuse_agrees

put_as_agrees : (n : ℕ) (x : Option (Diagram × Bool)) (o : Option EvalRefusal) (d : Diagram) → Agrees n (put_as x o d) (put_as x o d)
put_as_agrees n None o d = put_after_agrees n o d
put_as_agrees n (Some x) (Some r) d = refuse_agrees
put_as_agrees n (Some x) None d = tabled_agrees n x.1 x.0

put_agrees : (n : ℕ) (d : Diagram) → Agrees n (put d) (put d)
put_agrees n d = put_as_agrees n (before_table d) (misfit d) d

bind_all_agrees : (n slot k : ℕ) (d : Diagram) → Agrees n (bind_all slot k d) (bind_all slot k d)
bind_all_agrees n slot zero d = give_agrees
bind_all_agrees n slot (suc k) d = bind_agrees (bind_all_agrees n (suc slot) k d) (λ b. put_agrees n (Bind slot b))

operated_agrees : (n : ℕ) (p : Prim) (a b : Diagram) → Agrees n (operated p a b) (operated p a b)
operated_agrees n p a b = bind_agrees (put_agrees n (Par a b)) (λ ab. put_agrees n (Seq ab (Primitive p)))

joined_agrees : (n : ℕ) (o : Operator) (a b : Diagram) → Agrees n (joined o a b) (joined o a b)
joined_agrees n (operators.Infix p) a b = operated_agrees n p a b
joined_agrees n operators.Recursion a b = put_agrees n (Rec a b)
joined_agrees n operators.Parallel a b = put_agrees n (Par a b)
joined_agrees n operators.Sequence a b = put_agrees n (Seq a b)
joined_agrees n operators.Split a b = put_agrees n (Split a b)
joined_agrees n operators.Merge a b = put_agrees n (Merge a b)

from_right_agrees : (n : ℕ) (compose : Diagram → Diagram → Diagram) (d : Diagram) (ds : List Diagram)
    → Agrees n (from_right compose d ds) (from_right compose d ds)
from_right_agrees n compose d [] = give_agrees
from_right_agrees n compose d (x ∷ xs) = bind_agrees (from_right_agrees n compose x xs) (λ r. put_agrees n (compose d r))

from_left_agrees : (n : ℕ) (p : Prim) (d : Diagram) (ds : List Diagram) → Agrees n (from_left p d ds) (from_left p d ds)
from_left_agrees n p d [] = give_agrees
from_left_agrees n p d (x ∷ xs) = bind_agrees (operated_agrees n p d x) (λ r. from_left_agrees n p r xs)

led_agrees : (n : ℕ) (d : Diagram) (ds : List Diagram) (f : Diagram) → Agrees n (led d ds f) (led d ds f)
led_agrees n d ds f = bind_agrees (from_right_agrees n Par d ds) (λ p. put_agrees n (Seq p f))

fed_by_agrees : (n k : ℕ) (f d : Diagram) (ds : List Diagram) → Agrees n (fed_by k f d ds) (fed_by k f d ds)
fed_by_agrees n k f d ds =
    choice (nat_lt (inputs f) k) (refuse_agrees)
    (choice (takes_the_right f && nat_eq k 1) (led_agrees n (Primitive prim.Wire) (d ∷ ds) f) (led_agrees n d (ds ++ wires (inputs f - k)) f))

fed_agrees : (n : ℕ) (f : Diagram) (ds : List Diagram) → Agrees n (fed f ds) (fed f ds)
fed_agrees n f [] = give_agrees
fed_agrees n f (d ∷ ds) = flat_agrees (fed_by_agrees n (all_outputs (d ∷ ds)) f d ds)

gathered_agrees : (n : ℕ) (r : Repetition) (ds : List Diagram) → Agrees n (gathered r ds) (gathered r ds)
gathered_agrees n r [] = refuse_agrees
gathered_agrees n repetitions.Parallel (d ∷ ds) = flat_agrees (from_right_agrees n Par d ds)
gathered_agrees n repetitions.Sequence (d ∷ ds) = flat_agrees (from_right_agrees n Seq d ds)
gathered_agrees n repetitions.Sum (d ∷ ds) = flat_agrees (from_left_agrees n (prim.Point op.Add) d ds)
gathered_agrees n repetitions.Product (d ∷ ds) = flat_agrees (from_left_agrees n (prim.Point op.Mul) d ds)

counted_agrees : (n : ℕ) (l : Lexed) (start : ℕ) (o : Option ℤ) → Agrees n (counted l start o) (counted l start o)
counted_agrees n l start None = refuse_agrees
counted_agrees n l start (Some (pos zero)) = refuse_agrees
counted_agrees n l start (Some (pos (suc k))) = give_agrees
counted_agrees n l start (Some (negsuc k)) = refuse_agrees

read_agrees : (n : ℕ) (l : Lexed) (start : ℕ) (o : Option ℤ) → Agrees n (read_number l start o) (read_number l start o)
read_agrees n l start None = refuse_agrees
read_agrees n l start (Some k) = give_agrees

fresh_agrees : (n k : ℕ) → Agrees n (fresh_slots k) (fresh_slots k)
fresh_agrees n k = record { same = λ s h. (refl, omega arith) }

either : {A : Type 0} (n : ℕ) (b : Bool) (r r' : Outcome A) → AtMost n r → AtMost n r' → AtMost n (if b then r else r')
either n true r r' p q = p
either n false r r' p q = q

entered_keeps : (c : ControlInfo) (s : State) (o : Option (ℕ × ControlInfo)) → AtMost s.visits (entered c s o)
entered_keeps c s None = omega arith
entered_keeps c s (Some ko) = either s.visits (is_alike c ko.1) _ _ (omega arith) tt

control_agrees : (n : ℕ) (c : ControlInfo) → Agrees n (control c) (control c)
control_agrees n c =
    keeps n (control c) (λ s.
    either s.visits (int_le c.min c.init && int_le c.init c.max) _ _ (entered_keeps c s (labelled 0 s.controls c.label)) tt)

visit_keeps : (v : ℕ) (s : State) → v ≤ s.visits → AtMost s.visits (spent v s)
visit_keeps zero s h = tt
visit_keeps (suc v) s h = omega arith

visit_agrees : (n : ℕ) → Agrees n visit visit
visit_agrees n = keeps n visit (λ s. visit_keeps s.visits s (omega arith))

-- ---- evaluators that agree below a number of visits
pub record Alike (n : ℕ) (e e' : Evaluator) : Type 0 where
  pub value : (x : Tree) (env : Env) → Agrees n (e.value x env) (e'.value x env)
  pub diagram : (x : Tree) (env : Env) → Agrees n (e.diagram x env) (e'.diagram x env)

turned_agrees : (n : ℕ) (l : Lexed) (e e' : Evaluator) → Alike n e e' → (v : Value) → Agrees n (turned l e v) (turned l e' v)
turned_agrees n l e e' a (Flat d) = give_agrees
turned_agrees n l e e' a (Abstraction x xs body env) =
    let m = length (x ∷ xs) in
    bind_agrees (fresh_agrees n m) (λ slot.
    bind_agrees (a.diagram body (on_slots (x ∷ xs) slot env)) (λ d. bind_all_agrees n slot m d))
turned_agrees n l e e' a (Rules s rs env taken) = refuse_agrees

arguments_agree : (n : ℕ) (e e' : Evaluator) → Alike n e e' → (xs : List Tree) (env : Env) (done : List Value)
    → Agrees n (arguments e xs env done) (arguments e' xs env done)
arguments_agree n e e' a [] env done = give_agrees
arguments_agree n e e' a (x ∷ xs) env done = bind_agrees (a.value x env) (λ v. arguments_agree n e e' a xs env (done ++ settled v ∷ []))

parameters_agree : (n : ℕ) (l : Lexed) (e e' : Evaluator) → Alike n e e' → (xs : List Tree) (env : Env) (done : List ℤ)
    → Agrees n (parameters l e xs env done) (parameters l e' xs env done)
parameters_agree n l e e' a [] env done = give_agrees
parameters_agree n l e e' a (x ∷ xs) env done =
    bind_agrees (a.value x env) (λ v.
    bind_agrees (read_agrees n l (start_of x) (value_number v)) (λ k. parameters_agree n l e e' a xs env (done ++ k ∷ [])))

all_turned_agree : (n : ℕ) (l : Lexed) (e e' : Evaluator) → Alike n e e' → (vs : List Value) (done : List Diagram)
    → Agrees n (all_turned l e vs done) (all_turned l e' vs done)
all_turned_agree n l e e' a [] done = give_agrees
all_turned_agree n l e e' a (v ∷ vs) done = bind_agrees (turned_agrees n l e e' a v) (λ d. all_turned_agree n l e e' a vs (done ++ d ∷ []))

selected_agrees : (n : ℕ) (l : Lexed) (e e' : Evaluator) → Alike n e e' → (start : ℕ) (env : Env) (o : Option (Tree × Bindings))
    → Agrees n (selected l e start env o) (selected l e' start env o)
selected_agrees n l e e' a start env None = refuse_agrees
selected_agrees n l e e' a start env (Some xb) = a.value xb.0 (bound_in env xb.1)

applied_agrees : (n : ℕ) (l : Lexed) (e e' : Evaluator) → Alike n e e' → (start : ℕ) (v : Value) (vs : List Value)
    → Agrees n (applied l e start v vs) (applied l e' start v vs)
applied_agrees n l e e' a start v [] = give_agrees
applied_agrees n l e e' a start (Flat f) (w ∷ more) = bind_agrees (all_turned_agree n l e e' a (w ∷ more) []) (λ ds. fed_agrees n f ds)
applied_agrees n l e e' a start (Abstraction x [] body env) (w ∷ more) =
    bind_agrees (a.value body (Bound x w env)) (λ v. applied_agrees n l e e' a start v more)
applied_agrees n l e e' a start (Abstraction x (y ∷ ys) body env) (w ∷ more) =
    applied_agrees n l e e' a start (Abstraction y ys body (Bound x w env)) more
applied_agrees n l e e' a start (Rules s rs env taken) (w ∷ more) =
    choice (nat_lt (count_taken (And w taken)) (width rs)) (applied_agrees n l e e' a start (Rules s rs env (And w taken)) more)
    (bind_agrees (selected_agrees n l e e' a start env (chosen l rs (in_order (And w taken) []))) (λ v. applied_agrees n l e e' a start v more))

bodies_agree : (n : ℕ) (e e' : Evaluator) → Alike n e e' → (x : Name) (b : Tree) (env : Env) (i k : ℕ) (done : List Diagram)
    → Agrees n (bodies e x b env i k done) (bodies e' x b env i k done)
bodies_agree n e e' a x b env i zero done = give_agrees
bodies_agree n e e' a x b env i (suc k) done =
    bind_agrees (a.diagram b (Bound x (Flat (Constant (pos i))) env)) (λ d. bodies_agree n e e' a x b env (suc i) k (done ++ d ∷ []))

defined_agrees : (n : ℕ) (e e' : Evaluator) → Alike n e e' → (d : Definition) (env : Env) → Agrees n (defined_value e d env) (defined_value e' d env)
defined_agrees n e e' a (Plain body) env = a.value body env
defined_agrees n e e' a (Parameters x xs body) env = give_agrees
defined_agrees n e e' a (Cases s rs) env = give_agrees

meant_agrees : (n : ℕ) (e e' : Evaluator) → Alike n e e' → (x : Name) (m : Meaning) → Agrees n (meant e x m) (meant e' x m)
meant_agrees n e e' a x (IsValue v) = give_agrees
meant_agrees n e e' a x (IsDefined d env) = defined_agrees n e e' a d env
meant_agrees n e e' a x Unknown = refuse_agrees

name_agrees : (n : ℕ) (l : Lexed) (e e' : Evaluator) → Alike n e e' → (x : Name) (env : Env) → Agrees n (name_value l e x env) (name_value l e' x env)
name_agrees n l e e' a x env = bind_agrees (visit_agrees n) (λ u. meant_agrees n e e' a x (lookup l env x))

abstraction_agrees : (n : ℕ) (l : Lexed) (e e' : Evaluator) → Alike n e e' → (xs : List ℕ) (b : Tree) (env : Env)
    → Agrees n (abstraction l e xs b env) (abstraction l e' xs b env)
abstraction_agrees n l e e' a [] b env = a.value b env
abstraction_agrees n l e e' a (x ∷ xs) b env = give_agrees

rule_agrees : (n : ℕ) (l : Lexed) (e e' : Evaluator) → Alike n e e' → (x : Tree) (env : Env) → Agrees n (rule l e x env) (rule l e' x env)
rule_agrees n l e e' a (tree.Number s k) env = give_agrees
rule_agrees n l e e' a (tree.Negative s k) env = give_agrees
rule_agrees n l e e' a (tree.Primitive s p) env = give_agrees
rule_agrees n l e e' a (tree.Named s x) env = meant_agrees n e e' a (text_of l x) (lookup l env (text_of l x))
rule_agrees n l e e' a (tree.MinusNamed s x) env =
    bind_agrees (name_agrees n l e e' a (text_of l x) env) (λ v.
    bind_agrees (turned_agrees n l e e' a v) (λ d.
    flat_agrees (operated_agrees n (prim.Point op.Sub) (Constant (pos 0)) d)))
rule_agrees n l e e' a (tree.Group s x) env = a.value x env
rule_agrees n l e e' a (tree.Panel s k t x) env = a.value x env
rule_agrees n l e e' a (tree.Where s x ds) env = a.value x (Scope ds env)
rule_agrees n l e e' a (tree.Abstraction s ns x) env = abstraction_agrees n l e e' a ns x env
rule_agrees n l e e' a (tree.Case s rs) env = give_agrees
rule_agrees n l e e' a (tree.Binary s o x y) env =
    bind_agrees (a.diagram x env) (λ c. bind_agrees (a.diagram y env) (λ d. flat_agrees (joined_agrees n o c d)))
rule_agrees n l e e' a (tree.Delayed s x) env = bind_agrees (a.diagram x env) (λ d. flat_agrees (put_agrees n (Seq d (Primitive prim.Mem))))
rule_agrees n l e e' a (tree.Apply s x ys) env =
    bind_agrees (a.value x env) (λ f.
    bind_agrees (arguments_agree n e e' a (items ys) env []) (λ vs. applied_agrees n l e e' a s f vs))
rule_agrees n l e e' a (tree.Iteration s r t x y) env =
    bind_agrees (a.diagram x env) (λ d.
    bind_agrees (counted_agrees n l (start_of x) (number_of d)) (λ k.
    bind_agrees (bodies_agree n e e' a (text_of l t) y env 0 k []) (λ ds. gathered_agrees n r ds)))
rule_agrees n l e e' a (tree.Ports s k x) env = bind_agrees (a.diagram x env) (λ d. give_agrees)
rule_agrees n l e e' a (tree.Waveform s []) env = refuse_agrees
rule_agrees n l e e' a (tree.Waveform s (x ∷ xs)) env = flat_agrees (waved_agrees n (map literal_value (x ∷ xs)))
rule_agrees n l e e' a (tree.Switch s k t) env = flat_agrees (control_agrees n (switch_info (switch_kind k) (label_of l t)))
rule_agrees n l e e' a (tree.Slider s k t x0 x1 x2 x3) env =
    bind_agrees (parameters_agree n l e e' a (x0 ∷ x1 ∷ x2 ∷ x3 ∷ []) env []) (λ ns.
    flat_agrees (control_agrees n (slider_info (slider_kind k) (label_of l t) ns)))
rule_agrees n l e e' a x env = refuse_agrees

-- ---- a visit
spent_agrees : {A : Type 0} (n v : ℕ) (s : State) (m m' : Eval A) → v ≤ suc n → Agrees n m m'
    → (after (spent v s) (λ u. m) ≡ after (spent v s) (λ u. m')) × AtMost v (after (spent v s) (λ u. m))
spent_agrees n zero s m m' h a = (refl, tt)
spent_agrees n (suc v) s m m' h a =
    let t : State = record s { visits = v } in
    let p = a.same t (omega arith) in (p.0, lift v (suc v) (m t) (omega arith) p.1)

visited_agrees : {A : Type 0} {n : ℕ} {m m' : Eval A} → Agrees n m m' → Agrees (suc n) (visit >>= λ u. m) (visit >>= λ u. m')
visited_agrees {n = n} {m = m} {m' = m'} a = record { same = λ s h. spent_agrees n s.visits s m m' h a }

none_left : {A : Type 0} (v : ℕ) (s : State) (m : Eval A) → v ≤ 0 → (after (spent v s) (λ u. m) ≡ Err EvalBudget) × AtMost v (after (spent v s) (λ u. m))
none_left zero s m h = (refl, tt)
none_left (suc v) s m h = absurd (omega arith)

descend_alike : (n : ℕ) (l : Lexed) (e e' : Evaluator) → Alike n e e' → Alike (suc n) (descend l e) (descend l e')
descend_alike n l e e' a = record {
  value = λ x env. visited_agrees (rule_agrees n l e e' a x env);
  diagram = λ x env. visited_agrees (bind_agrees (rule_agrees n l e e' a x env) (λ v. turned_agrees n l e e' a v));
}

-- more depth than visits changes nothing
within_alike : (n k : ℕ) (l : Lexed) → n ≤ k → Alike n (within k l) (within n l)
unfolding within
within_alike zero zero l h = record { value = λ x env. refuse_agrees; diagram = λ x env. refuse_agrees }
within_alike zero (suc k) l h = record {
  value = λ x env. record { same = λ s le. none_left s.visits s (rule l (within k l) x env) le };
  diagram = λ x env. record { same = λ s le. none_left s.visits s (rule l (within k l) x env >>= turned l (within k l)) le };
}
within_alike (suc n) zero l h = absurd (omega arith)
within_alike (suc n) (suc k) l h = descend_alike n l (within k l) (within n l) (within_alike n k l (omega arith))

ev_alike : (n : ℕ) (l : Lexed) → Alike n (within n l) (ev l)
ev_alike n l =
    let same = within_alike n n l (omega arith) in
    record {
      value = λ x env. record {
        same = λ s h. ((((within_alike s.visits n l h).value x env).same s (omega arith)).0, ((same.value x env).same s h).1);
      };
      diagram = λ x env. record {
        same = λ s h. ((((within_alike s.visits n l h).diagram x env).same s (omega arith)).0, ((same.diagram x env).same s h).1);
      };
    }

-- ---- evaluation follows its rules
-- the state with this many visits left
abbrev with_visits : ℕ → State → State
with_visits v s = record s { visits = v }

value_at : (l : Lexed) (v : ℕ) (s : State) (x : Tree) (env : Env)
    → (within v l).value x env (with_visits v s) ≡ after (spent v (with_visits v s)) (λ u. rule l (ev l) x env)
unfolding within
value_at l zero s x env = refl
value_at l (suc v) s x env = ((rule_agrees v l (within v l) (ev l) (ev_alike v l) x env).same (with_visits v s) (omega arith)).0

diagram_at : (l : Lexed) (v : ℕ) (s : State) (x : Tree) (env : Env)
    → (within v l).diagram x env (with_visits v s) ≡ after (spent v (with_visits v s)) (λ u. rule l (ev l) x env >>= turned l (ev l))
unfolding within
diagram_at l zero s x env = refl
diagram_at l (suc v) s x env =
    let alike = ev_alike v l in
    let both : Agrees v (rule l (within v l) x env >>= turned l (within v l)) (rule l (ev l) x env >>= turned l (ev l)) =
    bind_agrees (rule_agrees v l (within v l) (ev l) alike x env) (λ w. turned_agrees v l (within v l) (ev l) alike w) in
    (both.same (with_visits v s) (omega arith)).0

pub after_after : {A B C : Type 0} (r : Outcome A) (f : A → Eval B) (g : B → Eval C) → after (after r f) g ≡ after r (λ x. f x >>= g)
after_after (Ok x) f g = refl
after_after (Err r) f g = refl

-- a tree: one visit, and then its rule
pub ev_value : (l : Lexed) (x : Tree) (env : Env) (s : State) → (ev l).value x env s ≡ visited l (ev l) x env s
ev_value l x env s = value_at l s.visits s x env

-- a tree to a diagram: its value, turned into a diagram
pub ev_diagram : (l : Lexed) (x : Tree) (env : Env) (s : State) → (ev l).diagram x env s ≡ ((ev l).value x env >>= turned l (ev l)) s
ev_diagram l x env s =
    diagram_at l s.visits s x env
    ∙ sym (after_after (spent s.visits s) (λ u. rule l (ev l) x env) (turned l (ev l)))
    ∙ ap (λ r. after r (turned l (ev l))) (sym (value_at l s.visits s x env))
