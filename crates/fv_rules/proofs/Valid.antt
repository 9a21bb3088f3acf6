-- Every diagram of evaluation is composed, has only the free slots of its environment, and names only the controls so far.
use Rattle.std.proofs.Common.{inl, inr, ◌≡◌, ◌⊎◌, ℕ, zero, suc, ◌+◌, ◌≤◌, ◌<◌, Bool, true, false, List, [], ◌∷◌, ◌++◌}
use Rattle.std.proofs.Common.{length, Option, Some, None, Result, Ok, Err, ℤ, pos, negsuc, map, refl, subst, arith}
use Rattle.std.proofs.lemmas.Int.{ints}
use Rattle.std.proofs.lemmas.List.{length-append}
use Rattle.std.proofs.Math.Dec.{eqb}
use Rattle.std.specs.Prelude.{nat_lt, ◌&&◌, ◌≢◌, int_le, codes, if◌then◌else◌}
use Rattle.std.proofs.lemmas.Bool.{and_parts}
use Rattle.std.proofs.lemmas.Bool.Decides.{eqb_tells}
use Rattle.std.proofs.lemmas.List.Elements.{All-push, All-nil}
use Rattle.fv_lex.specs.headline.Token.{Lexed}
use Rattle.fv_parse_grammar.specs.headline.Tree.{Tree, items, start_of}
use Rattle.fv_parse_grammar.specs.headline.Tree as tree
use Rattle.fv_parse_grammar.specs.declared.form.Operator.{Operator}
use Rattle.fv_parse_grammar.specs.declared.form.Operator.TheVariants as operators
use Rattle.fv_parse_grammar.specs.Side.{Side}
use Rattle.fv_parse_grammar.specs.Side.TheVariants as sides
use Rattle.fv_diagram.specs.Op.TheVariants as op
use Rattle.fv_diagram.proofs.lemmas.Composed.{composed_is_well}
use Rattle.fv_diagram.specs.Primitive.TheVariants as prim
use Rattle.fv_diagram.specs.headline.Diagram.{Diagram, Primitive, Constant, Control, Slot, Bind, Par, Seq, Split, Merge, Rec, has_table_primitive}
use Rattle.fv_diagram.specs.declared.control.ControlInfo.{ControlInfo}
use Rattle.fv_rules.specs.declared.refusal.EvalRefusal.{EvalRefusal}
use Rattle.fv_rules.specs.declared.refusal.EvalRefusal.TheVariants.{IterationCount, UnknownName, EvalBudget, ControlClash, ControlBounds, TableForm, NoMemory}
use Rattle.fv_rules.specs.declared.refusal.TableCause.TheVariants as cause
use Rattle.fv_parse.specs.headline.Trees.{text_of, label_of}
use Rattle.fv_rules.specs.headline.Values.{Name, Rule, Value, Flat, Abstraction, Rules, Env, Outermost, Bound, Scope, Taken, Nothing, And, Definition, Plain}
use Rattle.fv_rules.specs.headline.Values.{Parameters, Cases, Meaning, IsValue, IsDefined, Unknown, lookup, or_else as meant_or, in_order, count_taken}
use Rattle.fv_diagram_numbers.specs.headline.Numbers.{number_of}
use Rattle.fv_rules.specs.headline.Matching.{Bindings, number_or, settled, and_then, parts_of, parts_without}
use Rattle.fv_rules.specs.headline.Matching.{value_parts, value_number, matched, all_matched, bound_in, or_next, chosen}
use Rattle.fv_rules.specs.headline.Steps.{State, Outcome, Eval, after, ◌>>=◌, no_number, no_rule, no_diagram, spent}
use Rattle.fv_rules.specs.headline.Steps.{visit, fresh_slots, give, refuse, whole, is_alike, labelled, entered, control}
use Rattle.fv_rules.specs.headline.Rules.{literal_value, switch_kind, slider_kind, Evaluator, flat, on_slots}
use Rattle.fv_rules.specs.headline.Rules.{bind_all, turned, operated, defined_value, meant, name_value, arguments, all_turned}
use Rattle.fv_rules.specs.headline.Rules.{width, selected, applied, bodies, counted, ports, read_number, parameters, slider_info}
use Rattle.fv_rules.specs.headline.Rules.{switch_info, abstraction, rule, descend, within, ev, finished, start, program_value}
use Rattle.fv_rules.specs.Runnable.{IsRunnable}
use Rattle.fv_diagram.specs.Controls.{IsBounded}
use Rattle.fv_rules.proofs.ValidValues.{IsValid, ValidValue, ValidEnv, ValidTaken, ValidState, AllValid, AllValues, valid_grows}
use Rattle.fv_rules.proofs.ValidValues.{env_grows, keep, keep_value, keep_env, keep_all, keep_values, all_snoc, values_snoc}
use Rattle.fv_rules.proofs.ValidValues.{IsCause, spare, Stays, Does, bind_does, give_does, refuse_does, lend, choice}
use Rattle.fv_rules.proofs.ValidCompositions.{waved_does, put_does, prim_valid, constant_valid, slot_valid}
use Rattle.fv_rules.proofs.ValidCompositions.{flat_does, operated_does, joined_does, gathered_does, fed_does}

-- ---- slots
abbrev Within : ℕ → ℕ → (ℕ → Type 0) → ℕ → Type 0
Within slot n S t = ((slot ≤ t) × (t < slot + n)) ⊎ S t

abbrev Also : ℕ → (ℕ → Type 0) → ℕ → Type 0
Also slot S t = (t ≡ slot) ⊎ S t

none_within : (S : ℕ → Type 0) (slot t : ℕ) → Within slot 0 S t → S t
none_within S slot t (inl p) = absurd (omega (arith, p.0, p.1))
none_within S slot t (inr i) = i

split_first : (S : ℕ → Type 0) (slot n t : ℕ) → (slot ≤ t) × (t < slot + suc n)
    → ((eqb t slot ≡ true) × (t ≡ slot)) ⊎ ((eqb t slot ≡ false) × (t ≢ slot)) → Within (suc slot) n (Also slot S) t
split_first S slot n t p (inl q) = inr (inl q.1)
split_first S slot n t p (inr q) = let a = p.0 in let b = p.1 in let c = q.1 in inl (omega arith, omega arith)

next_within : (S : ℕ → Type 0) (slot n t : ℕ) → Within slot (suc n) S t → Within (suc slot) n (Also slot S) t
next_within S slot n t (inl p) = split_first S slot n t p (eqb_tells t slot)
next_within S slot n t (inr i) = inr (inr i)

bind_all_does : (S : ℕ → Type 0) (k slot n : ℕ) (d : Diagram) → IsValid (Within slot n S) k d → Does (IsValid S) 0 k (bind_all slot n d)
bind_all_does S k slot zero d g = give_does (λ m h. valid_grows (Within slot 0 S) S k m d (none_within S slot) h g)
bind_all_does S k slot (suc n) d g =
    let h = valid_grows (Within slot (suc n) S) (Within (suc slot) n (Also slot S)) k k d (next_within S slot n) (omega arith) g in
    bind_does (bind_all_does (Also slot S) k (suc slot) n d h) (λ b m h i. put_does S m (Bind slot b) i)

-- n slots from this one on are had
abbrev HasSlots : (ℕ → Type 0) → ℕ → ℕ → Type 0
HasSlots T slot n = (t : ℕ) → slot ≤ t → t < slot + n → T t

on_slots_valid : (T : ℕ → Type 0) (k : ℕ) (xs : List Name) (slot : ℕ) (env : Env) → HasSlots T slot (length xs) → ValidEnv T k env
    → ValidEnv T k (on_slots xs slot env)
on_slots_valid T k [] slot env f g = g
on_slots_valid T k (x ∷ xs) slot env f g =
    let first = slot_valid T k slot (f slot (omega arith) (omega arith)) in
    on_slots_valid T k xs (suc slot) (Bound x (Flat (Slot slot)) env) (λ t a b. f t (omega arith) (omega arith)) (first, g)

-- ---- numbers and patterns
number_valid : (S : ℕ → Type 0) (k : ℕ) (o : Option ℤ) (d : Diagram) → IsValid S k d → IsValid S k (number_or o d)
number_valid S k (Some n) d g = constant_valid S k n
number_valid S k None d g = g

settled_valid : (S : ℕ → Type 0) (k : ℕ) (v : Value) → ValidValue S k v → ValidValue S k (settled v)
settled_valid S k (Flat d) g = number_valid S k (number_of d) d g
settled_valid S k (Abstraction x xs body env) g = g
settled_valid S k (Rules s rs env taken) g = g

abbrev AllBound : (ℕ → Type 0) → ℕ → Bindings → Type 0
AllBound S k [] = Unit {0}
AllBound S k (b ∷ bs) = ValidValue S k b.1 × AllBound S k bs

abbrev SomeBound : (ℕ → Type 0) → ℕ → Option Bindings → Type 0
SomeBound S k None = Unit {0}
SomeBound S k (Some bs) = AllBound S k bs

abbrev SomeParts : (ℕ → Type 0) → ℕ → Option (Diagram × Diagram) → Type 0
SomeParts S k None = Unit {0}
SomeParts S k (Some ab) = IsValid S k ab.0 × IsValid S k ab.1

-- the parts of a valid diagram are valid
halves : (S : ℕ → Type 0) (k : ℕ) (a b : Diagram) → IsValid S k (Par a b) → IsValid S k a × IsValid S k b
halves S k a b g =
    let r = g.reads in let z = g.within in (
      record { composed = g.composed.0; within = omega arith; free = λ s i. g.free s (inl i); reads = omega arith },
      record { composed = g.composed.1; within = omega arith; free = λ s i. g.free s (inr i); reads = omega arith },
    )

parts_valid : (S : ℕ → Type 0) (k : ℕ) (o : Operator) (d : Diagram) → IsValid S k d → SomeParts S k (parts_of o d)
parts_valid S k operators.Recursion (Rec a b) g = halves S k a b
    (record { composed = (g.composed.0, g.composed.1); within = g.within; free = g.free; reads = g.reads })
parts_valid S k operators.Parallel (Par a b) g = halves S k a b g
parts_valid S k operators.Sequence (Seq a b) g = halves S k a b
    (record { composed = (g.composed.0, g.composed.1); within = g.within; free = g.free; reads = g.reads })
parts_valid S k operators.Split (Split a b) g = halves S k a b
    (record { composed = (g.composed.0, g.composed.1); within = g.within; free = g.free; reads = g.reads })
parts_valid S k operators.Merge (Merge a b) g = halves S k a b
    (record { composed = (g.composed.0, g.composed.1); within = g.within; free = g.free; reads = g.reads })
parts_valid S k o d g = tt

without_valid : (S : ℕ → Type 0) (k : ℕ) (n : Option ℤ) (o : Operator) (d : Diagram) → IsValid S k d → SomeParts S k (parts_without n o d)
without_valid S k (Some n) o d g = tt
without_valid S k None o d g = parts_valid S k o d g

value_parts_valid : (S : ℕ → Type 0) (k : ℕ) (o : Operator) (v : Value) → ValidValue S k v → SomeParts S k (value_parts o v)
value_parts_valid S k o (Flat d) g = without_valid S k (number_of d) o d g
value_parts_valid S k o (Abstraction x xs body env) g = tt
value_parts_valid S k o (Rules s rs env taken) g = tt

if_bound : (S : ℕ → Type 0) (k : ℕ) (b : Bool) (bs : Bindings) → AllBound S k bs → SomeBound S k (if b then Some bs else None)
if_bound S k true bs g = g
if_bound S k false bs g = tt

then_bound : (S : ℕ → Type 0) (k : ℕ) (o : Option Bindings) (f : Bindings → Option Bindings) → SomeBound S k o
    → ((bs : Bindings) → AllBound S k bs → SomeBound S k (f bs)) → SomeBound S k (and_then o f)
then_bound S k None f g h = tt
then_bound S k (Some bs) f g h = h bs g

parts_bound : (S : ℕ → Type 0) (k : ℕ) (o : Option (Diagram × Diagram)) (f : Diagram × Diagram → Option Bindings) → SomeParts S k o
    → ((ab : Diagram × Diagram) → IsValid S k ab.0 → IsValid S k ab.1 → SomeBound S k (f ab)) → SomeBound S k (and_then o f)
parts_bound S k None f g h = tt
parts_bound S k (Some ab) f g h = h ab g.0 g.1

matched_valid : (S : ℕ → Type 0) (k : ℕ) (l : Lexed) (p : Tree) (v : Value) (bs : Bindings) → ValidValue S k v → AllBound S k bs
    → SomeBound S k (matched l p v bs)
matched_valid S k l (tree.Named s n) v bs g h = (settled_valid S k v g, h)
matched_valid S k l (tree.Number s n) v bs g h = if_bound S k _ bs h
matched_valid S k l (tree.Negative s n) v bs g h = if_bound S k _ bs h
matched_valid S k l (tree.Binary s o p q) v bs g h =
    parts_bound S k (value_parts o v) _ (value_parts_valid S k o v g)
    (λ ab i j. then_bound S k (matched l p (Flat ab.0) bs) _ (matched_valid S k l p (Flat ab.0) bs i h)
    (λ cs r. matched_valid S k l q (Flat ab.1) cs j r))
matched_valid S k l p v bs g h = tt

all_matched_valid : (S : ℕ → Type 0) (k : ℕ) (l : Lexed) (ps : List Tree) (vs : List Value) (bs : Bindings) → AllValues S k vs → AllBound S k bs
    → SomeBound S k (all_matched l ps vs bs)
all_matched_valid S k l [] vs bs g h = h
all_matched_valid S k l (p ∷ ps) [] bs g h = tt
all_matched_valid S k l (p ∷ ps) (v ∷ vs) bs g h =
    then_bound S k (matched l p v bs) _ (matched_valid S k l p v bs g.0 h) (λ cs r. all_matched_valid S k l ps vs cs g.1 r)

abbrev SomeChosen : (ℕ → Type 0) → ℕ → Option (Tree × Bindings) → Type 0
SomeChosen S k None = Unit {0}
SomeChosen S k (Some xb) = AllBound S k xb.1

next_valid : (S : ℕ → Type 0) (k : ℕ) (x : Tree) (o : Option Bindings) (next : Option (Tree × Bindings)) → SomeBound S k o → SomeChosen S k next
    → SomeChosen S k (or_next x o next)
next_valid S k x None next g h = h
next_valid S k x (Some bs) next g h = g

chosen_valid : (S : ℕ → Type 0) (k : ℕ) (l : Lexed) (rs : List Rule) (vs : List Value) → AllValues S k vs → SomeChosen S k (chosen l rs vs)
chosen_valid S k l [] vs g = tt
chosen_valid S k l (r ∷ rs) vs g = next_valid S k r.body _ _ (all_matched_valid S k l r.patterns vs [] g tt) (chosen_valid S k l rs vs g)

bound_valid : (S : ℕ → Type 0) (k : ℕ) (env : Env) (bs : Bindings) → ValidEnv S k env → AllBound S k bs → ValidEnv S k (bound_in env bs)
bound_valid S k env [] g h = g
bound_valid S k env (b ∷ bs) g h = (h.0, bound_valid S k env bs g h.1)

order_valid : (S : ℕ → Type 0) (k : ℕ) (t : Taken) (vs : List Value) → ValidTaken S k t → AllValues S k vs → AllValues S k (in_order t vs)
order_valid S k Nothing vs g h = h
order_valid S k (And v before) vs g h = order_valid S k before (v ∷ vs) g.1 (g.0, h)

-- ---- names
abbrev ValidMeaning : (ℕ → Type 0) → ℕ → Meaning → Type 0
ValidMeaning S k (IsValue v) = ValidValue S k v
ValidMeaning S k (IsDefined d env) = ValidEnv S k env
ValidMeaning S k Unknown = Unit {0}

if_meant : (S : ℕ → Type 0) (k : ℕ) (b : Bool) (m n : Meaning) → ValidMeaning S k m → ValidMeaning S k n → ValidMeaning S k (if b then m else n)
if_meant S k true m n g h = g
if_meant S k false m n g h = h

or_meant : (S : ℕ → Type 0) (k : ℕ) (o : Option Definition) (env : Env) (m : Meaning) → ValidEnv S k env → ValidMeaning S k m
    → ValidMeaning S k (meant_or o env m)
or_meant S k (Some d) env m g h = g
or_meant S k None env m g h = h

lookup_valid : (S : ℕ → Type 0) (k : ℕ) (l : Lexed) (env : Env) (x : Name) → ValidEnv S k env → ValidMeaning S k (lookup l env x)
lookup_valid S k l Outermost x g = tt
lookup_valid S k l (Bound y v env) x g = if_meant S k _ (IsValue v) (lookup l env x) g.0 (lookup_valid S k l env x g.1)
lookup_valid S k l (Scope ds env) x g = or_meant S k _ (Scope ds env) (lookup l env x) g (lookup_valid S k l env x g)

-- ---- visits and controls
abbrev Any : {A : Type 0} → ℕ → A → Type 0
Any n x = Unit {0}

visit_stays : (v : ℕ) (s : State) → v ≤ s.visits → ValidState s → Stays (Any {A = Unit}) 0 s (spent v s)
visit_stays zero s h b = tt
visit_stays (suc v) s h b = (omega arith, omega arith, b, tt)

visit_does : (k : ℕ) → Does (Any {A = Unit}) 0 k visit
visit_does k = record { stays = λ s h b. visit_stays s.visits s (omega arith) b }

repaid : {A : Type 0} (P : ℕ → A → Type 0) (s t : State) (r : Outcome A) → s.visits ≡ suc t.visits → length s.controls ≡ length t.controls
    → Stays P 1 t r → Stays P 0 s r
repaid P s t (Ok x) e f a = let u = a.0 in let v = a.1 in (omega arith, omega arith, a.2, a.3)
repaid P s t (Err r) e f a = a

visited_stays : {A : Type 0} (P : ℕ → A → Type 0) (k v : ℕ) (s : State) (m : Eval A) → s.visits ≡ v → k ≤ length s.controls → ValidState s
    → Does P 1 k m → Stays P 0 s (after (spent v s) (λ u. m))
visited_stays P k zero s m e h b a = tt
visited_stays P k (suc v) s m e h b a = let t : State = record s { visits = v } in repaid P s t (m t) e refl (a.stays t h b)

visited_does : {A : Type 0} (P : ℕ → A → Type 0) (k : ℕ) (m : Eval A) → Does P 1 k m → Does P 0 k (visit >>= λ u. m)
visited_does P k m a = record { stays = λ s h b. visited_stays P k s.visits s m refl h b a }

abbrev SomeBelow : ℕ → Option (ℕ × ControlInfo) → Type 0
SomeBelow n None = Unit {0}
SomeBelow n (Some ko) = ko.0 < n

if_below : (n : ℕ) (b : Bool) (o p : Option (ℕ × ControlInfo)) → SomeBelow n o → SomeBelow n p → SomeBelow n (if b then o else p)
if_below n true o p g h = g
if_below n false o p g h = h

labelled_below : (k n : ℕ) (cs : List ControlInfo) (label : List ℕ) → k + length cs ≤ n → SomeBelow n (labelled k cs label)
labelled_below k n [] label h = tt
labelled_below k n (c ∷ cs) label h =
    if_below n _ (Some (k, c)) (labelled (suc k) cs label) (omega arith) (labelled_below (suc k) n cs label (omega arith))

control_valid : (S : ℕ → Type 0) (n k : ℕ) → k < n → IsValid S n (Control k)
control_valid S n k h = record { composed = tt; within = omega arith; free = λ s f. absurd f; reads = omega arith }

alike_stays : (S : ℕ → Type 0) (s : State) (k : ℕ) (b : Bool) (r : EvalRefusal) → IsCause r → k < length s.controls → ValidState s
    → Stays (IsValid S) 1 s (if b then Ok (Control k, s) else Err r)
alike_stays S s k true r i h b = (omega arith, omega arith, b, control_valid S (length s.controls) k h)
alike_stays S s k false r i h b = i

entered_stays : (S : ℕ → Type 0) (c : ControlInfo) (s : State) (o : Option (ℕ × ControlInfo)) → IsBounded c → SomeBelow (length s.controls) o → ValidState s
    → Stays (IsValid S) 1 s (entered c s o)
entered_stays S c s None i g b =
    let e = length-append s.controls (c ∷ []) in
    (omega arith, omega arith, All-push IsBounded s.controls c b i, control_valid S (length (s.controls ++ c ∷ [])) (length s.controls) (omega arith))
entered_stays S c s (Some ko) i g b = alike_stays S s ko.0 (is_alike c ko.1) (ControlClash c.label) tt g b

bounded_stays : (S : ℕ → Type 0) (c : ControlInfo) (s : State) (b : Bool) → (int_le c.min c.init && int_le c.init c.max) ≡ b → ValidState s
    → Stays (IsValid S) 1 s (if b then entered c s (labelled 0 s.controls c.label) else Err (ControlBounds c.label))
bounded_stays S c s true e b =
    let p = and_parts (int_le c.min c.init) (int_le c.init c.max) e in
    let below = labelled_below 0 (length s.controls) s.controls c.label (omega arith) in
    entered_stays S c s (labelled 0 s.controls c.label) (omega (arith, ints, p.0), omega (arith, ints, p.1)) below b
bounded_stays S c s false e b = tt

control_does : (S : ℕ → Type 0) (k : ℕ) (c : ControlInfo) → Does (IsValid S) 1 k (control c)
control_does S k c = record { stays = λ s h b. bounded_stays S c s (int_le c.min c.init && int_le c.init c.max) refl b }

-- ---- evaluators
pub record Valid (e : Evaluator) : Type 1 where
  pub value : (S : ℕ → Type 0) (k : ℕ) (x : Tree) (env : Env) → ValidEnv S k env → Does (ValidValue S) 0 k (e.value x env)
  pub diagram : (S : ℕ → Type 0) (k : ℕ) (x : Tree) (env : Env) → ValidEnv S k env → Does (IsValid S) 0 k (e.diagram x env)

fresh_does : (k m : ℕ) → Does (Any {A = ℕ}) 0 k (fresh_slots m)
fresh_does k m = record { stays = λ s h b. (omega arith, omega arith, b, tt) }

turned_does : (l : Lexed) (e : Evaluator) → Valid e → (S : ℕ → Type 0) (k : ℕ) (v : Value) → ValidValue S k v → Does (IsValid S) 0 k (turned l e v)
turned_does l e a S k (Flat d) g = give_does (λ n h. keep S k n d h g)
turned_does l e a S k (Abstraction x xs body env) g =
    let m = length (x ∷ xs) in
    bind_does (fresh_does k m) (λ slot n h u.
    bind_does (a.diagram (Within slot m S) n body (on_slots (x ∷ xs) slot env)
    (on_slots_valid (Within slot m S) n (x ∷ xs) slot env (λ t p q. inl (p, q)) (env_grows S (Within slot m S) k n (λ s i. inr i) h env g)))
    (λ d n' h' g'. bind_all_does S n' slot m d g'))
turned_does l e a S k (Rules s rs env taken) g = refuse_does (no_diagram l s) tt

defined_does : (e : Evaluator) → Valid e → (S : ℕ → Type 0) (k : ℕ) (d : Definition) (env : Env) → ValidEnv S k env
    → Does (ValidValue S) 0 k (defined_value e d env)
defined_does e a S k (Plain body) env g = a.value S k body env g
defined_does e a S k (Parameters x xs body) env g = give_does (λ n h. keep_env S k n env h g)
defined_does e a S k (Cases s rs) env g = give_does (λ n h. (keep_env S k n env h g, tt))

meant_does : (e : Evaluator) → Valid e → (S : ℕ → Type 0) (k : ℕ) (x : Name) (m : Meaning) → ValidMeaning S k m → Does (ValidValue S) 0 k (meant e x m)
meant_does e a S k x (IsValue v) g = give_does (λ n h. keep_value S k n v h g)
meant_does e a S k x (IsDefined d env) g = defined_does e a S k d env g
meant_does e a S k x Unknown g = refuse_does (UnknownName x) tt

name_does : (l : Lexed) (e : Evaluator) → Valid e → (S : ℕ → Type 0) (k : ℕ) (x : Name) (env : Env) → ValidEnv S k env
    → Does (ValidValue S) 0 k (name_value l e x env)
name_does l e a S k x env g =
    bind_does (visit_does k) (λ u n h t. meant_does e a S n x (lookup l env x) (lookup_valid S n l env x (keep_env S k n env h g)))

arguments_do : (e : Evaluator) → Valid e → (S : ℕ → Type 0) (k : ℕ) (xs : List Tree) (env : Env) (done : List Value) → ValidEnv S k env
    → AllValues S k done → Does (AllValues S) 0 k (arguments e xs env done)
arguments_do e a S k [] env done g h = give_does (λ n i. keep_values S k n done i h)
arguments_do e a S k (x ∷ xs) env done g h =
    bind_does (a.value S k x env g) (λ v n i j.
    let more = values_snoc S n done (settled v) (keep_values S k n done i h) (settled_valid S n v j) in
    arguments_do e a S n xs env (done ++ settled v ∷ []) (keep_env S k n env i g) more)

read_does : (l : Lexed) (k s : ℕ) (o : Option ℤ) → Does (Any {A = ℤ}) 0 k (read_number l s o)
read_does l k s None = refuse_does (no_number l s) tt
read_does l k s (Some z) = give_does (λ n h. tt)

parameters_do : (l : Lexed) (e : Evaluator) → Valid e → (S : ℕ → Type 0) (k : ℕ) (xs : List Tree) (env : Env) (done : List ℤ) → ValidEnv S k env
    → Does (Any {A = List ℤ}) 0 k (parameters l e xs env done)
parameters_do l e a S k [] env done g = give_does (λ n h. tt)
parameters_do l e a S k (x ∷ xs) env done g =
    bind_does (a.value S k x env g) (λ v n i j.
    bind_does (read_does l n (start_of x) (value_number v)) (λ z m p q.
    parameters_do l e a S m xs env (done ++ z ∷ []) (keep_env S n m env p (keep_env S k n env i g))))

all_turned_do : (l : Lexed) (e : Evaluator) → Valid e → (S : ℕ → Type 0) (k : ℕ) (vs : List Value) (done : List Diagram) → AllValues S k vs
    → AllValid S k done → Does (AllValid S) 0 k (all_turned l e vs done)
all_turned_do l e a S k [] done g h = give_does (λ n i. keep_all S k n done i h)
all_turned_do l e a S k (v ∷ vs) done g h =
    bind_does (turned_does l e a S k v g.0) (λ d n i j.
    all_turned_do l e a S n vs (done ++ d ∷ []) (keep_values S k n vs i g.1) (all_snoc S n done d (keep_all S k n done i h) j))

selected_does : (l : Lexed) (e : Evaluator) → Valid e → (S : ℕ → Type 0) (k s : ℕ) (env : Env) (o : Option (Tree × Bindings)) → ValidEnv S k env
    → SomeChosen S k o → Does (ValidValue S) 0 k (selected l e s env o)
selected_does l e a S k s env None g h = refuse_does (no_rule l s) tt
selected_does l e a S k s env (Some xb) g h = a.value S k xb.0 (bound_in env xb.1) (bound_valid S k env xb.1 g h)

-- rules that have all their arguments
called_does : (l : Lexed) (e : Evaluator) → Valid e → (S : ℕ → Type 0) (k s : ℕ) (rs : List Rule) (env : Env) (taken : Taken) → ValidEnv S k env
    → ValidTaken S k taken → Does (ValidValue S) 0 k (selected l e s env (chosen l rs (in_order taken [])))
called_does l e a S k s rs env taken g h =
    let all = in_order taken [] in
    selected_does l e a S k s env (chosen l rs all) g (chosen_valid S k l rs all (order_valid S k taken [] h tt))

applied_does : (l : Lexed) (e : Evaluator) → Valid e → (S : ℕ → Type 0) (k s : ℕ) (v : Value) (vs : List Value) → ValidValue S k v → AllValues S k vs
    → Does (ValidValue S) 0 k (applied l e s v vs)
applied_does l e a S k s v [] g h = give_does (λ n i. keep_value S k n v i g)
applied_does l e a S k s (Flat f) (w ∷ more) g h =
    bind_does (all_turned_do l e a S k (w ∷ more) [] h tt) (λ ds n i j. fed_does S n f ds (keep S k n f i g) j)
applied_does l e a S k s (Abstraction x [] body env) (w ∷ more) g h =
    bind_does (a.value S k body (Bound x w env) (h.0, g)) (λ v n i j. applied_does l e a S n s v more j (keep_values S k n more i h.1))
applied_does l e a S k s (Abstraction x (y ∷ ys) body env) (w ∷ more) g h =
    applied_does l e a S k s (Abstraction y ys body (Bound x w env)) more (h.0, g) h.1
applied_does l e a S k s (Rules p rs env taken) (w ∷ more) g h =
    choice (nat_lt (count_taken (And w taken)) (width rs))
    (applied_does l e a S k s (Rules p rs env (And w taken)) more (g.0, (h.0, g.1)) h.1)
    (bind_does (called_does l e a S k s rs env (And w taken) g.0 (h.0, g.1))
    (λ v n i j. applied_does l e a S n s v more j (keep_values S k n more i h.1)))

bodies_do : (e : Evaluator) → Valid e → (S : ℕ → Type 0) (k : ℕ) (x : Name) (b : Tree) (env : Env) (i m : ℕ) (done : List Diagram) → ValidEnv S k env
    → AllValid S k done → Does (AllValid S) 0 k (bodies e x b env i m done)
bodies_do e a S k x b env i zero done g h = give_does (λ n j. keep_all S k n done j h)
bodies_do e a S k x b env i (suc m) done g h =
    bind_does (a.diagram S k b (Bound x (Flat (Constant (pos i))) env) (constant_valid S k (pos i), g)) (λ d n p q.
    bodies_do e a S n x b env (suc i) m (done ++ d ∷ []) (keep_env S k n env p g) (all_snoc S n done d (keep_all S k n done p h) q))

counted_does : (l : Lexed) (k s : ℕ) (o : Option ℤ) → Does (Any {A = ℕ}) 0 k (counted l s o)
counted_does l k s None = refuse_does (no_number l s) tt
counted_does l k s (Some (pos zero)) = refuse_does (IterationCount (pos 0)) tt
counted_does l k s (Some (pos (suc m))) = give_does (λ n h. tt)
counted_does l k s (Some (negsuc m)) = refuse_does (IterationCount (negsuc m)) tt

ports_valid : (S : ℕ → Type 0) (k : ℕ) (side : Side) (d : Diagram) → IsValid S k (ports side d)
ports_valid S k sides.Inputs d = constant_valid S k _
ports_valid S k sides.Outputs d = constant_valid S k _

abstraction_does : (l : Lexed) (e : Evaluator) → Valid e → (S : ℕ → Type 0) (k : ℕ) (ns : List ℕ) (x : Tree) (env : Env) → ValidEnv S k env
    → Does (ValidValue S) 0 k (abstraction l e ns x env)
abstraction_does l e a S k [] x env g = a.value S k x env g
abstraction_does l e a S k (m ∷ ns) x env g = give_does (λ n h. keep_env S k n env h g)

minus_does : (l : Lexed) (e : Evaluator) → Valid e → (S : ℕ → Type 0) (k n : ℕ) (env : Env) → ValidEnv S k env
    → Does (ValidValue S) 0 k (name_value l e (text_of l n) env >>= λ v. (turned l e v >>= λ d. flat (operated (prim.Point op.Sub) (Constant (pos 0)) d)))
minus_does l e a S k n env g =
    bind_does (name_does l e a S k (text_of l n) env g) (λ v m h i.
    bind_does (turned_does l e a S m v i) (λ d p q r.
    flat_does (operated_does S p (prim.Point op.Sub) (Constant (pos 0)) d (constant_valid S p (pos 0)) r)))

rule_does : (l : Lexed) (e : Evaluator) → Valid e → (S : ℕ → Type 0) (k : ℕ) (x : Tree) (env : Env) → ValidEnv S k env
    → Does (ValidValue S) 1 k (rule l e x env)
rule_does l e a S k (tree.Number s n) env g = give_does (λ m h. constant_valid S m _)
rule_does l e a S k (tree.Negative s n) env g = give_does (λ m h. constant_valid S m _)
rule_does l e a S k (tree.Primitive s p) env g = give_does (λ m h. prim_valid S m p)
rule_does l e a S k (tree.Named s n) env g =
    let x = text_of l n in lend (meant_does e a S k x (lookup l env x) (lookup_valid S k l env x g))
rule_does l e a S k (tree.MinusNamed s n) env g = lend (minus_does l e a S k n env g)
rule_does l e a S k (tree.Group s x) env g = lend (a.value S k x env g)
rule_does l e a S k (tree.Panel s p n x) env g = lend (a.value S k x env g)
rule_does l e a S k (tree.Where s x ds) env g = lend (a.value S k x (Scope ds env) g)
rule_does l e a S k (tree.Abstraction s ns x) env g = lend (abstraction_does l e a S k ns x env g)
rule_does l e a S k (tree.Case s rs) env g = give_does (λ n h. (keep_env S k n env h g, tt))
rule_does l e a S k (tree.Binary s o x y) env g =
    lend (bind_does (a.diagram S k x env g) (λ c n h i.
    bind_does (a.diagram S n y env (keep_env S k n env h g)) (λ d m p q. flat_does (joined_does S m o c d (keep S n m c p i) q))))
rule_does l e a S k (tree.Delayed s x) env g =
    lend (bind_does (a.diagram S k x env g) (λ d n h i. flat_does (put_does S n (Seq d (Primitive prim.Mem)) (i, prim_valid S n prim.Mem))))
rule_does l e a S k (tree.Apply s x ys) env g =
    lend (bind_does (a.value S k x env g) (λ f n h i.
    bind_does (arguments_do e a S n (items ys) env [] (keep_env S k n env h g) tt) (λ vs m p q.
    applied_does l e a S m s f vs (keep_value S n m f p i) q)))
rule_does l e a S k (tree.Iteration s r t x y) env g =
    lend (bind_does (a.diagram S k x env g) (λ d n h i.
    bind_does (counted_does l n (start_of x) (number_of d)) (λ c m p q.
    bind_does (bodies_do e a S m (text_of l t) y env 0 c [] (keep_env S n m env p (keep_env S k n env h g)) tt) (λ ds u v w.
    gathered_does S u r ds w))))
rule_does l e a S k (tree.Ports s side x) env g = lend (bind_does (a.diagram S k x env g) (λ d n h i. give_does (λ m p. ports_valid S m side d)))
rule_does l e a S k (tree.Waveform s []) env g = refuse_does (no_diagram l s) tt
rule_does l e a S k (tree.Waveform s (x ∷ xs)) env g = lend (flat_does (waved_does S k (map literal_value (x ∷ xs))))
rule_does l e a S k (tree.Switch s p n) env g = flat_does (control_does S k (switch_info (switch_kind p) (label_of l n)))
rule_does l e a S k (tree.Slider s p t x0 x1 x2 x3) env g =
    bind_does (parameters_do l e a S k (x0 ∷ x1 ∷ x2 ∷ x3 ∷ []) env [] g) (λ ns n h i.
    flat_does (control_does S n (slider_info (slider_kind p) (label_of l t) ns)))
rule_does l e a S k x env g = refuse_does (no_diagram l (start_of x)) tt

-- a rule and then turning, on credit
passes_lent : {A : Type 0} (P : ℕ → A → Type 0) (s t : State) (r : Outcome A) → length s.controls ≤ length t.controls → spare t ≤ spare s + 1
    → Stays P 0 t r → Stays P 1 s r
passes_lent P s t (Ok x) h g a = let u = a.0 in let v = a.1 in (omega arith, omega arith, a.2, a.3)
passes_lent P s t (Err r) h g a = a

turned_after : (l : Lexed) (e : Evaluator) → Valid e → (S : ℕ → Type 0) (s : State) (r : Outcome Value) → Stays (ValidValue S) 1 s r
    → Stays (IsValid S) 1 s (after r (turned l e))
turned_after l e a S s (Ok x) g =
    let t = (turned_does l e a S (length x.1.controls) x.0 g.3).stays x.1 (omega arith) g.2 in
    passes_lent (IsValid S) s x.1 (turned l e x.0 x.1) g.0 g.1 t
turned_after l e a S s (Err r) g = g

rule_turned : (l : Lexed) (e : Evaluator) → Valid e → (S : ℕ → Type 0) (k : ℕ) (x : Tree) (env : Env) → ValidEnv S k env
    → Does (IsValid S) 1 k (rule l e x env >>= turned l e)
rule_turned l e a S k x env g = record { stays = λ s h b. turned_after l e a S s (rule l e x env s) ((rule_does l e a S k x env g).stays s h b) }

descend_valid : (l : Lexed) (e : Evaluator) → Valid e → Valid (descend l e)
descend_valid l e a = record {
  value = λ S k x env g. visited_does (ValidValue S) k (rule l e x env) (rule_does l e a S k x env g);
  diagram = λ S k x env g. visited_does (IsValid S) k (rule l e x env >>= turned l e) (rule_turned l e a S k x env g);
}

within_valid : (n : ℕ) (l : Lexed) → Valid (within n l)
unfolding within
within_valid zero l = record {
  value = λ S k x env g. refuse_does EvalBudget tt;
  diagram = λ S k x env g. refuse_does EvalBudget tt;
}
within_valid (suc n) l = descend_valid l (within n l) (within_valid n l)

pub ev_valid : (l : Lexed) → Valid (ev l)
ev_valid l = record {
  value = λ S k x env g. record { stays = λ s h b. ((within_valid s.visits l).value S k x env g).stays s h b };
  diagram = λ S k x env g. record { stays = λ s h b. ((within_valid s.visits l).diagram S k x env g).stays s h b };
}

-- ---- programs
-- a diagram that is valid, and has no table primitive
abbrev CanRun : ℕ → Diagram → Type 0
CanRun k d = IsValid (λ s. ⊥) k d × (has_table_primitive d ≡ false)

whole_does : (k : ℕ) (d : Diagram) → IsValid (λ s. ⊥) k d → Does CanRun 0 k (whole d)
whole_does k d g = by (has_table_primitive d) refl
  where
    by : (b : Bool) → has_table_primitive d ≡ b → Does CanRun 0 k (if b then refuse (TableForm cause.Primitive) else give d)
    by true e = refuse_does (TableForm cause.Primitive) tt
    by false e = give_does (λ n h. (keep (λ s. ⊥) k n d h g, e))

finished_valid : (r : Outcome Diagram) (d : Diagram) (cs : List ControlInfo) → Stays CanRun 0 start r → finished r ≡ Ok (d, cs)
    → IsRunnable d cs
finished_valid (Ok x) d cs g e =
    let v = g.1 in
    let z = g.0 in
    let i = g.3.0 in
    subst (λ (o : Result (Diagram × List ControlInfo) EvalRefusal). IfSound o) e
    (record { well = composed_is_well x.0 i.composed g.3.1; within = i.within; closed = i.free; reads = i.reads; bounded = g.2; few = omega arith })
  where
    IfSound : Result (Diagram × List ControlInfo) EvalRefusal → Type 0
    IfSound (Ok p) = IsRunnable p.0 p.1
    IfSound (Err r) = Unit {0}
finished_valid (Err r) d cs g e = absurd (subst (λ (o : Result (Diagram × List ControlInfo) EvalRefusal). IsErrs o) e tt)
  where
    IsErrs : Result (Diagram × List ControlInfo) EvalRefusal → Type 0
    IsErrs (Ok p) = ⊥
    IsErrs (Err r) = Unit {0}

-- the outcome of a program
abbrev program : Lexed → Tree → Outcome Diagram
program l x = (name_value l (ev l) (codes "process") (Scope x Outermost) >>= turned l (ev l) >>= whole) start

program_does : (l : Lexed) (x : Tree) → Stays CanRun 0 start (program l x)
program_does l x =
    let S : ℕ → Type 0 = λ s. ⊥ in
    let m : Does (ValidValue S) 0 0 (name_value l (ev l) (codes "process") (Scope x Outermost)) =
    name_does l (ev l) (ev_valid l) S 0 (codes "process") (Scope x Outermost) tt in
    let made : Does (IsValid S) 0 0 (name_value l (ev l) (codes "process") (Scope x Outermost) >>= turned l (ev l)) =
    bind_does m (λ v n h i. turned_does l (ev l) (ev_valid l) S n v i) in
    let all : Does CanRun 0 0 (name_value l (ev l) (codes "process") (Scope x Outermost) >>= turned l (ev l) >>= whole) =
    bind_does made (λ d n h i. whole_does n d i) in
    all.stays start (omega arith) (All-nil IsBounded)

pub evaluates_to_runnables : (l : Lexed) (x : Tree) (d : Diagram) (cs : List ControlInfo) → program_value l x ≡ Ok (d, cs) → IsRunnable d cs
evaluates_to_runnables l x d cs e = finished_valid (program l x) d cs (program_does l x) e

finished_cause : (r : Outcome Diagram) → Stays CanRun 0 start r → finished r ≡ Err NoMemory → ⊥
finished_cause (Ok x) g e = subst (λ (o : Result (Diagram × List ControlInfo) EvalRefusal). IsCaused o) e tt
  where
    IsCaused : Result (Diagram × List ControlInfo) EvalRefusal → Type 0
    IsCaused (Ok p) = Unit {0}
    IsCaused (Err r) = IsCause r
finished_cause (Err r) g e = subst (λ (o : Result (Diagram × List ControlInfo) EvalRefusal). IsCaused o) e g
  where
    IsCaused : Result (Diagram × List ControlInfo) EvalRefusal → Type 0
    IsCaused (Ok p) = Unit {0}
    IsCaused (Err r) = IsCause r

pub never_wants_memory : (l : Lexed) (x : Tree) → program_value l x ≡ Err NoMemory → ⊥
never_wants_memory l x e = finished_cause (program l x) (program_does l x) e
