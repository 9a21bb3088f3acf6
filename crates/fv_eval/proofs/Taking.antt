-- One argument is taken.
use Rattle.std.proofs.Common.{◌≡◌, ℕ, zero, suc, ◌+◌, ◌-◌, ◌<◌, ◌≤◌, Bool, List, [], ◌∷◌, length, drop, Option, Some, None, refl, sym, ap, subst}
use Rattle.std.proofs.Common.{◌∙◌, arith, length-drop}
use Rattle.std.specs.Prelude.{slice_get, if◌then◌else◌}
use Rattle.std.proofs.lemmas.Option.{slice_get-get_or}
use Rattle.std.proofs.lemmas.Bool.{le-ltb, lt-ltb}
use Rattle.fv_parse.specs.Trees.{Parsed, tree_in}
use Rattle.fv_eval_scopes.specs.declared.value.Value as code_value
use Rattle.fv_eval_scopes.specs.declared.value.Value.TheVariants as value
use Rattle.fv_eval_scopes.specs.declared.value.Ruled.{Ruled}
use Rattle.fv_eval_scopes.specs.declared.value.Scope.TheVariants as scope
use Rattle.fv_eval_scopes.specs.declared.value.Argument as code_argument
use Rattle.fv_eval_scopes.specs.Environments.{Environments, next_number, with_argument, with_scope}
use Rattle.fv_rules.specs.headline.Values.{Name, Value, Flat, Abstraction, Rules, Env, Bound, Taken, Nothing, And, count_taken}
use Rattle.fv_rules.specs.headline.Rules.{width}
use Rattle.fv_eval_scopes.specs.Shows.{World, IsNamed, ShowsEnv, ShowsTaken, ShowsValue, parameters_in, rules_in}
use Rattle.fv_eval_scopes.proofs.lemmas.Grown.{argument_comes, bound_shows, env_grows, taken_shows}
use Rattle.fv_eval.specs.declared.machine.Machine as code_machine
use Rattle.fv_eval.specs.inner.Continuations.{Grew, IsShown, ShowsTaking, took, world}
use Rattle.fv_eval_scopes.specs.Parameters.{ShowsName}
use Rattle.fv_eval.proofs.Places.{drop_behind, get_at_drop}

-- the clause of `take`
abbrev pub Takes : Parsed → (m n : code_machine.Machine) → code_value.Value → code_value.Value → Option code_value.Value → Type 0
Takes p m n u x o = (v a : Value) → ShowsValue (world p m) u v → ShowsValue (world p m) x a → ShowsTaking (world p n) o (took v a)

-- ---- what `bind` and `take` of the environments give

pub bind_shows : (p : Parsed) (m : code_machine.Machine) (new : Environments) (name : ℕ) (u : code_value.Value) (outer i : ℕ) (x : Name) (v : Value) (E : Env)
    → i ≡ next_number m.scopes.scopes
    → new ≡ with_scope m.scopes (scope.Bound name u outer) → IsNamed (world p m) name x → ShowsValue (world p m) u v → ShowsEnv (world p m) outer E
    → ShowsEnv (world p (record m { scopes = new })) i (Bound x v E)
bind_shows p m new name u outer i x v E at is named shown env =
    let bound : ShowsEnv (world p (record m { scopes = with_scope m.scopes (scope.Bound name u outer) })) (next_number m.scopes.scopes) (Bound x v E) =
    bound_shows (world p m) name x u v outer E named shown env in
    subst (λ (j : ℕ). ShowsEnv (world p (record m { scopes = new })) j (Bound x v E)) (sym at)
    (subst (λ (s : Environments). ShowsEnv (world p (record m { scopes = s })) (next_number m.scopes.scopes) (Bound x v E)) (sym is) bound)

pub argument_grew : (p : Parsed) (m : code_machine.Machine) (new : Environments) (a : code_argument.Argument)
    → new ≡ with_argument m.scopes a → Grew p m (record m { scopes = new })
argument_grew p m new a e =
    subst (λ (s : Environments). Grew p m (record m { scopes = s })) (sym e)
    (record { lists = argument_comes (world p m) a; continuations = refl; state = refl; knows = λ k. k })

pub take_shows : (p : Parsed) (m : code_machine.Machine) (new : Environments) (u : code_value.Value) (v : Value) (n k before i : ℕ) (T : Taken)
    → i ≡ length m.scopes.taken
    → new ≡ with_argument m.scopes (record { value = u; before = before }) → k ≡ n + 1 → ShowsValue (world p m) u v → ShowsTaken (world p m) n before T
    → ShowsTaken (world p (record m { scopes = new })) k i (And v T)
take_shows p m new u v n k before i T at is count shown taken =
    let a : code_argument.Argument = record { value = u; before = before } in
    let more : suc n ≡ k = omega (arith, count) in
    let all : ShowsTaken (world p (record m { scopes = with_argument m.scopes a })) (suc n) (length m.scopes.taken) (And v T) =
    taken_shows (world p m) u v n before T shown taken in
    subst (λ (j : ℕ). ShowsTaken (world p (record m { scopes = new })) j i (And v T)) more
    (subst (λ (j : ℕ). ShowsTaken (world p (record m { scopes = new })) (suc n) j (And v T)) (sym at)
    (subst (λ (s : Environments). ShowsTaken (world p (record m { scopes = s })) (suc n) (length m.scopes.taken) (And v T)) (sym is) all))

-- ---- a diagram takes none

pub diagram_takes : (w : World) (i : ℕ) (v a : Value) → ShowsValue w (value.Diagram i) v → ShowsTaking w None (took v a)
diagram_takes w i (Flat d) a h = tt
diagram_takes w i v a h = absurd h

-- ---- an abstraction

some_left : {A : Type 0} (xs : List A) (n : ℕ) (y : A) (ys : List A) → drop n xs ≡ y ∷ ys → 0 < length xs
some_left [] zero y ys e = absurd (cc)
some_left [] (suc n) y ys e = absurd (cc)
some_left (x ∷ xs) n y ys e = omega arith

-- the name at a place is the parameter there
pub named_at : (p : Parsed) (f n : ℕ) (o : Option ℕ) (x : Name) (xs : List Name)
    → (0 < length (parameters_in p.tokens (tree_in p f)) → ShowsName p.tokens o (slice_get (parameters_in p.tokens (tree_in p f)) n))
    → drop n (parameters_in p.tokens (tree_in p f)) ≡ x ∷ xs → ShowsName p.tokens o (Some x)
named_at p f n o x xs h e =
    let names = parameters_in p.tokens (tree_in p f) in
    subst (λ (q : Option Name). ShowsName p.tokens o q) (get_at_drop names n x xs e) (h (some_left names n x xs e))

-- it has as many parameters left as it wants
left_over : (p : Parsed) (f n : ℕ) (x : Name) (xs : List Name) → drop n (parameters_in p.tokens (tree_in p f)) ≡ x ∷ xs
    → n + suc (length xs) ≡ length (parameters_in p.tokens (tree_in p f))
left_over p f n x xs e =
    let names = parameters_in p.tokens (tree_in p f) in
    let left : length names - n ≡ suc (length xs) = sym (length-drop n names) ∙ ap length e in
    omega (arith, left)

-- its next parameter is one of them
pub bound_below : (p : Parsed) (m : code_machine.Machine) (f n e : ℕ) → IsShown (world p m) (value.Abstraction f n e)
    → n < length (parameters_in p.tokens (tree_in p f))
bound_below p m f n e h = parts h.0 h.1
  where
    parts : (v : Value) → ShowsValue (world p m) (value.Abstraction f n e) v → n < length (parameters_in p.tokens (tree_in p f))
    parts (Abstraction x xs b E) k = let left = left_over p f n x xs k.1 in omega (arith, left)
    parts v k = absurd k

-- and has a name
pub name_is_there : (p : Parsed) (f n : ℕ) (o : Option ℕ) → n < length (parameters_in p.tokens (tree_in p f))
    → (0 < length (parameters_in p.tokens (tree_in p f)) → ShowsName p.tokens o (slice_get (parameters_in p.tokens (tree_in p f)) n)) → o ≡ None → ⊥
name_is_there p f n o below named none =
    let names = parameters_in p.tokens (tree_in p f) in
    let some : 0 < length names = omega (arith, below) in
    subst (λ (q : Option Name). ShowsName p.tokens None q) (slice_get-get_or names n [] below)
    (subst (λ (q : Option ℕ). ShowsName p.tokens q (slice_get names n)) none (named some))

-- it has one parameter left
pub last_parameter : (p : Parsed) (m : code_machine.Machine) (f n count e : ℕ) (v a : Value)
    → (0 < length (parameters_in p.tokens (tree_in p f)) → count ≡ length (parameters_in p.tokens (tree_in p f))) → count ≤ n + 1
    → ShowsValue (world p m) (value.Abstraction f n e) v → ShowsTaking (world p m) None (took v a)
last_parameter p m f n count e (Abstraction x [] b E) a counted few s = tt
last_parameter p m f n count e (Abstraction x (y ∷ ys) b E) a counted few s =
    let names = parameters_in p.tokens (tree_in p f) in
    let left = left_over p f n x (y ∷ ys) s.1 in
    let all = counted (some_left names n x (y ∷ ys) s.1) in
    absurd (omega (arith, left, all, few))
last_parameter p m f n count e v a counted few s = absurd s

-- it has others after this one
pub parameter_takes : (p : Parsed) (m : code_machine.Machine) (new : Environments) (f n k count e i name : ℕ) (u : code_value.Value) (v a : Value)
    → k ≡ n + 1
    → (0 < length (parameters_in p.tokens (tree_in p f)) → count ≡ length (parameters_in p.tokens (tree_in p f))) → k < count
    → (0 < length (parameters_in p.tokens (tree_in p f)) → ShowsName p.tokens (Some name) (slice_get (parameters_in p.tokens (tree_in p f)) n))
    → i ≡ next_number m.scopes.scopes → new ≡ with_scope m.scopes (scope.Bound name u e)
    → ShowsValue (world p m) (value.Abstraction f n e) v
    → ShowsValue (world p m) u a → ShowsTaking (world p (record m { scopes = new })) (Some (value.Abstraction f k i)) (took v a)
parameter_takes p m new f n k count e i name u (Abstraction x [] b E) a one counted more named at is s t =
    let names = parameters_in p.tokens (tree_in p f) in
    let left = left_over p f n x [] s.1 in
    let all = counted (some_left names n x [] s.1) in
    absurd (omega (arith, left, all, one, more))
parameter_takes p m new f n k count e i name u (Abstraction x (y ∷ ys) b E) a one counted more named at is s t =
    let names = parameters_in p.tokens (tree_in p f) in
    let next : suc n ≡ k = omega (arith, one) in (
      s.0,
      ap (λ (j : ℕ). drop j names) (sym next) ∙ drop_behind names n x (y ∷ ys) s.1,
      s.2,
      bind_shows p m new name u e i x a E at is (named_at p f n (Some name) x (y ∷ ys) named s.1) t s.3,
    )
parameter_takes p m new f n k count e i name u v a one counted more named at is s t = absurd s

-- ---- rules

pub taken_count : (w : World) (n i : ℕ) (T : Taken) → ShowsTaken w n i T → n ≡ count_taken T
taken_count w n i Nothing h = h
taken_count w n i (And v T) h = h.2 ∙ ap suc (taken_count w h.0 h.1.before T h.5)

-- they want one argument at most
pub last_of_rules : (w : World) (r : Ruled) (e n i k left : ℕ) (v a : Value) → k ≡ width (rules_in w.tree r) → left ≡ k - n → left ≤ 1
    → ShowsValue w (value.Rules r e n i) v → ShowsTaking w None (took v a)
last_of_rules w r e n i k left (Rules s rs E T) a wide is few h =
    let c = taken_count w n i T h.4 in
    let all : width rs ≤ suc (count_taken T) = omega (arith, c, wide, is, few, ap width h.2) in
    subst (λ (b : Bool). ShowsTaking w None (if b then Some (Rules s rs E (And a T)) else None)) (sym (le-ltb (suc (count_taken T)) (width rs) all)) tt
last_of_rules w r e n i k left v a wide is few h = absurd h

-- they want more
pub rules_take : (p : Parsed) (m : code_machine.Machine) (new : Environments) (r : Ruled) (e n i k left count j : ℕ) (u : code_value.Value) (v a : Value)
    → k ≡ width (rules_in p r) → left ≡ k - n → 1 < left
    → count ≡ n + 1 → j ≡ length m.scopes.taken → new ≡ with_argument m.scopes (record { value = u; before = i })
    → ShowsValue (world p m) (value.Rules r e n i) v
    → ShowsValue (world p m) u a → ShowsTaking (world p (record m { scopes = new })) (Some (value.Rules r e count j)) (took v a)
rules_take p m new r e n i k left count j u (Rules s rs E T) a wide is more one at made h t =
    let n1 : code_machine.Machine = record m { scopes = new } in
    let c = taken_count (world p m) n i T h.4 in
    let all : suc (count_taken T) < width rs = omega (arith, c, wide, is, more, ap width h.2) in
    let g = argument_grew p m new (record { value = u; before = i }) made in
    let shown : ShowsValue (world p n1) (value.Rules r e count j) (Rules s rs E (And a T)) =
    (h.0, h.1, h.2, env_grows (world p m) (world p n1) g.lists e E h.3, take_shows p m new u a n count i j T at made one t h.4) in
    subst (λ (b : Bool). ShowsTaking (world p n1) (Some (value.Rules r e count j)) (if b then Some (Rules s rs E (And a T)) else None))
    (sym (lt-ltb (suc (count_taken T)) (width rs) all)) shown
rules_take p m new r e n i k left count j u v a wide is more one at made h t = absurd h
