-- What rules want at positions, and the rules that are left.
use Rattle.std.proofs.Common.{◌≡◌, ◌⊎◌, ℕ, zero, suc, ◌+◌, ◌<◌, ◌≤◌, arith, Bool, true, false, cond, List, [], ◌∷◌, ◌++◌, length, take}
use Rattle.std.proofs.Common.{get_or, filter, slice_get, Option, Some, None, option_map, All, inl, inr, refl, sym, ap, subst, ◌∙◌}
use Rattle.std.proofs.lemmas.Bool.{cases_lt, eq-eqb, eqb-true, false≢true}
use Rattle.std.proofs.lemmas.List.{length-map, take_more}
use Rattle.std.proofs.lemmas.List.Elements.{All-append, All-cons, All-nil, filter-append}
use Rattle.std.proofs.lemmas.Option.{none-some, same_Some, slice_get-map, slice_get_within}
use Rattle.fv_diagram.specs.Arena.{Arena, tree_of}
use Rattle.fv_parse.specs.Trees.{Parsed, tree_in}
use Rattle.fv_parse.specs.TreeId.{TreeId}
use Rattle.fv_rules.specs.headline.Values.{Rule, Value, Flat, rule_of}
use Rattle.fv_rules.specs.headline.Matching.{and_then}
use Rattle.fv_eval_scopes.specs.declared.value.Value as code_value
use Rattle.fv_eval_scopes.specs.declared.value.Value.TheVariants as value
use Rattle.fv_eval_scopes.specs.declared.value.Ruled.{Ruled}
use Rattle.fv_eval_scopes.specs.Shows.{World, ShowsValue, ShowsValues, rules_in}
use Rattle.fv_eval_lookup.specs.declared.index.RuleIndex.{RuleIndex}
use Rattle.fv_eval_lookup.specs.declared.paths.Path.{Path}
use Rattle.fv_eval_lookup.specs.declared.wants.Wanted.{Wanted}
use Rattle.fv_eval_patterns.specs.Bits.{has}
use Rattle.fv_eval_lookup.specs.Indexes.{AreIndexes}
use Rattle.fv_eval_lookup.specs.Leaving.{Fails, IsIndex, Leaves, Narrows}
use Rattle.fv_eval_lookup.specs.Positions.{Allows, HasBoth, IsWanted, Sorts, diagram_key, diagram_part, is_for, key_at, key_in, permits, want_at}
use Rattle.fv_eval_lookup.proofs.Refused.{not_enough}
use Rattle.fv_eval_lookup.proofs.RuleNodes.{rules_at}

-- ---- rules, sorted out one by one

-- one want more
wanted_cases : (xs : List Wanted) (w : Wanted) (j : ℕ) → IsWanted (xs ++ w ∷ []) j → IsWanted xs j ⊎ (j ≡ w.rule)
wanted_cases [] w j (inl e) = inr e
wanted_cases [] w j (inr h) = absurd h
wanted_cases (x ∷ xs) w j (inl e) = inl (inl e)
wanted_cases (x ∷ xs) w j (inr h) = go (wanted_cases xs w j h)
  where
    go : IsWanted xs j ⊎ (j ≡ w.rule) → IsWanted (x ∷ xs) j ⊎ (j ≡ w.rule)
    go (inl k) = inl (inr k)
    go (inr e) = inr e

pub both_more : (free old new : List ℕ) (ws : List Wanted) (i : ℕ) (d : Wanted) → i < length ws → HasBoth free (take i ws) old
    → ((j : ℕ) → has old j ≡ true → has new j ≡ true) → has new (get_or ws i d).rule ≡ true → HasBoth free (take (i + 1) ws) new
both_more free old new ws i d l h keeps added = record {
  free_ones = λ j k. keeps j (h.free_ones j k);
  others = λ j k. go j (wanted_cases (take i ws) (get_or ws i d) j (subst (λ xs. IsWanted xs j) (take_more ws i d l) k));
}
  where
    go : (j : ℕ) → IsWanted (take i ws) j ⊎ (j ≡ (get_or ws i d).rule) → has new j ≡ true
    go j (inl k) = keeps j (h.others j k)
    go j (inr e) = subst (λ q. has new q ≡ true) (sym e) added

wanted_left : (xs ys : List Wanted) (j : ℕ) → IsWanted xs j → IsWanted (xs ++ ys) j
wanted_left [] ys j h = absurd h
wanted_left (x ∷ xs) ys j (inl e) = inl e
wanted_left (x ∷ xs) ys j (inr h) = inr (wanted_left xs ys j h)

wanted_right : (xs ys : List Wanted) (j : ℕ) → IsWanted ys j → IsWanted (xs ++ ys) j
wanted_right [] ys j h = h
wanted_right (x ∷ xs) ys j h = inr (wanted_right xs ys j h)

pub sorts_begin : (rules : List Rule) (x : Path) (free : List ℕ) (ws : List Wanted) → Sorts rules x 0 free ws
sorts_begin rules x free ws = record { free_ones = λ j r l. absurd (omega (arith, l)); others = λ j k r l. absurd (omega (arith, l)) }

-- the rule that a node is
pub rule_here : (p : Parsed) (ids : List TreeId) (i : ℕ) (id : TreeId) → slice_get ids i ≡ Some id →
    slice_get (rules_at p ids) i ≡ Some (rule_of (tree_in p id))
rule_here p ids i id e = slice_get-map (λ (n : TreeId). rule_of (tree_in p n)) ids i ∙ ap (option_map (λ (n : TreeId). rule_of (tree_in p n))) e

-- a rule that wants nothing
pub sorts_free : (rules : List Rule) (x : Path) (i : ℕ) (old new : List ℕ) (ws : List Wanted) (r : Rule) → Sorts rules x i old ws → slice_get rules i ≡ Some r
    → want_at x r ≡ None → ((j : ℕ) → has old j ≡ true → has new j ≡ true) → has new i ≡ true → Sorts rules x (i + 1) new ws
sorts_free rules x i old new ws r h here none keeps added = record {
  free_ones = λ j q l got e. free j q l got e (cases_lt j i);
  others = λ j k q l got e. others j k q l got e (cases_lt j i);
}
  where
    free : (j : ℕ) (q : Rule) → j < i + 1 → slice_get rules j ≡ Some q → want_at x q ≡ None → (j < i) ⊎ (i ≤ j) → has new j ≡ true
    free j q l got e (inl m) = keeps j (h.free_ones j q m got e)
    free j q l got e (inr g) = let same : i ≡ j = omega (arith, l, g) in subst (λ n. has new n ≡ true) same added

    others : (j k : ℕ) (q : Rule) → j < i + 1 → slice_get rules j ≡ Some q → want_at x q ≡ Some k → (j < i) ⊎ (i ≤ j) → IsWanted (filter (is_for k) ws) j
    others j k q l got e (inl m) = h.others j k q m got e
    others j k q l got e (inr g) =
        let same : i ≡ j = omega (arith, l, g) in
        let rule : r ≡ q = same_Some r q (sym here ∙ ap (slice_get rules) same ∙ got) in
        absurd (none-some k (sym none ∙ ap (want_at x) rule ∙ e))

-- one that wants a key
pub sorts_more : (rules : List Rule) (x : Path) (i key : ℕ) (free : List ℕ) (ws more : List Wanted) (r : Rule) → Sorts rules x i free ws
    → slice_get rules i ≡ Some r → want_at x r ≡ Some key → more ≡ ws ++ record { key = key; rule = i } ∷ [] → Sorts rules x (i + 1) free more
sorts_more rules x i key free ws more r h here want pushed = record {
  free_ones = λ j q l got e. frees j q l got e (cases_lt j i);
  others = λ j k q l got e. subst (λ ys. IsWanted ys j) (sym (split k)) (others j k q l got e (cases_lt j i));
}
  where
    w : Wanted
    w = record { key = key; rule = i }

    split : (k : ℕ) → filter (is_for k) more ≡ filter (is_for k) ws ++ filter (is_for k) (w ∷ [])
    split k = ap (filter (is_for k)) pushed ∙ filter-append (is_for k) ws (w ∷ [])

    frees : (j : ℕ) (q : Rule) → j < i + 1 → slice_get rules j ≡ Some q → want_at x q ≡ None → (j < i) ⊎ (i ≤ j) → has free j ≡ true
    frees j q l got e (inl m) = h.free_ones j q m got e
    frees j q l got e (inr g) =
        let same : i ≡ j = omega (arith, l, g) in
        let rule : r ≡ q = same_Some r q (sym here ∙ ap (slice_get rules) same ∙ got) in
        absurd (none-some key (sym (sym want ∙ ap (want_at x) rule ∙ e)))

    others : (j k : ℕ) (q : Rule) → j < i + 1 → slice_get rules j ≡ Some q → want_at x q ≡ Some k → (j < i) ⊎ (i ≤ j)
        → IsWanted (filter (is_for k) ws ++ filter (is_for k) (w ∷ [])) j
    others j k q l got e (inl m) = wanted_left (filter (is_for k) ws) (filter (is_for k) (w ∷ [])) j (h.others j k q m got e)
    others j k q l got e (inr g) =
        let same : i ≡ j = omega (arith, l, g) in
        let rule : r ≡ q = same_Some r q (sym here ∙ ap (slice_get rules) same ∙ got) in
        let keys : key ≡ k = same_Some key k (sym want ∙ ap (want_at x) rule ∙ e) in
        let one : IsWanted (filter (is_for k) (w ∷ [])) j = subst (λ b. IsWanted (cond b (w ∷ []) []) j) (sym (eq-eqb key k keys)) (inl (sym same)) in
        wanted_right (filter (is_for k) ws) (filter (is_for k) (w ∷ [])) j one

-- ---- by a key

-- once all are sorted out, those that want nothing and those that want a key are what the key leaves
pub both_allow : (rules : List Rule) (x : Path) (key : ℕ) (free bits : List ℕ) (ws : List Wanted) → Sorts rules x (length rules) free ws
    → HasBoth free (filter (is_for key) ws) bits → Allows rules x key bits
both_allow rules x key free bits ws h both j r got may = go (want_at x r) refl may
  where
    inside : j < length rules
    inside = slice_get_within rules j r got

    go : (o : Option ℕ) → want_at x r ≡ o → permits key o ≡ true → has bits j ≡ true
    go None e m = both.free_ones j (h.free_ones j r inside got e)
    go (Some k) e m = both.others j (subst (λ q. IsWanted (filter (is_for q) ws) j) (eqb-true k key m) (h.others j k r inside got e))

-- a sort that keeps the order of those of one key
pub sorts_sorted : (rules : List Rule) (x : Path) (count : ℕ) (free : List ℕ) (ws sorted : List Wanted)
    → ((key : ℕ) → filter (is_for key) sorted ≡ filter (is_for key) ws) → Sorts rules x count free ws → Sorts rules x count free sorted
sorts_sorted rules x count free ws sorted same h = record {
  free_ones = h.free_ones;
  others = λ j k r l got e. subst (λ ys. IsWanted ys j) (sym (same k)) (h.others j k r l got e);
}

-- what a key leaves out does not match
pub key_narrows : (rules : List Rule) (x : Path) (us : List code_value.Value) (a : Arena) (key : ℕ) (old new : List ℕ)
    → ((w : World) (vs : List Value) → w.diagrams ≡ a → ShowsValues w us vs → key_at x vs ≡ Some key)
    → ((j : ℕ) (r : Rule) → slice_get rules j ≡ Some r → permits key (want_at x r) ≡ true → has old j ≡ true → has new j ≡ true)
    → Narrows rules us a old new
key_narrows rules x us a key old new is leaves j r got was out = go (permits key (want_at x r)) refl
  where
    go : (b : Bool) → permits key (want_at x r) ≡ b → Fails r us a
    go true e = absurd (false≢true (sym out ∙ leaves j r got e was))
    go false e = λ l w vs f g. not_enough l x r vs key e (is w vs f g)

pub nothing_narrows : (rules : List Rule) (us : List code_value.Value) (a : Arena) (bits : List ℕ) → Narrows rules us a bits bits
nothing_narrows rules us a bits j r got was out = absurd (false≢true (sym out ∙ was))

-- ---- position by position

pub leaves_begin : (rules : List Rule) (x : RuleIndex) (us : List code_value.Value) (a : Arena) (bits : List ℕ) → IsIndex rules x → bits ≡ x.every
    → Leaves rules us a (Some bits)
leaves_begin rules x us a bits h same j r got out = absurd (false≢true (sym out ∙ ap (λ b. has b j) same ∙ h.every j r got))

pub leaves_more : (rules : List Rule) (us : List code_value.Value) (a : Arena) (old new : List ℕ) → Leaves rules us a (Some old)
    → Narrows rules us a old new → Leaves rules us a (Some new)
leaves_more rules us a old new h narrows j r got out = go (has old j) refl
  where
    go : (b : Bool) → has old j ≡ b → Fails r us a
    go true e = narrows j r got e out
    go false e = h j r got e

-- ---- the key of an argument

argument_there : (w : World) (us : List code_value.Value) (vs : List Value) (i : ℕ) (u : code_value.Value) → ShowsValues w us vs
    → slice_get us i ≡ Some u → (v : Value) × (slice_get vs i ≡ Some v) × ShowsValue w u v
argument_there w us [] i u h e = absurd (none-some u (ap (λ xs. slice_get xs i) (sym h) ∙ e))
argument_there w us (v ∷ vs) zero u h e =
    (v, refl, subst (λ x. ShowsValue w x v) (same_Some h.0 u (ap (λ xs. slice_get xs 0) (sym h.2) ∙ e)) h.3)
argument_there w us (v ∷ vs) (suc i) u h e = argument_there w h.1 vs i u h.4 (ap (λ xs. slice_get xs (suc i)) (sym h.2) ∙ e)

-- what was found in an argument
pub record IsFound (x : Path) (us : List code_value.Value) (a : Arena) (id part key : ℕ) : Type 0 where
  pub got : slice_get us x.argument ≡ Some (value.Diagram id)
  pub part_is : diagram_part x.sides.items (tree_of a id) ≡ Some (tree_of a part)
  pub key_is : key ≡ diagram_key (tree_of a part)

pub key_found : {x : Path} {us : List code_value.Value} {a : Arena} {id part key : ℕ} → IsFound x us a id part key → (w : World) (vs : List Value)
    → w.diagrams ≡ a → ShowsValues w us vs → key_at x vs ≡ Some key
key_found {x} {us} {a} {id} {part} {key} found w vs same shown = let at =
    argument_there w us vs x.argument (value.Diagram id) shown found.got in go at.0 at.1 at.2
  where
    go : (v : Value) → slice_get vs x.argument ≡ Some v → ShowsValue w (value.Diagram id) v → key_at x vs ≡ Some key
    go (Flat d) e h =
        let tree : d ≡ tree_of a id = sym h.1 ∙ ap (λ b. tree_of b id) same in
        ap (key_in x.sides.items) (e ∙ ap (λ t. Some (Flat t)) tree)
        ∙ ap (λ o. and_then o (λ t. Some (diagram_key t))) found.part_is ∙ ap (λ k. Some k) (sym found.key_is)
    go v e h = absurd h

-- one position more
pub all_push : {A : Type 0} (P : A → Type 0) (xs : List A) (x : A) → All P xs → P x → All P (xs ++ x ∷ [])
all_push P xs x h here = All-append P xs (x ∷ []) h (All-cons P x [] here (All-nil P))

-- all places of rules
pub all_places : (p : Parsed) (ids : List TreeId) (count : ℕ) (bits : List ℕ) → count ≡ length ids → ((j : ℕ) → j < count → has bits j ≡ true)
    → (j : ℕ) (r : Rule) → slice_get (rules_at p ids) j ≡ Some r → has bits j ≡ true
all_places p ids count bits many all j r got =
    let l = slice_get_within (rules_at p ids) j r got in
    all j (omega (arith, many, l, length-map ids (λ (i : TreeId). rule_of (tree_in p i))))

-- an index more
pub indexes_more : (p q : Parsed) (xs ys : List RuleIndex) (x : RuleIndex) (ids : List TreeId) (r : Ruled) → q ≡ p → AreIndexes q xs
    → IsIndex (rules_at q ids) x → x.ruled ≡ r → rules_at p ids ≡ rules_in p r → ys ≡ xs ++ x ∷ [] → AreIndexes q ys
indexes_more p q xs ys x ids r view h index same are pushed =
    let there : rules_at q ids ≡ rules_in q x.ruled =
    subst (λ (t : Parsed). rules_at t ids ≡ rules_in t x.ruled) (sym view) (are ∙ ap (rules_in p) (sym same)) in
    subst (AreIndexes q) (sym pushed)
    (all_push (λ (y : RuleIndex). IsIndex (rules_in q y.ruled) y) xs x h (subst (λ rs. IsIndex rs x) there index))

-- one that was found
pub index_at : (p q : Parsed) (xs : List RuleIndex) (i : ℕ) (x : RuleIndex) (r : Ruled) → q ≡ p → AreIndexes q xs → i < length xs → x ≡ get_or xs i x
    → x.ruled ≡ r → IsIndex (rules_in p r) x
index_at p q xs i x r view h l here same =
    subst (λ (t : Parsed). IsIndex (rules_in t r) x) view
    (subst (λ s. IsIndex (rules_in q s) x) same (subst (λ (y : RuleIndex). IsIndex (rules_in q y.ruled) y) (sym here) (h i x l)))
