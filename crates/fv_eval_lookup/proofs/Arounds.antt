-- The lists of definitions around environments, by the names that they have.
use Rattle.std.proofs.Common.{◌≡◌, ◌⊎◌, inl, inr, ℕ, zero, suc, ◌+◌, ◌-◌, ◌*◌, ◌/◌, ◌%◌, ◌<◌, ◌≤◌, arith, List, [], ◌∷◌, ◌++◌}
use Rattle.std.proofs.Common.{length, take, set, get_or, Option, Some, None}
use Rattle.std.proofs.Common.{refl, sym, ap, subst, ◌∙◌, append_assoc, Bool, true, false}
use Rattle.std.specs.Prelude.{filter, nat_eq, slice_get, IfSome}
use Rattle.std.proofs.Math.Nat.{div-add-mod, div-lt_iff_lt-mul, mod-lt}
use Rattle.std.proofs.lemmas.Bool.{cases_eq, cases_lt, eqb-true}
use Rattle.std.proofs.lemmas.List.{get_or-set_other, get_or-set_same, get_or_append_left, get_or_push, length-set, length_push}
use Rattle.std.proofs.lemmas.Option.{none-some, same_Some, slice_get_within, slice_get-get_or, slice_get_read, get_or_from_slice_get}
use Rattle.fv_parse_grammar.specs.headline.Tree.{items}
use Rattle.fv_parse.specs.headline.Trees.{text_of}
use Rattle.fv_parse.specs.Trees.{Parsed, size_of, tree_in, first_named}
use Rattle.fv_rules.specs.headline.Values.{is_of, definition_of, or_else}
use Rattle.fv_eval_scopes.specs.declared.tries.Fork.{Fork}
use Rattle.fv_eval_scopes.specs.declared.value.Value as code_value
use Rattle.fv_eval_scopes.specs.declared.value.Scope as code_scope
use Rattle.fv_eval_scopes.specs.declared.value.Scope.TheVariants as scope
use Rattle.fv_eval_scopes.specs.declared.scopes.TheConstants.{STRIDE}
use Rattle.fv_eval_scopes.specs.Environments.{first_number, next_number, nth_of, nth_scope, scope_in, outer_number}
use Rattle.fv_eval_scopes.specs.Tries.{found, AreThere, IsGrown, IsWith}
use Rattle.fv_eval_scopes.specs.Ways.{IsOther, PassesBy, PassesTo, key_of}
use Rattle.fv_eval_scopes.proofs.lemmas.Forks.{found_on, there_on, grown_none, nothing_there}
use Rattle.fv_eval_scopes.proofs.lemmas.Grown.{place_stays, last_place}
use Rattle.fv_eval_scopes.proofs.lemmas.Numbered.{kept_at, scope_behind, scope_below, scope_stays}
use Rattle.fv_eval_scopes.proofs.lemmas.Outward.{only, nearer_first, nearer_second}
use Rattle.fv_eval_lookup.specs.declared.by_name.Defined.{Defined}
use Rattle.fv_eval_lookup.specs.declared.around.TheConstants.{NAME_BITS}
use Rattle.fv_eval_lookup.specs.declared.around.Nested.{Nested}
use Rattle.fv_eval_lookup.specs.declared.around.Around.{Around}
use Rattle.fv_eval_lookup.specs.Around.{HasNone, StopsAt, IsNearest, WasMade, IsRoot, IsNested, AreNested, AreAround}
use Rattle.fv_eval_lookup.specs.ByName.{is_called}
use Rattle.fv_eval_scopes.specs.Outward.{HasNothing, SkipsBy, SkipsTo}
use Rattle.fv_eval_lookup.proofs.Lookups.{another_bound, definitions_say_in}
use Rattle.fv_eval_lookup.proofs.Named.{no_more}

-- ---- what trees of environments say

was_made : (scopes : List code_scope.Scope) (env : ℕ) (s : code_scope.Scope) → scope_in scopes env ≡ Some s → WasMade scopes env
was_made scopes zero s e = tt
was_made scopes (suc i) s e = (s, e)

-- the outermost environment has no list around it
pub root_outermost : (p : Parsed) (scopes : List code_scope.Scope) (forks : List Fork) → IsRoot p scopes forks 0 0
root_outermost p scopes forks = record { made = tt; there = nothing_there forks NAME_BITS; leads = λ name n at h. go name n at h }
  where
    go : (name n at : ℕ) → PassesBy scopes (StopsAt name (found forks NAME_BITS 0 name)) n 0 at → SkipsBy p scopes name n 0 at
    go name zero at h = h
    go name (suc n) at h = absurd (none-some h.1.0 h.1.1)

-- after a scope that is passed only where it has nothing of a name
nearest_on : (p : Parsed) (scopes : List code_scope.Scope) (name list env outer : ℕ) (s : code_scope.Scope) → scope_in scopes env ≡ Some s
    → outer_number s ≡ outer → (IsOther (StopsAt name list) (key_of s) → HasNothing p name env s) → IsNearest p scopes name outer list
    → IsNearest p scopes name env list
nearest_on p scopes name list env outer s is around none h zero at w = w
nearest_on p scopes name list env outer s is around none h (suc n) at w =
    let o = w.1 in
    let same : o.0 ≡ s = same_Some o.0 s (sym o.1 ∙ is) in
    let out : w.0 ≡ outer = sym o.2 ∙ ap outer_number same ∙ around in (
      s,
      is,
      omega (arith, o.3, out, around),
      none (subst (λ x. IsOther (StopsAt name list) (key_of x)) same o.4),
      subst (λ e. SkipsBy p scopes name n e at) (sym around)
          (h n at (subst (λ e. PassesBy scopes (StopsAt name list) n e at) out w.2)),
    )

pub root_bound : (p : Parsed) (scopes : List code_scope.Scope) (forks : List Fork) (env outer root : ℕ) (n : ℕ) (u : code_value.Value)
    → scope_in scopes env ≡ Some (scope.Bound n u outer) → IsRoot p scopes forks outer root → IsRoot p scopes forks env root
root_bound p scopes forks env outer root n u is h = record {
  made = was_made scopes env (scope.Bound n u outer) is;
  there = h.there;
  leads = λ name.
      nearest_on p scopes name (found forks NAME_BITS root name) env outer (scope.Bound n u outer) is refl
      (λ other. another_bound p name env n outer u (λ e. other (inl e))) (h.leads name);
}

-- a list without a definition of a name has nothing of it
list_has_nothing : (p : Parsed) (name env id outer : ℕ) → HasNone p id name → HasNothing p name env (scope.Definitions id outer)
list_has_nothing p name env id outer none =
    definitions_say_in p [] id outer env name None (λ w x E m same inside named shown.
    let l = p.tokens in
    let i : id < size_of p = subst (λ (q : Parsed). id < size_of q) same inside in
    let there = subst (λ (q : Parsed). (text_of q.tokens name ≡ x) × (first_named q.tokens name ≡ name)) same named in
    let nothing : filter (is_of l x) (items (tree_in p id)) ≡ [] =
    ap (λ y. filter (is_of l y) (items (tree_in p id))) (sym there.0) ∙ none name i there.1 in
    ap (λ ds. or_else (definition_of l ds) E m) nothing)

pub root_listed : (p : Parsed) (scopes : List code_scope.Scope) (forks : List Fork) (env id outer around root : ℕ)
    → scope_in scopes env ≡ Some (scope.Definitions id outer) → IsRoot p scopes forks outer around → IsNested p forks id around root
    → IsRoot p scopes forks env root
root_listed p scopes forks env id outer around root is h nested = record {
  made = was_made scopes env s is;
  there = nested.there;
  leads = λ name. go name (nested.leads name);
}
  where
    s : code_scope.Scope
    s = scope.Definitions id outer

    to : ℕ → ℕ
    to name = found forks NAME_BITS root name

    here : (name : ℕ) → to name ≡ id → (n at : ℕ) → PassesBy scopes (StopsAt name (to name)) n env at → SkipsBy p scopes name n env at
    here name e zero at w = w
    here name e (suc n) at w =
        let o = w.1 in
        let same : o.0 ≡ s = same_Some o.0 s (sym o.1 ∙ is) in
        let other : StopsAt name (to name) id → ⊥ = subst (λ x. IsOther (StopsAt name (to name)) (key_of x)) same o.4 in absurd (other (inr (sym e)))

    go : (name : ℕ) → ((to name ≡ id) ⊎ (HasNone p id name × (to name ≡ found forks NAME_BITS around name))) → IsNearest p scopes name env (to name)
    go name (inl e) = here name e
    go name (inr e) =
        nearest_on p scopes name (to name) env outer s is refl (λ other. list_has_nothing p name env id outer e.0)
        (subst (IsNearest p scopes name outer) (sym e.1) (h.leads name))

-- ---- trees that have grown

pub root_on : (p : Parsed) (scopes : List code_scope.Scope) (old new : List Fork) (env root : ℕ) → IsGrown old new → IsRoot p scopes old env root
    → IsRoot p scopes new env root
root_on p scopes old new env root g h = record {
  made = h.made;
  there = there_on old new NAME_BITS root g h.there;
  leads = λ name. subst (IsNearest p scopes name env) (sym (found_on old new NAME_BITS root name g h.there)) (h.leads name);
}

pub nested_on : (p : Parsed) (old new : List Fork) (list around root : ℕ) → IsGrown old new → IsNested p old list around root → IsNested p new list around root
nested_on p old new list around root g h = record {
  outer = there_on old new NAME_BITS around g h.outer;
  there = there_on old new NAME_BITS root g h.there;
  leads = λ name. go name (h.leads name);
}
  where
    go : (name : ℕ) → ((found old NAME_BITS root name ≡ list) ⊎ (HasNone p list name × (found old NAME_BITS root name ≡ found old NAME_BITS around name)))
        → (found new NAME_BITS root name ≡ list) ⊎ (HasNone p list name × (found new NAME_BITS root name ≡ found new NAME_BITS around name))
    go name (inl e) = inl (found_on old new NAME_BITS root name g h.there ∙ e)
    go name (inr e) =
        inr (e.0, found_on old new NAME_BITS root name g h.there ∙ e.1 ∙ sym (found_on old new NAME_BITS around name g h.outer))

pub nested_all_on : (p : Parsed) (old new : List Fork) (nested : List (Option Nested)) → IsGrown old new → AreNested p old nested → AreNested p new nested
nested_all_on p old new nested g h i x e = nested_on p old new x.list x.around x.root g (h i x e)

-- The roots stay, and what is remembered of lists is true of trees that have grown.
pub around_on : (p : Parsed) (scopes : List code_scope.Scope) (old new : Around) → IsGrown old.tries new.tries → new.roots.items ≡ old.roots.items
    → AreNested p new.tries new.nested.items → AreAround p scopes old → AreAround p scopes new
around_on p scopes old new g same nested h = record {
  roots = λ i r k l e. root_on p scopes old.tries new.tries (first_number i + k) r g (h.roots i r k l (ap (λ rs. slice_get rs i) (sym same) ∙ e));
  nested = nested;
}

-- ---- one environment more

pub root_more : (p : Parsed) (scopes : List code_scope.Scope) (old new : Around) (root : ℕ) → new.tries ≡ old.tries → new.nested.items ≡ old.nested.items
    → new.roots.items ≡ old.roots.items ++ root ∷ []
    → ((k : ℕ) → k < STRIDE → IsRoot p scopes old.tries (first_number (length old.roots.items) + k) root) → AreAround p scopes old
    → AreAround p scopes new
root_more p scopes old new root tries nested pushed here h = record {
  roots = λ i r k b e.
      subst (λ fs. IsRoot p scopes fs (first_number i + k) r) (sym tries) (go i r k b (ap (λ rs. slice_get rs i) (sym pushed) ∙ e));
  nested = subst (λ fs. AreNested p fs new.nested.items) (sym tries) (subst (AreNested p old.tries) (sym nested) h.nested);
}
  where
    roots : List ℕ
    roots = old.roots.items

    go : (i r k : ℕ) → k < STRIDE → slice_get (roots ++ root ∷ []) i ≡ Some r → IsRoot p scopes old.tries (first_number i + k) r
    go i r k b e = at (cases_lt i (length roots))
      where
        at : ((i < length roots) ⊎ (length roots ≤ i)) → IsRoot p scopes old.tries (first_number i + k) r
        at (inl l) =
            let is = slice_get-get_or roots i root l in
            let same : get_or roots i root ≡ r = same_Some (get_or roots i root) r (sym (place_stays roots root i (get_or roots i root) is) ∙ e) in
            h.roots i r k b (is ∙ ap Some same)
        at (inr l) =
            let within = slice_get_within (roots ++ root ∷ []) i r e in
            let place : i ≡ length roots = omega (arith, l, within, length_push roots root) in
            let same : root ≡ r =
            same_Some root r (sym (last_place roots root) ∙ subst (λ n. slice_get (roots ++ root ∷ []) n ≡ Some r) place e) in
            subst (λ n. IsRoot p scopes old.tries (first_number n + k) r) (sym place)
            (subst (IsRoot p scopes old.tries (first_number (length roots) + k)) same (here k b))

-- ---- what is remembered of lists

pub nested_push : (p : Parsed) (forks : List Fork) (old new : List (Option Nested)) → new ≡ old ++ None ∷ [] → AreNested p forks old → AreNested p forks new
nested_push p forks old new pushed h i x e = go (cases_lt i (length old))
  where
    got : slice_get (old ++ None ∷ []) i ≡ Some (Some x)
    got = ap (λ xs. slice_get xs i) (sym pushed) ∙ e

    within : i < length old + 1
    within = omega (arith, slice_get_within (old ++ None ∷ []) i (Some x) got, length_push old None)

    at : Some x ≡ get_or (old ++ None ∷ []) i (Some x)
    at = sym (get_or_from_slice_get (old ++ None ∷ []) i (Some x) (Some x) got)

    go : (i < length old) ⊎ (length old ≤ i) → IsNested p forks x.list x.around x.root
    go (inl l) = h i x (slice_get_read old (length old) i (Some x) refl l (at ∙ get_or_append_left old (None ∷ []) (Some x) i l))
    go (inr g) = absurd (none-some x (sym (at ∙ get_or_push old None (Some x) i (omega (arith, g, within)))))

pub nested_set : (p : Parsed) (forks : List Fork) (xs : List (Option Nested)) (i : ℕ) (x : Nested) → i < length xs → AreNested p forks xs
    → IsNested p forks x.list x.around x.root → AreNested p forks (set xs i (Some x))
nested_set p forks xs i x l h one j y e = go (cases_eq j i)
  where
    within : j < length xs
    within = omega (arith, slice_get_within (set xs i (Some x)) j (Some y) e, length-set xs i (Some x))

    at : Some y ≡ get_or (set xs i (Some x)) j (Some y)
    at = sym (get_or_from_slice_get (set xs i (Some x)) j (Some y) (Some y) e)

    go : (j ≡ i) ⊎ (j ≡ i → ⊥) → IsNested p forks y.list y.around y.root
    go (inl same) =
        let is : y ≡ x =
        same_Some y x (at ∙ ap (λ k. get_or (set xs i (Some x)) k (Some y)) same ∙ get_or-set_same xs i (Some x) (Some y) l) in
        subst (λ (z : Nested). IsNested p forks z.list z.around z.root) (sym is) one
    go (inr apart) =
        h j y (slice_get_read xs (length xs) j (Some y) refl within (at ∙ get_or-set_other xs i j (Some x) (Some y) apart))

-- ---- a tree with the names of a list

-- the names of the first definitions of a list lead to it, and the others where they led
pub record HasNames (old now : List Fork) (list around root : ℕ) (ds : List Defined) : Type 0 where
  pub grown : IsGrown old now
  pub there : AreThere old NAME_BITS around → AreThere now NAME_BITS root
  pub leads : AreThere old NAME_BITS around → (name : ℕ) → (found now NAME_BITS root name ≡ list)
      ⊎ ((filter (is_called name) ds ≡ []) × (found now NAME_BITS root name ≡ found old NAME_BITS around name))

pub names_begin : (forks : List Fork) (list around : ℕ) (ds : List Defined) → HasNames forks forks list around around (take 0 ds)
names_begin forks list around ds = record { grown = grown_none forks; there = λ h. h; leads = λ h name. inr (refl, refl) }

pub grown_on : (old mid new : List Fork) → IsGrown old mid → IsGrown mid new → IsGrown old new
grown_on old mid new g h = (g.0 ++ h.0, h.1 ∙ ap (λ xs. xs ++ h.0) g.1 ∙ append_assoc old g.0 h.0)

pub names_more : (old mid new : List Fork) (list around root with_it i : ℕ) (ds : List Defined) (d : Defined) → i < length ds → d ≡ get_or ds i d
    → IsGrown mid new → (AreThere mid NAME_BITS root → IsWith mid new NAME_BITS root d.name list with_it)
    → HasNames old mid list around root (take i ds) → HasNames old new list around with_it (take (i + 1) ds)
names_more old mid new list around root with_it i ds d l here g with h = record {
  grown = grown_on old mid new h.grown g;
  there = λ a. (with (h.there a)).there;
  leads = λ a name. go a name ((with (h.there a)).leads name);
}
  where
    Leads : ℕ → Type 0
    Leads name = (found new NAME_BITS with_it name ≡ list)
        ⊎ ((filter (is_called name) (take (i + 1) ds) ≡ []) × (found new NAME_BITS with_it name ≡ found old NAME_BITS around name))

    other : (name : ℕ) → (name ≡ d.name → ⊥) → nat_eq (get_or ds i d).name name ≡ false
    other name apart = not (nat_eq (get_or ds i d).name name) (λ e.
        apart (sym (ap (λ (x : Defined). x.name) here ∙ eqb-true (get_or ds i d).name name e)))
      where
        not : (b : Bool) → (b ≡ true → ⊥) → b ≡ false
        not true q = absurd (q refl)
        not false q = refl

    further : (name : ℕ) → (name ≡ d.name → ⊥) → found new NAME_BITS with_it name ≡ found mid NAME_BITS root name
        → ((found mid NAME_BITS root name ≡ list)
        ⊎ ((filter (is_called name) (take i ds) ≡ []) × (found mid NAME_BITS root name ≡ found old NAME_BITS around name)))
        → Leads name
    further name apart e (inl q) = inl (e ∙ q)
    further name apart e (inr q) = inr (no_more name ds i d l q.0 (other name apart), e ∙ q.1)

    go : AreThere old NAME_BITS around → (name : ℕ) → ((found new NAME_BITS with_it name ≡ list)
        ⊎ ((name ≡ d.name → ⊥) × (found new NAME_BITS with_it name ≡ found mid NAME_BITS root name)))
        → Leads name
    go a name (inl e) = inl e
    go a name (inr e) = further name e.0 e.1 (h.leads a name)

pub names_nested : (p : Parsed) (old new : List Fork) (list around root : ℕ) (ds : List Defined)
    → ((name : ℕ) → filter (is_called name) ds ≡ [] → HasNone p list name) → HasNames old new list around root ds → AreThere old NAME_BITS around
    → IsNested p new list around root
names_nested p old new list around root ds none h a = record {
  outer = there_on old new NAME_BITS around h.grown a;
  there = h.there a;
  leads = λ name. go name (h.leads a name);
}
  where
    go : (name : ℕ) → ((found new NAME_BITS root name ≡ list)
        ⊎ ((filter (is_called name) ds ≡ []) × (found new NAME_BITS root name ≡ found old NAME_BITS around name)))
        → (found new NAME_BITS root name ≡ list) ⊎ (HasNone p list name × (found new NAME_BITS root name ≡ found new NAME_BITS around name))
    go name (inl e) = inl e
    go name (inr e) = inr (none name e.0, e.1 ∙ sym (found_on old new NAME_BITS around name h.grown a))

-- ---- the environments of one scope

-- what is no parameter is one alone
pub nth_bound : (k before n : ℕ) (u : code_value.Value) (o : ℕ) → nth_scope k before (scope.Bound n u o) ≡ scope.Bound n u o
nth_bound zero before n u o = refl
nth_bound (suc k) before n u o = refl

pub nth_definitions : (k before id o : ℕ) → nth_scope k before (scope.Definitions id o) ≡ scope.Definitions id o
nth_definitions zero before id o = refl
nth_definitions (suc k) before id o = refl

-- no way passes what is bound to slots, so that each tree is one of its environments
pub root_slotted : (p : Parsed) (scopes : List code_scope.Scope) (forks : List Fork) (k before env f i slot o root : ℕ)
    → scope_in scopes env ≡ Some (nth_scope k before (scope.Slots f i slot o)) → AreThere forks NAME_BITS root → IsRoot p scopes forks env root
root_slotted p scopes forks k before env f i slot o root is there = record {
  made = was_made scopes env (nth_scope k before (scope.Slots f i slot o)) is;
  there = there;
  leads = λ name n at w. go name n at w;
}
  where
    no_key : (k : ℕ) → key_of (nth_scope k before (scope.Slots f i slot o)) ≡ None
    no_key zero = refl
    no_key (suc k) = refl

    go : (name n at : ℕ) → PassesBy scopes (StopsAt name (found forks NAME_BITS root name)) n env at → SkipsBy p scopes name n env at
    go name zero at w = w
    go name (suc n) at w =
        let o = w.1 in
        let same = same_Some _ _ (sym o.1 ∙ is) in
        absurd (subst (IsOther (StopsAt name (found forks NAME_BITS root name))) (ap key_of same ∙ no_key k) o.4)

-- a tree for each environment of the scope that is kept at a place
pub root_of_all : (p : Parsed) (scopes : List code_scope.Scope) (forks : List Fork) (n root : ℕ) (s : code_scope.Scope) → slice_get scopes n ≡ Some s
    → ((k before env : ℕ) → scope_in scopes env ≡ Some (nth_scope k before s) → IsRoot p scopes forks env root)
    → (k : ℕ) → k < STRIDE → IsRoot p scopes forks (first_number n + k) root
root_of_all p scopes forks n root s at each k l = each k (n * STRIDE + k) (first_number n + k) (scope_behind scopes n k s l at)

-- the root that is kept for an environment
pub root_read : (p : Parsed) (scopes : List code_scope.Scope) (a : Around) (env : ℕ) (o : Option ℕ) → (env ≡ 0 → ⊥)
    → o ≡ slice_get a.roots.items ((env - 1) / STRIDE) → AreAround p scopes a → IfSome o (IsRoot p scopes a.tries env)
root_read p scopes a env None some e h = tt
root_read p scopes a env (Some r) some e h =
    let n = env - 1 in
    let positive : zero < STRIDE = omega arith in
    let whole : STRIDE * (n / STRIDE) + n % STRIDE ≡ n = div-add-mod n STRIDE in
    let number : first_number (n / STRIDE) + n % STRIDE ≡ env = omega (arith, whole, some) in
    subst (λ j. IsRoot p scopes a.tries j r) number (h.roots (n / STRIDE) r (n % STRIDE) (mod-lt n positive) (sym e))

-- a place within the numbers of a list
place_within : (n i : ℕ) → i < n * STRIDE → i / STRIDE < n
place_within n i l = let some : zero < STRIDE = omega arith in (div-lt_iff_lt-mul some).1 l

-- ---- scopes that have grown

module _ (old new : List code_scope.Scope) (same : (i : ℕ) (s : code_scope.Scope) → slice_get old i ≡ Some s → slice_get new i ≡ Some s) where
  -- a scope of an environment that was made before was there before
  was_there : (env : ℕ) (s : code_scope.Scope) → env < next_number old → scope_in new env ≡ Some s → scope_in old env ≡ Some s
  was_there zero s l e = absurd (none-some s e)
  was_there (suc i) s l e =
      let k = kept_at new i s e in
      let n = i / STRIDE in
      let here = slice_get-get_or old n s (place_within (length old) i (omega (arith, l))) in
      let t : get_or old n s ≡ k.kept = same_Some (get_or old n s) k.kept (sym (same n (get_or old n s) here) ∙ k.at) in
      ap (nth_of (i % STRIDE) i) (here ∙ ap Some t) ∙ ap Some k.is

  passed_before : (Keys : ℕ → Type 0) (n env at : ℕ) → env < next_number old → PassesBy new Keys n env at → PassesBy old Keys n env at
  passed_before Keys zero env at l h = h
  passed_before Keys (suc n) env at l h =
      let o = h.1 in
      (h.0, (o.0, was_there env o.0 l o.1, o.2, o.3, o.4), passed_before Keys n h.0 at (omega (arith, l, o.3)) h.2)

  made_within : (env : ℕ) → WasMade old env → env < next_number old
  made_within zero h = omega arith
  made_within (suc i) h = scope_below old (suc i) h.0 h.1

  made_still : (env : ℕ) → WasMade old env → WasMade new env
  made_still zero h = tt
  made_still (suc i) h = (h.0, scope_stays old new same (suc i) h.0 h.1)

  pub around_grows : (p : Parsed) (a : Around) → ((name n env at : ℕ) → SkipsBy p old name n env at → SkipsBy p new name n env at)
      → AreAround p old a → AreAround p new a
  around_grows p a stay h = record { roots = λ i r k l e. go (first_number i + k) r (h.roots i r k l e); nested = h.nested }
    where
      go : (env r : ℕ) → IsRoot p old a.tries env r → IsRoot p new a.tries env r
      go env r k = record {
        made = made_still env k.made;
        there = k.there;
        leads = λ name n at w.
            stay name n env at (k.leads name n at
            (passed_before (StopsAt name (found a.tries NAME_BITS r name)) n env at (made_within env k.made) w));
      }

-- ---- the nearer one of two

pub past_both : (p : Parsed) (scopes : List code_scope.Scope) (name list env a b at : ℕ) → IsNearest p scopes name env list
    → PassesTo scopes (λ m. m ≡ name) env a → PassesTo scopes (λ m. m ≡ list) env b → ((at ≡ a) × (b ≤ a)) ⊎ ((at ≡ b) × (a ≤ b))
    → SkipsTo p scopes name env at
past_both p scopes name list env a b at nearest h g nearer = let w = go nearer in (w.0, nearest w.0 at w.1)
  where
    go : ((at ≡ a) × (b ≤ a)) ⊎ ((at ≡ b) × (a ≤ b)) → PassesTo scopes (StopsAt name list) env at
    go (inl e) = subst (PassesTo scopes (StopsAt name list) env) (sym e.0)
        (nearer_first scopes (only name) (only list) (StopsAt name list) env a b (λ k q. q) h g e.1)
    go (inr e) = subst (PassesTo scopes (StopsAt name list) env) (sym e.0)
        (nearer_second scopes (only name) (only list) (StopsAt name list) env a b (λ k q. q) h g e.1)

pub nearer_below : (a b at env : ℕ) → a ≤ env → b ≤ env → ((at ≡ a) × (b ≤ a)) ⊎ ((at ≡ b) × (a ≤ b)) → at ≤ env
nearer_below a b at env l m (inl e) = omega (arith, l, e.0)
nearer_below a b at env l m (inr e) = omega (arith, m, e.0)
