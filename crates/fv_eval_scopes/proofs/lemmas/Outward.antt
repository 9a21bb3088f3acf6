-- Ways outward over scopes that have nothing of a name.
use Rattle.std.proofs.Common.{◌≡◌, ◌⊎◌, inl, inr, ℕ, zero, suc, ◌<◌, ◌≤◌, arith, List, [], ◌∷◌, ◌++◌, length, get_or, Option, Some, None}
use Rattle.std.proofs.Common.{refl, sym, ap, subst, ◌∙◌}
use Rattle.std.specs.Prelude.{slice_get}
use Rattle.std.proofs.lemmas.Bool.{cases_lt}
use Rattle.std.proofs.lemmas.List.{length_push}
use Rattle.std.proofs.lemmas.Option.{same_Some, slice_get_within, slice_get-get_or}
use Rattle.fv_eval_scopes.specs.declared.ways.TheConstants.{LEVELS}
use Rattle.fv_eval_scopes.specs.declared.tries.Fork.{Fork}
use Rattle.fv_eval_scopes.specs.declared.ways.Way.{Way}
use Rattle.fv_eval_scopes.specs.declared.ways.Ways.{Ways}
use Rattle.fv_eval_scopes.specs.declared.value.Scope as code_scope
use Rattle.fv_eval_scopes.specs.Tries.{found, IsGrown, IsWith}
use Rattle.fv_eval_scopes.specs.Ways.{HasOther, IsOther, PassesBy, PassesTo, IsWay, AreWays, key_of, or_end}
use Rattle.fv_eval_scopes.proofs.lemmas.Grown.{place_stays, last_place}
use Rattle.fv_eval_scopes.proofs.lemmas.Forks.{found_on, there_on, grown_none, nothing_there, nothing_found}
use Rattle.fv_eval_scopes.specs.Environments.{first_number, next_number, outer_number}
use Rattle.fv_eval_scopes.proofs.lemmas.Numbered.{scope_first, scope_stays}

-- ---- one scope more

other_stays : (scopes : List code_scope.Scope) (s : code_scope.Scope) (Keys : ℕ → Type 0) (env outer : ℕ) → HasOther scopes Keys env outer
    → HasOther (scopes ++ s ∷ []) Keys env outer
other_stays scopes s Keys env outer h =
    (h.0, scope_stays scopes (scopes ++ s ∷ []) (λ i x e. place_stays scopes s i x e) env h.0 h.1, h.2, h.3, h.4)

passes_stay : (scopes : List code_scope.Scope) (s : code_scope.Scope) (Keys : ℕ → Type 0) (n env at : ℕ) → PassesBy scopes Keys n env at
    → PassesBy (scopes ++ s ∷ []) Keys n env at
passes_stay scopes s Keys zero env at h = h
passes_stay scopes s Keys (suc n) env at h = (h.0, other_stays scopes s Keys env h.0 h.1, passes_stay scopes s Keys n h.0 at h.2)

-- the keys that are this one
abbrev pub only : ℕ → ℕ → Type 0
only key m = m ≡ key

way_stays : (scopes : List code_scope.Scope) (s : code_scope.Scope) (forks : List Fork) (env : ℕ) (k : Way) → IsWay scopes forks env k
    → IsWay (scopes ++ s ∷ []) forks env k
way_stays scopes s forks env k h = record {
  there = h.there;
  leads = λ key.
      let p = h.leads key in (p.0, passes_stay scopes s (only key) p.0 env (or_end k.end (found forks LEVELS k.root key)) p.1);
}

-- ---- trees that have grown

way_on : (scopes : List code_scope.Scope) (old new : List Fork) (env : ℕ) (k : Way) → IsGrown old new → IsWay scopes old env k → IsWay scopes new env k
way_on scopes old new env k g h = record {
  there = there_on old new LEVELS k.root g h.there;
  leads = λ key.
      subst (λ i. PassesTo scopes (only key) env (or_end k.end i)) (sym (found_on old new LEVELS k.root key g h.there)) (h.leads key);
}

pub ways_on : (scopes : List code_scope.Scope) (old new : Ways) → IsGrown old.tries new.tries → new.ways.items ≡ old.ways.items → AreWays scopes old
    → AreWays scopes new
ways_on scopes old new g same h = record {
  each = ap length same ∙ h.each;
  are = λ i k e. way_on scopes old.tries new.tries (first_number i) k g (h.are i k (ap (λ ks. slice_get ks i) (sym same) ∙ e));
}

-- ---- one way more

-- a scope with its way
pub one_way_more : (scopes : List code_scope.Scope) (s : code_scope.Scope) (k : Way) (old new : Ways) → IsGrown old.tries new.tries
    → new.ways.items ≡ old.ways.items ++ k ∷ [] → AreWays scopes old → IsWay (scopes ++ s ∷ []) new.tries (next_number scopes) k
    → AreWays (scopes ++ s ∷ []) new
one_way_more scopes s k old new g pushed h here = record {
  each = omega (arith, h.each, ap length pushed, length_push old.ways.items k, length_push scopes s);
  are = λ i j e. go i j (ap (λ ks. slice_get ks i) (sym pushed) ∙ e);
}
  where
    ways : List Way
    ways = old.ways.items

    last : (j : Way) → slice_get (ways ++ k ∷ []) (length ways) ≡ Some j → k ≡ j
    last j e = same_Some k j (sym (last_place ways k) ∙ e)

    go : (i : ℕ) (j : Way) → slice_get (ways ++ k ∷ []) i ≡ Some j → IsWay (scopes ++ s ∷ []) new.tries (first_number i) j
    go i j e = at (cases_lt i (length ways))
      where
        at : ((i < length ways) ⊎ (length ways ≤ i)) → IsWay (scopes ++ s ∷ []) new.tries (first_number i) j
        at (inl l) =
            let is = slice_get-get_or ways i k l in
            let same : get_or ways i k ≡ j = same_Some (get_or ways i k) j (sym (place_stays ways k i (get_or ways i k) is) ∙ e) in
            way_stays scopes s new.tries (first_number i) j (way_on scopes old.tries new.tries (first_number i) j g (h.are i j (is ∙ ap Some same)))
        at (inr l) =
            let within = slice_get_within (ways ++ k ∷ []) i j e in
            let place : i ≡ length ways = omega (arith, l, within, length_push ways k) in
            let same : k ≡ j = last j (subst (λ n. slice_get (ways ++ k ∷ []) n ≡ Some j) place e) in
            let at_end : length scopes ≡ i = omega (arith, place, h.each) in
            subst (λ n. IsWay (scopes ++ s ∷ []) new.tries n j) (ap first_number at_end)
            (subst (IsWay (scopes ++ s ∷ []) new.tries (next_number scopes)) same here)

-- a way that goes nowhere
pub goes_nowhere : (scopes : List code_scope.Scope) (forks : List Fork) (env end : ℕ) → end ≡ env → IsWay scopes forks env (record { root = 0; end = end })
goes_nowhere scopes forks env end e = record {
  there = nothing_there forks LEVELS;
  leads = λ key. (0, sym (ap (or_end end) (nothing_found forks LEVELS key) ∙ e));
}

pub ends_here : (scopes : List code_scope.Scope) (s : code_scope.Scope) (old new : Ways) (end : ℕ) → new.tries ≡ old.tries
    → new.ways.items ≡ old.ways.items ++ record { root = 0; end = end } ∷ [] → end ≡ first_number (length old.ways.items) → AreWays scopes old
    → AreWays (scopes ++ s ∷ []) new
ends_here scopes s old new end same pushed here h =
    one_way_more scopes s (record { root = 0; end = end }) old new (subst (IsGrown old.tries) (sym same) (grown_none old.tries)) pushed h
    (goes_nowhere (scopes ++ s ∷ []) new.tries (next_number scopes) end (here ∙ ap first_number h.each))

-- where the way leads, by what was found
pub leads_to : (scopes : List code_scope.Scope) (forks : List Fork) (key env n at : ℕ) (k : Way) → IsWay scopes forks env k
    → n ≡ found forks LEVELS k.root key → at ≡ or_end k.end n → PassesTo scopes (only key) env at
leads_to scopes forks key env n at k way e is = subst (PassesTo scopes (only key) env) (sym (is ∙ ap (or_end k.end) e)) (way.leads key)

pub end_is : (end n : ℕ) → n ≡ 0 → end ≡ or_end end n
end_is end n e = ap (or_end end) (sym e)

pub found_is : (end n : ℕ) → (n ≡ 0 → ⊥) → n ≡ or_end end n
found_is end zero e = absurd (e refl)
found_is end (suc n) e = refl

-- what was found is where it is
found_here : (end n here : ℕ) → n ≡ first_number here → or_end end n ≡ first_number here
found_here end zero here e = absurd (omega (arith, e))
found_here end (suc n) here e = e

-- a scope is kept by this key, in this environment
pub record IsKept (scopes : List code_scope.Scope) (s : code_scope.Scope) (key outer : ℕ) : Type 0 where
  pub has : key_of s ≡ Some key
  pub around : outer_number s ≡ outer
  pub below : outer < next_number scopes

-- a way that goes on with the one from the environment around it
goes_on : (scopes : List code_scope.Scope) (s : code_scope.Scope) (old new : List Fork) (key outer with_it : ℕ) (k : Way) → IsKept scopes s key outer
    → IsWay scopes old outer k → IsWith old new LEVELS k.root key (next_number scopes) with_it
    → IsWay (scopes ++ s ∷ []) new (next_number scopes) (record { root = with_it; end = k.end })
goes_on scopes s old new key outer with_it k kept way is = record { there = is.there; leads = λ n. lead n (is.leads n) }
  where
    passed : (n : ℕ) → (n ≡ key → ⊥) → IsOther (only n) (key_of s)
    passed n apart = subst (IsOther (only n)) (sym kept.has) (λ q. apart (sym q))

    lead : (n : ℕ)
        → ((found new LEVELS with_it n ≡ next_number scopes) ⊎ ((n ≡ key → ⊥) × (found new LEVELS with_it n ≡ found old LEVELS k.root n)))
        → PassesTo (scopes ++ s ∷ []) (only n) (next_number scopes) (or_end k.end (found new LEVELS with_it n))
    lead n (inl e) = (0, sym (found_here k.end (found new LEVELS with_it n) (length scopes) e))
    lead n (inr e) =
        let p = subst (λ i. PassesTo scopes (only n) outer (or_end k.end i)) (sym e.1) (way.leads n) in
        let here = scope_first (scopes ++ s ∷ []) (length scopes) s (last_place scopes s) in
        let other : HasOther (scopes ++ s ∷ []) (only n) (next_number scopes) outer = (s, here, kept.around, kept.below, passed n e.0) in
        (suc p.0, (outer, other, passes_stay scopes s (only n) p.0 outer (or_end k.end (found new LEVELS with_it n)) p.1))

pub keeps_on : (scopes : List code_scope.Scope) (s : code_scope.Scope) (old new : Ways) (key outer here with_it : ℕ) (k : Way)
    → IsGrown old.tries new.tries → new.ways.items ≡ old.ways.items ++ record { root = with_it; end = k.end } ∷ []
    → here ≡ first_number (length old.ways.items) → IsKept scopes s key outer → IsWay scopes old.tries outer k
    → IsWith old.tries new.tries LEVELS k.root key here with_it → AreWays scopes old → AreWays (scopes ++ s ∷ []) new
keeps_on scopes s old new key outer here with_it k g pushed place kept way is h =
    one_way_more scopes s (record { root = with_it; end = k.end }) old new g pushed h
    (goes_on scopes s old.tries new.tries key outer with_it k kept way
    (subst (λ i. IsWith old.tries new.tries LEVELS k.root key i with_it) (place ∙ ap first_number h.each) is))

-- ---- two ways from one environment

passes_down : (scopes : List code_scope.Scope) (Keys : ℕ → Type 0) (n env at : ℕ) → PassesBy scopes Keys n env at → at ≤ env
passes_down scopes Keys zero env at h = omega (arith, h)
passes_down scopes Keys (suc n) env at h = let l = passes_down scopes Keys n h.0 at h.2 in omega (arith, l, h.1.3)

-- as far as the nearer one none of the keys of both is there
passes_both : (scopes : List code_scope.Scope) (P Q : ℕ → Type 0) (n m env a b : ℕ) → PassesBy scopes P n env a → PassesBy scopes Q m env b → b ≤ a
    → PassesBy scopes (λ k. P k ⊎ Q k) n env a
passes_both scopes P Q zero m env a b h g l = h
passes_both scopes P Q (suc n) zero env a b h g l =
    let d = passes_down scopes P n h.0 a h.2 in absurd (omega (arith, d, h.1.3, g, l))
passes_both scopes P Q (suc n) (suc m) env a b h g l =
    let same : h.1.0 ≡ g.1.0 = same_Some h.1.0 g.1.0 (sym h.1.1 ∙ g.1.1) in
    let around : g.0 ≡ h.0 = sym g.1.2 ∙ ap outer_number (sym same) ∙ h.1.2 in (
      h.0,
      (h.1.0, h.1.1, h.1.2, h.1.3, neither (key_of h.1.0) h.1.4 (subst (λ s. IsOther Q (key_of s)) (sym same) g.1.4)),
      passes_both scopes P Q n m h.0 a b h.2 (subst (λ o. PassesBy scopes Q m o b) around g.2) l,
    )
  where
    one_of : (k : ℕ) → (P k → ⊥) → (Q k → ⊥) → (P k ⊎ Q k) → ⊥
    one_of k p q (inl x) = p x
    one_of k p q (inr x) = q x

    neither : (o : Option ℕ) → IsOther P o → IsOther Q o → IsOther (λ k. P k ⊎ Q k) o
    neither None p q = absurd p
    neither (Some k) p q = one_of k p q

pub passes_fewer : (scopes : List code_scope.Scope) (P Q : ℕ → Type 0) (n env at : ℕ) → ((k : ℕ) → Q k → P k) → PassesBy scopes P n env at
    → PassesBy scopes Q n env at
passes_fewer scopes P Q zero env at f h = h
passes_fewer scopes P Q (suc n) env at f h =
    (h.0, (h.1.0, h.1.1, h.1.2, h.1.3, fewer (key_of h.1.0) h.1.4), passes_fewer scopes P Q n h.0 at f h.2)
  where
    fewer : (o : Option ℕ) → IsOther P o → IsOther Q o
    fewer None p = absurd p
    fewer (Some k) p = λ q. p (f k q)

-- the nearer one of two
pub nearer_first : (scopes : List code_scope.Scope) (P Q R : ℕ → Type 0) (env a b : ℕ) → ((k : ℕ) → R k → P k ⊎ Q k)
    → PassesTo scopes P env a → PassesTo scopes Q env b → b ≤ a → PassesTo scopes R env a
nearer_first scopes P Q R env a b f h g l =
    (h.0, passes_fewer scopes (λ k. P k ⊎ Q k) R h.0 env a f (passes_both scopes P Q h.0 g.0 env a b h.1 g.1 l))

pub nearer_second : (scopes : List code_scope.Scope) (P Q R : ℕ → Type 0) (env a b : ℕ) → ((k : ℕ) → R k → P k ⊎ Q k)
    → PassesTo scopes P env a → PassesTo scopes Q env b → a ≤ b → PassesTo scopes R env b
nearer_second scopes P Q R env a b f h g l =
    (g.0, passes_fewer scopes (λ k. Q k ⊎ P k) R g.0 env b (λ k r. swapped k (f k r)) (passes_both scopes Q P g.0 h.0 env b a g.1 h.1 l))
  where
    swapped : (k : ℕ) → (P k ⊎ Q k) → Q k ⊎ P k
    swapped k (inl x) = inr x
    swapped k (inr x) = inl x

pub leads_down : (scopes : List code_scope.Scope) (Keys : ℕ → Type 0) (env at : ℕ) → PassesTo scopes Keys env at → at ≤ env
leads_down scopes Keys env at h = passes_down scopes Keys h.0 env at h.1
