-- The arguments that rules have taken, one after the other from the last one; and names bound one after the other.
use Rattle.std.proofs.Common.{◌≡◌, ℕ, suc, ◌+◌, ◌-◌, ◌<◌, arith, List, [], ◌∷◌, ◌++◌, length, take, reverse, get_or, Some, refl, sym, ap, subst, ◌∙◌}
use Rattle.std.specs.Prelude.{slice_get}
use Rattle.std.proofs.lemmas.List.{reverse-append, same_from_push, take_more, length_push}
use Rattle.std.proofs.lemmas.Option.{same_Some}
use Rattle.fv_eval_scopes.specs.declared.value.Value as code_value
use Rattle.fv_eval_scopes.specs.declared.value.Scope as code_scope
use Rattle.fv_eval_scopes.specs.declared.value.Scope.TheVariants as scope
use Rattle.fv_eval_scopes.specs.declared.value.Argument as code_argument
use Rattle.fv_eval_scopes.specs.declared.value.Binding as code_binding
use Rattle.fv_eval_scopes.specs.Environments.{Environments, next_number, with_scope}
use Rattle.fv_rules.specs.headline.Values.{Value, Env, Taken, Nothing, And, in_order}
use Rattle.fv_rules.specs.headline.Matching.{Bindings, bound_in}
use Rattle.fv_eval_scopes.specs.Shows.{World, Grows, IsNamed, ShowsValue, ShowsValues, ShowsEnv, ShowsTaken, ShowsBindings}
use Rattle.fv_eval_scopes.proofs.lemmas.Grown.{scope_opens, grows_on, named_grows, value_grows, bound_shows}

-- ---- arguments

-- what is left to go back over, and what was gone over, are the whole
abbrev pub AreWhole : World → (left at : ℕ) → List code_value.Value → Taken → Type 0
AreWhole w left at us T =
    (U : Taken) × (done : List Value) × ShowsTaken w left at U × ShowsValues w (reverse us) done × (in_order T [] ≡ in_order U done)

abbrev pub GoesBack : List code_argument.Argument → (count last left at : ℕ) → List code_value.Value → Type 0
GoesBack taken count last left at us = (w : World) (T : Taken) → w.taken ≡ taken → ShowsTaken w count last T → AreWhole w left at us T

-- one argument more is gone over
pub record StepsBack (taken : List code_argument.Argument) (left next at : ℕ) (us vs : List code_value.Value) (a : code_argument.Argument) : Type 0 where
  pub got : slice_get taken at ≡ Some a
  pub more : 0 < left
  pub less : next ≡ left - 1
  pub pushed : vs ≡ us ++ a.value ∷ []

pub back_goes_on : {taken : List code_argument.Argument} {left next at : ℕ} {us vs : List code_value.Value} {a : code_argument.Argument} (count last : ℕ)
    → GoesBack taken count last left at us → StepsBack taken left next at us vs a → GoesBack taken count last next a.before vs
back_goes_on {taken} {left} {next} {at} {us} {vs} {a} count last back step w T e h = go b.0 b.2 b.4
  where
    b : AreWhole w left at us T
    b = back w T e h

    go : (U : Taken) → ShowsTaken w left at U → in_order T [] ≡ in_order U b.1 → AreWhole w next a.before vs T
    go Nothing k q = let z : left ≡ 0 = k in let more = step.more in absurd (omega arith)
    go (And v V) k q =
        let m = k.0 in let l : left ≡ suc m = k.2 in
        let same : k.1 ≡ a = same_Some k.1 a (sym k.3 ∙ ap (λ t. slice_get t at) e ∙ step.got) in
        let less = step.less in
        let n : m ≡ next = omega arith in
        let backwards = ap reverse step.pushed ∙ reverse-append us (a.value ∷ []) in (
          V,
          v ∷ b.1,
          subst (λ (x : code_argument.Argument). ShowsTaken w next x.before V) same (subst (λ z. ShowsTaken w z k.1.before V) n k.5),
          (k.1.value, reverse us, backwards ∙ ap (λ (x : code_argument.Argument). x.value ∷ reverse us) (sym same), k.4, b.3),
          q,
        )

-- ---- names

-- with other scopes
abbrev pub with_scopes : World → List code_scope.Scope → World
with_scopes w ss = record w { scopes = ss }

-- the scopes have grown, and the innermost environment has the bindings so far
pub record Binds (old now : Environments) (outer env : ℕ) (done : List code_binding.Binding) : Type 0 where
  pub grows : (w : World) → w.scopes ≡ old.scopes → Grows w (with_scopes w now.scopes)
  pub taken : now.taken ≡ old.taken
  pub bound : (w : World) (E : Env) (bs : Bindings) → w.scopes ≡ old.scopes → ShowsEnv w outer E → ShowsBindings w done bs
      → ShowsEnv (with_scopes w now.scopes) env (bound_in E bs)

pub binds_begin : (old : Environments) (outer : ℕ) → Binds old old outer outer []
binds_begin old outer = record {
  grows = λ w e.
      subst (λ ss. Grows w (with_scopes w ss)) e (record { tree = refl; diagrams = λ i d h. h; scopes = λ i x h. h; taken = λ i x h. h });
  taken = refl;
  bound = go;
}
  where
    go : (w : World) (E : Env) (bs : Bindings) → w.scopes ≡ old.scopes → ShowsEnv w outer E → ShowsBindings w [] bs
        → ShowsEnv (with_scopes w old.scopes) outer (bound_in E bs)
    go w E [] e h k = subst (λ ss. ShowsEnv (with_scopes w ss) outer E) e h
    go w E (nv ∷ more) e h k = absurd (omega (arith, ap length k.2, length_push k.0 k.1))

-- the next name is bound, in a scope of its own
pub record BindsNext (now next : Environments) (env inner i : ℕ) (bindings : List code_binding.Binding) (b : code_binding.Binding) : Type 0 where
  pub inside : i < length bindings
  pub here : b ≡ get_or bindings i b
  pub number : inner ≡ next_number now.scopes
  pub is : next ≡ with_scope now (scope.Bound b.name b.value env)

pub binds_go_on : {old now next : Environments} {outer env inner i : ℕ} {bindings : List code_binding.Binding} {b : code_binding.Binding}
    → Binds old now outer env (take i bindings) → BindsNext now next env inner i bindings b → Binds old next outer inner (take (i + 1) bindings)
binds_go_on {old} {now} {next} {outer} {env} {inner} {i} {bindings} {b} so step = record {
  grows = λ w e.
      let v = with_scopes w now.scopes in
      subst (λ ss. Grows w (with_scopes w ss)) (sym scopes)
      (grows_on w v (with_scopes w (now.scopes ++ x ∷ [])) (so.grows w e) (scope_opens v x));
  taken = ap (λ (o : Environments). o.taken) step.is ∙ so.taken;
  bound = λ w E bs e h k. go w E bs e h (subst (λ xs. ShowsBindings w xs bs) one_more k);
}
  where
    x : code_scope.Scope
    x = scope.Bound b.name b.value env

    scopes : next.scopes ≡ now.scopes ++ x ∷ []
    scopes = ap (λ (o : Environments). o.scopes) step.is

    one_more : take (i + 1) bindings ≡ take i bindings ++ b ∷ []
    one_more = take_more bindings i b step.inside ∙ ap (λ y. take i bindings ++ y ∷ []) (sym step.here)

    go : (w : World) (E : Env) (bs : Bindings) → w.scopes ≡ old.scopes → ShowsEnv w outer E → ShowsBindings w (take i bindings ++ b ∷ []) bs
        → ShowsEnv (with_scopes w next.scopes) inner (bound_in E bs)
    go w E [] e h k = absurd (omega (arith, ap length k, length_push (take i bindings) b))
    go w E (nv ∷ more) e h k =
        let f = same_from_push (take i bindings) k.0 b k.1 k.2 in
        let v : World = with_scopes w now.scopes in
        let g = so.grows w e in
        let named = named_grows w v g b.name nv.0 (subst (λ (y : code_binding.Binding). IsNamed w y.name nv.0) (sym f.1) k.3) in
        let shown = value_grows w v g b.value nv.1 (subst (λ (y : code_binding.Binding). ShowsValue w y.value nv.1) (sym f.1) k.4) in
        let env_shown = so.bound w E more e h (subst (λ xs. ShowsBindings w xs more) (sym f.0) k.5) in
        subst (λ z. ShowsEnv (with_scopes w next.scopes) z (bound_in E (nv ∷ more))) (sym step.number)
        (subst (λ ss. ShowsEnv (with_scopes w ss) (next_number now.scopes) (bound_in E (nv ∷ more))) (sym scopes)
        (bound_shows v b.name nv.0 b.value nv.1 env (bound_in E more) named shown env_shown))
