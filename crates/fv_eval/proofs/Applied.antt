-- One argument of an application.
use Rattle.std.proofs.Common.{◌≡◌, ℕ, Bool, true, false, List, [], ◌∷◌, Some, None, refl, sym, ap, ◌∙◌}
use Rattle.std.specs.Prelude.{nat_lt, if◌then◌else◌}
use Rattle.std.proofs.lemmas.Option.{none-some}
use Rattle.fv_parse.specs.Token.{Lexed}
use Rattle.fv_rules.specs.headline.Values.{Value, Flat, Abstraction, Rules, Bound, And, count_taken, in_order}
use Rattle.fv_rules.specs.headline.Matching.{chosen}
use Rattle.fv_rules.specs.headline.Steps.{State}
use Rattle.fv_rules.specs.headline.Rules.{width}
use Rattle.fv_rules.specs.Machine.{Continuation, apply, select}
use Rattle.fv_eval.specs.inner.Continuations.{took, completed}

some_then : (b : Bool) (u v : Value) → (if b then Some u else None) ≡ Some v → (b ≡ true) × (u ≡ v)
some_then true u v e = (refl, cc)
some_then false u v e = absurd (none-some v e)

none_then : (b : Bool) (u : Value) → (if b then Some u else None) ≡ None → b ≡ false
none_then true u e = absurd (none-some u (sym e))
none_then false u e = refl

-- one argument was taken, and the others wait
pub apply_took : (l : Lexed) (start : ℕ) (v a u : Value) (vs : List Value) (fs : List Continuation) (s : State)
    → took v a ≡ Some u → apply l start v (a ∷ vs) fs s ≡ apply l start u vs fs s
apply_took l start (Flat f) a u vs fs s e = absurd (none-some u e)
apply_took l start (Abstraction x [] b E) a u vs fs s e = absurd (none-some u e)
apply_took l start (Abstraction x (y ∷ ys) b E) a u vs fs s e = let h : Abstraction y ys b (Bound x a E) ≡ u = cc in ap (λ w. apply l start w vs fs s) h
apply_took l start (Rules r rs E T) a u vs fs s e =
    let h = some_then (nat_lt (count_taken (And a T)) (width rs)) (Rules r rs E (And a T)) u e in
    ap (λ (c : Bool). if c then apply l start (Rules r rs E (And a T)) vs fs s else select l start E (chosen l rs (in_order (And a T) [])) vs fs s) h.0
    ∙ ap (λ w. apply l start w vs fs s) h.1

-- the last argument that is wanted
pub apply_completes : (l : Lexed) (start : ℕ) (v a : Value) (vs : List Value) (fs : List Continuation) (s : State)
    → took v a ≡ None → apply l start v (a ∷ vs) fs s ≡ completed l start v a vs fs s
apply_completes l start (Flat f) a vs fs s e = refl
apply_completes l start (Abstraction x [] b E) a vs fs s e = refl
apply_completes l start (Abstraction x (y ∷ ys) b E) a vs fs s e = absurd (none-some _ (sym e))
apply_completes l start (Rules r rs E T) a vs fs s e =
    ap (λ (c : Bool). if c then apply l start (Rules r rs E (And a T)) vs fs s else select l start E (chosen l rs (in_order (And a T) [])) vs fs s)
    (none_then (nat_lt (count_taken (And a T)) (width rs)) (Rules r rs E (And a T)) e)
