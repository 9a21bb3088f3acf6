-- Evaluations one after another.
use Rattle.std.proofs.Common.{inl, inr, ◌≡◌, ◌⊎◌, Ok, Err, refl, ap, ◌∙◌}
use Rattle.fv_rules.specs.declared.refusal.EvalRefusal.{EvalRefusal}
use Rattle.fv_rules.specs.declared.refusal.EvalRefusal.TheVariants.{NoMemory}
use Rattle.fv_rules.specs.headline.Steps.{State, Outcome, Eval, after, ◌>>=◌, give, refuse}
use Rattle.fv_eval_drawing.specs.Makes.{Becomes, Canvas}

-- how evaluations one after another group
pub after_after : {A B C : Type 0} (r : Outcome A) (f : A → Eval B) (g : B → Eval C) → after (after r f) g ≡ after r (λ x. f x >>= g)
after_after (Ok x) f g = refl
after_after (Err r) f g = refl

-- evaluations with the same outcomes, after another
pub same_after : {A B : Type 0} (r : Outcome A) (f g : A → Eval B) → ((x : A) (s : State) → f x s ≡ g x s) → after r f ≡ after r g
same_after (Ok x) f g h = h x.0 x.1
same_after (Err r) f g h = refl

pub after_give : {A : Type 0} (r : Outcome A) → after r (λ x. give x) ≡ r
after_give (Ok x) = refl
after_give (Err r) = refl

-- where the first part gives a result, the rest goes on with it
pub given_then : {A B : Type 0} (a b c : Canvas) (m : Eval A) (x : A) (whole : Eval B) (f : A → Eval B)
    → Becomes a b whole (m >>= f) → Becomes b c m (give x) → Becomes a c whole (f x)
given_then a b c m x whole f w h s = w s ∙ ap (λ o. after o f) (h s)

-- where it refuses, so does the whole
pub refused_then : {A B : Type 0} (a b c : Canvas) (e : EvalRefusal) (m : Eval A) (whole : Eval B) (f : A → Eval B)
    → Becomes a b whole (m >>= f)
    → (e ≡ NoMemory) ⊎ Becomes b c m (refuse e) → (e ≡ NoMemory) ⊎ Becomes a c whole (refuse e)
refused_then a b c e m whole f w (inl h) = inl h
refused_then a b c e m whole f w (inr h) = inr (λ s. w s ∙ ap (λ o. after o f) (h s))
