-- The laws of answers one after another, once for all layers.
use Rattle.std.proofs.Common.{◌≡◌, refl, ap, subst}
use Rattle.std.specs.Prelude.{Result, Ok, Err}
use Rattle.fv_top_program.specs.headline.Answers.{Then, stops, goes_on, Turned, kept, turned}
use Rattle.fv_top_program.specs.Answers.{IsOnce, IsSome, RefusesOthers}

pub then_once : {X A B E : Type 0} (P : X → Result A E → Type 0) (Q : A → Result B E → Type 0) → IsOnce P → IsOnce Q → IsOnce (Then P Q)
then_once P Q p q x r s (stops e h) (stops f k) = let i = p x (Err e) (Err f) h k in cc
then_once P Q p q x r s (stops e h) (goes_on a t k l) = let i = p x (Err e) (Ok a) h k in absurd cc
then_once P Q p q x r s (goes_on a t k l) (stops e h) = let i = p x (Ok a) (Err e) k h in absurd cc
then_once {A = A} P Q p q x r s (goes_on a t k l) (goes_on b u m n) =
    let i = p x (Ok a) (Ok b) k m in
    let same : b ≡ a = cc in
    q a r s l (subst (λ (w : A). Q w s) same n)

then_by : {X A B E : Type 0} (P : X → Result A E → Type 0) (Q : A → Result B E → Type 0) (x : X) (r : Result A E)
    → ((a : A) → P x (Ok a) → (s : Result B E) × Q a s) → P x r → (s : Result B E) × Then P Q x s
then_by P Q x (Ok a) q h = let s = q a h in (s.0, goes_on a s.0 h s.1)
then_by P Q x (Err e) q h = (Err e, stops e h)

-- each answer of P is one that Q answers
pub then_some : {X A B E : Type 0} (G : X → Type 0) (P : X → Result A E → Type 0) (Q : A → Result B E → Type 0) → IsSome G P →
    ((x : X) (a : A) → G x → P x (Ok a) → (s : Result B E) × Q a s) → IsSome G (Then P Q)
then_some G P Q p q x g = let r = p x g in then_by P Q x r.0 (λ a h. q x a g h) r.1

refuses_by : {X A B E : Type 0} (P : X → Result A E → Type 0) (Q : A → Result B E → Type 0) (x : X) (r : Result A E) → RefusesOthers Q
    → ((b : B) → Then P Q x (Ok b) → ⊥) → P x r → (e : E) × Then P Q x (Err e)
refuses_by P Q x (Ok a) q none h = let e = q a (λ b k. none b (goes_on a (Ok b) h k)) in (e.0, goes_on a (Err e.0) h e.1)
refuses_by P Q x (Err e) q none h = (e, stops e h)

pub then_refuses : {X A B E : Type 0} (P : X → Result A E → Type 0) (Q : A → Result B E → Type 0) → IsSome (λ x. Unit {0}) P → RefusesOthers Q
    → RefusesOthers (Then P Q)
then_refuses P Q p q x none = let r = p x tt in refuses_by P Q x r.0 q none r.1

pub turned_once : {X A D E : Type 0} (of : D → E) (P : X → Result A D → Type 0) → IsOnce P → IsOnce (Turned of P)
turned_once {A = A} of P p x r s (kept a h) (kept b k) = let i = p x (Ok a) (Ok b) h k in cc
turned_once of P p x r s (kept a h) (turned e k) = let i = p x (Ok a) (Err e) h k in absurd cc
turned_once of P p x r s (turned e h) (kept a k) = let i = p x (Err e) (Ok a) h k in absurd cc
turned_once of P p x r s (turned e h) (turned f k) =
    let i = p x (Err e) (Err f) h k in
    let same : e ≡ f = cc in
    ap (λ w. Err (of w)) same

turned_by : {X A D E : Type 0} (of : D → E) (P : X → Result A D → Type 0) (x : X) (r : Result A D) → P x r → (s : Result A E) × Turned of P x s
turned_by of P x (Ok a) h = (Ok a, kept a h)
turned_by of P x (Err e) h = (Err (of e), turned e h)

pub turned_some : {X A D E : Type 0} (of : D → E) (G : X → Type 0) (P : X → Result A D → Type 0) → IsSome G P → IsSome G (Turned of P)
turned_some of G P p x g = let r = p x g in turned_by of P x r.0 r.1

-- what was answered after the refusals were turned was answered before
kept_by : {X A D E : Type 0} (of : D → E) (P : X → Result A D → Type 0) (x : X) (a : A) (r : Result A E) → r ≡ Ok a → Turned of P x r → P x (Ok a)
kept_by {A = A} of P x a r is (kept b h) = let same : b ≡ a = cc in subst (λ (w : A). P x (Ok w)) same h
kept_by of P x a r is (turned e h) = absurd cc

pub kept_is : {X A D E : Type 0} (of : D → E) (P : X → Result A D → Type 0) (x : X) (a : A) → Turned of P x (Ok a) → P x (Ok a)
kept_is of P x a h = kept_by of P x a (Ok a) refl h
