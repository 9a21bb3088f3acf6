-- The programs of texts, one text after another.
use Rattle.std.proofs.Common.{◌≡◌, ℕ, suc, ◌+◌, ◌<◌, List, [], ◌∷◌, ◌++◌, length, take, drop, get_or, Ok, Err, refl, sym, ap, ◌∙◌, subst, arith}
use Rattle.std.specs.Prelude.{Result}
use Rattle.std.proofs.Math.Seq.{drop-cons}
use Rattle.std.proofs.lemmas.List.{length-take-le, take-append-drop, take_more}
use Rattle.fv_top_report.specs.declared.refusal.Refusal.{Refusal}
use Rattle.fv_top_program.specs.headline.Answers.{Then, Turned, kept, turned, stops, goes_on}
use Rattle.fv_top_program.specs.Answers.{IsOnce, IsSome}
use Rattle.fv_top_program.specs.headline.Compiled.{Compiled}
use Rattle.fv_top_program.specs.headline.Program.{TextIs}
use Rattle.fv_top_program.specs.Program.{IsSomeText}
use Rattle.fv_top_program.proofs.lemmas.AnswerLaws.{then_once, then_some, turned_once, turned_some}
use Rattle.fv_top_program.specs.headline.Racks.{EachIs, WithFirst, refused_job, with_first}

-- what was answered first, and after it
pub then_parts : {X A B E : Type 0} (P : X → Result A E → Type 0) (Q : A → Result B E → Type 0) (x : X) (b : B) (r : Result B E) → r ≡ Ok b → Then P Q x r
    → (a : A) × P x (Ok a) × Q a (Ok b)
then_parts P Q x b r is (stops f h) = absurd cc
then_parts {B = B} {E = E} P Q x b r is (goes_on a s h k) = (a, h, subst (λ (w : Result B E). Q a w) is k)

-- ---- one answer, and some

first_once : {Behind : Result (List Compiled) Refusal → Type 0} (p : Compiled)
    → ((a b : Result (List Compiled) Refusal) → Behind a → Behind b → a ≡ b) → (r s : Result (List Compiled) Refusal) → WithFirst Behind p r
    → WithFirst Behind p s → r ≡ s
first_once p once r s h k = sym h.is ∙ ap (with_first p) (once h.behind k.behind h.is_behind k.is_behind) ∙ k.is

pub each_once : IsOnce TextIs → (k : ℕ) → IsOnce (EachIs k)
each_once once k [] r s h i = h ∙ sym i
each_once once k (text ∷ texts) r s h i =
    then_once (Turned (refused_job k) TextIs) (WithFirst (EachIs (suc k) texts)) (turned_once (refused_job k) TextIs once)
    (λ p a b. first_once p (each_once once (suc k) texts) a b) text r s h i

pub each_some : IsSomeText → (k : ℕ) → IsSome (λ (texts : List (List ℕ)). Unit {0}) (EachIs k)
each_some some k [] u = (Ok [], refl)
each_some some k (text ∷ texts) u =
    let rest = each_some some (suc k) texts tt in
    then_some (λ (t : List ℕ). Unit {0}) (Turned (refused_job k) TextIs) (WithFirst (EachIs (suc k) texts))
    (turned_some (refused_job k) (λ (t : List ℕ). Unit {0}) TextIs some)
    (λ t p v h. (with_first p rest.0, record { behind = rest.0; is_behind = rest.1; is = refl })) text tt

-- ---- texts after others

-- the programs of first texts, and what those after them are
abbrev pub behind : List Compiled → Result (List Compiled) Refusal → Result (List Compiled) Refusal
behind ps (Ok qs) = Ok (ps ++ qs)
behind ps (Err e) = Err e

none_first : (r : Result (List Compiled) Refusal) → r ≡ behind [] r
none_first (Ok qs) = refl
none_first (Err e) = refl

one_first : (p : Compiled) (ps qs : List Compiled) (r : Result (List Compiled) Refusal) → p ∷ qs ≡ ps → with_first p (behind qs r) ≡ behind ps r
one_first p ps qs (Ok rs) e = ap (λ (xs : List Compiled). Ok (xs ++ rs)) e
one_first p ps qs (Err f) e = refl

-- programs are a first one and others
pub first_of : (k : ℕ) (texts : List (List ℕ)) (p : Compiled) (ps : List Compiled) (b : Result (List Compiled) Refusal) → EachIs k texts b
    → with_first p b ≡ Ok ps → (qs : List Compiled) × EachIs k texts (Ok qs) × (p ∷ qs ≡ ps)
first_of k texts p ps (Ok qs) h is = (qs, h, cc)
first_of k texts p ps (Err e) h is = absurd cc

pub each_behind : (texts : List (List ℕ)) (k : ℕ) (ps : List Compiled) (rest : List (List ℕ)) (r : Result (List Compiled) Refusal)
    → EachIs k texts (Ok ps) → EachIs (k + length texts) rest r → EachIs k (texts ++ rest) (behind ps r)
each_behind [] k ps rest r h i =
    let none : [] ≡ ps = cc in
    let same : k + 0 ≡ k = omega arith in
    subst (λ (qs : List Compiled). EachIs k rest (behind qs r)) none
    (subst (λ (s : Result (List Compiled) Refusal). EachIs k rest s) (none_first r) (subst (λ (n : ℕ). EachIs n rest r) same i))
each_behind (text ∷ texts) k ps rest r h i =
    let q = then_parts (Turned (refused_job k) TextIs) (WithFirst (EachIs (suc k) texts)) text ps (Ok ps) refl h in
    let first = first_of (suc k) texts q.0 ps q.2.behind q.2.is_behind q.2.is in
    let same : k + suc (length texts) ≡ suc k + length texts = omega arith in
    goes_on q.0 (behind ps r) q.1 (record {
      behind = behind first.0 r;
      is_behind = each_behind texts (suc k) first.0 rest r first.1 (subst (λ (n : ℕ). EachIs n rest r) same i);
      is = one_first q.0 ps first.0 r first.2;
    })

-- ---- as they are read

-- one text more is a program
pub each_more : (texts : List (List ℕ)) (n : ℕ) (ps : List Compiled) (p : Compiled) → n < length texts → EachIs 0 (take n texts) (Ok ps)
    → TextIs (get_or texts n []) (Ok p) → EachIs 0 (take (n + 1) texts) (Ok (ps ++ p ∷ []))
each_more texts n ps p l h is =
    let text = get_or texts n [] in
    let one : EachIs (0 + length (take n texts)) (text ∷ []) (Ok (p ∷ [])) =
    goes_on p (Ok (p ∷ [])) (kept p is) (record { behind = Ok []; is_behind = refl; is = refl }) in
    subst (λ (ts : List (List ℕ)). EachIs 0 ts (Ok (ps ++ p ∷ []))) (sym (take_more texts n [] l))
    (each_behind (take n texts) 0 ps (text ∷ []) (Ok (p ∷ [])) h one)

-- or it is refused
pub each_refused : (texts : List (List ℕ)) (n : ℕ) (ps : List Compiled) (e : Refusal) → n < length texts → EachIs 0 (take n texts) (Ok ps)
    → TextIs (get_or texts n []) (Err e) → EachIs 0 texts (Err (refused_job n e))
each_refused texts n ps e l h is =
    let rest = get_or texts n [] ∷ drop (suc n) texts in
    let before = take n texts in
    let number : 0 + length before ≡ n = omega (arith, length-take-le n texts (omega (arith, l))) in
    let all : before ++ rest ≡ texts = ap (λ (ts : List (List ℕ)). before ++ ts) (sym (drop-cons texts n [] l)) ∙ take-append-drop n texts in
    let one : EachIs (0 + length before) rest (Err (refused_job (0 + length before) e)) = stops (refused_job (0 + length before) e) (turned e is) in
    subst (λ (ts : List (List ℕ)). EachIs 0 ts (Err (refused_job n e))) all
    (subst (λ (m : ℕ). EachIs 0 (before ++ rest) (Err (refused_job m e))) number
    (each_behind before 0 ps rest (Err (refused_job (0 + length before) e)) h one))
