-- One key more.
use Rattle.std.proofs.Common.{◌≡◌, ℕ, zero, suc, ◌+◌, ◌<◌, Bool, true, false, cond, List, [], ◌∷◌, ◌++◌, length, get_or, set}
use Rattle.std.proofs.Common.{refl, sym, ap, ◌∙◌, arith, ◌==◌, eq-eqb, ne_eqb, append-nil}
use Rattle.std.specs.Global.{Vec}
use Rattle.fv_graph.specs.Words.{passing}
use Rattle.fv_graph.specs.inner.Lists.{Grouped}
use Rattle.fv_graph.proofs.lemmas.Counts.{get_set}

pub passing_next : (p : ℕ → Bool) (from k : ℕ) → passing p from (k + 1) ≡ passing p from k ++ cond (p (from + k)) ((from + k) ∷ []) []
passing_next p from zero = ap (λ i. cond (p i) (i ∷ []) []) (omega arith) ∙ same (p (from + 0)) (from + 0) from (omega arith)
  where
    same : (b : Bool) (i j : ℕ) → i ≡ j → cond b (i ∷ []) [] ≡ cond b (i ∷ []) []
    same b i j e = refl
passing_next p from (suc k) = ap (passing p from) (let q : suc k + 1 ≡ suc (k + 1) = omega arith in q)
    ∙ ap (λ l. cond (p from) (from ∷ l) l) (passing_next p (suc from) k ∙ ap (λ i. passing p (suc from) k ++ cond (p i) (i ∷ []) []) (omega arith))
    ∙ into (p from) from (passing p (suc from) k) (cond (p (from + suc k)) ((from + suc k) ∷ []) [])
  where
    into : (b : Bool) (x : ℕ) (xs ys : List ℕ) → cond b (x ∷ xs ++ ys) (xs ++ ys) ≡ cond b (x ∷ xs) xs ++ ys
    into true x xs ys = refl
    into false x xs ys = refl

pub grouped_next : (keys : List ℕ) (loops k r : ℕ) (lists : List (Vec ℕ)) (v : Vec ℕ) → Grouped keys loops k lists → get_or keys k 0 ≡ r
    → r < length lists → ((d : Vec ℕ) → v.items ≡ (get_or lists r d).items ++ k ∷ []) → r < loops → Grouped keys loops (k + 1) (set lists r v)
grouped_next keys loops k r lists v h e there is low j d l =
    let p : ℕ → Bool = λ i. get_or keys i 0 == j in
    get_set (λ (y : Vec ℕ). y.items ≡ passing p 0 (k + 1)) lists r j v d there
    (λ same. is d ∙ ap (λ l. l ++ k ∷ []) (ap (λ i. (get_or lists i d).items) (sym same) ∙ h j d l) ∙ ap (λ i. passing p 0 k ++ i ∷ []) (omega arith)
    ∙ ap (λ b. passing p 0 k ++ cond b ((0 + k) ∷ []) [])
    (sym (eq-eqb (get_or keys (0 + k) 0) j (ap (λ i. get_or keys i 0) (omega arith) ∙ e ∙ sym same))) ∙ sym (passing_next p 0 k))
    (λ ne. h j d l ∙ sym (append-nil (passing p 0 k))
    ∙ ap (λ b. passing p 0 k ++ cond b ((0 + k) ∷ []) [])
    (sym (ne_eqb (get_or keys (0 + k) 0) j (λ q. ne (sym q ∙ ap (λ i. get_or keys i 0) (omega arith) ∙ e)))) ∙ sym (passing_next p 0 k))

pub get_any : {X : Type 0} (xs : List X) (i : ℕ) (d e : X) → i < length xs → get_or xs i d ≡ get_or xs i e
get_any [] i d e h = absurd (omega arith)
get_any (x ∷ xs) zero d e h = refl
get_any (x ∷ xs) (suc i) d e h = get_any xs i d e (omega arith)
