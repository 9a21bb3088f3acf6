-- A rebuilt graph reads no further back.
use Rattle.std.proofs.Common.{◌≡◌, ℕ, zero, suc, ◌+◌, ◌<◌, ◌≤◌, List, [], ◌∷◌, length, take, map, get_or, refl}
use Rattle.std.proofs.Common.{sym, ap, ◌∙◌, subst, arith, inl, inr, ℤ, pos, negsuc, Some, None, if◌then◌else◌}
use Rattle.std.specs.Prelude.{Option, ◌≤ℤ◌}
use Rattle.std.proofs.lemmas.Int.{ints, clamps}
use Rattle.std.proofs.lemmas.Bool.{eq-eqb, cases_eq}
use Rattle.std.proofs.lemmas.List.{get_or-map}
use Rattle.fv_num.specs.headline.Words.{inputs_of}
use Rattle.fv_signal.specs.declared.signal.Signal.{Signal}
use Rattle.fv_signal.specs.declared.signal.Signal.TheVariants.{Input, Const, Control, Point, Delay, Back, Member, Read, Write}
use Rattle.fv_signal.specs.headline.Value.{Graph, definition, IsGraph, back_by, AreAtMost}
use Rattle.fv_simplify.specs.Nodes.{node, StandsAt, number, number_at, known}
use Rattle.fv_simplify.specs.Reducible.{far, farthest, reach, limit}
use Rattle.fv_simplify.specs.Rebuilt.{base, AsNumber, AsOperand, AsItself, AtOnce, LateNothing}
use Rattle.fv_simplify.specs.Rebuilt.{Late, Nothing, Varying, IsImage, IsRebuilt, RoomIsSafe}
use Rattle.fv_simplify.proofs.lemmas.Choices.{choice_within}
use Rattle.fv_simplify.proofs.lemmas.Origins.{Taken, Itself, Over, base_cases, Origin, OfNumber, OfInput, OfControl, OfBack}
use Rattle.fv_simplify.proofs.lemmas.Origins.{OfRead, OfWrite, OfPoint, OfLate, OfVarying, origin, arg_on, delay_on, member_on}
use Rattle.fv_simplify.proofs.Stays.{back_least}
use Rattle.fv_simplify.proofs.lemmas.Totals.{differ, total_is, total_least, owned, owned_all, owned_later, owned_with}

-- ---- the farthest delay

far_same : (s x by most : ℕ) → x ≡ s → far s (Delay x by most) ≡ most
far_same s x by most e = ap (λ b. if b then most else 0) (eq-eqb x s e)

far_most : (s B : ℕ) (n : Signal) → ((x by most : ℕ) → n ≡ Delay x by most → x ≡ s → most ≤ B) → far s n ≤ B
far_most s B (Delay x by most) h = elim (cases_eq x s) [
  | inl e ↦ let m = h x by most refl e in omega (arith, m, far_same s x by most e)
  | inr ne ↦ let z : far s (Delay x by most) ≡ 0 = ap (λ b. if b then most else 0) (differ x s ne) in omega (arith, z)
]
far_most s B n h = omega arith

farthest_most : (s B : ℕ) (ns : List Signal) → ((i x by most : ℕ) → i < length ns → get_or ns i (Const (pos 0)) ≡ Delay x by most → x ≡ s → most ≤ B)
    → farthest s ns ≤ B
farthest_most s B [] h = omega arith
farthest_most s B (n ∷ ns) h =
    let here = far_most s B n (λ x by most e q. h 0 x by most (omega arith) e q) in
    let rest = farthest_most s B ns (λ i x by most l e q. h (suc i) x by most (omega (arith, l)) e q) in
    omega (arith, here, rest)

pub farthest_least : (x by most i : ℕ) (ns : List Signal) → i < length ns → get_or ns i (Const (pos 0)) ≡ Delay x by most → most ≤ farthest x ns
farthest_least x by most i [] l e = absurd (omega (arith, l))
farthest_least x by most zero (n ∷ ns) l e = let f : far x n ≡ most = ap (far x) e ∙ far_same x x by most refl in omega (arith, f)
farthest_least x by most (suc i) (n ∷ ns) l e = let r = farthest_least x by most i ns (omega (arith, l)) e in omega (arith, r)

-- how far a delay by a number goes that is at most q
back_short : (most q : ℕ) (c : ℤ) → c ≤ℤ pos q → back_by most c ≤ q
back_short most q (pos n) h = grind (arith, ints, clamps)
back_short most q (negsuc n) h = grind (arith, ints, clamps)

module _ (g f : Graph) (p : ℕ → ℕ) (room : ℕ → Option ℕ) (P : ℕ → Type 0) (whole : IsGraph g) (h : IsRebuilt g f p room P) (safe : RoomIsSafe g P room) where
  -- a delay whose first operand has room is by a number, in both graphs
  roomy : (x q s d most : ℕ) (c : ℤ) → room x ≡ Some q → StandsAt g s (Delay x d most) → P s → number_at f (p d) ≡ Some c → c ≤ℤ pos q
  roomy x q s d most c e a o n =
      let l = a.within in
      let r = safe x q s d most e a o in
      let on = delay_on g f p room P whole h s x d most l o a.is in
      let there : d < length g.signals = omega (arith, on.0.1, l) in
      let image = subst (λ m. IsImage g f p room m (p d)) r.1 (h.images d there on.1.1) in
      let both : Some r.0 ≡ Some c = sym (ap number image) ∙ n in
      let same : r.0 ≡ c = cc in
      subst (λ z. z ≤ℤ pos q) same r.2

  varied : (x q s d most : ℕ) → room x ≡ Some q → StandsAt g s (Delay x d most) → P s → number_at f (p d) ≡ None → ⊥
  varied x q s d most e a o n =
      let l = a.within in
      let r = safe x q s d most e a o in
      let on = delay_on g f p room P whole h s x d most l o a.is in
      let there : d < length g.signals = omega (arith, on.0.1, l) in
      let image = subst (λ m. IsImage g f p room m (p d)) r.1 (h.images d there on.1.1) in
      let both : Some r.0 ≡ None = sym (ap number image) ∙ n in absurd cc

  pub short_kept : AreAtMost limit g → AreAtMost limit f
  short_kept short i x by most a = let e = a.is in go e (origin g f p room P whole h i a.within)
    where
      go : node f i ≡ Delay x by most → Origin g f p room P whole h i → most ≤ limit
      go e (OfNumber n q) = absurd cc
      go e (OfInput r j b q) = absurd cc
      go e (OfControl r j b q) = absurd cc
      go e (OfBack r group j b q) = absurd cc
      go e (OfRead table a q) = absurd cc
      go e (OfWrite table w y a q) = absurd cc
      go e (OfPoint r op args o b q w i u v) = absurd cc
      go e (OfVarying r y b m o d q t w v) = let both = sym e ∙ v in let same_m : most ≡ m = cc in let s = short r y b m d in omega (arith, same_m, s)
      go e (OfLate r y b m z k o d q t j w u v) =
          let both = sym e ∙ v in
          let same_m : most ≡ (base f (room y) (p y)).1 + back_by m z = cc in
          summed same_m (base_cases f (room y) (p y) (node f (p y)) refl)
        where
          summed : most ≡ (base f (room y) (p y)).1 + back_by m z → Taken f (room y) (p y) → most ≤ limit
          summed e (Itself w) = let s = short r y b m d in omega (arith, e, ap (λ x. x.1) w, s, back_least m z)
          summed e (Over s by n c q i k a l w) = let c = back_short m q z (roomy y q r b m z a d o t) in omega (arith, e, ap (λ x. x.1) w, l, c)

  -- the signal that answers for s
  abbrev owner : ℕ → ℕ
  owner s = (base f (room s) (p s)).0

  abbrev read : ℕ → ℕ
  read s = farthest s g.signals

  -- an image that is a delay goes no further back than what is read of the earlier signals that its first operand answers for
  abbrev IsBound : ℕ → Type 0
  IsBound s = (S D most : ℕ) → node f (p s) ≡ Delay S D most → most ≤ owned owner read S s

  step : (s : ℕ) → s < length g.signals → P s → ((r : ℕ) → r < s → P r → IsBound r) → (m : Signal) → node g s ≡ m → IsImage g f p room m (p s) → IsBound s
  step s l o below (Input k) e i S D most q = let z = sym i ∙ q in absurd cc
  step s l o below (Const n) e i S D most q = let z = sym i ∙ q in absurd cc
  step s l o below (Control k) e i S D most q = let z = sym i ∙ q in absurd cc
  step s l o below (Back group k) e i S D most q = let z = sym i.0 ∙ q in absurd cc
  step s l o below (Read table r) e i S D most q = let z = sym i ∙ q in absurd cc
  step s l o below (Write table w x r) e i S D most q = let z = sym i ∙ q in absurd cc
  step s l o below (Member group k) e i S D most q =
      let on = member_on g f p room P whole h s group k l o e in
      let r = definition g group k in
      let c = below r on.0 on.1 S D most (ap (node f) (sym i) ∙ q) in
      omega (arith, c, owned_later owner read S r s (omega (arith, on.0)))
  step s l o below (Point op args) e (wide, AsNumber ns w i) S D most q = let z = sym i ∙ q in absurd cc
  step s l o below (Point op args) e (wide, AsItself w t i) S D most q = let z = sym i ∙ q in absurd cc
  step s l o below (Point op args) e (wide, AsOperand j w i) S D most q =
      let m = choice_within op (known f (take (inputs_of op) (map p args))) j w in
      let r = get_or args j 0 in
      let on = arg_on g f p room P whole h s op args j l o e m wide in
      let c = below r on.0 on.1 S D most (ap (node f) (sym (i ∙ get_or-map p args j 0 0 (omega arith))) ∙ q) in
      omega (arith, c, owned_later owner read S r s (omega (arith, on.0)))
  step s l o below (Delay x d n) e (AtOnce c w z i) S D most q =
      let on = delay_on g f p room P whole h s x d n l o e in
      let b = below x on.0.0 on.1.0 S D most (ap (node f) (sym i) ∙ q) in
      omega (arith, b, owned_later owner read S x s (omega (arith, on.0.0)))
  step s l o below (Delay x d n) e (LateNothing c w z u i) S D most q = let v = sym (ap (node f) i ∙ u) ∙ q in absurd cc
  step s l o below (Delay x d n) e (Nothing w u i) S D most q = let v = sym (ap (node f) i ∙ u) ∙ q in absurd cc
  step s l o below (Delay x d n) e (Varying w u i) S D most q =
      let both = sym q ∙ i in
      let same_x : S ≡ p x = cc in
      let same_m : most ≡ n = cc in
      let on = delay_on g f p room P whole h s x d n l o e in
      let far = farthest_least x d n s g.signals l e in
      elim (base_cases f (room x) (p x) (node f (p x)) refl) [
        | Itself a ↦ omega (arith, same_m, far, owned_with owner read S x s on.0.0 (ap (λ b. b.0) a ∙ sym same_x))
        | Over t by m z k a b v j y ↦ absurd (varied x k s d n v (record { within = l; is = e }) o w)
      ]
  step s l o below (Delay x d n) e (Late c k w z u v i) S D most q =
      let both = sym q ∙ i in
      let same_x : S ≡ (base f (room x) (p x)).0 = cc in
      let same_m : most ≡ (base f (room x) (p x)).1 + back_by n c = cc in
      let on = delay_on g f p room P whole h s x d n l o e in
      let far = farthest_least x d n s g.signals l e in
      let more = owned_with owner read S x s on.0.0 (sym same_x) in
      elim (base_cases f (room x) (p x) (node f (p x)) refl) [
        | Itself a ↦ omega (arith, same_m, ap (λ b. b.1) a, far, back_least n c, more)
        | Over t by m y r a b j j' y' ↦
            let first : t ≡ S = sym (ap (λ b. b.0) y') ∙ sym same_x in
            let old = below x on.0.0 on.1.0 S by m (subst (λ b. node f (p x) ≡ Delay b by m) first a) in
            omega (arith, same_m, ap (λ b. b.1) y', far, back_least n c, more, old)
      ]

  bound : (n s : ℕ) → s < n → s < length g.signals → P s → IsBound s
  bound zero s b l o = absurd (omega (arith, b))
  bound (suc n) s b l o = step s l o (λ r a k. bound n r (omega (arith, a, b)) (omega (arith, a, l)) k) (node g s) refl (h.images s l o)

  -- what is read of each signal
  least : (S : ℕ) → farthest S f.signals ≤ owned owner read S (length g.signals)
  least S = farthest_most S (owned owner read S (length g.signals)) f.signals here
    where
      here : (i x by most : ℕ) → i < length f.signals → get_or f.signals i (Const (pos 0)) ≡ Delay x by most → x ≡ S
          → most ≤ owned owner read S (length g.signals)
      here i x by most l e q = elim (h.made i l) [
        | inl a ↦ (let z = sym a.1 ∙ e in absurd cc)
        | inr a ↦
            let b = bound (suc a.0) a.0 (omega arith) a.1 a.2 x by most (ap (node f) a.3 ∙ e) in
            let c = subst (λ y. most ≤ owned owner read y a.0) q b in
            let m = a.1 in
            omega (arith, c, owned_later owner read S a.0 (length g.signals) (omega (arith, m)))
      ]

  pub reach_kept : reach f ≤ reach g
  reach_kept =
      let m = length f.signals in
      let n = length g.signals in
      let a = total_least m (λ S. farthest S f.signals) (λ S. owned owner read S n) (λ S l. least S) in
      let b = owned_all owner read m n in
      let c = total_is m (λ S. farthest S f.signals) in
      let d = total_is n read in
      omega (arith, a, b, c, d)
