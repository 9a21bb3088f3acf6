-- In a graph that is rebuilt from a folded one, no delay of a delay is reducible.
use Rattle.std.proofs.Common.{◌≡◌, ◌⊎◌, ℕ, zero, suc, ◌+◌, ◌<◌, ◌≤◌, List, [], ◌∷◌, length, take, map, get_or, refl, sym, ap}
use Rattle.std.proofs.Common.{ap₂, ◌∙◌, subst, arith, inl, inr, ℤ, pos, Some, None, true, false, Bool, if◌then◌else◌, nat_le}
use Rattle.std.specs.Prelude.{Option}
use Rattle.std.proofs.lemmas.Int.{ints, clamps}
use Rattle.std.proofs.lemmas.Bool.{leb-false}
use Rattle.std.proofs.lemmas.List.{get_or-map, get_or-take, take-map, length-take}
use Rattle.fv_num.specs.declared.op.Op.{Op}
use Rattle.fv_num.specs.declared.op.Op.TheVariants.{Select2, Select3}
use Rattle.fv_num.specs.headline.Words.{inputs_of}
use Rattle.fv_signal.specs.declared.signal.Signal.{Signal}
use Rattle.fv_signal.specs.declared.signal.Signal.TheVariants.{Input, Const, Control, Point, Delay, Back, Member, Read, Write}
use Rattle.fv_signal.specs.headline.Value.{Graph, IsGraph, back_by}
use Rattle.fv_simplify.specs.Choices.{left_by, or_else, selected2, selected3, choice}
use Rattle.fv_simplify.specs.Nodes.{node, StandsAt, number, number_at, known, before, numbers}
use Rattle.fv_simplify.specs.Reducible.{IsDelayedBy, IsTakenOver, IsReducible, limit}
use Rattle.fv_simplify.specs.Rebuilt.{taken, base_of, base, AsNumber, AsOperand, AsItself, IsDelayImage, AtOnce}
use Rattle.fv_simplify.specs.Rebuilt.{LateNothing, Late, Nothing, Varying, IsImage, IsRebuilt, IsFolded, IsRoom}
use Rattle.fv_simplify.proofs.lemmas.Choices.{choice_within}
use Rattle.fv_simplify.proofs.lemmas.Origins.{number_node, Itself, Over, base_cases, Origin, OfNumber, OfInput, OfControl, OfBack}
use Rattle.fv_simplify.proofs.lemmas.Origins.{OfRead, OfWrite, OfPoint, OfLate, OfVarying, origin, tight, arg_on, delay_on}
use Rattle.fv_simplify.proofs.Irreducible.{standing, irreducible}

-- the choice speaks of the first two operands alone
pub choice_same : (op : Op) (k l : ℕ → Option ℤ) → k 0 ≡ l 0 → k 1 ≡ l 1 → choice op k ≡ choice op l
choice_same Select2 k l a b = ap selected2 a
choice_same Select3 k l a b = ap selected3 a
choice_same op k l a b = ap₂ (λ x y. or_else (left_by op 1 0 y) (left_by op 0 1 x)) a b

back_whole : (q : ℕ) → back_by q (pos q) ≡ q
back_whole q = grind (arith, ints, clamps)

module _ (g f : Graph) (p : ℕ → ℕ) (room : ℕ → Option ℕ) (P : ℕ → Type 0) (whole : IsGraph g) (h : IsRebuilt g f p room P) where
  -- there is no member
  pub no_member : (s group k : ℕ) → StandsAt f s (Member group k) → ⊥
  no_member s group k a = let e = a.is in go e (origin g f p room P whole h s a.within)
    where
      go : node f s ≡ Member group k → Origin g f p room P whole h s → ⊥
      go e (OfNumber n q) = absurd cc
      go e (OfInput r j b q) = absurd cc
      go e (OfControl r j b q) = absurd cc
      go e (OfBack r grp j b q) = absurd cc
      go e (OfRead table a q) = absurd cc
      go e (OfWrite table w y a q) = absurd cc
      go e (OfPoint r op args o b q w t u v) = absurd cc
      go e (OfLate r y b m c j o d q t z w u i) = absurd cc
      go e (OfVarying r y b m o d q t w i) = absurd cc

  pub folded : (Q : ℕ → Type 0) → IsFolded f Q
  folded Q = record {
    points = λ s op args a o. standing g f p room P whole h s op args a.within a.is;
    delays = λ s x d most a o. tight g f p room P whole h s x d most a.within a.is;
    members = no_member;
  }

  module _ (fold : IsFolded g P) (is_room : IsRoom g P room) where
    -- the image is a number where the signal is
    abbrev IsAlike : ℕ → Type 0
    IsAlike s = number_at g s ≡ number_at f (p s)

    known_alike : (i : ℕ) (args : List ℕ) → ((j : ℕ) → j < length args → IsAlike (get_or args j 0)) → known g args i ≡ known f (map p args) i
    known_alike i [] a = refl
    known_alike zero (x ∷ args) a = a 0 (omega arith)
    known_alike (suc i) (x ∷ args) a = known_alike i args (λ j l. a (suc j) (omega (arith, l)))

    numbers_alike : (args : List ℕ) → ((j : ℕ) → j < length args → IsAlike (get_or args j 0)) → numbers g args ≡ numbers f (map p args)
    numbers_alike [] a = refl
    numbers_alike (x ∷ args) a = ap₂ before (a 0 (omega arith)) (numbers_alike args (λ j l. a (suc j) (omega (arith, l))))

    -- the operands
    ops_alike : (s : ℕ) (op : Op) (args : List ℕ) → s < length g.signals → P s → node g s ≡ Point op args → inputs_of op ≤ length args
        → ((r : ℕ) → r < s → P r → IsAlike r) →
        (j : ℕ) → j < length (take (inputs_of op) args) → IsAlike (get_or (take (inputs_of op) args) j 0)
    ops_alike s op args l o e wide below j m =
        let n = inputs_of op in
        let k : j < n = omega (arith, m, length-take n args) in
        let on = arg_on g f p room P whole h s op args j l o e k wide in
        subst IsAlike (sym (get_or-take n args j 0 k)) (below (get_or args j 0) on.0 on.1)

    step : (s : ℕ) → s < length g.signals → P s → ((r : ℕ) → r < s → P r → IsAlike r) → (m : Signal) → node g s ≡ m → IsImage g f p room m (p s) → IsAlike s
    step s l o below (Input k) e i = ap number e ∙ sym (ap number i)
    step s l o below (Const n) e i = ap number e ∙ sym (ap number i)
    step s l o below (Control k) e i = ap number e ∙ sym (ap number i)
    step s l o below (Back group k) e i = ap number e ∙ sym (ap number i.0)
    step s l o below (Read table r) e i = ap number e ∙ sym (ap number i)
    step s l o below (Write table w x r) e i = ap number e ∙ sym (ap number i)
    step s l o below (Member group k) e i = absurd (fold.members s group k (record { within = l; is = e }))
    step s l o below (Point op args) e (wide, AsItself q t i) = ap number e ∙ sym (ap number i)
    step s l o below (Point op args) e (wide, AsNumber ns q i) =
        let n = inputs_of op in
        let none = (fold.points s op args (record { within = l; is = e }) o).0 in
        let same = numbers_alike (take n args) (ops_alike s op args l o e wide below) ∙ ap (numbers f) (sym (take-map p n args)) in
        let both : Some ns ≡ None = sym q ∙ sym same ∙ none in absurd cc
    step s l o below (Point op args) e (wide, AsOperand j q i) =
        let n = inputs_of op in
        let none = (fold.points s op args (record { within = l; is = e }) o).1 in
        let at = ops_alike s op args l o e wide below in
        let same : (k : ℕ) → known g (take n args) k ≡ known f (take n (map p args)) k = λ k. known_alike k (take n args) at
        ∙ ap (λ ws. known f ws k) (sym (take-map p n args)) in
        let both : Some j ≡ None = sym q ∙ sym (choice_same op (known g (take n args)) (known f (take n (map p args))) (same 0) (same 1)) ∙ none in absurd cc
    step s l o below (Delay x d most) e i =
        let on = delay_on g f p room P whole h s x d most l o e in
        delays s x d most e l o on (below x on.0.0 on.1.0) (below d on.0.1 on.1.1) i
      where
        not_zero : (s x d most : ℕ) → node g s ≡ Delay x d most → s < length g.signals → P s → IsAlike x → node f (p x) ≡ Const (pos 0) → ⊥
        not_zero s x d most e l o a z = (fold.delays s x d most (record { within = l; is = e }) o).0 (number_node (node g x) (pos 0) (a ∙ ap number z))

        delays : (s x d most : ℕ) → node g s ≡ Delay x d most → s < length g.signals → P s → ((x < s) × (d < s)) × (P x × P d) → IsAlike x → IsAlike d
            → IsDelayImage f (room x) (p x) (p d) most (p s) → IsAlike s
        delays s x d most e l o on a b (AtOnce c q z i) =
            let t = (fold.delays s x d most (record { within = l; is = e }) o).1 c (b ∙ q) in
            let w = ap (back_by most) t.0 ∙ back_whole most in
            let zero : most ≡ 0 = sym w ∙ z in
            let m = t.1 in
            absurd (omega (arith, zero, m))
        delays s x d most e l o on a b (LateNothing c q z w i) = absurd (elim (base_cases f (room x) (p x) (node f (p x)) refl) [
          | Itself y ↦ not_zero s x d most e l o a (ap (λ r. node f r.0) (sym y) ∙ w)
          | Over t by m k r u v j j' y ↦ (tight g f p room P whole h (p x) t by m (h.there x (omega (arith, on.0.0, l)) on.1.0) u).0
              (ap (λ r. node f r.0) (sym y) ∙ w)
        ])
        delays s x d most e l o on a b (Late c k q z w u i) = ap number e ∙ sym (ap number i)
        delays s x d most e l o on a b (Nothing q w i) = absurd (not_zero s x d most e l o a w)
        delays s x d most e l o on a b (Varying q w i) = ap number e ∙ sym (ap number i)

    alike_below : (n s : ℕ) → s < n → s < length g.signals → P s → IsAlike s
    alike_below zero s b l o = absurd (omega (arith, b))
    alike_below (suc n) s b l o = step s l o (λ r a k. alike_below n r (omega (arith, a, b)) (omega (arith, a, l)) k) (node g s) refl (h.images s l o)

    alike : (s : ℕ) → s < length g.signals → P s → IsAlike s
    alike s l o = alike_below (suc s) s (omega arith) l o

    -- ---- what a delay by a number is a delay of: an image that is taken as itself

    pub record HasRoot (y : ℕ) : Type 0 where
      pub x : ℕ
      pub there : x < length g.signals
      pub on : P x
      pub is : p x ≡ y
      pub base_is : base f (room x) (p x) ≡ (p x, 0)

    abbrev IsRooted : ℕ → Type 0
    IsRooted s = (y D most : ℕ) (c : ℤ) → node f (p s) ≡ Delay y D most → number_at f D ≡ Some c → HasRoot y

    rooted : (s : ℕ) → s < length g.signals → P s → ((r : ℕ) → r < s → P r → IsRooted r) → (m : Signal) → node g s ≡ m → IsImage g f p room m (p s) → IsRooted s
    rooted s l o below (Input k) e i y D most c q n = let z = sym i ∙ q in absurd cc
    rooted s l o below (Const z) e i y D most c q n = let z = sym i ∙ q in absurd cc
    rooted s l o below (Control k) e i y D most c q n = let z = sym i ∙ q in absurd cc
    rooted s l o below (Back group k) e i y D most c q n = let z = sym i.0 ∙ q in absurd cc
    rooted s l o below (Read table r) e i y D most c q n = let z = sym i ∙ q in absurd cc
    rooted s l o below (Write table w x r) e i y D most c q n = let z = sym i ∙ q in absurd cc
    rooted s l o below (Member group k) e i y D most c q n = absurd (fold.members s group k (record { within = l; is = e }))
    rooted s l o below (Point op args) e (wide, AsNumber ns w i) y D most c q n = let z = sym i ∙ q in absurd cc
    rooted s l o below (Point op args) e (wide, AsItself w t i) y D most c q n = let z = sym i ∙ q in absurd cc
    rooted s l o below (Point op args) e (wide, AsOperand j w i) y D most c q n =
        let m = choice_within op (known f (take (inputs_of op) (map p args))) j w in
        let on = arg_on g f p room P whole h s op args j l o e m wide in
        below (get_or args j 0) on.0 on.1 y D most c (ap (node f) (sym (i ∙ get_or-map p args j 0 0 (omega arith))) ∙ q) n
    rooted s l o below (Delay x d k) e (AtOnce z w u i) y D most c q n =
        let on = delay_on g f p room P whole h s x d k l o e in below x on.0.0 on.1.0 y D most c (ap (node f) (sym i) ∙ q) n
    rooted s l o below (Delay x d k) e (LateNothing z w u t i) y D most c q n = let v = sym (ap (node f) i ∙ t) ∙ q in absurd cc
    rooted s l o below (Delay x d k) e (Nothing w t i) y D most c q n = let v = sym (ap (node f) i ∙ t) ∙ q in absurd cc
    rooted s l o below (Delay x d k) e (Varying w t i) y D most c q n =
        let both = sym q ∙ i in
        let same_d : D ≡ p d = cc in
        let no : Some c ≡ None = sym n ∙ ap (number_at f) same_d ∙ w in absurd cc
    rooted s l o below (Delay x d k) e (Late z j w u t v i) y D most c q n =
        let both = sym q ∙ i in
        let same_x : y ≡ (base f (room x) (p x)).0 = cc in
        let on = delay_on g f p room P whole h s x d k l o e in
        elim (base_cases f (room x) (p x) (node f (p x)) refl) [
          | Itself a ↦ record { x = x; there = omega (arith, on.0.0, l); on = on.1.0; is = sym (same_x ∙ ap (λ b. b.0) a); base_is = a }
          | Over t' by m z' r a b j' j'' a' ↦ subst HasRoot (sym (same_x ∙ ap (λ b. b.0) a')) (below x on.0.0 on.1.0 t' by m z' a b)
        ]

    rooted_below : (n s : ℕ) → s < n → s < length g.signals → P s → IsRooted s
    rooted_below zero s b l o = absurd (omega (arith, b))
    rooted_below (suc n) s b l o = rooted s l o (λ r a k. rooted_below n r (omega (arith, a, b)) (omega (arith, a, l)) k) (node g s) refl (h.images s l o)

    -- ---- no delay is taken over

    -- a reader that is no delay by a number, or one that goes too far
    module _ (y : ℕ) (t : IsTakenOver f y) (root : HasRoot y) where
      abbrev first : IsDelayedBy f y t.x t.c
      first = t.delayed

      exact : (t.c ≡ pos first.most) × (0 < first.most)
      exact = (tight g f p room P whole h y t.x first.by first.most first.stands.within first.stands.is).1 t.c (ap number first.is)

      at_root : node f (p root.x) ≡ Delay t.x first.by first.most
      at_root = ap (node f) root.is ∙ first.stands.is

      varied : (s d most : ℕ) → StandsAt g s (Delay root.x d most) → P s → number_at g d ≡ None → ⊥
      varied s d most a o n = go (subst (λ m. IsImage g f p room m (p s)) a.is (h.images s a.within o))
        where
          none : number_at f (p d) ≡ None
          none = let on = delay_on g f p room P whole h s root.x d most a.within o a.is in let l = a.within in sym (alike d (omega (arith, on.0.1, l)) on.1.1)
              ∙ n

          go : IsDelayImage f (room root.x) (p root.x) (p d) most (p s) → ⊥
          go (AtOnce c q z i) = let w = sym q ∙ none in absurd cc
          go (LateNothing c q z w i) = let w' = sym q ∙ none in absurd cc
          go (Late c k q z w u i) = let w' = sym q ∙ none in absurd cc
          go (Nothing q w i) = let w' = sym w ∙ at_root in absurd cc
          go (Varying q w i) =
              let r = t.delays (p s) (p d) most (record { within = h.there s a.within o; is = subst (λ z. node f (p s) ≡ Delay z (p d) most) root.is i }) in
              let b = r.1 in
              let both = sym i ∙ b.stands.is in
              let same_d : p d ≡ b.by = cc in
              let no : None ≡ Some r.0 = sym q ∙ ap (number_at f) same_d ∙ ap number b.is in absurd cc

      too_far : (q s d most : ℕ) → StandsAt g s (Delay root.x d most) → P s → node g d ≡ Const (pos q) → limit < first.most + q → ⊥
      too_far q s d most a o n far = go (subst (λ m. IsImage g f p room m (p s)) a.is (h.images s a.within o))
        where
          some : number_at f (p d) ≡ Some (pos q)
          some = let on = delay_on g f p room P whole h s root.x d most a.within o a.is in let l = a.within in sym (alike d (omega (arith, on.0.1, l)) on.1.1)
              ∙ ap number n

          whole_most : (pos q ≡ pos most) × (0 < most)
          whole_most = (fold.delays s root.x d most a o).1 (pos q) (ap number n)

          by_q : (c : ℤ) → number_at f (p d) ≡ Some c → back_by most c ≡ most
          by_q c e = let both : Some (pos q) ≡ Some c = sym some ∙ e in let z : pos q ≡ c = cc in ap (back_by most) (sym z ∙ whole_most.0) ∙ back_whole most

          go : IsDelayImage f (room root.x) (p root.x) (p d) most (p s) → ⊥
          go (AtOnce c e z i) = let w = whole_most.1 in omega (arith, w, z, by_q c e)
          go (LateNothing c e z w i) = let w' = sym (ap (λ b. node f b.0) (sym root.base_is) ∙ w) ∙ at_root in absurd cc
          go (Nothing e w i) = let w' = sym w ∙ at_root in absurd cc
          go (Varying e w i) = let w' = sym some ∙ e in absurd cc
          go (Late c k e z w u i) =
              let far_back = (base f (room root.x) (p root.x)).1 + back_by most c in
              let r = t.delays (p s) k far_back
              (record { within = h.there s a.within o; is = subst (λ z. node f (p s) ≡ Delay z k far_back) (ap (λ b. b.0) root.base_is ∙ root.is) i }) in
              let b = r.1 in
              let both = sym i ∙ b.stands.is in
              let same_d : k ≡ b.by = cc in
              let num : Some (pos ((base f (room root.x) (p root.x)).1 + back_by most c)) ≡ Some r.0 = sym (ap number u) ∙ ap (number_at f) same_d
              ∙ ap number b.is in
              let at : pos ((base f (room root.x) (p root.x)).1 + back_by most c) ≡ r.0 = cc in
              let sum = r.2 in
              let m = exact.0 in
              let q_most = whole_most.0 in
              omega (arith, ints, sum, m, at, ap (λ b. b.1) root.base_is, by_q c e, q_most, far)

      over : first.most ≤ limit → ⊥
      over small = with_room (room root.x) refl
        where
          is_taken : (r : Option ℕ) → room root.x ≡ r → base f (room root.x) (p root.x) ≡ taken (p root.x) t.x first.most (Some t.c) r
          is_taken r e =
              ap (base_of f (room root.x) (p root.x)) at_root ∙ ap (λ k. taken (p root.x) t.x first.most k (room root.x)) (ap number first.is)
              ∙ ap (taken (p root.x) t.x first.most (Some t.c)) e

          fits : (q : ℕ) → room root.x ≡ Some q → (b : Bool) → nat_le (first.most + q) limit ≡ b → ⊥
          fits q e true w =
              let m = ap (λ b. b.1) (sym root.base_is ∙ is_taken (Some q) e ∙ ap (λ b. if b then (t.x, first.most) else (p root.x, 0)) w) in
              let l = exact.1 in
              omega (arith, m, l)
          fits q e false w =
              let far = leb-false (first.most + q) limit w in
              let r = is_room.full root.x q e (omega (arith, far, small)) in
              too_far q r.0 r.1 r.2 r.3 r.4 r.5 far

          with_room : (r : Option ℕ) → room root.x ≡ r → ⊥
          with_room None e = let r = is_room.none root.x root.there e in varied r.0 r.1 r.2 r.3 r.4 r.5
          with_room (Some q) e = fits q e (nat_le (first.most + q) limit) refl

    pub untaken : (s y : ℕ) (b : ℤ) → IsDelayedBy f s y b → IsTakenOver f y → ⊥
    untaken s y b d t =
        let r = t.delays s d.by d.most d.stands in
        let n = r.1 in
        let reader = (tight g f p room P whole h s y n.by n.most n.stands.within n.stands.is).1 r.0 (ap number n.is) in
        let first = t.delayed in
        let own = (tight g f p room P whole h y t.x first.by first.most first.stands.within first.stands.is).1 t.c (ap number first.is) in
        let a = reader.0 in
        let e = own.0 in
        let sum = r.2 in
        over y t (root_of s d (h.made s d.stands.within)) (omega (arith, ints, a, e, sum))
      where
        root_of : (s : ℕ) (d : IsDelayedBy f s y b) → ((n : ℤ) × (node f s ≡ Const n)) ⊎ ((r : ℕ) × (r < length g.signals) × P r × (p r ≡ s)) → HasRoot y
        root_of s d (inl a) = let z = sym a.1 ∙ d.stands.is in absurd cc
        root_of s d (inr a) = rooted_below (suc a.0) a.0 (omega arith) a.1 a.2 y d.by d.most b (ap (node f) a.3 ∙ d.stands.is) (ap number d.is)

    pub no_more : (s : ℕ) → IsReducible f s → ⊥
    no_more s r = irreducible g f p room P whole h s (untaken s) r
