-- From which signal each signal of a rebuilt graph comes.
use Rattle.std.proofs.Common.{◌≡◌, ◌⊎◌, ℕ, zero, suc, ◌+◌, ◌<◌, ◌≤◌, List, length, take, map, get_or, refl, sym, ap, ◌∙◌, subst, arith, inl, inr, ℤ, pos, All}
use Rattle.std.proofs.Common.{Some, None}
use Rattle.std.specs.Prelude.{Option, nat_le, if◌then◌else◌, Bool, true, false}
use Rattle.std.proofs.lemmas.Bool.{leb-true}
use Rattle.std.proofs.lemmas.List.{get_or-take, get_or-map}
use Rattle.std.proofs.lemmas.List.Elements.{All-get_or}
use Rattle.std.proofs.lemmas.List.{length-take}
use Rattle.fv_num.specs.declared.op.Op.{Op}
use Rattle.fv_num.specs.headline.Words.{inputs_of}
use Rattle.fv_signal.specs.declared.signal.Signal.{Signal}
use Rattle.fv_signal.specs.declared.signal.Signal.TheVariants.{Input, Const, Control, Point, Delay, Back, Member, Read, Write}
use Rattle.fv_signal.specs.headline.Value.{Graph, definition, OperandsBelow, IsGraph, back_by}
use Rattle.fv_signal.specs.Value.{ReadsOnly}
use Rattle.fv_simplify.specs.Choices.{choice}
use Rattle.fv_simplify.specs.Nodes.{node, StandsAt, number, number_at, known, numbers}
use Rattle.fv_simplify.specs.Reducible.{limit}
use Rattle.fv_simplify.specs.Rebuilt.{taken, base_of, base, AsNumber, AsOperand, AsItself, AtOnce, LateNothing, Late, Nothing, Varying}
use Rattle.fv_simplify.specs.Rebuilt.{IsImage, IsRebuilt}
use Rattle.fv_simplify.proofs.lemmas.Choices.{choice_within}

pub number_node : (n : Signal) (z : ℤ) → number n ≡ Some z → n ≡ Const z
number_node (Const m) z h = let e : m ≡ z = cc in ap Const e
number_node n z h = absurd cc

pub all_taken : (P : ℕ → Type 0) (n i : ℕ) (xs : List ℕ) → i < n → i < length xs → All P (take n xs) → P (get_or xs i 0)
all_taken P n i xs l m h =
    let long : i < length (take n xs) = omega (arith, length-take n xs) in subst P (get_or-take n xs i 0 l) (All-get_or P (take n xs) i 0 long h)

-- what is taken of a signal: itself, or what it is a delay of
taken_cases : (x s m : ℕ) (k : Option ℤ) (r : Option ℕ)
    → (taken x s m k r ≡ (x, 0)) ⊎ ((c : ℤ) × (q : ℕ) × (k ≡ Some c) × (r ≡ Some q) × (m + q ≤ limit) × (taken x s m k r ≡ (s, m)))
taken_cases x s m None r = inl refl
taken_cases x s m (Some c) None = inl refl
taken_cases x s m (Some c) (Some q) = go (nat_le (m + q) limit) refl
  where
    go : (b : Bool) → nat_le (m + q) limit ≡ b →
        (taken x s m (Some c) (Some q) ≡ (x, 0)) ⊎ ((k : ℤ) × (r : ℕ) × (Some c ≡ Some k) × (Some q ≡ Some r) × (m + r ≤ limit)
        × (taken x s m (Some c) (Some q) ≡ (s, m)))
    go true e = inr (c, q, refl, refl, leb-true (m + q) limit e, ap (λ b. if b then (s, m) else (x, 0)) e)
    go false e = inl (ap (λ b. if b then (s, m) else (x, 0)) e)

pub data Taken (f : Graph) (r : Option ℕ) (x : ℕ) : Type 0 where
  Itself : base f r x ≡ (x, 0) → Taken f r x
  Over : (s by m : ℕ) (c : ℤ) (q : ℕ) → node f x ≡ Delay s by m → number_at f by ≡ Some c → r ≡ Some q → m + q ≤ limit → base f r x ≡ (s, m) → Taken f r x

pub base_cases : (f : Graph) (r : Option ℕ) (x : ℕ) (n : Signal) → node f x ≡ n → Taken f r x
base_cases f r x (Delay s by m) e = elim (taken_cases x s m (number_at f by) r) [
  | inl a ↦ Itself (ap (base_of f r x) e ∙ a)
  | inr a ↦ Over s by m a.0 a.1 e a.2 a.3 a.4 (ap (base_of f r x) e ∙ a.5)
]
base_cases f r x n e = Itself (ap (base_of f r x) e)

module _ (g f : Graph) (p : ℕ → ℕ) (room : ℕ → Option ℕ) (P : ℕ → Type 0) (whole : IsGraph g) (h : IsRebuilt g f p room P) where
  abbrev zero_signal : Signal
  zero_signal = Const (pos 0)

  -- why the node at place i stands there
  pub data Origin (i : ℕ) : Type 0 where
    OfNumber : (n : ℤ) → node f i ≡ Const n → Origin i
    OfInput : (s k : ℕ) → StandsAt g s (Input k) → node f i ≡ Input k → Origin i
    OfControl : (s k : ℕ) → StandsAt g s (Control k) → node f i ≡ Control k → Origin i
    OfBack : (s group k : ℕ) → StandsAt g s (Back group k) → node f i ≡ Back group k → Origin i
    OfRead : (table r : ℕ) → node f i ≡ Read table r → Origin i
    OfWrite : (table w x r : ℕ) → node f i ≡ Write table w x r → Origin i
    OfPoint : (s : ℕ) (op : Op) (args : List ℕ) → P s → StandsAt g s (Point op args) → p s ≡ i → inputs_of op ≤ length args
        → numbers f (take (inputs_of op) (map p args)) ≡ None →
        choice op (known f (take (inputs_of op) (map p args))) ≡ None → node f i ≡ Point op (map p args) → Origin i
    OfLate : (s x d most : ℕ) (c : ℤ) (e : ℕ) → P s → StandsAt g s (Delay x d most) → p s ≡ i → number_at f (p d) ≡ Some c → 0 < back_by most c →
        (node f (base f (room x) (p x)).0 ≡ zero_signal → ⊥) → node f e ≡ Const (pos ((base f (room x) (p x)).1 + back_by most c)) →
        node f i ≡ Delay (base f (room x) (p x)).0 e ((base f (room x) (p x)).1 + back_by most c) → Origin i
    OfVarying : (s x d most : ℕ) → P s → StandsAt g s (Delay x d most) → p s ≡ i → number_at f (p d) ≡ None → (node f (p x) ≡ zero_signal → ⊥)
        → node f i ≡ Delay (p x) (p d) most → Origin i

  -- the operands of signals among P
  pub arg_on : (s : ℕ) (op : Op) (args : List ℕ) (i : ℕ) → s < length g.signals → P s → node g s ≡ Point op args → i < inputs_of op
      → inputs_of op ≤ length args →
      (get_or args i 0 < s) × P (get_or args i 0)
  arg_on s op args i l o e m n = (
    All-get_or (λ a. a < s) args i 0 (omega arith) (subst (OperandsBelow g s) e (whole.ordered s zero_signal l)),
    all_taken P (inputs_of op) i args m (omega arith) (subst (ReadsOnly g P) e (h.closed s zero_signal l o)),
  )

  pub delay_on : (s x d most : ℕ) → s < length g.signals → P s → node g s ≡ Delay x d most → ((x < s) × (d < s)) × (P x × P d)
  delay_on s x d most l o e = (subst (OperandsBelow g s) e (whole.ordered s zero_signal l), subst (ReadsOnly g P) e (h.closed s zero_signal l o))

  pub member_on : (s group k : ℕ) → s < length g.signals → P s → node g s ≡ Member group k → (definition g group k < s) × P (definition g group k)
  member_on s group k l o e = (subst (OperandsBelow g s) e (whole.ordered s zero_signal l), subst (ReadsOnly g P) e (h.closed s zero_signal l o))

  comes : (n s : ℕ) → s < n → s < length g.signals → P s → (m : Signal) → node g s ≡ m → IsImage g f p room m (p s) → Origin (p s)
  comes zero s b l o m e i = absurd (omega arith)
  comes (suc n) s b l o (Input k) e i = OfInput s k (record { within = l; is = e }) i
  comes (suc n) s b l o (Const z) e i = OfNumber z i
  comes (suc n) s b l o (Control k) e i = OfControl s k (record { within = l; is = e }) i
  comes (suc n) s b l o (Back group k) e i = OfBack s group k (record { within = l; is = e }) i.0
  comes (suc n) s b l o (Read table r) e i = OfRead table (p r) i
  comes (suc n) s b l o (Write table w x r) e i = OfWrite table (p w) (p x) (p r) i
  comes (suc n) s b l o (Member group k) e i =
      let on = member_on s group k l o e in
      let r = definition g group k in
      subst Origin (sym i) (comes n r (omega (arith, on.0)) (omega (arith, on.0)) on.1 (node g r) refl (h.images r (omega (arith, on.0)) on.1))
  comes (suc n) s b l o (Point op args) e (wide, AsNumber ns q i) = OfNumber _ i
  comes (suc n) s b l o (Point op args) e (wide, AsItself q r i) = OfPoint s op args o (record { within = l; is = e }) refl wide q r i
  comes (suc n) s b l o (Point op args) e (wide, AsOperand j q i) =
      let m = choice_within op (known f (take (inputs_of op) (map p args))) j q in
      let r = get_or args j 0 in
      let on = arg_on s op args j l o e m wide in
      subst Origin (sym (i ∙ get_or-map p args j 0 0 (omega arith)))
      (comes n r (omega (arith, on.0)) (omega (arith, on.0)) on.1 (node g r) refl (h.images r (omega (arith, on.0)) on.1))
  comes (suc n) s b l o (Delay x d most) e (AtOnce c q z i) =
      let on = delay_on s x d most l o e in
      subst Origin (sym i) (comes n x (omega (arith, on.0.0)) (omega (arith, on.0.0)) on.1.0 (node g x) refl (h.images x (omega (arith, on.0.0)) on.1.0))
  comes (suc n) s b l o (Delay x d most) e (LateNothing c q z w i) = OfNumber (pos 0) (ap (node f) i ∙ w)
  comes (suc n) s b l o (Delay x d most) e (Late c k q z w u i) = OfLate s x d most c k o (record { within = l; is = e }) refl q z w u i
  comes (suc n) s b l o (Delay x d most) e (Nothing q w i) = OfNumber (pos 0) (ap (node f) i ∙ w)
  comes (suc n) s b l o (Delay x d most) e (Varying q w i) = OfVarying s x d most o (record { within = l; is = e }) refl q w i

  -- each node's reason
  pub origin : (i : ℕ) → i < length f.signals → Origin i
  origin i l = elim (h.made i l) [
    | inl a ↦ OfNumber a.0 a.1
    | inr a ↦ subst Origin a.3 (comes (suc a.0) a.0 (omega arith) a.1 a.2 (node g a.0) refl (h.images a.0 a.1 a.2))
  ]

  -- a delay is of no 0, and where it is by a number, this is its greatest and not 0
  pub tight : (i x d most : ℕ) → i < length f.signals → node f i ≡ Delay x d most → (node f x ≡ zero_signal → ⊥)
      × ((c : ℤ) → number_at f d ≡ Some c → (c ≡ pos most) × (0 < most))
  tight i x d most l e = go (origin i l)
    where
      go : Origin i → (node f x ≡ zero_signal → ⊥) × ((c : ℤ) → number_at f d ≡ Some c → (c ≡ pos most) × (0 < most))
      go (OfNumber n q) = absurd cc
      go (OfInput s k a q) = absurd cc
      go (OfControl s k a q) = absurd cc
      go (OfBack s group k a q) = absurd cc
      go (OfRead table r q) = absurd cc
      go (OfWrite table w y r q) = absurd cc
      go (OfPoint s op args o a q w r t u) = absurd cc
      go (OfLate s y b m c k o a q r z w u i) =
          let both = sym e ∙ i in
          let same_x : x ≡ (base f (room y) (p y)).0 = cc in
          let same_d : d ≡ k = cc in
          let same_m : most ≡ (base f (room y) (p y)).1 + back_by m c = cc in (
            λ t. w (sym (ap (node f) same_x) ∙ t),
            λ v t. (
              let written : Some (pos ((base f (room y) (p y)).1 + back_by m c)) ≡ Some v = sym (ap number u) ∙ sym (ap (number_at f) same_d) ∙ t in
                  let at : pos ((base f (room y) (p y)).1 + back_by m c) ≡ v = cc in sym at ∙ sym (ap pos same_m),
              omega (arith, same_m, z),
            ),
          )
      go (OfVarying s y b m o a q r w i) =
          let both = sym e ∙ i in
          let same_x : x ≡ p y = cc in
          let same_d : d ≡ p b = cc in (
            λ t. w (sym (ap (node f) same_x) ∙ t),
            λ v t. absurd (let no = sym (ap (number_at f) same_d ∙ r) ∙ t in cc),
          )
