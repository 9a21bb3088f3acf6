-- What rates say of values.
use Rattle.std.proofs.Common.{◌≡◌, ◌≢◌, ℕ, zero, suc, ◌<◌, ◌≤◌, List, [], ◌∷◌, length, take, get_or, map, refl, sym, ap, ap₂, ◌∙◌, subst, arith, inl, inr}
use Rattle.std.proofs.Common.{All, ℤ, pos}
use Rattle.std.proofs.lemmas.List.{get_or-take}
use Rattle.std.proofs.lemmas.List.Elements.{All-head, All-tail, All-take}
use Rattle.std.proofs.lemmas.Bool.{cases_lt}
use Rattle.fv_num.specs.headline.Words.{apply_of, inputs_of}
use Rattle.fv_num.specs.headline.Frames.{Frame, Stream}
use Rattle.fv_signal.specs.declared.signal.Signal.{Signal}
use Rattle.fv_signal.specs.declared.signal.Signal.TheVariants.{Input, Const, Control, Point, Delay, Back, Member, Read, Write}
use Rattle.fv_signal.specs.declared.rate.Rate.{Rate}
use Rattle.fv_signal.specs.declared.rate.Rate.TheVariants as rate
use Rattle.fv_num.specs.headline.Tables.{read_at}
use Rattle.fv_signal.specs.headline.Value.{Graph, table_of, signal_at, value, OperandsBelow, IsOrdered}
use Rattle.fv_signal.specs.headline.Rates.{faster, fastest, rate_in, rate_at, rates, rate_of, NamesControl}
use Rattle.fv_signal.specs.Rates.{ConstantsStay, ControlsDecide}
use Rattle.fv_signal.proofs.lemmas.Grown.{grown_is}
use Rattle.fv_signal.proofs.lemmas.Values.{values_are_given}

map_take : (n : ℕ) (f : ℕ → ℤ) (ws : List ℕ) → take n (map f ws) ≡ map f (take n ws)
map_take zero f ws = refl
map_take (suc n) f [] = refl
map_take (suc n) f (w ∷ ws) = ap (λ x. f w ∷ x) (map_take n f ws)

rates_same : (i : ℕ) (r q : ℕ → Rate) (ws : List ℕ) → All (λ w. w < i) ws → ((w : ℕ) → w < i → r w ≡ q w) → map r ws ≡ map q ws
rates_same i r q [] h e = refl
rates_same i r q (w ∷ ws) h e = ap₂ (λ x y. x ∷ y) (e w (All-head (λ w. w < i) w ws h)) (rates_same i r q ws (All-tail (λ w. w < i) w ws h) e)

rate_in_same : (g : Graph) (i : ℕ) (r q : ℕ → Rate) (s : Signal) → OperandsBelow g i s → ((w : ℕ) → w < i → r w ≡ q w) → rate_in r s ≡ rate_in q s
rate_in_same g i r q (Input k) h e = refl
rate_in_same g i r q (Const n) h e = refl
rate_in_same g i r q (Control k) h e = refl
rate_in_same g i r q (Point op args) h e = ap fastest (rates_same i r q (take (inputs_of op) args) (All-take (λ w. w < i) (inputs_of op) args h) e)
rate_in_same g i r q (Delay x d max) h e = refl
rate_in_same g i r q (Back group k) h e = refl
rate_in_same g i r q (Member group k) h e = refl
rate_in_same g i r q (Read table k) h e = e k h
rate_in_same g i r q (Write table w x k) h e = refl

-- a signal's rate is that of its node
pub rate_is : (g : Graph) → IsOrdered g → (s : ℕ) (d : Signal) → s < length g.signals → rate_of g s ≡ rate_in (rate_of g) (get_or g.signals s d)
rate_is g ordered s d l =
    grown_is (λ now. rate_in (rate_at now)) g.signals s rate.Sample d l
    ∙ rate_in_same g s (rate_at (take s (rates g.signals))) (rate_of g) (get_or g.signals s d) (ordered s d l)
    (λ w k. get_or-take s (rates g.signals) w rate.Sample k)

faster_constant : (r q : Rate) → faster r q ≡ rate.Constant → (r ≡ rate.Constant) × (q ≡ rate.Constant)
faster_constant rate.Constant q e = (refl, e)
faster_constant rate.Control rate.Constant e = absurd cc
faster_constant rate.Control rate.Control e = absurd cc
faster_constant rate.Control rate.Sample e = absurd cc
faster_constant rate.Sample q e = absurd cc

faster_held : (r q : Rate) → faster r q ≢ rate.Sample → (r ≢ rate.Sample) × (q ≢ rate.Sample)
faster_held rate.Constant q e = (λ h. cc, e)
faster_held rate.Control rate.Constant e = (λ h. cc, λ h. cc)
faster_held rate.Control rate.Control e = (λ h. cc, λ h. cc)
faster_held rate.Control rate.Sample e = absurd (e refl)
faster_held rate.Sample q e = absurd (e refl)

operands_constant : (r : ℕ → Rate) (f h : ℕ → ℤ) (ws : List ℕ) → fastest (map r ws) ≡ rate.Constant → (i : ℕ) → All (λ w. w < i) ws
    → ((w : ℕ) → w < i → r w ≡ rate.Constant → f w ≡ h w) → map f ws ≡ map h ws
operands_constant r f h [] e i b p = refl
operands_constant r f h (w ∷ ws) e i b p =
    let q = faster_constant (r w) (fastest (map r ws)) e in
    ap₂ (λ x y. x ∷ y) (p w (All-head (λ w. w < i) w ws b) q.0) (operands_constant r f h ws q.1 i (All-tail (λ w. w < i) w ws b) p)

operands_held : (r : ℕ → Rate) (f h : ℕ → ℤ) (ws : List ℕ) → fastest (map r ws) ≢ rate.Sample → (i : ℕ) → All (λ w. w < i) ws
    → ((w : ℕ) → w < i → r w ≢ rate.Sample → f w ≡ h w) → map f ws ≡ map h ws
operands_held r f h [] e i b p = refl
operands_held r f h (w ∷ ws) e i b p =
    let q = faster_held (r w) (fastest (map r ws)) e in
    ap₂ (λ x y. x ∷ y) (p w (All-head (λ w. w < i) w ws b) q.0) (operands_held r f h ws q.1 i (All-tail (λ w. w < i) w ws b) p)

module _ (g : Graph) (ordered : IsOrdered g) (X Y : List Frame) (c d : ℕ → Stream) (t u : ℕ) where
  abbrev a : ℕ → Stream
  a s k = value g s X c k

  abbrev b : ℕ → Stream
  b s k = value g s Y d k

  abbrev node : ℕ → Signal
  node s = get_or g.signals s (Const (pos 0))

  constant_node : (i : ℕ) (s : Signal) → OperandsBelow g i s → rate_in (rate_of g) s ≡ rate.Constant
      → ((w : ℕ) → w < i → rate_of g w ≡ rate.Constant → a w t ≡ b w u) → signal_at g X c a s t ≡ signal_at g Y d b s u
  constant_node i (Input k) h e p = absurd cc
  constant_node i (Const n) h e p = refl
  constant_node i (Control k) h e p = absurd cc
  constant_node i (Point op args) h e p =
      ap (apply_of op) (map_take (inputs_of op) (λ w. a w t) args
      ∙ operands_constant (rate_of g) (λ w. a w t) (λ w. b w u) (take (inputs_of op) args) e i (All-take (λ w. w < i) (inputs_of op) args h) p
      ∙ sym (map_take (inputs_of op) (λ w. b w u) args))
  constant_node i (Delay x y max) h e p = absurd cc
  constant_node i (Back group k) h e p = absurd cc
  constant_node i (Member group k) h e p = absurd cc
  constant_node i (Read table k) h e p = ap (read_at (table_of g table)) (p k h e)
  constant_node i (Write table w x k) h e p = absurd cc

  constant : (n s : ℕ) → n ≤ length g.signals → s < n → rate_of g s ≡ rate.Constant → a s t ≡ b s u
  constant zero s m l e = absurd (omega arith)
  constant (suc n) s m l e = elim (cases_lt s n) [
    | inl k ↦ constant n s (omega arith) k e
    | inr k ↦
        let z : n ≡ s = omega arith in
        let r = ap (rate_of g) z ∙ e in
        subst (λ x. a x t ≡ b x u) z
        (values_are_given g ordered X c n (Const (pos 0)) t (omega arith)
        ∙ constant_node n (node n) (ordered n (Const (pos 0)) (omega arith)) (sym (rate_is g ordered n (Const (pos 0)) (omega arith)) ∙ r)
        (λ w q f. constant n w (omega arith) q f)
        ∙ sym (values_are_given g ordered Y d n (Const (pos 0)) u (omega arith)))
  ]

  module _ (same : (k : ℕ) → NamesControl g k → c k t ≡ d k u) where
    held_node : (i : ℕ) (s : Signal) → i < length g.signals → node i ≡ s → OperandsBelow g i s → rate_in (rate_of g) s ≢ rate.Sample
        → ((w : ℕ) → w < i → rate_of g w ≢ rate.Sample → a w t ≡ b w u) → signal_at g X c a s t ≡ signal_at g Y d b s u
    held_node i (Input k) l z h e p = absurd (e refl)
    held_node i (Const n) l z h e p = refl
    held_node i (Control k) l z h e p = same k (record { place = i; within = l; is = z })
    held_node i (Point op args) l z h e p =
        ap (apply_of op) (map_take (inputs_of op) (λ w. a w t) args
        ∙ operands_held (rate_of g) (λ w. a w t) (λ w. b w u) (take (inputs_of op) args) e i (All-take (λ w. w < i) (inputs_of op) args h) p
        ∙ sym (map_take (inputs_of op) (λ w. b w u) args))
    held_node i (Delay x y max) l z h e p = absurd (e refl)
    held_node i (Back group k) l z h e p = absurd (e refl)
    held_node i (Member group k) l z h e p = absurd (e refl)
    held_node i (Read table k) l z h e p = ap (read_at (table_of g table)) (p k h e)
    held_node i (Write table w x k) l z h e p = absurd (e refl)

    held : (n s : ℕ) → n ≤ length g.signals → s < n → rate_of g s ≢ rate.Sample → a s t ≡ b s u
    held zero s m l e = absurd (omega arith)
    held (suc n) s m l e = elim (cases_lt s n) [
      | inl k ↦ held n s (omega arith) k e
      | inr k ↦
          let z : n ≡ s = omega arith in
          subst (λ x. a x t ≡ b x u) z
          (values_are_given g ordered X c n (Const (pos 0)) t (omega arith)
          ∙ held_node n (node n) (omega arith) refl (ordered n (Const (pos 0)) (omega arith))
          (λ f. e (ap (rate_of g) (sym z) ∙ rate_is g ordered n (Const (pos 0)) (omega arith) ∙ f)) (λ w q f. held n w (omega arith) q f)
          ∙ sym (values_are_given g ordered Y d n (Const (pos 0)) u (omega arith)))
    ]

pub constants_stay : (g : Graph) → ConstantsStay g
constants_stay g ordered s l e X Y c d t u = constant g ordered X Y c d t u (length g.signals) s (omega arith) l e

pub controls_decide : (g : Graph) → ControlsDecide g
controls_decide g ordered s l e X Y c d t u same = held g ordered X Y c d t u same (length g.signals) s (omega arith) l e
