-- What a member stands for has its values.
use Rattle.std.proofs.Common.{◌≡◌, ℕ, zero, suc, ◌<◌, ◌≤◌, List, [], length, take, refl, sym, ap, ◌∙◌, subst, arith, inl, inr, pos}
use Rattle.std.proofs.lemmas.List.{get_or-take, length-take-le}
use Rattle.std.proofs.lemmas.Bool.{cases_lt}
use Rattle.fv_num.specs.headline.Frames.{Frame, Stream}
use Rattle.fv_signal.specs.declared.signal.Signal.{Signal}
use Rattle.fv_signal.specs.declared.signal.Signal.TheVariants.{Input, Const, Control, Point, Delay, Back, Member, Read, Write}
use Rattle.fv_signal.specs.headline.Grown.{grown}
use Rattle.fv_signal.specs.headline.Value.{Graph, definition, value, signal_at, OperandsBelow, IsOrdered}
use Rattle.fv_signal.proofs.lemmas.Grown.{grown_is, length_grown}
use Rattle.fv_signal.proofs.lemmas.Values.{values_are_given}
use Rattle.fv_analysis.specs.headline.Stands.{node, stand, stand_in, stands_of}
use Rattle.fv_analysis.specs.Stands.{StandsAlike}

abbrev all : Graph → List ℕ
all g = grown (stand_in g) [] g.signals

stand_at : (g : Graph) (s : ℕ) → s < length g.signals → stand g s ≡ stand_in g (take s (all g)) (node g s)
stand_at g s l = grown_is (stand_in g) g.signals s 0 (Const (pos 0)) l

long_take : (g : Graph) (s : ℕ) → s < length g.signals → length (take s (all g)) ≡ s
long_take g s l = length-take-le s (all g) (omega (arith, length_grown (stand_in g) [] g.signals))

-- the signal is no member
abbrev pub IsNoMember : Signal → Type 0
IsNoMember (Input i) = Unit {0}
IsNoMember (Const n) = Unit {0}
IsNoMember (Control k) = Unit {0}
IsNoMember (Point op args) = Unit {0}
IsNoMember (Delay x d max) = Unit {0}
IsNoMember (Back group i) = Unit {0}
IsNoMember (Member group i) = ⊥
IsNoMember (Read table r) = Unit {0}
IsNoMember (Write table w x r) = Unit {0}

-- a member stands for what its definition stands for, every other signal for itself
pub data Standing (g : Graph) (s : ℕ) : Type 0 where
  Itself : IsNoMember (node g s) → stand g s ≡ s → Standing g s
  Another : (group i : ℕ) → node g s ≡ Member group i → definition g group i < s → stand g s ≡ stand g (definition g group i) → Standing g s

pub standing : (g : Graph) → IsOrdered g → (s : ℕ) → s < length g.signals → Standing g s
standing g ordered s l = go (node g s) refl
  where
    itself : (n : Signal) → node g s ≡ n → IsNoMember n → stand_in g (take s (all g)) n ≡ length (take s (all g)) → Standing g s
    itself n e k h = Itself (subst IsNoMember (sym e) k) (stand_at g s l ∙ ap (stand_in g (take s (all g))) e ∙ h ∙ long_take g s l)

    go : (n : Signal) → node g s ≡ n → Standing g s
    go (Input k) e = itself (Input k) e tt refl
    go (Const k) e = itself (Const k) e tt refl
    go (Control k) e = itself (Control k) e tt refl
    go (Point op args) e = itself (Point op args) e tt refl
    go (Delay x d max) e = itself (Delay x d max) e tt refl
    go (Back group i) e = itself (Back group i) e tt refl
    go (Read table r) e = itself (Read table r) e tt refl
    go (Write table w x r) e = itself (Write table w x r) e tt refl
    go (Member group i) e =
        let b : definition g group i < s = subst (λ n. OperandsBelow g s n) e (ordered s (Const (pos 0)) l) in
        Another group i e b (stand_at g s l ∙ ap (stand_in g (take s (all g))) e ∙ get_or-take s (all g) (definition g group i) 0 b)

module _ (g : Graph) (ordered : IsOrdered g) (X : List Frame) (c : ℕ → Stream) (t : ℕ) where
  alike : (n s : ℕ) → n ≤ length g.signals → s < n → value g (stand g s) X c t ≡ value g s X c t
  alike zero s m l = absurd (omega arith)
  alike (suc n) s m l = elim (cases_lt s n) [
    | inl k ↦ alike n s (omega arith) k
    | inr k ↦ let z : n ≡ s = omega arith in subst (λ x. value g (stand g x) X c t ≡ value g x X c t) z (elim (standing g ordered n (omega arith)) [
      | Itself k e ↦ ap (λ x. value g x X c t) e
      | Another group i e b f ↦
          ap (λ x. value g x X c t) f ∙ alike n (definition g group i) (omega arith) b
          ∙ sym (values_are_given g ordered X c n (Const (pos 0)) t (omega arith) ∙ ap (λ y. signal_at g X c (λ r. value g r X c) y t) e)
    ])
  ]

pub stands_alike : (g : Graph) → StandsAlike g
stands_alike g ordered s l X c t = alike g ordered X c t (length g.signals) s (omega arith) l

-- each signal stands for something
pub stands_long : (g : Graph) → length (stands_of g) ≡ length g.signals
stands_long g = omega (arith, length_grown (stand_in g) [] g.signals)

-- what a signal stands for is no member, stands for itself, and is no later signal
pub record StandsWell (g : Graph) (s : ℕ) : Type 0 where
  pub no_member : IsNoMember (node g (stand g s))
  pub again : stand g (stand g s) ≡ stand g s
  pub below : stand g s ≤ s

pub stands_well : (g : Graph) → IsOrdered g → (n s : ℕ) → n ≤ length g.signals → s < n → StandsWell g s
stands_well g ordered zero s m l = absurd (omega arith)
stands_well g ordered (suc n) s m l = elim (cases_lt s n) [
  | inl k ↦ stands_well g ordered n s (omega arith) k
  | inr k ↦ let z : n ≡ s = omega arith in subst (StandsWell g) z (elim (standing g ordered n (omega arith)) [
    | Itself k e ↦ record { no_member = subst (λ x. IsNoMember (node g x)) (sym e) k; again = ap (stand g) e; below = omega (arith, e) }
    | Another group i e b f ↦
        let h = stands_well g ordered n (definition g group i) (omega arith) b in
        record {
          no_member = subst (λ x. IsNoMember (node g x)) (sym f) h.no_member;
          again = ap (stand g) f ∙ h.again ∙ sym f;
          below = omega (arith, f, b, h.below);
        }
  ])
]
