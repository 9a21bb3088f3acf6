-- The rates of operations, and of what passes through a delay or a group.
use Rattle.std.proofs.Common.{◌≡◌, ℕ, ◌+◌, ◌<◌, ◌≤◌, List, [], ◌∷◌, ◌++◌, length, take, map, get_or, refl, sym, ap, ◌∙◌, arith, pos}
use Rattle.std.proofs.lemmas.List.{take_more, map_push, length-take-le}
use Rattle.fv_num.specs.declared.op.Op.{Op}
use Rattle.fv_num.specs.declared.op.Op.TheVariants.{Abs, Select2, Select3}
use Rattle.fv_num.specs.headline.Words.{inputs_of}
use Rattle.fv_signal.specs.declared.signal.Signal.{Signal}
use Rattle.fv_signal.specs.declared.signal.Signal.TheVariants.{Input, Const, Control, Point, Delay, Back, Member, Read, Write}
use Rattle.fv_signal.specs.declared.rate.Rate.{Rate}
use Rattle.fv_signal.specs.declared.rate.Rate.TheVariants as rate
use Rattle.fv_signal.specs.headline.Rates.{faster, fastest, rate_in, rate_at, rates}
use Rattle.fv_signal.specs.headline.Value.{Graph, OperandsBelow}
use Rattle.fv_signal.proofs.lemmas.Grown.{grown_is, length_grown}
use Rattle.fv_analysis.specs.headline.Stands.{node}
use Rattle.fv_analysis.specs.Stands.{IsDelayed, DelaysAreSample}
use Rattle.fv_analysis.specs.inner.Stands.{OperandsThere}

pub at_most_four : (op : Op) → inputs_of op ≤ 4
at_most_four Abs = omega arith
at_most_four Select2 = omega arith
at_most_four Select3 = omega arith
at_most_four op = omega arith

faster_itself : (a : Rate) → faster a rate.Constant ≡ a
faster_itself rate.Constant = refl
faster_itself rate.Control = refl
faster_itself rate.Sample = refl

faster_both : (a b c : Rate) → faster (faster a b) c ≡ faster a (faster b c)
faster_both rate.Constant b c = refl
faster_both rate.Sample b c = refl
faster_both rate.Control rate.Constant c = refl
faster_both rate.Control rate.Sample c = refl
faster_both rate.Control rate.Control rate.Constant = refl
faster_both rate.Control rate.Control rate.Control = refl
faster_both rate.Control rate.Control rate.Sample = refl

fastest_push : (rs : List Rate) (r : Rate) → fastest (rs ++ r ∷ []) ≡ faster (fastest rs) r
fastest_push [] r = faster_itself r
fastest_push (x ∷ rs) r = ap (faster x) (fastest_push rs r) ∙ sym (faster_both x (fastest rs) r)

-- one signal more
pub fastest_more : (f : ℕ → Rate) (ss : List ℕ) (i s : ℕ) (now : Rate) → i < length ss → s ≡ get_or ss i s → now ≡ fastest (map f (take i ss)) →
    faster now (f s) ≡ fastest (map f (take (i + 1) ss))
fastest_more f ss i s now l at e =
    ap (λ r. faster r (f s)) e ∙ sym (fastest_push (map f (take i ss)) (f s)) ∙ ap fastest (sym (map_push f (take i ss) s))
    ∙ ap (λ xs. fastest (map f xs)) (ap (λ x. take i ss ++ x ∷ []) at ∙ sym (take_more ss i s l))

-- what passes through a delay or a group
delayed_rate : (r : ℕ → Rate) (n : Signal) → IsDelayed n → rate_in r n ≡ rate.Sample
delayed_rate r (Delay x d max) h = refl
delayed_rate r (Back group i) h = refl
delayed_rate r (Member group i) h = refl
delayed_rate r (Write table w x i) h = refl
delayed_rate r n h = absurd h

pub delays_are_sample : (g : Graph) → DelaysAreSample g
delays_are_sample g s l h =
    grown_is (λ now. rate_in (rate_at now)) g.signals s rate.Sample (Const (pos 0)) l ∙ delayed_rate (rate_at (take s (rates g.signals))) (node g s) h

-- ---- what the calls need

-- an operation's operands are there where they are earlier
pub there_of : (g : Graph) (i : ℕ) (s : Signal) → OperandsBelow g i s → OperandsThere i s
there_of g i (Point op args) h = h
there_of g i (Input k) h = tt
there_of g i (Const n) h = tt
there_of g i (Control k) h = tt
there_of g i (Delay x d max) h = tt
there_of g i (Back group k) h = tt
there_of g i (Member group k) h = tt
there_of g i (Read table r) h = h
there_of g i (Write table w x r) h = tt

pub rates_long : (ss : List Signal) (i : ℕ) → i ≤ length ss → length (rates (take i ss)) ≡ i
rates_long ss i l = omega (arith, length_grown (λ now. rate_in (rate_at now)) [] (take i ss), length-take-le i ss l)
