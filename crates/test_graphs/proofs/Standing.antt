-- Signals that may stand at their places in a graph.
use Rattle.std.proofs.Common.{ℕ, List, [], ◌∷◌, ◌++◌, zero, suc, All, ℤ, w32, FitsSigned, arith}
use Rattle.std.proofs.lemmas.Int.{ints}
use Rattle.std.proofs.lemmas.List.Elements.{All-head, All-tail}
use Rattle.fv_num.specs.headline.Words.{argument}
use Rattle.fv_signal.specs.declared.signal.Signal.{Signal}
use Rattle.fv_signal.specs.declared.signal.Signal.TheVariants.{Input, Const, Control, Point, Delay, Back, Member, Read, Write}
use Rattle.fv_signal.specs.headline.Value.{Graph, HasNumber, HaveNumbers, NamesWithin, OperandsBelow}

-- a signal may stand at this place
pub record Stands (g : Graph) (i : ℕ) (x : Signal) : Type 0 where
  pub ordered : OperandsBelow g i x
  pub closed : NamesWithin g x
  pub number : HasNumber x

-- whatever the outputs are
pub stands_with : (g : Graph) (outs : List ℕ) (i : ℕ) (x : Signal) → Stands g i x → Stands (record g { outputs = outs }) i x
stands_with g outs i (Input k) s = record { ordered = s.ordered; closed = s.closed; number = s.number }
stands_with g outs i (Const n) s = record { ordered = s.ordered; closed = s.closed; number = s.number }
stands_with g outs i (Control k) s = record { ordered = s.ordered; closed = s.closed; number = s.number }
stands_with g outs i (Point op args) s = record { ordered = s.ordered; closed = s.closed; number = s.number }
stands_with g outs i (Delay x d max) s = record { ordered = s.ordered; closed = s.closed; number = s.number }
stands_with g outs i (Back group k) s = record { ordered = s.ordered; closed = s.closed; number = s.number }
stands_with g outs i (Member group k) s = record { ordered = s.ordered; closed = s.closed; number = s.number }
stands_with g outs i (Read table r) s = record { ordered = s.ordered; closed = s.closed; number = s.number }
stands_with g outs i (Write table w x r) s = record { ordered = s.ordered; closed = s.closed; number = s.number }

item_fits : (T : List ℤ) (i : ℕ) → All (λ n. FitsSigned w32 n) T → FitsSigned w32 (argument T i)
item_fits [] i h = omega (arith, ints)
item_fits (x ∷ xs) zero h = All-head (λ n. FitsSigned w32 n) x xs h
item_fits (x ∷ xs) (suc i) h = item_fits xs i (All-tail (λ n. FitsSigned w32 n) x xs h)

pub none_fit : HaveNumbers []
none_fit t i = omega (arith, ints)

-- tables, and one more after them
pub more_fit : (tables : List (List ℤ)) (T : List ℤ) → HaveNumbers tables → All (λ n. FitsSigned w32 n) T → HaveNumbers (tables ++ T ∷ [])
more_fit [] T h fits zero i = item_fits T i fits
more_fit [] T h fits (suc t) i = omega (arith, ints)
more_fit (x ∷ xs) T h fits zero i = h 0 i
more_fit (x ∷ xs) T h fits (suc t) i = more_fit xs T (λ u. h (suc u)) fits t i
