-- Nodes of a graph: one that is read, and operands that are there.
use Rattle.std.proofs.Common.{◌≡◌, ℕ, zero, suc, ◌<◌, ◌≤◌, ℤ, List, [], ◌∷◌, length, get_or, subst, arith, pos}
use Rattle.std.proofs.lemmas.List.{get_or_read}
use Rattle.std.proofs.lemmas.List.Elements.{All-weaker}
use Rattle.fv_signal.specs.declared.signal.Signal.{Signal}
use Rattle.fv_signal.specs.declared.signal.Signal.TheVariants.{Input, Const, Control, Point, Delay, Back, Member, Read, Write}
use Rattle.fv_signal.specs.headline.Value.{Graph, OperandsBelow}
use Rattle.fv_analysis.specs.headline.Stands.{node}
use Rattle.fv_split_plan.specs.inner.Separated.{OperandsWithin}

-- a signal that was read
pub node_read : (g : Graph) (s n : ℕ) (x : Signal) → s < length g.signals → n ≡ s → x ≡ get_or g.signals n x → x ≡ node g s
node_read g s n x l e h = get_or_read g.signals s x l (subst (λ m. x ≡ get_or g.signals m x) e h) (Const (pos 0))

-- operands that are lower than a place are lower than what is no lower
pub operands_within : (g : Graph) (s n : ℕ) (x : Signal) → s ≤ n → OperandsBelow g s x → OperandsWithin n x
operands_within g s n (Input i) l b = tt
operands_within g s n (Const z) l b = tt
operands_within g s n (Control k) l b = tt
operands_within g s n (Point op args) l b = All-weaker (λ a. a < s) (λ a. a < n) (λ a m. omega (arith, l, m)) args b
operands_within g s n (Delay x d max) l b = (omega (arith, b.0), omega (arith, b.1))
operands_within g s n (Back group i) l b = tt
operands_within g s n (Member group i) l b = tt
operands_within g s n (Read table r) l b = omega (arith, b)
operands_within g s n (Write table w x r) l b = (omega (arith, b.0), omega (arith, b.1), omega (arith, b.2))

-- a list that has an item is there
pub listed : (lists : List (List ℤ)) (k : ℕ) → 0 < length (get_or lists k []) → k < length lists
listed [] k h = absurd (omega (arith, h))
listed (xs ∷ xss) zero h = omega arith
listed (xs ∷ xss) (suc k) h = let z = listed xss k h in omega (arith, z)
