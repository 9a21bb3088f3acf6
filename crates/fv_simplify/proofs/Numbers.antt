-- Operations on signals of which some are numbers.
use Rattle.std.proofs.Common.{◌≡◌, ℕ, zero, suc, ◌<◌, ◌≤◌, List, [], ◌∷◌, length, take, map, get_or, refl, ap, ap₂, ◌∙◌, arith, ℤ, pos, Some, None}
use Rattle.std.specs.Prelude.{Option}
use Rattle.std.specs.Option.{option_map}
use Rattle.fv_num.specs.declared.op.Op.{Op}
use Rattle.fv_num.specs.declared.op.Op.TheVariants.{Abs, Select2, Select3}
use Rattle.fv_num.specs.headline.Words.{apply_of, inputs_of}
use Rattle.fv_signal.specs.declared.signal.Signal.TheVariants.{Const}
use Rattle.fv_signal.specs.headline.Value.{Graph}
use Rattle.fv_share.specs.Drafts.{Draft, put}
use Rattle.fv_simplify.specs.Choices.{left_by, or_else, choice, pair}
use Rattle.fv_simplify.specs.Nodes.{number_at, known, before, numbers}
use Rattle.fv_simplify.specs.Passing.{so_far, chosen, folded}

before_none : (k : Option ℤ) → before k None ≡ None
before_none None = refl
before_none (Some n) = refl

-- where one is none, not all are numbers
pub numbers_none : (g : Graph) (ws : List ℕ) (i : ℕ) → i < length ws → number_at g (get_or ws i 0) ≡ None → numbers g ws ≡ None
numbers_none g [] i l e = absurd (omega (arith, l))
numbers_none g (w ∷ ws) zero l e = ap (λ k. before k (numbers g ws)) e
numbers_none g (w ∷ ws) (suc i) l e = ap (before (number_at g w)) (numbers_none g ws i (omega (arith, l)) e) ∙ before_none (number_at g w)

-- where each is the number at its place, all are these
pub numbers_some : (g : Graph) (ws : List ℕ) (ns : List ℤ) → length ns ≡ length ws
    → ((i : ℕ) → i < length ws → number_at g (get_or ws i 0) ≡ Some (get_or ns i (pos 0))) → numbers g ws ≡ Some ns
numbers_some g [] [] l h = refl
numbers_some g [] (n ∷ ns) l h = absurd (omega (arith, l))
numbers_some g (w ∷ ws) [] l h = absurd (omega (arith, l))
numbers_some g (w ∷ ws) (n ∷ ns) l h =
    ap₂ before (h 0 (omega arith)) (numbers_some g ws ns (omega (arith, l)) (λ i m. h (suc i) (omega (arith, m))))

-- an operation whose number is known, and one whose is not
pub folded_some : (d : Draft) (op : Op) (args : List ℕ) (n : ℤ) (o : Option (List ℤ)) → Some n ≡ option_map (apply_of op) o
    → put d (Const n) ≡ folded d op args o
folded_some d op args n None e = absurd cc
folded_some d op args n (Some ns) e = let z : n ≡ apply_of op ns = cc in ap (λ k. put d (Const k)) z

pub folded_none : (d : Draft) (op : Op) (args : List ℕ) (o : Option (List ℤ)) → None ≡ option_map (apply_of op) o
    → chosen d op args (choice op (known (so_far d) (take (inputs_of op) args))) ≡ folded d op args o
folded_none d op args None e = refl
folded_none d op args (Some ns) e = absurd cc

-- what decides of an operation on one number
one_decides_not : (place other : ℕ) (k : Option ℤ) → left_by Abs place other k ≡ None
one_decides_not place other None = refl
one_decides_not place other (Some n) = refl

-- the first two operands are all that a choice knows
pub known_pair : (g : Graph) (op : Op) (args : List ℕ) → length args ≡ 4
    → choice op (pair (number_at g (get_or args 0 0)) (number_at g (get_or args 1 0))) ≡ choice op (known g (take (inputs_of op) args))
known_pair g op [] l = absurd (omega (arith, l))
known_pair g op (a ∷ []) l = absurd (omega (arith, l))
known_pair g Abs (a ∷ b ∷ rest) l = ap (λ x. or_else x (left_by Abs 0 1 (number_at g a))) (one_decides_not 1 0 (number_at g b))
known_pair g op (a ∷ b ∷ rest) l = refl

pub inputs_most : (op : Op) → inputs_of op ≤ 4
inputs_most Abs = omega arith
inputs_most Select2 = omega arith
inputs_most Select3 = omega arith
inputs_most op = omega arith

-- four operands, one after another
pub map_four : (f : ℕ → ℕ) (args : List ℕ) → length args ≡ 4
    → map f args ≡ f (get_or args 0 0) ∷ f (get_or args 1 0) ∷ f (get_or args 2 0) ∷ f (get_or args 3 0) ∷ []
map_four f [] l = absurd (omega (arith, l))
map_four f (a ∷ []) l = absurd (omega (arith, l))
map_four f (a ∷ b ∷ []) l = absurd (omega (arith, l))
map_four f (a ∷ b ∷ c ∷ []) l = absurd (omega (arith, l))
map_four f (a ∷ b ∷ c ∷ e ∷ []) l = refl
map_four f (a ∷ b ∷ c ∷ e ∷ x ∷ rest) l = absurd (omega (arith, l))
