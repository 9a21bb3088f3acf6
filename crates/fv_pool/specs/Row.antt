-- A row of cells of which the front is shared for good and the rest is owned.
--     cell_after p n          where the cell lies that comes n cells after p
--     ends_as γ xs      the loan named γ ends with the list xs after it
--     ties γ δ xs       where the loan δ ends with ws after it, the loan γ ends with xs ++ ws
--     halves γ γ₁ γ₂    where γ₁ ends with xs and γ₂ with ys, γ ends with xs ++ ys
use Rattle.std.specs.Prelude.{ℕ, ◌+◌, ◌*◌, List, ◌++◌}
use lib.IntN.{ℤ}
use base.Fml.{Fml, GName, fres, fall, fwand, fsep}
use denote.Array.{Array}
use denote.Builtin.{i32}

abbrev pub cell_after : ℕ × ℕ → ℕ → ℕ × ℕ
cell_after p n = (p.0, n * 4 + p.1)

abbrev pub ends_as : GName → List ℤ → Fml
ends_as γ xs = fres γ ((Array i32 0).coded.code xs)

abbrev pub ties : GName → GName → List ℤ → Fml
ties γ δ xs = fall (List ℤ) (λ ws. fwand (ends_as δ ws) (ends_as γ (xs ++ ws)))

abbrev pub halves : GName → GName → GName → Fml
halves γ γ₁ γ₂ = fall (List ℤ × List ℤ) (λ w. fwand (fsep (ends_as γ₁ w.0) (ends_as γ₂ w.1)) (ends_as γ (w.0 ++ w.1)))
