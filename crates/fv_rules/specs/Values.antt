-- What calls say beside `headline/Values`: values and environments, and what a name stands for (Faust manual; this project's profile). They
-- are trees; the code keeps arenas. A name is its bytes.
use Rattle.std.specs.Prelude.{◌≡◌, ℕ, ◌≤◌, pos, neg_ℤ}
use Rattle.fv_diagram.specs.Words.{wrap}
use Rattle.fv_base.specs.declared.limits.TheConstants.{GREATEST_LITERAL}

-- Numbers are 32-bit integers that wrap. A literal of a text is no greater than the greatest one, so it stays.
abbrev pub LiteralsStay : Type 0
LiteralsStay = (n : ℕ) → n ≤ GREATEST_LITERAL → (wrap (pos n) ≡ pos n) × (wrap (neg_ℤ (pos n)) ≡ neg_ℤ (pos n))
