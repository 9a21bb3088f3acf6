-- Numbers that are written in decimal digits (this project's profile).
use Rattle.std.specs.Prelude.{ℕ, ◌+◌, ◌-◌, ◌*◌, Bool, ◌&&◌, nat_le, List, [], ◌∷◌, length, Option, Some, None, if◌then◌else◌}
use Rattle.std.specs.List.{list_all}

-- the bytes of the digits 0 to 9
abbrev pub is_digit : ℕ → Bool
is_digit b = nat_le 48 b && nat_le b 57

-- one to ten digits
abbrev pub is_decimal : List ℕ → Bool
is_decimal ds = nat_le 1 (length ds) && nat_le (length ds) 10 && list_all is_digit ds

-- the number that digits write after this one
abbrev pub decimal_after : ℕ → List ℕ → ℕ
decimal_after n [] = n
decimal_after n (d ∷ ds) = decimal_after (n * 10 + (d - 48)) ds

-- the number that one to ten digits write
abbrev pub decimal_of : List ℕ → Option ℕ
decimal_of ds = if is_decimal ds then Some (decimal_after 0 ds) else None
