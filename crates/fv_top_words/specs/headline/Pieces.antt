-- The words after the command word, cut into names and options (this project's profile).
use Rattle.std.specs.Prelude.{ℕ, Bool, false, ◌==◌, nat_lt, List, []}
use Rattle.std.specs.Prelude.{◌∷◌, map, length, Option, Some, None, option_map, bytes_eq, codes, if◌then◌else◌}
use Rattle.std.specs.List.{position_or_len, before_first, after_first}

-- a file's name or a number, or an option with its value
pub data Piece : Type 0 where
  Plain : (word : List ℕ) → Piece
  Given : (name value : List ℕ) → Piece

-- a word begins with a dash, and is more than that
abbrev pub is_dashed : List ℕ → Bool
is_dashed [] = false
is_dashed (b ∷ []) = false
is_dashed (b ∷ c ∷ w) = b == 45

-- the byte of `=`
abbrev pub is_equals : ℕ → Bool
is_equals b = b == 61

-- one of a word's bytes is `=`
abbrev pub has_equals : List ℕ → Bool
has_equals w = nat_lt (position_or_len is_equals w) (length w)

-- a piece in front of those after it
abbrev pub in_front : Piece → Option (List Piece) → Option (List Piece)
in_front p behind = option_map (λ ps. p ∷ ps) behind

-- The pieces of the words, of which the first may be the value of an option; or nothing where the last option has no value. After
-- `--` all are plain; an option with `=` has its value after the first one, and any other in the next word.
abbrev pub cut : (option : Option (List ℕ)) → List (List ℕ) → Option (List Piece)
cut None [] = Some []
cut (Some name) [] = None
cut (Some name) (w ∷ ws) = in_front (Given name w) (cut None ws)
cut None (w ∷ ws) =
    if is_dashed w then (if bytes_eq w (codes "--") then Some (map Plain ws)
    else (if has_equals w then in_front (Given (before_first is_equals w) (after_first is_equals w)) (cut None ws)
    else cut (Some w) ws))
    else in_front (Plain w) (cut None ws)
