-- The plain words of a command and its options with their values, as they are spelled (this project's profile).
use Rattle.std.specs.Prelude.{ℕ, nat_lt, List, [], ◌∷◌, ◌++◌, length, Option, Some, None, is_some, option_map, option_and_then, bytes_eq, codes, if◌then◌else◌}
use Rattle.fv_top_words.specs.headline.Pieces.{Piece, Plain, Given, cut}

-- options by their names, each with its value where it is given
abbrev pub Options : Type 0
Options = List (List ℕ × Option (List ℕ))

-- the options that there are, none of them given
abbrev pub no_options : Options
no_options =
    (codes "--controls", None) ∷ (codes "--block", None) ∷ (codes "--vector", None) ∷ (codes "--workers", None)
    ∷ (codes "--bits", None) ∷ (codes "--frames", None) ∷ (codes "--rate", None) ∷ []

-- the value of the option of this name, where it is given
abbrev pub value_of : (name : List ℕ) → Options → Option (List ℕ)
value_of name [] = None
value_of name (o ∷ os) = if bytes_eq name o.0 then o.1 else value_of name os

-- The options with this value of the option of this name. None where no option has the name, or it has a value already.
abbrev pub put : (name value : List ℕ) → Options → Option Options
put name value [] = None
put name value (o ∷ os) =
    if bytes_eq name o.0 then (if is_some o.1 then None else Some ((o.0, Some value) ∷ os))
    else option_map (λ rest. o ∷ rest) (put name value os)

-- the plain words, and the options
pub record Texts : Type 0 where
  pub plain : List (List ℕ)
  pub options : Options

-- the texts with one plain word more: no command has more than three
abbrev pub add : List ℕ → Texts → Option Texts
add w t = if nat_lt (length t.plain) 3 then Some (record t { plain = t.plain ++ w ∷ [] }) else None

-- the texts with one piece more, if it is allowed
abbrev pub take_piece : Piece → Texts → Option Texts
take_piece (Plain w) t = add w t
take_piece (Given name value) t = option_map (λ os. record t { options = os }) (put name value t.options)

-- the texts with these pieces more, if each is allowed
abbrev pub gathered : Texts → List Piece → Option Texts
gathered t [] = Some t
gathered t (p ∷ ps) = option_and_then (λ u. gathered u ps) (take_piece p t)

-- the texts of the words after the command word, or nothing where they are of no form
abbrev pub texts_of : List (List ℕ) → Option Texts
texts_of ws = option_and_then (gathered (record { plain = []; options = no_options })) (cut None ws)
