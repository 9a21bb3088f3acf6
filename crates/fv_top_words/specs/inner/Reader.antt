-- The words, read one after another: what may stand next, and the piece that ends with a word (this project's profile).
use Rattle.std.specs.Prelude.{ℕ, List, [], ◌∷◌, Option, Some, None, option_map, bytes_eq, codes, if◌then◌else◌}
use Rattle.std.specs.List.{before_first, after_first}
use Rattle.fv_top_words.specs.headline.Pieces.{Piece, Plain, Given, is_dashed, is_equals, has_equals}

-- ---- one word

-- what a word is, where options may stand: plain, the end of the options, an option whose value is the next word, or one with its value
pub data Kind : Type 0 where
  Bare : Kind
  Ends : Kind
  Apart : Kind
  Joined : (name value : List ℕ) → Kind

-- an option is cut at its first `=`
abbrev pub option_kind : List ℕ → Kind
option_kind w = if has_equals w then Joined (before_first is_equals w) (after_first is_equals w) else Apart

-- what the word is
abbrev pub kind_of : List ℕ → Kind
kind_of w = if is_dashed w then (if bytes_eq w (codes "--") then Ends else option_kind w) else Bare

-- ---- all of them

-- what may stand next: anything, the value of an option, or names alone
pub data State : Type 0 where
  Any : State
  Value : (name : List ℕ) → State
  Names : State

-- what may follow a word of this kind
abbrev pub after_kind : Kind → List ℕ → State
after_kind Bare w = Any
after_kind Ends w = Names
after_kind Apart w = Value w
after_kind (Joined name value) w = Any

-- what may follow this word
abbrev pub state_after : State → List ℕ → State
state_after Any w = after_kind (kind_of w) w
state_after (Value name) w = Any
state_after Names w = Names

-- the piece that a word of this kind is
abbrev pub kind_piece : Kind → List ℕ → Option Piece
kind_piece Bare w = Some (Plain w)
kind_piece Ends w = None
kind_piece Apart w = None
kind_piece (Joined name value) w = Some (Given name value)

-- the piece that ends with this word
abbrev pub piece_of : State → List ℕ → Option Piece
piece_of Any w = kind_piece (kind_of w) w
piece_of (Value name) w = Some (Given name w)
piece_of Names w = Some (Plain w)

-- the pieces of no more words
abbrev pub pieces_so_far : State → Option (List Piece)
pieces_so_far Any = Some []
pieces_so_far (Value name) = None
pieces_so_far Names = Some []

-- the piece in front of those after it, if there is one
abbrev pub with_piece : Option Piece → List Piece → List Piece
with_piece None ps = ps
with_piece (Some p) ps = p ∷ ps

-- the pieces of the words, or nothing where the last option has no value
abbrev pub pieces_from : State → List (List ℕ) → Option (List Piece)
pieces_from s [] = pieces_so_far s
pieces_from s (w ∷ ws) = option_map (with_piece (piece_of s w)) (pieces_from (state_after s w) ws)

-- ---- one option

-- an option is given once
abbrev pub once : Option (List ℕ) → (value : List ℕ) → Option (Option (List ℕ))
once None value = Some (Some value)
once (Some v) value = None
