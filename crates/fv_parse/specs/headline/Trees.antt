-- A tree, as contracts see it: the tokens, the nodes and the number of the outermost list.
use Rattle.std.specs.Prelude.{ℕ, ◌-◌, List, [], length, take, drop, slice_get, unwrap_or}
use Rattle.fv_lex.specs.declared.token.Place.{Place}
use Rattle.fv_lex.specs.headline.Token.{Lexed, places_of, texts_of}
pub use Rattle.fv_parse_tree.specs.Arena.{PartsBelow, AllBelow}

-- the place from which a text has this many tokens left: that of a token, or the end of the text where none is left (this project's
-- profile)
abbrev pub place_from : Lexed → ℕ → Place
place_from l start = unwrap_or (slice_get (places_of l.tokens) (length l.tokens - start)) l.end

-- the place of a token (this project's profile)
abbrev pub place_at : Lexed → ℕ → Place
place_at l n = unwrap_or (slice_get (places_of l.tokens) n) l.end

-- the bytes of a token (this project's profile)
abbrev pub text_of : Lexed → ℕ → List ℕ
text_of l n = unwrap_or (slice_get (texts_of l.tokens) n) []

-- the bytes of a string without its quotes (this project's profile)
abbrev pub label_of : Lexed → ℕ → List ℕ
label_of l n = take (length (text_of l n) - 2) (drop 1 (text_of l n))
