-- Laws of canonical numbers.
use Rattle.std.specs.Prelude.{◌≡◌, ◌↔◌, ℕ}
use Rattle.fv_lex.specs.headline.Token.{Lexed}
use Rattle.fv_parse.specs.headline.Trees.{text_of}
use Rattle.fv_parse.specs.Trees.{first_named}

-- Two tokens have one canonical number exactly where they have the same bytes (this project's profile).
abbrev pub SameNumbersSameBytes : Type 0
SameNumbersSameBytes = (l : Lexed) (a b : ℕ) → (first_named l a ≡ first_named l b) ↔ (text_of l a ≡ text_of l b)

-- The token that has a token's canonical number has its bytes (this project's profile).
abbrev pub NumbersAreOfTheBytes : Type 0
NumbersAreOfTheBytes = (l : Lexed) (a : ℕ) → text_of l (first_named l a) ≡ text_of l a
