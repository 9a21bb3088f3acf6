-- Bytes and classes of bytes. Source: this project's profile.
use Rattle.std.specs.Prelude.{ℕ, Bool, false, not, ◌&&◌, ◌||◌, nat_eq, nat_le, List, [], ◌∷◌}
pub use Rattle.fv_base.specs.headline.Digits.{is_digit}

-- ---- bytes by their names (ASCII)
-- a line feed
abbrev pub line_feed : ℕ
line_feed = 10

-- `"`
abbrev pub quote : ℕ
quote = 34

-- `(`
abbrev pub open_bracket : ℕ
open_bracket = 40

-- `)`
abbrev pub close_bracket : ℕ
close_bracket = 41

-- `*`
abbrev pub star : ℕ
star = 42

-- `+`
abbrev pub plus : ℕ
plus = 43

-- `-`
abbrev pub minus : ℕ
minus = 45

-- `.`
abbrev pub dot : ℕ
dot = 46

-- `/`
abbrev pub slash : ℕ
slash = 47

-- `<`
abbrev pub less : ℕ
less = 60

-- `=`
abbrev pub equals : ℕ
equals = 61

-- `>`
abbrev pub greater : ℕ
greater = 62

-- `_`
abbrev pub underscore : ℕ
underscore = 95

-- `{`
abbrev pub open_brace : ℕ
open_brace = 123

-- `}`
abbrev pub close_brace : ℕ
close_brace = 125

-- ---- classes
-- a tab, a line feed, a carriage return or a space
abbrev pub is_blank : ℕ → Bool
is_blank b = nat_eq b 9 || (nat_eq b line_feed || (nat_eq b 13 || nat_eq b 32))

-- a letter of ASCII (this project's profile)
abbrev pub is_letter : ℕ → Bool
is_letter b = (nat_le 65 b && nat_le b 90) || (nat_le 97 b && nat_le b 122)

-- `_` (this project's profile)
abbrev pub is_underscore : ℕ → Bool
is_underscore b = nat_eq b underscore

-- a letter, a digit or `_`
abbrev pub is_name_byte : ℕ → Bool
is_name_byte b = is_letter b || (is_digit b || is_underscore b)

-- the byte that ends a string (this project's profile)
abbrev pub is_quote : ℕ → Bool
is_quote b = nat_eq b quote

-- a byte that ends no line (this project's profile)
abbrev pub is_in_line : ℕ → Bool
is_in_line b = not (nat_eq b line_feed)

-- whether a list begins with a byte of a class
abbrev pub begins : (ℕ → Bool) → List ℕ → Bool
begins class [] = false
begins class (b ∷ bs) = class b
