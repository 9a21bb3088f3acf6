-- What a text may be cut into, apart from any way to find it. Source: Faust manual, cut down by this project's profile.
use Rattle.std.specs.Prelude.{◌≡◌, ℕ, ◌<◌, ◌≤◌, Bool, true, false, not, ◌&&◌, ◌||◌, nat_eq, List, [], ◌∷◌, ◌++◌, Option, Some, None, if◌then◌else◌, is_some}
use Rattle.std.specs.List.{list_all}
use Rattle.fv_base.specs.declared.limits.TheConstants.{GREATEST_LITERAL}
use Rattle.fv_lex.specs.declared.token.Kind.{Kind}
use Rattle.fv_lex.specs.declared.token.Kind.TheVariants.{Name, Integer, Text, Sign}
use Rattle.fv_lex.specs.declared.refusal.Fault.{Fault}
use Rattle.fv_lex.specs.declared.refusal.Fault.TheVariants.{BadByte, Unclosed, RealLiteral, LiteralTooLarge}
use Rattle.fv_lex.specs.headline.Bytes.{is_blank, is_letter, is_digit, is_underscore, is_name_byte, is_quote}
use Rattle.fv_lex.specs.headline.Bytes.{is_in_line, begins, line_feed, quote, star, plus, minus, dot, slash}
use Rattle.fv_lex.specs.headline.Symbols.{sign, value}

-- ---- tokens

-- a letter, with `_` alone before it, and after it letters, digits and `_`
abbrev pub is_name : List ℕ → Bool
is_name [] = false
is_name (b ∷ bs) = if is_underscore b then is_name bs else is_letter b && list_all is_name_byte bs

-- digits, at least one (this project's profile)
abbrev pub is_integer : List ℕ → Bool
is_integer [] = false
is_integer (b ∷ bs) = is_digit b && list_all is_digit bs

-- nothing
abbrev pub is_nothing : List ℕ → Bool
is_nothing [] = true
is_nothing (b ∷ bs) = false

-- what follows a quote: bytes that are no quote, and a quote
abbrev pub closes : List ℕ → Bool
closes [] = false
closes (b ∷ bs) = if is_quote b then is_nothing bs else closes bs

-- a string: a quote, bytes without a quote, and a quote (this project's profile)
abbrev pub is_text : List ℕ → Bool
is_text [] = false
is_text (b ∷ bs) = is_quote b && closes bs

-- bytes are a token of this kind
abbrev pub is_token : Kind → List ℕ → Bool
is_token Name bytes = is_name bytes
is_token Integer bytes = is_integer bytes
is_token Text bytes = is_text bytes
is_token Sign bytes = is_some (sign bytes)

-- no longer token begins where these bytes stand, before that rest
abbrev pub IsLongest : List ℕ → List ℕ → Type 0
IsLongest bytes rest = (kind : Kind) (b : ℕ) (more tail : List ℕ) → rest ≡ b ∷ (more ++ tail) → is_token kind (bytes ++ b ∷ more) ≡ false

-- no token begins the text
abbrev pub BeginsNoToken : List ℕ → Type 0
BeginsNoToken text = (kind : Kind) (bytes rest : List ℕ) → text ≡ bytes ++ rest → is_token kind bytes ≡ false

-- ---- real literals

-- a sign of an exponent (this project's profile)
abbrev pub is_plus_or_minus : ℕ → Bool
is_plus_or_minus b = nat_eq b plus || nat_eq b minus

-- what follows the `e` or `E` of a real literal: a digit, or `+` or `-` and a digit
abbrev pub is_exponent : List ℕ → Bool
is_exponent [] = false
is_exponent (b ∷ bs) = is_digit b || (is_plus_or_minus b && begins is_digit bs)

-- what makes a real literal of the digits before it: `.`, or an exponent, or an `f` after which no letter, digit or `_` comes
abbrev pub is_real_tail : List ℕ → Bool
is_real_tail [] = false
is_real_tail (b ∷ bs) = nat_eq b dot || (((nat_eq b 101 || nat_eq b 69) && is_exponent bs) || (nat_eq b 102 && not (begins is_name_byte bs)))

-- a real literal begins the text
pub data BeginsReal : List ℕ → Type 0 where
  fraction : {d : ℕ} {rest : List ℕ} → is_digit d ≡ true → BeginsReal (dot ∷ d ∷ rest)
  real : (digits rest : List ℕ) → is_integer digits ≡ true → is_real_tail rest ≡ true → BeginsReal (digits ++ rest)

-- ---- comments

-- `//` or `/*` comes first (this project's profile)
abbrev pub begins_comment : List ℕ → Bool
begins_comment [] = false
begins_comment (b ∷ bs) = nat_eq b slash && begins (λ c. nat_eq c slash || nat_eq c star) bs

-- nothing, or a line feed first
abbrev pub ends_line : List ℕ → Bool
ends_line [] = true
ends_line (b ∷ bs) = nat_eq b line_feed

-- `*/` stands somewhere
abbrev pub has_close : List ℕ → Bool
has_close [] = false
has_close (b ∷ bs) = (nat_eq b star && begins (λ c. nat_eq c slash) bs) || has_close bs

-- ---- pieces

-- These bytes are a piece of a text, before that rest: a token of a kind, or a blank byte or a comment, of no kind.
pub data IsPiece : List ℕ → List ℕ → Option Kind → Type 0 where
  blank_byte : {b : ℕ} {rest : List ℕ} → is_blank b ≡ true → IsPiece (b ∷ []) rest None
  line_comment : {body rest : List ℕ} → list_all is_in_line body ≡ true → ends_line rest ≡ true → IsPiece (slash ∷ slash ∷ body) rest None
  block_comment : (body : List ℕ) {rest : List ℕ} → has_close body ≡ false → IsPiece (slash ∷ star ∷ (body ++ star ∷ slash ∷ [])) rest None
  longest_token : {bytes rest : List ℕ} {kind : Kind}
      → is_token kind bytes ≡ true → IsLongest bytes rest → begins_comment (bytes ++ rest) ≡ false → (BeginsReal (bytes ++ rest) → ⊥)
      → (kind ≡ Integer → value bytes ≤ GREATEST_LITERAL) → IsPiece bytes rest (Some kind)

-- Why no piece begins a text.
pub data IsFault : List ℕ → Fault → Type 0 where
  unclosed_text : {body : List ℕ} → list_all (λ b. not (is_quote b)) body ≡ true → IsFault (quote ∷ body) Unclosed
  unclosed_comment : {body : List ℕ} → has_close body ≡ false → IsFault (slash ∷ star ∷ body) Unclosed
  real_literal : {text : List ℕ} → BeginsReal text → IsFault text RealLiteral
  large_literal : (bytes rest : List ℕ) → is_integer bytes ≡ true
      → IsLongest bytes rest → (BeginsReal (bytes ++ rest) → ⊥) → GREATEST_LITERAL < value bytes → IsFault (bytes ++ rest) LiteralTooLarge
  bad_byte : {b : ℕ} {bs : List ℕ} → is_blank b ≡ false → is_quote b ≡ false → BeginsNoToken (b ∷ bs) → IsFault (b ∷ bs) BadByte
