-- What a text begins with, found from its first bytes.
use Rattle.std.specs.Prelude.{◌≡◌, ℕ, suc, ◌+◌, ◌<◌, Bool, ◌&&◌, ◌||◌, nat_eq, nat_lt, List, [], ◌∷◌, take, drop, Option, Some, None, is_some, if◌then◌else◌}
use Rattle.std.specs.Option.{option_map}
use Rattle.std.specs.List.{prefix_len}
use Rattle.fv_lex.specs.declared.token.Kind.TheVariants.{Name, Integer, Text, Sign}
use Rattle.fv_lex.specs.declared.refusal.Fault.TheVariants.{BadByte, Unclosed, RealLiteral, LiteralTooLarge}
use Rattle.fv_lex.specs.declared.scan.Class.{Class}
use Rattle.fv_lex.specs.declared.scan.Class.TheVariants as classes
use Rattle.fv_lex.specs.declared.next.Next.{Next}
use Rattle.fv_lex.specs.declared.next.Next.TheVariants.{End, Found, Refused}
use Rattle.fv_lex.specs.headline.Bytes.{is_blank, is_letter, is_digit, is_underscore, is_name_byte, is_quote, is_in_line, begins, star, dot, slash}
use Rattle.fv_base.specs.headline.Digits.{decimal_after}
use Rattle.fv_lex.specs.headline.Symbols.{singles, at_byte, double}
use Rattle.fv_lex.specs.headline.Pieces.{is_real_tail}
use Rattle.fv_base.specs.declared.limits.TheConstants.{GREATEST_LITERAL}

-- the byte is of the class (this project's profile)
abbrev pub is_in : Class → ℕ → Bool
is_in classes.NameByte b = is_name_byte b
is_in classes.Digit b = is_digit b
is_in classes.Underscore b = is_underscore b
is_in classes.InLine b = is_in_line b

-- the bytes up to the first quote, with it
abbrev pub to_quote : List ℕ → Option ℕ
to_quote [] = None
to_quote (b ∷ bs) = if is_quote b then Some 1 else option_map suc (to_quote bs)

-- the bytes up to the first `*/`, with it
abbrev pub to_close : List ℕ → Option ℕ
to_close [] = None
to_close (b ∷ bs) = if nat_eq b star && begins (λ c. nat_eq c slash) bs then Some 2 else option_map suc (to_close bs)

-- more, by n
abbrev pub more_by : ℕ → Option ℕ → Option ℕ
more_by n found = option_map (λ m. n + m) found

-- how many `_` stand at the front, if no letter follows them; otherwise 0
abbrev pub bare_underscores : List ℕ → ℕ
bare_underscores text = if begins is_letter (drop (prefix_len is_underscore text) text) then 0 else prefix_len is_underscore text

-- this many `_` at the front are known to be no part of a name; or the number is 0, and nothing is known
abbrev pub IsBare : ℕ → List ℕ → Type 0
IsBare n text = 0 < n → n ≡ bare_underscores text

-- what follows from a length that was found; where there is none, that something is not closed (this project's profile)
abbrev pub found_or : (ℕ → Next) → Option ℕ → Next
found_or f None = Refused Unclosed
found_or f (Some n) = f n

-- digits and what follows them
abbrev pub number_next : List ℕ → Next
number_next text =
    if is_real_tail (drop (prefix_len is_digit text) text) then Refused RealLiteral
    else (if nat_lt GREATEST_LITERAL (decimal_after 0 (take (prefix_len is_digit text) text)) then Refused LiteralTooLarge
    else Found (prefix_len is_digit text) (Some Integer))

-- what begins with `/`, by what follows that
abbrev pub slash_next : List ℕ → Next
slash_next [] = Found 1 (Some Sign)
slash_next (c ∷ cs) =
    if nat_eq c slash then Found (2 + prefix_len is_in_line cs) None
    else (if nat_eq c star then found_or (λ n. Found (2 + n) None) (to_close cs)
    else Found 1 (Some Sign))

-- what begins with a byte of its own, by what follows that
abbrev pub sign_next : ℕ → List ℕ → Next
sign_next b [] = if is_some (at_byte singles b) then Found 1 (Some Sign) else Refused BadByte
sign_next b (c ∷ cs) =
    if is_some (double b c) then Found 2 (Some Sign)
    else (if is_some (at_byte singles b) then Found 1 (Some Sign) else Refused BadByte)

-- the next piece by its first byte, where no run of `_` that no letter follows stands
abbrev pub first_next : ℕ → List ℕ → Next
first_next b bs =
    if is_blank b then Found 1 None
    else (if is_letter b || is_underscore b then Found (suc (prefix_len is_name_byte bs)) (Some Name)
    else (if is_digit b then number_next (b ∷ bs)
    else (if is_quote b then found_or (λ n. Found (1 + n) (Some Text)) (to_quote bs)
    else (if nat_eq b slash then slash_next bs
    else (if nat_eq b dot && begins is_digit bs then Refused RealLiteral
    else sign_next b bs)))))

-- the next piece of a text, or why there is none (this project's profile)
abbrev pub next_piece : List ℕ → Next
next_piece [] = End
next_piece (b ∷ bs) = if nat_lt 0 (bare_underscores (b ∷ bs)) then Found 1 (Some Sign) else first_next b bs
