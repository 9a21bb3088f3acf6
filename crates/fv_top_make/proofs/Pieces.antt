-- Pieces of a text that a test finds: blank bytes, names, integers, and signs of one or two bytes.
use Rattle.std.proofs.Common.{◌≡◌, ℕ, ◌≤◌, Bool, true, false, not, ◌&&◌, ◌||◌, List, [], ◌∷◌, ◌++◌, Option, Some, None, is_some}
use Rattle.std.proofs.Common.{if◌then◌else◌, refl, ap, subst, nat_eq, nat_le, arith, ne_eqb, leb-true, ◌∙◌, eqb-true, sym, drop, ⊎_elim}
use Rattle.std.specs.List.{list_all, prefix_len}
use Rattle.std.proofs.lemmas.Bool.{and_parts, or_parts, or_cases}
use Rattle.fv_lex.specs.declared.token.Kind.{Kind}
use Rattle.fv_lex.specs.declared.token.Kind.TheVariants.{Name, Integer, Text, Sign}
use Rattle.fv_lex.specs.headline.Bytes.{is_blank, is_letter, is_digit, is_underscore, is_name_byte, is_quote, begins, dot, underscore}
use Rattle.fv_lex.specs.headline.Symbols.{at_byte, singles, double, value}
use Rattle.fv_lex.specs.headline.Pieces.{is_name, is_integer, is_token, is_real_tail, begins_comment, IsLongest, IsPiece}
use Rattle.fv_lex.specs.headline.Pieces.{blank_byte, longest_token}
use Rattle.fv_lex.specs.headline.Cuts.{depth_after, Cut, Cuts, piece_first}
use Rattle.fv_lex.proofs.lemmas.Runs.{Stops}
use Rattle.fv_lex.proofs.lemmas.Classes.{digit_range, no_digit, no_name, no_integer, no_text}
use Rattle.fv_lex.proofs.lemmas.Sound.{digits_longest, name_longest, no_comment, no_dot, no_real, no_real_digits, tail_behind, wire_longest}
use Rattle.fv_lex.specs.Limits.TheConstants.{DEEPEST_NESTING, GREATEST_LITERAL}

-- ---- tests

-- the kind of a piece, by its first byte
abbrev pub kind_of : List ℕ → Option Kind
kind_of [] = None
kind_of (b ∷ bs) = if is_blank b then None else (if is_letter b then Some Name else (if is_digit b then Some Integer else Some Sign))

-- a byte that begins signs alone
abbrev pub is_bare : ℕ → Bool
is_bare b = not (is_underscore b || (is_letter b || (is_digit b || (is_quote b || nat_eq b dot))))

-- `_`, where no letter or `_` follows it
abbrev pub is_wire : List ℕ → List ℕ → Bool
is_wire (b ∷ []) rest = is_underscore b && not (begins is_letter rest || begins is_underscore rest)
is_wire bytes rest = false

-- these bytes are a sign before that rest
abbrev pub is_sign : List ℕ → List ℕ → Bool
is_sign [] rest = false
is_sign (b ∷ []) rest =
    is_bare b && (is_some (at_byte singles b) && (not (begins (λ c. is_some (double b c)) rest) && not (begins_comment (b ∷ rest))))
is_sign (b ∷ c ∷ []) rest = is_bare b && (is_some (double b c) && not (begins_comment (b ∷ c ∷ rest)))
is_sign (b ∷ c ∷ d ∷ bs) rest = false

-- these bytes are a piece of this kind before that rest
abbrev pub is_piece : Option Kind → List ℕ → List ℕ → Bool
is_piece None (b ∷ []) rest = is_blank b
is_piece (Some Name) (b ∷ bs) rest = nat_le 65 b && (is_name (b ∷ bs) && not (begins is_name_byte rest))
is_piece (Some Integer) (b ∷ bs) rest =
    is_digit b && (list_all is_digit bs
    && (not (begins is_digit rest) && (not (is_real_tail rest) && nat_le (value (b ∷ bs)) GREATEST_LITERAL)))
is_piece (Some Sign) bytes rest = is_wire bytes rest || is_sign bytes rest
is_piece kind bytes rest = false

-- ---- what they find

is_not : (b : Bool) → not b ≡ true → b ≡ false
is_not true e = absurd cc
is_not false e = refl

pub stops : (p : ℕ → Bool) (rest : List ℕ) → begins p rest ≡ false → Stops p rest
stops p [] e = tt
stops p (b ∷ bs) e = e

pub number_piece : (d : ℕ) (ds rest : List ℕ) → is_digit d ≡ true → list_all is_digit ds ≡ true → begins is_digit rest ≡ false
    → is_real_tail rest ≡ false → value (d ∷ ds) ≤ GREATEST_LITERAL → IsPiece (d ∷ ds) rest (Some Integer)
number_piece d ds rest first others ends unreal small =
    let all : is_integer (d ∷ ds) ≡ true = rw (first, others) refl in
    let r = digit_range d first in
    let longest = digits_longest d ds rest first (stops is_digit rest ends) in
    let tail = tail_behind (d ∷ ds) rest all (stops is_digit rest ends) in
    longest_token all longest (no_comment d (ds ++ rest) (ne_eqb d 47 (λ q. omega arith)))
    (no_real_digits d (ds ++ rest) first (ap is_real_tail tail ∙ unreal)) (λ q. small)

name_piece : (b : ℕ) (bs rest : List ℕ) → 65 ≤ b → is_name (b ∷ bs) ≡ true → begins is_name_byte rest ≡ false
    → IsPiece (b ∷ bs) rest (Some Name)
name_piece b bs rest high name ends =
    let longest = name_longest b bs rest high (stops is_name_byte rest ends) in
    let unreal = no_real b (bs ++ rest) (no_digit b (omega arith)) (no_dot b (bs ++ rest) (ne_eqb b 46 (λ q. omega arith))) in
    longest_token name longest (no_comment b (bs ++ rest) (ne_eqb b 47 (λ q. omega arith))) unreal (λ q. absurd cc)

-- what a byte that begins signs alone is not
record Bare (b : ℕ) : Type 0 where
  under : is_underscore b ≡ false
  letter : is_letter b ≡ false
  digit : is_digit b ≡ false
  quoted : is_quote b ≡ false
  point : nat_eq b dot ≡ false

bare : (b : ℕ) → is_bare b ≡ true → Bare b
bare b e =
    let all = or_parts (is_underscore b) _ (is_not _ e) in
    let others = or_parts (is_letter b) _ all.1 in
    let further = or_parts (is_digit b) _ others.1 in
    let last = or_parts (is_quote b) (nat_eq b dot) further.1 in
    record { under = all.0; letter = others.0; digit = further.0; quoted = last.0; point = last.1 }

one_sign : (b c : ℕ) (more : List ℕ) → is_some (double b c) ≡ false → is_token Sign (b ∷ c ∷ more) ≡ false
one_sign b c [] none = none
one_sign b c (d ∷ more) none = refl

longest_one : (b : ℕ) (rest : List ℕ) → Bare b → begins (λ c. is_some (double b c)) rest ≡ false → IsLongest (b ∷ []) rest
longest_one b rest h none Name c more tail e = no_name b (c ∷ more) h.under h.letter
longest_one b rest h none Integer c more tail e = no_integer b (c ∷ more) h.digit
longest_one b rest h none Text c more tail e = no_text b (c ∷ more) h.quoted
longest_one b rest h none Sign c more tail e = one_sign b c more (subst (λ r. begins (λ d. is_some (double b d)) r ≡ false) e none)

longest_two : (b c : ℕ) (rest : List ℕ) → Bare b → IsLongest (b ∷ c ∷ []) rest
longest_two b c rest h Name d more tail e = no_name b (c ∷ d ∷ more) h.under h.letter
longest_two b c rest h Integer d more tail e = no_integer b (c ∷ d ∷ more) h.digit
longest_two b c rest h Text d more tail e = no_text b (c ∷ d ∷ more) h.quoted
longest_two b c rest h Sign d more tail e = refl

sign_piece : (bytes rest : List ℕ) → is_sign bytes rest ≡ true → IsPiece bytes rest (Some Sign)
sign_piece [] rest e = absurd cc
sign_piece (b ∷ []) rest e =
    let first = and_parts (is_bare b) _ e in
    let second = and_parts (is_some (at_byte singles b)) _ first.1 in
    let third = and_parts (not (begins (λ c. is_some (double b c)) rest)) _ second.1 in
    let h = bare b first.0 in
    longest_token second.0 (longest_one b rest h (is_not _ third.0)) (is_not _ third.1)
    (no_real b rest h.digit (no_dot b rest h.point)) (λ q. absurd cc)
sign_piece (b ∷ c ∷ []) rest e =
    let first = and_parts (is_bare b) _ e in
    let second = and_parts (is_some (double b c)) _ first.1 in
    let h = bare b first.0 in
    longest_token second.0 (longest_two b c rest h) (is_not _ second.1)
    (no_real b (c ∷ rest) h.digit (no_dot b (c ∷ rest) h.point)) (λ q. absurd cc)
sign_piece (b ∷ c ∷ d ∷ bs) rest e = absurd cc

wire_ends : (rest : List ℕ) → begins is_letter rest ≡ false → begins is_underscore rest ≡ false
    → begins is_letter (drop (prefix_len is_underscore (underscore ∷ rest)) (underscore ∷ rest)) ≡ false
wire_ends [] letter under = refl
wire_ends (c ∷ rest) letter under = rw (under, letter) refl

wire_piece : (bytes rest : List ℕ) → is_wire bytes rest ≡ true → IsPiece bytes rest (Some Sign)
wire_piece [] rest e = absurd cc
wire_piece (b ∷ []) rest e =
    let first = and_parts (is_underscore b) _ e in
    let ends = or_parts (begins is_letter rest) (begins is_underscore rest) (is_not _ first.1) in
    subst (λ c. IsPiece (c ∷ []) rest (Some Sign)) (sym (eqb-true b underscore first.0))
    (longest_token refl (wire_longest rest (wire_ends rest ends.0 ends.1)) refl (no_real underscore rest refl refl) (λ q. absurd cc))
wire_piece (b ∷ c ∷ bs) rest e = absurd cc

piece : (kind : Option Kind) (bytes rest : List ℕ) → is_piece kind bytes rest ≡ true → IsPiece bytes rest kind
piece None [] rest e = absurd cc
piece None (b ∷ []) rest e = blank_byte e
piece None (b ∷ c ∷ bs) rest e = absurd cc
piece (Some Name) [] rest e = absurd cc
piece (Some Name) (b ∷ bs) rest e =
    let first = and_parts (nat_le 65 b) _ e in
    let second = and_parts (is_name (b ∷ bs)) _ first.1 in
    name_piece b bs rest (leb-true 65 b first.0) second.0 (is_not _ second.1)
piece (Some Integer) [] rest e = absurd cc
piece (Some Integer) (b ∷ bs) rest e =
    let first = and_parts (is_digit b) _ e in
    let second = and_parts (list_all is_digit bs) _ first.1 in
    let third = and_parts (not (begins is_digit rest)) _ second.1 in
    let fourth = and_parts (not (is_real_tail rest)) _ third.1 in
    number_piece b bs rest first.0 second.0 (is_not _ third.0) (is_not _ fourth.0) (leb-true (value (b ∷ bs)) GREATEST_LITERAL fourth.1)
piece (Some Sign) bytes rest e =
    ⊎_elim (wire_piece bytes rest) (sign_piece bytes rest) (or_cases (is_wire bytes rest) (is_sign bytes rest) e)
piece (Some Text) bytes rest e = absurd cc

-- ---- one after another

-- a piece of these bytes
abbrev pub cut_of : List ℕ → Cut
cut_of bytes = record { bytes = bytes; kind = kind_of bytes }

-- the cuts of pieces, before others
abbrev pub cuts_of : List (List ℕ) → List Cut → List Cut
cuts_of [] behind = behind
cuts_of (t ∷ ts) behind = cut_of t ∷ cuts_of ts behind

-- their bytes, before others
abbrev pub bytes_of : List (List ℕ) → List ℕ → List ℕ
bytes_of [] rest = rest
bytes_of (t ∷ ts) rest = t ++ bytes_of ts rest

-- how many brackets are open after them
abbrev pub depth_behind : ℕ → List (List ℕ) → ℕ
depth_behind depth [] = depth
depth_behind depth (t ∷ ts) = depth_behind (depth_after depth t) ts

-- they are pieces, before a rest, and no bracket too many is open
abbrev pub are_pieces : ℕ → List (List ℕ) → List ℕ → Bool
are_pieces depth [] rest = true
are_pieces depth (t ∷ ts) rest =
    is_piece (kind_of t) t (bytes_of ts rest) && (nat_le (depth_after depth t) DEEPEST_NESTING && are_pieces (depth_after depth t) ts rest)

pub cuts : (depth : ℕ) (ts : List (List ℕ)) (rest end : List ℕ) (others : List Cut) (deep : ℕ) → are_pieces depth ts rest ≡ true
    → Cuts rest (depth_behind depth ts) others end deep → Cuts (bytes_of ts rest) depth (cuts_of ts others) end deep
cuts depth [] rest end others deep e h = h
cuts depth (t ∷ ts) rest end others deep e h =
    let first = and_parts (is_piece (kind_of t) t (bytes_of ts rest)) _ e in
    let second = and_parts (nat_le (depth_after depth t) DEEPEST_NESTING) _ first.1 in
    piece_first (piece (kind_of t) t (bytes_of ts rest) first.0) (leb-true (depth_after depth t) DEEPEST_NESTING second.0)
    (cuts (depth_after depth t) ts rest end others deep second.1 h)
