-- The tokens of the text of any number of voices.
use Rattle.std.proofs.Common.{◌≡◌, ℕ, ◌≤◌, true, List, [], ◌∷◌, ◌++◌, length, codes, Some}
use Rattle.std.proofs.Common.{refl, sym, subst, arith, length-append, ne_eqb}
use Rattle.std.specs.List.{list_all}
use Rattle.fv_lex.specs.declared.token.Kind.TheVariants.{Integer}
use Rattle.fv_lex.specs.headline.Token.{Lexed}
use Rattle.fv_lex.specs.headline.Bytes.{is_digit}
use Rattle.fv_lex.specs.headline.Symbols.{value}
use Rattle.fv_lex.specs.headline.Cuts.{depth_after, Cut, Cuts, nothing_more, piece_first, whole, first_place, tokens_of, end_of, cut}
use Rattle.fv_lex.specs.Cuts.{HasTokens}
use Rattle.fv_lex.proofs.lemmas.Classes.{digit_range}
use Rattle.fv_top_make.proofs.Pieces.{number_piece, cuts_of, cuts}
use Rattle.fv_lex.specs.Limits.TheConstants.{DEEPEST_NESTING, GREATEST_LITERAL, LONGEST_TEXT}

-- the pieces of the text before the number of voices
abbrev pub before : List (List ℕ)
before =
    codes "v" ∷ codes "(" ∷ codes "i" ∷ codes ")" ∷ codes " " ∷ codes "=" ∷ codes " " ∷
    codes "+" ∷ codes " " ∷ codes "~" ∷ codes " " ∷ codes "(" ∷
    codes "@" ∷ codes "(" ∷ codes "i" ∷ codes "*" ∷ codes "37" ∷ codes "+" ∷ codes "1" ∷ codes ")" ∷ codes " " ∷ codes ":" ∷ codes " " ∷
    codes "*" ∷ codes "(" ∷ codes "i" ∷ codes "+" ∷ codes "3" ∷ codes ")" ∷ codes " " ∷ codes ":" ∷ codes " " ∷
    codes "/" ∷ codes "(" ∷ codes "8" ∷ codes ")" ∷ codes ")" ∷ codes ";" ∷ codes "\n" ∷
    codes "process" ∷ codes " " ∷ codes "=" ∷ codes " " ∷ codes "_" ∷ codes " " ∷ codes "<:" ∷ codes " " ∷
    codes "par" ∷ codes "(" ∷ codes "i" ∷ codes "," ∷ []

-- and after it
abbrev pub behind : List (List ℕ)
behind =
    codes "," ∷ codes "v" ∷ codes "(" ∷ codes "i" ∷ codes ")" ∷ codes ")" ∷ codes " " ∷ codes ":>" ∷ codes " " ∷
    codes "_" ∷ codes ";" ∷ codes "\n" ∷ []

-- the text after it
abbrev pub text_behind : List ℕ
text_behind = codes ",v(i)) :> _;\n"

-- the text, with these digits for the number
abbrev pub text : List ℕ → List ℕ
text digits = codes "v(i) = + ~ (@(i*37+1) : *(i+3) : /(8));\n" ++ codes "process = _ <: par(i," ++ digits ++ text_behind

-- its pieces from the number on
abbrev pub pieces_from : List ℕ → List Cut
pieces_from digits = record { bytes = digits; kind = Some Integer } ∷ cuts_of behind []

-- all its pieces
abbrev pub pieces : List ℕ → List Cut
pieces digits = cuts_of before (pieces_from digits)

-- and its tokens
abbrev pub lexed : List ℕ → Lexed
lexed digits = record { tokens = tokens_of 0 first_place (pieces digits); end = end_of first_place (pieces digits) }

-- digits open or close no bracket
depth_stays : (depth d : ℕ) (ds : List ℕ) → is_digit d ≡ true → depth_after depth (d ∷ ds) ≡ depth
depth_stays depth d [] is =
    let r = digit_range d is in
    let round = ne_eqb d 40 (λ q. omega arith) in
    let rounded = ne_eqb d 41 (λ q. omega arith) in
    let curly = ne_eqb d 123 (λ q. omega arith) in
    let curled = ne_eqb d 125 (λ q. omega arith) in
    rw (round, curly, rounded, curled) refl
depth_stays depth d (c ∷ ds) is = refl

-- what is known of the digits of a number of voices
pub record AreDigits (d : ℕ) (ds : List ℕ) : Type 0 where
  pub first : is_digit d ≡ true
  pub others : list_all is_digit ds ≡ true
  pub small : value (d ∷ ds) ≤ GREATEST_LITERAL
  pub short : length ds ≤ 64

module _ (d : ℕ) (ds : List ℕ) (h : AreDigits d ds) where
  cut_behind : Cuts text_behind 1 (cuts_of behind []) [] 0
  cut_behind = cuts 1 behind [] [] [] 0 refl nothing_more

  cut_number : Cuts (d ∷ (ds ++ text_behind)) 1 (pieces_from (d ∷ ds)) [] 0
  cut_number =
      let stays = depth_stays 1 d ds h.first in
      let small = h.small in
      piece_first (number_piece d ds text_behind h.first h.others refl refl small) (subst (λ n. n ≤ DEEPEST_NESTING) (sym stays) (omega arith))
      (subst (λ n. Cuts text_behind n (cuts_of behind []) [] 0) (sym stays) cut_behind)

  pub has_tokens : HasTokens (text (d ∷ ds)) (lexed (d ∷ ds))
  has_tokens =
      let short = h.short in
      let fits : length (text (d ∷ ds)) ≤ LONGEST_TEXT = omega (arith, length-append ds text_behind) in
      cut fits (cuts 0 before (d ∷ (ds ++ text_behind)) [] (pieces_from (d ∷ ds)) 0 refl cut_number) whole
