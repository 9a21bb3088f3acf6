-- What the class of a first byte says of the tokens that begin with it.
use Rattle.std.proofs.Common.{◌≡◌, ℕ, ◌<◌, ◌≤◌, Bool, true, false, ◌&&◌, ◌||◌, List, [], ◌∷◌, ◌++◌, None, refl, arith}
use Rattle.std.specs.Prelude.{nat_eq}
use Rattle.std.proofs.lemmas.Bool.{ne_eqb, or_parts}
use Rattle.std.proofs.lemmas.Bool.Decides.{nat_tests}
use Rattle.fv_lex.specs.declared.token.Kind.TheVariants.{Name, Integer, Text, Sign}
use Rattle.fv_lex.specs.headline.Bytes.{is_blank, is_letter, is_digit, is_underscore, is_name_byte, is_quote}
use Rattle.fv_lex.specs.headline.Symbols.{double}
use Rattle.fv_lex.specs.headline.Pieces.{is_name, is_token}
use Rattle.fv_lex.proofs.lemmas.Runs.{list_all_stops}

pub digit_range : (b : ℕ) → is_digit b ≡ true → (48 ≤ b) × (b ≤ 57)
digit_range b e = grind (arith, nat_tests)

pub letter_range : (b : ℕ) → is_letter b ≡ true → (65 ≤ b) × (b ≤ 122) × (b ≡ 95 → ⊥)
letter_range b e = grind (arith, nat_tests)

pub no_letter : (b : ℕ) → b < 65 → is_letter b ≡ false
no_letter b h = grind (arith, nat_tests)

pub no_digit : (b : ℕ) → 57 < b → is_digit b ≡ false
no_digit b h = grind (arith, nat_tests)

pub no_blank : (b : ℕ) → 32 < b → is_blank b ≡ false
no_blank b h = grind (arith, nat_tests)

pub no_double : (b c : ℕ) → (33 < b) → (b < 58) → double b c ≡ None
no_double b c low high =
    let a : nat_eq b 60 ≡ false = ne_eqb b 60 (λ e. omega arith) in
    let d : nat_eq b 62 ≡ false = ne_eqb b 62 (λ e. omega arith) in
    let f : nat_eq b 61 ≡ false = ne_eqb b 61 (λ e. omega arith) in
    let g : nat_eq b 58 ≡ false = ne_eqb b 58 (λ e. omega arith) in
    let h : nat_eq b 33 ≡ false = ne_eqb b 33 (λ e. omega arith) in
    rw (a, d, f, g, h) refl

pub no_double_high : (b c : ℕ) → 62 < b → double b c ≡ None
no_double_high b c low =
    let a : nat_eq b 60 ≡ false = ne_eqb b 60 (λ e. omega arith) in
    let d : nat_eq b 62 ≡ false = ne_eqb b 62 (λ e. omega arith) in
    let f : nat_eq b 61 ≡ false = ne_eqb b 61 (λ e. omega arith) in
    let g : nat_eq b 58 ≡ false = ne_eqb b 58 (λ e. omega arith) in
    let h : nat_eq b 33 ≡ false = ne_eqb b 33 (λ e. omega arith) in
    rw (a, d, f, g, h) refl

pub no_name_byte : (c : ℕ) → is_name_byte c ≡ false → (is_letter c ≡ false) × (is_underscore c ≡ false)
no_name_byte c e =
    let outer = or_parts (is_letter c) (is_digit c || is_underscore c) e in
    (outer.0, (or_parts (is_digit c) (is_underscore c) outer.1).1)

-- ---- which tokens a first byte begins
pub no_name : (b : ℕ) (bs : List ℕ) → is_underscore b ≡ false → is_letter b ≡ false → is_token Name (b ∷ bs) ≡ false
no_name b bs u l = rw (u, l) refl

pub no_integer : (b : ℕ) (bs : List ℕ) → is_digit b ≡ false → is_token Integer (b ∷ bs) ≡ false
no_integer b bs d = rw d refl

pub no_text : (b : ℕ) (bs : List ℕ) → is_quote b ≡ false → is_token Text (b ∷ bs) ≡ false
no_text b bs q = rw q refl

-- no sign goes on after b where no sign of two bytes does
pub no_sign : (b : ℕ) (bs : List ℕ) (c : ℕ) (more : List ℕ) → ((d : ℕ) → double b d ≡ None) → is_token Sign (b ∷ (bs ++ c ∷ more)) ≡ false
no_sign b [] c [] none = rw (none c) refl
no_sign b [] c (d ∷ more) none = refl
no_sign b (x ∷ []) c more none = refl
no_sign b (x ∷ y ∷ bs) c more none = refl

-- a name does not go on with what is no letter, digit or `_`
and_no : (v w : Bool) → w ≡ false → (v && w) ≡ false
and_no true w e = e
and_no false w e = refl

name_case : (v : Bool) (b : ℕ) (bs : List ℕ) (c : ℕ) (more : List ℕ)
    → is_underscore b ≡ v → is_name_byte c ≡ false → is_name (bs ++ c ∷ more) ≡ false → is_name (b ∷ (bs ++ c ∷ more)) ≡ false
name_case true b bs c more u e ih = rw u ih
name_case false b bs c more u e ih = rw u (and_no (is_letter b) _ (list_all_stops is_name_byte bs c more e))

pub name_stops : (bs : List ℕ) (c : ℕ) (more : List ℕ) → is_name_byte c ≡ false → is_name (bs ++ c ∷ more) ≡ false
name_stops [] c more e = let no = no_name_byte c e in no_name c more no.1 no.0
name_stops (b ∷ bs) c more e = name_case (is_underscore b) b bs c more refl e (name_stops bs c more e)
