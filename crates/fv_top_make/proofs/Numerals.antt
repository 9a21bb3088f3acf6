-- The digits of a number of voices.
use Rattle.std.proofs.Common.{◌≡◌, ℕ, ◌≤◌, true, List, [], ◌∷◌, length, decimal, refl, ap, arith, leb-true, le-leb}
use Rattle.std.specs.List.{list_all}
use Rattle.std.proofs.lemmas.Bool.{and_parts}
use Rattle.std.proofs.lemmas.Fmt.{decimal_nonempty, length-decimal-le_succ, digits_decimal, digits_value-decimal}
use Rattle.std.proofs.lemmas.Str.Parse.{IsDigitsTest, IsNumeralModel, numerals_by_fold}
use Rattle.fv_lex.specs.Digits.{decimal_after}
use Rattle.fv_lex.specs.headline.Bytes.{is_digit}
use Rattle.fv_lex.specs.headline.Symbols.{value}
use Rattle.fv_top_make.proofs.Tokens.{AreDigits}

-- digits are just the texts of which each byte is one
tests_digits : IsDigitsTest (λ ds. list_all is_digit ds ≡ true)
tests_digits = record {
  empty = refl;
  parts = λ c cs e.
      let both = and_parts (is_digit c) (list_all is_digit cs) e in
      let range = and_parts _ _ both.0 in ((leb-true 48 c range.0, leb-true c 57 range.1), both.1);
  more = λ c cs k e. rw (le-leb 48 c k.0, le-leb c 57 k.1, e) refl;
}

numerals : IsNumeralModel (λ ds. list_all is_digit ds ≡ true) value
numerals =
    numerals_by_fold (λ ds. list_all is_digit ds ≡ true) tests_digits decimal_after (record { empty = λ n. refl; more = λ n c cs k. refl })

-- the number of voices is written in these digits
pub record Written (n : ℕ) : Type 0 where
  pub first : ℕ
  pub others : List ℕ
  pub is : decimal n ≡ first ∷ others
  pub are : AreDigits first others
  pub value_is : value (first ∷ others) ≡ n

pub written : (n : ℕ) → n ≤ 64 → Written n
written n h = go (decimal n) refl (digits_decimal numerals n (omega arith)) (digits_value-decimal numerals n (omega arith))
  where
    go : (ds : List ℕ) → decimal n ≡ ds → list_all is_digit ds ≡ true → value ds ≡ n → Written n
    go [] e all v = absurd (omega (arith, decimal_nonempty n (omega arith), ap length e))
    go (d ∷ ds) e all v =
        let both = and_parts (is_digit d) (list_all is_digit ds) all in
        record {
          first = d;
          others = ds;
          is = e;
          are = record {
            first = both.0;
            others = both.1;
            small = omega arith;
            short = omega (arith, length-decimal-le_succ n (omega arith), ap length e);
          };
          value_is = v;
        }
