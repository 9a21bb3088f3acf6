-- Small answers, which hold by computing.
use Rattle.std.specs.Prelude.{◌≡◌, refl, true, false, codes, [], ◌∷◌, ◌++◌, Some, None}
use Rattle.fv_lex.specs.declared.token.Symbol.TheVariants as symbols
use Rattle.fv_num.specs.declared.op.Op.TheVariants as ops
use Rattle.fv_lex.specs.headline.Symbols.{sign, value, word_symbol, operation}
use Rattle.fv_lex.specs.headline.Pieces.{is_name, is_integer, is_text, is_real_tail, BeginsReal, fraction, real, has_close}
use Rattle.fv_lex.specs.headline.Cuts.{first_place, place_after, depth_after}

merge_is_a_sign : sign (codes ":>") ≡ Some symbols.Merge
merge_is_a_sign = refl

nothing_goes_on_behind_it : sign (codes ":>=") ≡ None
nothing_goes_on_behind_it = refl

underscores_before_a_letter : is_name (codes "__a1_") ≡ true
underscores_before_a_letter = refl

underscores_before_a_digit : is_name (codes "__1") ≡ false
underscores_before_a_digit = refl

leading_zeros : is_integer (codes "007") ≡ true
leading_zeros = refl

digits_have_a_value : value (codes "2147483648") ≡ 2147483648
digits_have_a_value = refl

a_string_ends_at_its_first_quote : is_text (34 ∷ 34 ∷ 34 ∷ []) ≡ false
a_string_ends_at_its_first_quote = refl

a_reserved_word : word_symbol 3 (codes "min") ≡ operation ops.Min
a_reserved_word = refl

an_unsupported_word : word_symbol 3 (codes "letrec") ≡ symbols.Unsupported 3
an_unsupported_word = refl

another_name : word_symbol 3 (codes "minx") ≡ symbols.Name 3
another_name = refl

a_half : BeginsReal (codes "0.5;")
a_half = real (codes "0") (codes ".5;") refl refl

without_a_zero : BeginsReal (codes ".5;")
without_a_zero = fraction refl

a_suffix : is_real_tail (codes "f;") ≡ true
a_suffix = refl

no_suffix : is_real_tail (codes "f2") ≡ false
no_suffix = refl

an_exponent : is_real_tail (codes "E-3") ≡ true
an_exponent = refl

no_exponent : is_real_tail (codes "e+;") ≡ false
no_exponent = refl

a_comment_that_does_not_end : has_close (codes "/") ≡ false
a_comment_that_does_not_end = refl

the_second_line : place_after first_place (codes "a" ++ 10 ∷ codes "bc") ≡ record { line = 2; column = 3 }
the_second_line = refl

none_below_zero : depth_after 0 (codes ")") ≡ 0
none_below_zero = refl

one_too_many : depth_after 128 (codes "{") ≡ 129
one_too_many = refl
