-- A text of which no more than one byte past its limit was read.
use Rattle.std.proofs.Common.{◌≡◌, ◌⊎◌, ℕ, ◌≤◌, ◌<◌, List, length, take, Ok, Err, sym, ◌∙◌, ap, arith, subst, refl, inl, inr}
use Rattle.std.specs.Prelude.{Result}
use Rattle.std.proofs.lemmas.List.{take_all, length-take}
use Rattle.fv_lex.specs.declared.refusal.LexRefusal.{LexRefusal}
use Rattle.fv_base.specs.declared.role.Role.TheVariants.{Program}
use Rattle.fv_lex.specs.declared.refusal.LexRefusal.TheVariants.{TextTooLong}
use Rattle.fv_lex.specs.headline.Token.{Lexed}
use Rattle.fv_lex.specs.headline.Cuts.{Has, too_long, cut}
use Rattle.fv_top_report.specs.declared.refusal.Refusal.{Refusal}
use Rattle.fv_top_program.specs.headline.Answers.{Then, Turned, kept, turned, stops, goes_on}
use Rattle.fv_top_program.specs.headline.Compiled.{Compiled}
use Rattle.fv_top_program.specs.headline.Program.{Parses, TextIs}
use Rattle.fv_top_program.specs.inner.Layers.{Evaluates, Narrow, Delayed, SpellingIs, ValueIs, WidthIs}
use Rattle.fv_top_report.specs.headline.Layers.{of_bytes, of_tokens, of_value}
use Rattle.fv_top_program.proofs.lemmas.AnswerLaws.{kept_is}
use Rattle.fv_base.specs.declared.limits.TheConstants.{LONGEST_TEXT}

-- what a text has says whether it is too long
too_long_or_not : (text : List ℕ) (answer : Result Lexed LexRefusal) → Has text answer
    → ((answer ≡ Err (TextTooLong Program)) × (LONGEST_TEXT < length text)) ⊎ (length text ≤ LONGEST_TEXT)
too_long_or_not text answer (too_long h) = inl (refl, h)
too_long_or_not text answer (cut h c f) = inr h

whole_by : (text bytes : List ℕ) (answer : Result Lexed LexRefusal) → bytes ≡ take 1048577 text → Has bytes answer →
    ((answer ≡ Err (TextTooLong Program)) × (LONGEST_TEXT < length bytes)) ⊎ (length bytes ≤ LONGEST_TEXT) → Has text answer
whole_by text bytes answer e has (inl h) = let long = h.1 in subst (Has text) (sym h.0) (too_long (omega (arith, ap length e ∙ length-take 1048577 text)))
whole_by text bytes answer e has (inr h) =
    let within : length text ≤ 1048577 = omega (arith, ap length e ∙ length-take 1048577 text) in
    subst (λ (w : List ℕ). Has w answer) (e ∙ take_all 1048577 text within) has

-- what its first bytes have, the whole text has
whole_has : (text bytes : List ℕ) (answer : Result Lexed LexRefusal) → bytes ≡ take 1048577 text → Has bytes answer → Has text answer
whole_has text bytes answer e has = whole_by text bytes answer e has (too_long_or_not bytes answer has)

whole_cut : (text bytes : List ℕ) (r : Result Lexed Refusal) → bytes ≡ take 1048577 text → Turned of_bytes Has bytes r → Turned of_bytes Has text r
whole_cut text bytes r e (kept l h) = kept l (whole_has text bytes (Ok l) e h)
whole_cut text bytes r e (turned f h) = turned f (whole_has text bytes (Err f) e h)

-- what holds of first answers holds of those after them
pub then_front : {X A B E : Type 0} (P : X → Result A E → Type 0) (Q : A → Result B E → Type 0) (x y : X) → ((r : Result A E) → P x r → P y r) →
    (r : Result B E)
    → Then P Q x r → Then P Q y r
then_front P Q x y h r (stops f k) = stops f (h (Err f) k)
then_front P Q x y h r (goes_on a s k l) = goes_on a r (h (Ok a) k) l

-- what they are, it is
pub whole_is : (text bytes : List ℕ) (r : Result Compiled Refusal) → bytes ≡ take 1048577 text → TextIs bytes r → TextIs text r
whole_is text bytes r e h =
    then_front WidthIs Delayed bytes text
    (then_front ValueIs Narrow bytes text
    (then_front SpellingIs (Turned of_value Evaluates) bytes text
    (then_front (Turned of_bytes Has) (Turned of_tokens Parses) bytes text (λ s. whole_cut text bytes s e))))
    r h

-- what is answered after a first answer has one
then_first : {X A B E : Type 0} (P : X → Result A E → Type 0) (Q : A → Result B E → Type 0) (x : X) (b : B) (r : Result B E) → r ≡ Ok b → Then P Q x r
    → (a : A) × P x (Ok a)
then_first P Q x b r is (stops f h) = absurd cc
then_first P Q x b r is (goes_on a s h k) = (a, h)

-- a program has tokens
program_cut : (text : List ℕ) (p : Compiled) → TextIs text (Ok p) → (l : Lexed) × Has text (Ok l)
program_cut text p h =
    let width = then_first WidthIs Delayed text p (Ok p) refl h in
    let value = then_first ValueIs Narrow text width.0 (Ok width.0) refl width.1 in
    let spelled = then_first SpellingIs (Turned of_value Evaluates) text value.0 (Ok value.0) refl value.1 in
    let tokens = then_first (Turned of_bytes Has) (Turned of_tokens Parses) text spelled.0 (Ok spelled.0) refl spelled.1 in
    (tokens.0, kept_is of_bytes Has text tokens.0 tokens.1)

fits : (text : List ℕ) (l : Lexed) (answer : Result Lexed LexRefusal) → answer ≡ Ok l
    → ((answer ≡ Err (TextTooLong Program)) × (LONGEST_TEXT < length text)) ⊎ (length text ≤ LONGEST_TEXT) →
    length text ≤ LONGEST_TEXT
fits text l answer e (inl h) = let f = h.0 in absurd cc
fits text l answer e (inr h) = h

-- so bytes that are one are the whole text
pub whole_text : (text bytes : List ℕ) (p : Compiled) → bytes ≡ take 1048577 text → TextIs bytes (Ok p) → text ≡ bytes
whole_text text bytes p e h =
    let cut = program_cut bytes p h in
    let short = fits bytes cut.0 (Ok cut.0) refl (too_long_or_not bytes (Ok cut.0) cut.1) in
    let within : length text ≤ 1048577 = omega (arith, ap length e ∙ length-take 1048577 text) in
    sym (e ∙ take_all 1048577 text within)
