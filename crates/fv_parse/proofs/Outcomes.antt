-- Tokens are accepted, or refused for one thing, and never both.
use Rattle.std.proofs.Common.{◌≡◌, ◌⊎◌, ℕ, List, length, Option, Some, None, Result, Ok, Err, sym, ◌∙◌, ap, refl, inl, inr}
use Rattle.fv_lex.specs.declared.token.Place.{Place}
use Rattle.fv_lex.specs.declared.token.Symbol.{Symbol}
use Rattle.fv_lex.specs.headline.Token.{Lexed, symbols_of}
use Rattle.fv_parse_grammar.specs.headline.Tree.{Tree as Spelled}
use Rattle.fv_parse_grammar.specs.Grammar.{SpelledOnce}
use Rattle.fv_parse_grammar.specs.Descent.{program}
use Rattle.fv_parse_grammar.specs.Laws.{ReadsOnlySpelled, ReadsAllSpelled}
use Rattle.fv_lex.specs.Cuts.{HasTokens}
use Rattle.fv_parse.specs.headline.Unsupported.{first_unsupported}
use Rattle.fv_parse.proofs.Lexing.{tokens_nest}
use Rattle.fv_parse.proofs.Endings.{no_tree}
use Rattle.fv_parse_grammar.specs.Beginnings.{OnePlace, StopsAtThePlace}
use Rattle.fv_parse.specs.declared.refusal.ParseRefusal.{ParseRefusal}
use Rattle.fv_parse.specs.declared.refusal.ParseRefusal.TheVariants.{Syntax, Unsupported}
use Rattle.fv_parse.specs.headline.Trees.{place_from}
use Rattle.fv_parse.specs.headline.StaticErrors.{refused}
use Rattle.fv_parse.specs.headline.Outcomes.{IsSupported, IsSpelled, IsAccepted, StopsAt, HasRefusal, unsupported, syntax_error, refused_tree}
use Rattle.fv_parse.specs.Outcomes.{IsOneRefusal, IsNotBoth}
use Rattle.fv_parse.specs.Outcomes.{IsOneOrOther}
use Rattle.fv_base.specs.declared.limits.TheConstants.{DEEPEST_NESTING}

-- a choice that is some value is that one alone
one_some : {A : Type 0} (o : Option A) (a b : A) → o ≡ Some a → o ≡ Some b → a ≡ b
one_some o a b p q = let e = sym p ∙ q in cc

-- two places of an error are one
one_stop : (l : Lexed) (p q : Place) → OnePlace → StopsAt l p → StopsAt l q → p ≡ q
one_stop l p q once a b =
    let same = once a.before a.rest b.before b.rest (sym a.split ∙ b.split) a.error b.error in
    a.there ∙ ap (λ (ts : List Symbol). place_from l (length ts)) same.1 ∙ sym b.there

pub one_refusal : SpelledOnce → OnePlace → IsOneRefusal
one_refusal spelled place l a b (unsupported p) (unsupported q) = ap Unsupported (one_some _ _ _ p q)
one_refusal spelled place l a b (unsupported p) (syntax_error there s none stops) = absurd cc
one_refusal spelled place l a b (unsupported p) (refused_tree s is some) = absurd cc
one_refusal spelled place l a b (syntax_error there s none stops) (unsupported q) = absurd cc
one_refusal spelled place l a b (syntax_error p s none stops) (syntax_error q t nothing ends) =
    ap (λ (here : Place). Syntax here.line here.column) (one_stop l p q place stops ends)
one_refusal spelled place l a b (syntax_error there s none stops) (refused_tree t is some) = absurd (none _ is)
one_refusal spelled place l a b (refused_tree s is some) (unsupported q) = absurd cc
one_refusal spelled place l a b (refused_tree s is some) (syntax_error there t none stops) = absurd (none _ is)
one_refusal spelled place l a b (refused_tree {x = x} s is some) (refused_tree {x = y} t js other) =
    one_some (refused l x) a b some (ap (refused l) (spelled (symbols_of l.tokens) x y is js) ∙ other)

pub not_both : SpelledOnce → IsNotBoth
not_both spelled l x refusal a (unsupported h) = let s = a.supported in absurd cc
not_both spelled l x refusal a (syntax_error place s none stops) = none x a.spelled
not_both spelled l x refusal a (refused_tree {x = y} s is some) =
    let same = spelled (symbols_of l.tokens) y x is a.spelled in
    let accepted = a.accepted in
    let h = rw same at some in
    absurd cc

-- ---- one or the other

abbrev Outcome : Lexed → Type 0
Outcome l = ((x : Spelled) × IsAccepted l x) ⊎ ((refusal : ParseRefusal) × HasRefusal l refusal)

-- by what refuses the tree
by_error : (l : Lexed) (x : Spelled) (found : Option ParseRefusal) → IsSupported l → IsSpelled l x → refused l x ≡ found → Outcome l
by_error l x None s is e = inl (x, record { supported = s; spelled = is; accepted = e })
by_error l x (Some refusal) s is e = inr (refusal, refused_tree s is e)

-- by what is read
by_reading : ReadsOnlySpelled → ReadsAllSpelled → (text : List ℕ) (l : Lexed) (read : Result Spelled (List Symbol))
    → StopsAtThePlace → HasTokens text l → IsSupported l → program DEEPEST_NESTING (symbols_of l.tokens) ≡ read → Outcome l
by_reading sound complete text l (Ok x) place has s e = by_error l x (refused l x) s (sound DEEPEST_NESTING (symbols_of l.tokens) x e) refl
by_reading sound complete text l (Err rest) place has s e =
    let nests = tokens_nest text l has in
    let stops = place DEEPEST_NESTING (symbols_of l.tokens) rest nests e in
    inr (
      _,
      syntax_error (place_from l (length rest)) s
          (no_tree complete l rest nests e) (record { before = stops.0; rest = rest; split = stops.1; error = stops.2; there = refl }),
    )

-- by the first unsupported token
by_word : ReadsOnlySpelled → ReadsAllSpelled
    → (text : List ℕ) (l : Lexed) (found : Option (List ℕ)) → StopsAtThePlace → HasTokens text l → first_unsupported l.tokens ≡ found → Outcome l
by_word sound complete text l None place has e = by_reading sound complete text l (program DEEPEST_NESTING (symbols_of l.tokens)) place has e refl
by_word sound complete text l (Some word) place has e = inr (Unsupported word, unsupported e)

pub one_or_other : ReadsOnlySpelled → ReadsAllSpelled → StopsAtThePlace → IsOneOrOther
one_or_other sound complete place text l has = by_word sound complete text l (first_unsupported l.tokens) place has refl
