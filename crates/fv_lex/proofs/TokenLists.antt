-- The tokens that symbols and spans stand for, part by part.
use Rattle.std.proofs.Common.{◌≡◌, ℕ, suc, ◌<◌, List, [], ◌∷◌, length, map, Some, get_or, slice_get, take, drop, refl, ap, ◌∙◌, arith}
use Rattle.std.specs.Option.{option_map}
use Rattle.std.proofs.lemmas.Option.{slice_get-map, slice_get_read}
use Rattle.fv_lex.specs.declared.token.Symbol.{Symbol}
use Rattle.fv_lex.specs.declared.token.Span.{Span}
use Rattle.fv_lex.specs.headline.Token.{Token, symbols_of, texts_of, places_of}
use Rattle.fv_lex.specs.Token.{kinds_of}
use Rattle.fv_lex.specs.Spans.{token_in, tokens_in}

pub length-tokens_in : (text : List ℕ) (symbols : List Symbol) (spans : List Span)
    → length symbols ≡ length spans → length (tokens_in text symbols spans) ≡ length spans
length-tokens_in text [] spans e = e
length-tokens_in text (s ∷ symbols) [] e = absurd (omega arith)
length-tokens_in text (s ∷ symbols) (p ∷ spans) e = ap suc (length-tokens_in text symbols spans (omega arith))

pub symbols_of-tokens_in : (text : List ℕ) (symbols : List Symbol) (spans : List Span)
    → length symbols ≡ length spans → symbols_of (tokens_in text symbols spans) ≡ symbols
symbols_of-tokens_in text [] spans e = refl
symbols_of-tokens_in text (s ∷ symbols) [] e = absurd (omega arith)
symbols_of-tokens_in text (s ∷ symbols) (p ∷ spans) e = ap (λ (l : List Symbol). s ∷ l) (symbols_of-tokens_in text symbols spans (omega arith))

-- a part of each token that its span has
of_spans : {A : Type 0} (part : Token → A) (of : Span → A) (text : List ℕ)
    → ((s : Symbol) (p : Span) → part (token_in text s p) ≡ of p)
    → (symbols : List Symbol) (spans : List Span) → length symbols ≡ length spans
    → map part (tokens_in text symbols spans) ≡ map of spans
of_spans part of text same [] [] e = refl
of_spans part of text same [] (p ∷ spans) e = absurd (omega arith)
of_spans part of text same (s ∷ symbols) [] e = absurd (omega arith)
of_spans part of text same (s ∷ symbols) (p ∷ spans) e =
    ap (λ a. a ∷ map part (tokens_in text symbols spans)) (same s p) ∙ ap (λ l. of p ∷ l) (of_spans part of text same symbols spans (omega arith))

read : {A : Type 0} (of : Span → A) (spans : List Span) (i : ℕ) (p : Span) → i < length spans → p ≡ get_or spans i p → slice_get (map of spans) i ≡ Some (of p)
read of spans i p h e = slice_get-map of spans i ∙ ap (option_map of) (slice_get_read spans (length spans) i p refl h e)

-- a part of token i is that of its span
module _ (text : List ℕ) (symbols : List Symbol) (spans : List Span) (i : ℕ) (p : Span)
    (paired : length symbols ≡ length spans) (within : i < length spans) (is : p ≡ get_or spans i p) where
  part_read : {A : Type 0} (part : Token → A) (of : Span → A) → ((s : Symbol) (q : Span) → part (token_in text s q) ≡ of q)
      → slice_get (map part (tokens_in text symbols spans)) i ≡ Some (of p)
  part_read part of same = ap (λ l. slice_get l i) (of_spans part of text same symbols spans paired) ∙ read of spans i p within is

  pub kind_read : slice_get (kinds_of (tokens_in text symbols spans)) i ≡ Some p.kind
  kind_read = part_read (λ t. t.kind) (λ q. q.kind) (λ s q. refl)

  pub place_read : slice_get (places_of (tokens_in text symbols spans)) i ≡ Some p.place
  place_read = part_read (λ t. t.place) (λ q. q.place) (λ s q. refl)

  pub text_read : slice_get (texts_of (tokens_in text symbols spans)) i ≡ Some (take p.length (drop p.start text))
  text_read = part_read (λ t. t.text) (λ q. take q.length (drop q.start text)) (λ s q. refl)
