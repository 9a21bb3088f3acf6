-- Unsupported tokens, a step at a time.
use Rattle.std.proofs.Common.{◌≡◌, ℕ, zero, suc, ◌+◌, List, [], ◌∷◌, drop, Option, Some, None, sym, ap, ◌∙◌, arith}
use Rattle.std.specs.Prelude.{slice_get}
use Rattle.std.specs.Option.{option_or}
use Rattle.fv_lex.specs.declared.token.Symbol.{Symbol}
use Rattle.fv_lex.specs.headline.Token.{Token, symbols_of, texts_of}
use Rattle.fv_parse.specs.headline.Unsupported.{unsupported, unsupported_from, first_unsupported}

unsupported_next : (before last : Symbol) (ts : List Token) (i : ℕ) (s : Symbol) (text : List ℕ)
    → slice_get (symbols_of ts) i ≡ Some s → slice_get (texts_of ts) i ≡ Some text
    → unsupported_from before last (drop i ts) ≡ option_or (unsupported before last s text) (unsupported_from last s (drop (suc i) ts))
unsupported_next before last [] i s text a b = absurd cc
unsupported_next before last (t ∷ ts) zero s text a b =
    let e : t.symbol ≡ s = cc in
    let f : t.text ≡ text = cc in
    ap (λ z. option_or (unsupported before last z t.text) (unsupported_from last z ts)) e
    ∙ ap (λ z. option_or (unsupported before last s z) (unsupported_from last s ts)) f
unsupported_next before last (t ∷ ts) (suc i) s text a b = unsupported_next before last ts i s text a b

unsupported_step : (before last : Symbol) (ts : List Token) (i : ℕ) (s : Symbol) (text : List ℕ)
    → slice_get (symbols_of ts) i ≡ Some s → slice_get (texts_of ts) i ≡ Some text
    → unsupported_from before last (drop i ts) ≡ option_or (unsupported before last s text) (unsupported_from last s (drop (i + 1) ts))
unsupported_step before last ts i s text a b =
    let one : suc i ≡ i + 1 = omega arith in
    unsupported_next before last ts i s text a b ∙ ap (λ n. option_or (unsupported before last s text) (unsupported_from last s (drop n ts))) one

-- past token i, what it is found to be, and the tokens before it
module _ (before last : Symbol) (ts : List Token) (i : ℕ) (s : Symbol) (text : List ℕ) (found : Option (List ℕ))
    (symbol : slice_get (symbols_of ts) i ≡ Some s) (spelled : slice_get (texts_of ts) i ≡ Some text)
    (is : found ≡ unsupported before last s text) (so_far : unsupported_from before last (drop i ts) ≡ first_unsupported ts) where
  found_first : option_or found (unsupported_from last s (drop (i + 1) ts)) ≡ first_unsupported ts
  found_first =
      ap (λ o. option_or o (unsupported_from last s (drop (i + 1) ts))) is ∙ sym (unsupported_step before last ts i s text symbol spelled) ∙ so_far

  pub unsupported_here : (word : List ℕ) → found ≡ Some word → Some word ≡ first_unsupported ts
  unsupported_here word some = rw some at found_first

  pub unsupported_not_here : found ≡ None → unsupported_from last s (drop (i + 1) ts) ≡ first_unsupported ts
  unsupported_not_here none = rw none at found_first
