-- Each symbol carries the number of its own token.
use Rattle.std.proofs.Common.{◌≡◌, ℕ, zero, suc, ◌⊎◌, inl, inr, Bool, true, false, List, [], ◌∷◌, ◌++◌}
use Rattle.std.proofs.Common.{length, Option, Some, None, refl, sym, ap, subst, arith, slice_get, unwrap_or}
use Rattle.std.specs.Prelude.{nat_eq}
use Rattle.std.specs.List.{list_all}
use Rattle.std.specs.Str.{bytes_eq}
use Rattle.std.proofs.lemmas.Bool.{cond_both, and_parts}
use Rattle.std.proofs.lemmas.List.{append-nil}
use Rattle.fv_lex.specs.declared.token.Kind.{Kind}
use Rattle.fv_lex.specs.declared.token.Kind.TheVariants as kinds
use Rattle.fv_lex.specs.declared.token.Symbol.{Symbol}
use Rattle.fv_lex.specs.declared.token.Symbol.TheVariants.{Name, Text, Integer, Unsupported, Merge}
use Rattle.fv_lex.specs.declared.token.Span.{Span}
use Rattle.fv_lex.specs.headline.Symbols.{at_byte, at_word, singles, after_less, after_greater, after_equals, double}
use Rattle.fv_num.specs.declared.op.Op.TheVariants as ops
use Rattle.fv_lex.specs.headline.Symbols.{operation, primitive_words, form_words, control_words, is_unsupported, symbol_of}
use Rattle.fv_lex.specs.Spans.{new_symbols, HasSymbol}
use Rattle.fv_lex.specs.Carried.{Carries, AllCarry}

-- a symbol that carries nothing
abbrev carries_nothing : Symbol → Bool
carries_nothing (Name n) = false
carries_nothing (Text n) = false
carries_nothing (Unsupported n) = false
carries_nothing (Integer n) = false
carries_nothing _ = true

nothing_carried : (i : ℕ) (s : Symbol) → carries_nothing s ≡ true → Carries i s
nothing_carried i (Name n) e = absurd cc
nothing_carried i (Text n) e = absurd cc
nothing_carried i (Unsupported n) e = absurd cc
nothing_carried i (Integer n) e = absurd cc
nothing_carried i _ e = tt

word_carries : (i : ℕ) (table : List (List ℕ × Symbol)) (word : List ℕ) (other : Symbol)
    → list_all (λ e. carries_nothing e.1) table ≡ true → Carries i other → Carries i (unwrap_or (at_word table word) other)
word_carries i [] word other all h = h
word_carries i (e ∷ es) word other all h =
    let parts = and_parts (carries_nothing e.1) (list_all (λ q. carries_nothing q.1) es) all in
    let rest = word_carries i es word other parts.1 h in
    cond_both (bytes_eq word e.0) (Some e.1) (at_word es word) (λ o. Carries i (unwrap_or o other)) (λ _. nothing_carried i e.1 parts.0) (λ _. rest)

byte_carries : (i : ℕ) (table : List (ℕ × Symbol)) (b : ℕ) (other : Symbol)
    → list_all (λ e. carries_nothing e.1) table ≡ true → Carries i other → Carries i (unwrap_or (at_byte table b) other)
byte_carries i [] b other all h = h
byte_carries i (e ∷ es) b other all h =
    let parts = and_parts (carries_nothing e.1) (list_all (λ q. carries_nothing q.1) es) all in
    let rest = byte_carries i es b other parts.1 h in
    cond_both (nat_eq b e.0) (Some e.1) (at_byte es b) (λ o. Carries i (unwrap_or o other)) (λ _. nothing_carried i e.1 parts.0) (λ _. rest)

double_carries : (i b c : ℕ) (other : Symbol) → Carries i other → Carries i (unwrap_or (double b c) other)
double_carries i b c other h =
    let Q : Option Symbol → Type 0 = λ o. Carries i (unwrap_or o other) in
    cond_both (nat_eq b 60) _ _ Q (λ _. byte_carries i after_less c other refl h)
    (λ _. cond_both (nat_eq b 62) _ _ Q (λ _. byte_carries i after_greater c other refl h)
    (λ _. cond_both (nat_eq b 61) _ _ Q (λ _. byte_carries i after_equals c other refl h)
    (λ _. cond_both (nat_eq b 58) _ _ Q (λ _. byte_carries i ((62, Merge) ∷ []) c other refl h)
    (λ _. cond_both (nat_eq b 33) _ _ Q (λ _. byte_carries i ((61, operation ops.Ne) ∷ []) c other refl h) (λ _. h)))))

symbol_carries : (i : ℕ) (kind : Kind) (bytes : List ℕ) → HasSymbol (Some kind) bytes → Carries i (symbol_of i kind bytes)
symbol_carries i kinds.Name bytes h =
    word_carries i primitive_words bytes _ refl (word_carries i form_words bytes _ refl (word_carries i control_words bytes _ refl
    (cond_both (is_unsupported bytes) (Unsupported i) (Name i) (Carries i) (λ _. refl) (λ _. refl))))
symbol_carries i kinds.Integer bytes h = h.1 refl
symbol_carries i kinds.Text bytes h = refl
symbol_carries i kinds.Sign [] h = refl
symbol_carries i kinds.Sign (b ∷ []) h = byte_carries i singles b (Unsupported i) refl refl
symbol_carries i kinds.Sign (b ∷ c ∷ []) h = double_carries i b c (Unsupported i) refl
symbol_carries i kinds.Sign (b ∷ c ∷ d ∷ bytes) h = refl

-- where a symbol stands in a list with one more
push_cases : (symbols : List Symbol) (new : Symbol) (i : ℕ) (s : Symbol)
    → slice_get (symbols ++ new ∷ []) i ≡ Some s → (slice_get symbols i ≡ Some s) ⊎ ((i ≡ length symbols) × (s ≡ new))
push_cases [] new zero s e = inr (refl, cc)
push_cases [] new (suc i) s e = absurd cc
push_cases (x ∷ symbols) new zero s e = inl e
push_cases (x ∷ symbols) new (suc i) s e = elim (push_cases symbols new i s e) [ inl h ↦ inl h | inr h ↦ inr (ap suc h.0, h.1) ]

all_pushed : (symbols : List Symbol) (new : Symbol) → Carries (length symbols) new → AllCarry symbols → AllCarry (symbols ++ new ∷ [])
all_pushed symbols new h all i s e = go (push_cases symbols new i s e)
  where
    go : ((slice_get symbols i ≡ Some s) ⊎ ((i ≡ length symbols) × (s ≡ new))) → Carries i s
    go (inl before) = all i s before
    go (inr (at, is)) = subst (λ k. Carries k s) (sym at) (subst (λ t. Carries (length symbols) t) (sym is) h)

pub carried_more : (symbols : List Symbol) (spans : List Span) (n : ℕ) (kind : Option Kind) (bytes : List ℕ)
    → length symbols ≡ length spans → n ≡ length spans → HasSymbol kind bytes → AllCarry symbols → AllCarry (symbols ++ new_symbols n kind bytes)
carried_more symbols spans n None bytes paired counted h all = subst (λ l. AllCarry l) (sym (append-nil symbols)) all
carried_more symbols spans n (Some kind) bytes paired counted h all =
    let number : n ≡ length symbols = omega arith in
    let new : Carries (length symbols) (symbol_of n kind bytes) = subst (λ k. Carries k (symbol_of n kind bytes)) number (symbol_carries n kind bytes h) in
    all_pushed symbols (symbol_of n kind bytes) new all
