-- The tokens of a text nest no deeper than 128 brackets.
use Rattle.std.proofs.Common.{◌≡◌, ℕ, zero, suc, ◌+◌, ◌-◌, ◌≤◌, Bool, true, false, cond, List, [], ◌∷◌, ◌++◌}
use Rattle.std.proofs.Common.{length, Option, Some, None, Result, Ok, refl, sym, ap, subst, ◌∙◌, arith}
use Rattle.std.specs.Prelude.{nat_eq, ◌||◌, unwrap_or}
use Rattle.std.specs.List.{list_all}
use Rattle.std.proofs.lemmas.Bool.{eqb-true, and_parts}
use Rattle.fv_lex.specs.declared.token.Symbol.{Symbol}
use Rattle.fv_lex.specs.declared.token.Symbol.TheVariants.{Open, Close, OpenBrace, CloseBrace, Unsupported}
use Rattle.fv_lex.specs.declared.token.Symbol.TheVariants as symbols
use Rattle.fv_lex.specs.declared.token.Kind.{Kind}
use Rattle.fv_lex.specs.declared.token.Kind.TheVariants.{Name, Integer, Text, Sign}
use Rattle.fv_lex.specs.declared.token.Place.{Place}
use Rattle.fv_lex.specs.declared.refusal.LexRefusal.{LexRefusal}
use Rattle.fv_lex.specs.headline.Token.{Token, Lexed, symbols_of}
use Rattle.fv_lex.specs.headline.Bytes.{is_blank}
use Rattle.fv_lex.specs.headline.Symbols.{at_byte, at_word, singles, after_less, after_greater, after_equals, double}
use Rattle.fv_lex.specs.Op.TheVariants as ops
use Rattle.fv_lex.specs.headline.Symbols.{operation, primitive_words, form_words, control_words, is_unsupported, word_symbol, symbol_of}
use Rattle.fv_lex.specs.headline.Pieces.{is_token, IsPiece, blank_byte, line_comment, block_comment, longest_token}
use Rattle.fv_lex.specs.headline.Cuts.{depth_after, Cut, Cuts, nothing_more, piece_first, tokens_of, token_of, place_after, first_place, end_of, Has}
use Rattle.fv_lex.specs.Cuts.{HasTokens}
use Rattle.fv_lex.specs.headline.Cuts.{too_long, cut}
use Rattle.fv_parse_grammar.specs.Nesting.{Nests, lowered}
use Rattle.fv_base.specs.declared.limits.TheConstants.{DEEPEST_NESTING}

-- a symbol that is no bracket
abbrev plain : Symbol → Bool
plain Open = false
plain Close = false
plain OpenBrace = false
plain CloseBrace = false
plain s = true

plain_nests : (d : ℕ) (s : Symbol) (ts : List Symbol) → plain s ≡ true → Nests DEEPEST_NESTING d ts → Nests DEEPEST_NESTING d (s ∷ ts)
plain_nests d Open ts p n = absurd cc
plain_nests d Close ts p n = absurd cc
plain_nests d OpenBrace ts p n = absurd cc
plain_nests d CloseBrace ts p n = absurd cc
plain_nests d s ts p n = n

-- what is found is no bracket
abbrev AllPlain : Option Symbol → Type 0
AllPlain None = Unit {0}
AllPlain (Some s) = plain s ≡ true

plain_or : (o : Option Symbol) (s : Symbol) → AllPlain o → plain s ≡ true → plain (unwrap_or o s) ≡ true
plain_or None s a p = p
plain_or (Some x) s a p = a

plain_if : (b : Bool) (u v : Option Symbol) → AllPlain u → AllPlain v → AllPlain (cond b u v)
plain_if true u v p q = p
plain_if false u v p q = q

byte_plain : (es : List (ℕ × Symbol)) (b : ℕ) → list_all (λ (e : ℕ × Symbol). plain e.1) es ≡ true → AllPlain (at_byte es b)
byte_plain [] b h = tt
byte_plain (e ∷ es) b h = let p = and_parts (plain e.1) _ h in plain_if (nat_eq b e.0) (Some e.1) (at_byte es b) p.0 (byte_plain es b p.1)

word_plain : (es : List (List ℕ × Symbol)) (w : List ℕ) → list_all (λ (e : List ℕ × Symbol). plain e.1) es ≡ true → AllPlain (at_word es w)
word_plain [] w h = tt
word_plain (e ∷ es) w h = let p = and_parts (plain e.1) _ h in plain_if _ (Some e.1) (at_word es w) p.0 (word_plain es w p.1)

name_plain : (n : ℕ) (w : List ℕ) → plain (word_symbol n w) ≡ true
name_plain n w =
    plain_or (at_word primitive_words w) _ (word_plain primitive_words w refl)
    (plain_or (at_word form_words w) _ (word_plain form_words w refl)
    (plain_or (at_word control_words w) _ (word_plain control_words w refl) (last (is_unsupported w))))
  where
    last : (b : Bool) → plain (cond b (Unsupported n) (symbols.Name n)) ≡ true
    last true = refl
    last false = refl

double_plain : (b c : ℕ) → AllPlain (double b c)
double_plain b c =
    plain_if (nat_eq b 60) _ _ (byte_plain after_less c refl)
    (plain_if (nat_eq b 62) _ _ (byte_plain after_greater c refl)
    (plain_if (nat_eq b 61) _ _ (byte_plain after_equals c refl)
    (plain_if (nat_eq b 58) _ _ (byte_plain ((62, symbols.Merge) ∷ []) c refl)
    (plain_if (nat_eq b 33) _ _ (byte_plain ((61, operation ops.Ne) ∷ []) c refl) tt))))

-- ---- single bytes
abbrev is_bracket : ℕ → Bool
is_bracket b = nat_eq b 40 || (nat_eq b 123 || (nat_eq b 41 || nat_eq b 125))

single_plain : (es : List (ℕ × Symbol)) (b : ℕ)
    → is_bracket b ≡ false → list_all (λ (e : ℕ × Symbol). is_bracket e.0 || plain e.1) es ≡ true → AllPlain (at_byte es b)
single_plain [] b no_ h = tt
single_plain (e ∷ es) b no_ h = let p = and_parts (is_bracket e.0 || plain e.1) _ h in go (nat_eq b e.0) refl p.0 (single_plain es b no_ p.1)
  where
    go : (t : Bool) → nat_eq b e.0 ≡ t → (is_bracket e.0 || plain e.1) ≡ true → AllPlain (at_byte es b) → AllPlain (cond t (Some e.1) (at_byte es b))
    go true is p q = let same : b ≡ e.0 = eqb-true b e.0 is in let none : is_bracket e.0 ≡ false = ap is_bracket (sym same) ∙ no_ in rw none at p
    go false is p q = q

-- a byte is one of the brackets, or changes no depth
bracket_cases : (P : ℕ → Type 0) (b : ℕ) → P 40 → P 123 → P 41 → P 125 → (is_bracket b ≡ false → ((d : ℕ) → depth_after d (b ∷ []) ≡ d) → P b) → P b
bracket_cases P b p40 p123 p41 p125 other = first (nat_eq b 40) refl
  where
    fourth : nat_eq b 40 ≡ false → nat_eq b 123 ≡ false → nat_eq b 41 ≡ false → (t : Bool) → nat_eq b 125 ≡ t → P b
    fourth e f g true h = subst P (sym (eqb-true b 125 h)) p125
    fourth e f g false h = other (rw (e, f, g, h) refl) (λ d. rw (e, f, g, h) refl)

    third : nat_eq b 40 ≡ false → nat_eq b 123 ≡ false → (t : Bool) → nat_eq b 41 ≡ t → P b
    third e f true g = subst P (sym (eqb-true b 41 g)) p41
    third e f false g = fourth e f g (nat_eq b 125) refl

    second : nat_eq b 40 ≡ false → (t : Bool) → nat_eq b 123 ≡ t → P b
    second e true f = subst P (sym (eqb-true b 123 f)) p123
    second e false f = third e f (nat_eq b 41) refl

    first : (t : Bool) → nat_eq b 40 ≡ t → P b
    first true e = subst P (sym (eqb-true b 40 e)) p40
    first false e = second e (nat_eq b 123) refl

shallower : (d : ℕ) (ts : List Symbol) → Nests DEEPEST_NESTING (d - 1) ts → Nests DEEPEST_NESTING (lowered d) ts
shallower zero ts n = n
shallower (suc d) ts n = let less : suc d - 1 ≡ d = omega arith in subst (λ k. Nests DEEPEST_NESTING k ts) less n

-- what a token of these bytes does to the depth
abbrev Steps : ℕ → ℕ → Kind → List Symbol → List ℕ → Type 0
Steps n d kind ts bytes =
    is_token kind bytes ≡ true → depth_after d bytes ≤ DEEPEST_NESTING → Nests DEEPEST_NESTING (depth_after d bytes) ts
    → Nests DEEPEST_NESTING d (symbol_of n kind bytes ∷ ts)

symbol_plain : (n : ℕ) (kind : Kind) (b : ℕ) → is_bracket b ≡ false → plain (symbol_of n kind (b ∷ [])) ≡ true
symbol_plain n Name b h = name_plain n (b ∷ [])
symbol_plain n Integer b h = refl
symbol_plain n Text b h = refl
symbol_plain n Sign b h = plain_or (at_byte singles b) (Unsupported n) (single_plain singles b h refl) refl

opened : (n d : ℕ) (kind : Kind) (ts : List Symbol) → Steps n d kind ts (40 ∷ [])
opened n d Name ts h le m = absurd cc
opened n d Integer ts h le m = absurd cc
opened n d Text ts h le m = absurd cc
opened n d Sign ts h le m = (omega arith, m)

brace_opened : (n d : ℕ) (kind : Kind) (ts : List Symbol) → Steps n d kind ts (123 ∷ [])
brace_opened n d Name ts h le m = absurd cc
brace_opened n d Integer ts h le m = absurd cc
brace_opened n d Text ts h le m = absurd cc
brace_opened n d Sign ts h le m = (omega arith, m)

closed : (n d : ℕ) (kind : Kind) (ts : List Symbol) → Steps n d kind ts (41 ∷ [])
closed n d Name ts h le m = absurd cc
closed n d Integer ts h le m = absurd cc
closed n d Text ts h le m = absurd cc
closed n d Sign ts h le m = shallower d ts m

brace_closed : (n d : ℕ) (kind : Kind) (ts : List Symbol) → Steps n d kind ts (125 ∷ [])
brace_closed n d Name ts h le m = absurd cc
brace_closed n d Integer ts h le m = absurd cc
brace_closed n d Text ts h le m = absurd cc
brace_closed n d Sign ts h le m = shallower d ts m

token_nests : (n d : ℕ) (kind : Kind) (ts : List Symbol) (bytes : List ℕ) → Steps n d kind ts bytes
token_nests n d Name ts [] h le m = absurd cc
token_nests n d Integer ts [] h le m = absurd cc
token_nests n d Text ts [] h le m = absurd cc
token_nests n d Sign ts [] h le m = absurd cc
token_nests n d kind ts (b ∷ []) h le m =
    bracket_cases (λ z. Steps n d kind ts (z ∷ [])) b (opened n d kind ts) (brace_opened n d kind ts) (closed n d kind ts) (brace_closed n d kind ts)
    (λ no_ same is low nests. plain_nests d (symbol_of n kind (b ∷ [])) ts (symbol_plain n kind b no_)
    (subst (λ k. Nests DEEPEST_NESTING k ts) (same d) nests)) h le m
token_nests n d Name ts (b ∷ c ∷ bs) h le m = plain_nests d (word_symbol n (b ∷ c ∷ bs)) ts (name_plain n (b ∷ c ∷ bs)) m
token_nests n d Integer ts (b ∷ c ∷ bs) h le m = m
token_nests n d Text ts (b ∷ c ∷ bs) h le m = m
token_nests n d Sign ts (b ∷ c ∷ []) h le m =
    plain_nests d (unwrap_or (double b c) (Unsupported n)) ts (plain_or (double b c) (Unsupported n) (double_plain b c) refl) m
token_nests n d Sign ts (b ∷ c ∷ e ∷ bs) h le m = m

-- ---- cuts
blank_depth : (b d : ℕ) → is_blank b ≡ true → depth_after d (b ∷ []) ≡ d
blank_depth b d h =
    bracket_cases (λ z. is_blank z ≡ true → depth_after d (z ∷ []) ≡ d) b
    (λ e. absurd cc) (λ e. absurd cc) (λ e. absurd cc) (λ e. absurd cc) (λ no_ same e. same d) h

piece_nests : {bytes rest : List ℕ} {kind : Option Kind} → IsPiece bytes rest kind
    → (n d : ℕ) (place : Place) (ts : List Token) → depth_after d bytes ≤ DEEPEST_NESTING → Nests DEEPEST_NESTING (depth_after d bytes) (symbols_of ts)
    → Nests DEEPEST_NESTING d (symbols_of (token_of n place bytes kind ++ ts))
piece_nests (blank_byte {b = b} h) n d place ts le m = subst (λ k. Nests DEEPEST_NESTING k (symbols_of ts)) (blank_depth b d h) m
piece_nests (line_comment h e) n d place ts le m = m
piece_nests (block_comment body h) n d place ts le m = m
piece_nests (longest_token {bytes = bytes} {kind = kind} h longest comment real small) n d place ts le m = token_nests n d kind (symbols_of ts) bytes h le m

cuts_nest : {text end : List ℕ} {d deep : ℕ} {cuts : List Cut}
    → Cuts text d cuts end deep → (n : ℕ) (place : Place) → Nests DEEPEST_NESTING d (symbols_of (tokens_of n place cuts))
cuts_nest nothing_more n place = tt
cuts_nest (piece_first {bytes = bytes} {kind = kind} {cuts = cuts} {depth = d} piece le more') n place =
    piece_nests piece n d place (tokens_of (n + length (token_of n place bytes kind)) (place_after place bytes) cuts) le
    (cuts_nest more' (n + length (token_of n place bytes kind)) (place_after place bytes))

has_nests : {text : List ℕ} {answer : Result Lexed LexRefusal} → Has text answer → (l : Lexed) → answer ≡ Ok l → Nests DEEPEST_NESTING 0 (symbols_of l.tokens)
has_nests (too_long h) l e = absurd cc
has_nests (cut {cuts = cuts} {fault = None} short cutting ends) l e =
    let made : Lexed = record { tokens = tokens_of 0 first_place cuts; end = end_of first_place cuts } in
    let same : made ≡ l = cc in
    subst (λ (k : Lexed). Nests DEEPEST_NESTING 0 (symbols_of k.tokens)) same (cuts_nest cutting 0 first_place)
has_nests (cut {cuts = cuts} {fault = Some fault} short cutting ends) l e = absurd cc

-- The tokens of a text nest within the limit.
pub tokens_nest : (text : List ℕ) (l : Lexed) → HasTokens text l → Nests DEEPEST_NESTING 0 (symbols_of l.tokens)
tokens_nest text l h = has_nests h l refl
