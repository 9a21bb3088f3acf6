-- Where the descent stops at a token, no program goes on with it; and a list of tokens has one such place.
use Rattle.std.proofs.Common.{◌≡◌, ℕ, suc, ◌+◌, ◌≤◌, List, [], ◌∷◌, ◌++◌, length, Ok, Err, refl, sym, ap, subst, ◌∙◌, arith, append_assoc}
use Rattle.std.proofs.lemmas.List.{append-nil}
use Rattle.fv_parse_grammar.specs.Symbol.{Symbol}
use Rattle.fv_parse_grammar.specs.Symbol.TheVariants.{Open, Close, OpenBrace, CloseBrace}
use Rattle.fv_parse_grammar.specs.declared.symbol.Items.TheVariants.{Statements}
use Rattle.fv_parse_grammar.specs.headline.Tree.{Tree}
use Rattle.fv_parse_grammar.specs.headline.Grammar.{IsViablePrefix, SpellsProgram}
use Rattle.fv_parse_grammar.specs.Nesting.{Nests, lowered}
use Rattle.fv_parse_grammar.specs.Descent.{Step, ◌>>=◌, further, within, program, whole_text}
use Rattle.fv_parse_grammar.specs.Laws.{ReadsAllSpelled, NestsWithinLength}
use Rattle.fv_parse_grammar.specs.headline.Beginnings.{IsErrorPlace}
use Rattle.fv_parse_grammar.specs.Beginnings.{StopsWhereNoneGoesOn, StopsAtThePlace, OnePlace}
use Rattle.fv_parse_grammar.proofs.Agreement.{Fork, Same, abreast, past, Alike, both_on, both_stopped, beyond, BothRead}
use Rattle.fv_parse_grammar.proofs.Programs.{stops_behind_a_beginning, beginnings_are_closed}
use Rattle.fv_parse_grammar.proofs.ProgramsAgree.{further_both, within_both}

-- ---- brackets
-- what nests within a limit does so up to each place
nests_before : (limit d : ℕ) (ts us : List Symbol) → Nests limit d (ts ++ us) → Nests limit d ts
nests_before limit d [] us n = tt
nests_before limit d (Open ∷ ts) us n = (n.0, nests_before limit (suc d) ts us n.1)
nests_before limit d (OpenBrace ∷ ts) us n = (n.0, nests_before limit (suc d) ts us n.1)
nests_before limit d (Close ∷ ts) us n = nests_before limit (lowered d) ts us n
nests_before limit d (CloseBrace ∷ ts) us n = nests_before limit (lowered d) ts us n
nests_before limit d (t ∷ ts) us n = nests_before limit d ts us n

-- ---- one stops at the token, and the other reads all
-- what stops the whole text at the token has not passed it
not_past : (k : Fork) (z : Tree × List Symbol) → whole_text z ≡ Err (k.token ∷ k.one) → length z.1 ≤ length k.one → ⊥
not_past k (x, []) e le = absurd cc
not_past k (x, t ∷ l) e le =
    let p : t ∷ l ≡ k.token ∷ k.one = cc in
    let n : length (t ∷ l) ≡ length (k.token ∷ k.one) = ap length p in
    absurd (omega arith)

all_read : (w : Tree × List Symbol) (x : Tree) → whole_text w ≡ Ok x → w.1 ≡ []
all_read (y, []) x e = refl
all_read (y, t ∷ l) x e = absurd cc

not_empty : (p : List Symbol) (t : Symbol) (l : List Symbol) → p ++ t ∷ l ≡ [] → ⊥
not_empty [] t l e = absurd cc
not_empty (c ∷ p) t l e = absurd cc

not_at_end : {k : Fork} {d : ℕ} {ts us : List Symbol} → Same k d ts us → us ≡ [] → length ts ≤ length k.one
not_at_end {k = k} (abreast p low n) e = absurd (not_empty p k.token k.other e)
not_at_end (past le) e = le

not_alike : (k : Fork) (r s : Step Tree) → Alike k 0 (λ z. z.1) r s → (r >>= whole_text) ≡ Err (k.token ∷ k.one) → (x : Tree) → (s >>= whole_text) ≡ Ok x → ⊥
not_alike k r s (both_on {x = z} {y = w} same) e x f = not_past k z e (not_at_end same (all_read w x f))
not_alike k r s (both_stopped p) e x f = absurd cc
not_alike k (Ok z) s (beyond le) e x f = not_past k z e le
not_alike k (Err at) s (beyond le) e x f =
    let p : at ≡ k.token ∷ k.one = cc in
    let n : length at ≡ length (k.token ∷ k.one) = ap length p in
    absurd (omega arith)

none_goes_on : ReadsAllSpelled → NestsWithinLength → (limit : ℕ) (before rest more : List Symbol) (t : Symbol) (x : Tree)
    → Nests limit 0 before → program limit (before ++ t ∷ rest) ≡ Err (t ∷ rest) → SpellsProgram (before ++ t ∷ more) x → ⊥
unfolding program
none_goes_on reads nesting limit before rest more t x n e p =
    let k : Fork = record { limit = limit; token = t; one = rest; other = more } in
    let big = limit + length (before ++ t ∷ more) in
    let a : BothRead k 0 (before ++ t ∷ rest) (further (within limit) Statements (before ++ t ∷ rest)) (further (within big) Statements (before ++ t ∷ more))
    = further_both (within_both k limit big 0 (omega arith) (omega arith)) Statements (abreast before (omega arith) n) in
    not_alike k _ _ a.alike e x (reads big (before ++ t ∷ more) x p (nesting big (before ++ t ∷ more) (omega arith)))

pub stops_where_none_goes_on : ReadsAllSpelled → NestsWithinLength → StopsWhereNoneGoesOn
stops_where_none_goes_on reads nesting limit before rest t n e (more, x, p) =
    none_goes_on reads nesting limit before rest more t x n e (subst (λ l. SpellsProgram l x) (append_assoc before (t ∷ []) more) p)

-- ---- the place
is_place : ReadsAllSpelled → NestsWithinLength → (limit : ℕ) (before rest : List Symbol)
    → Nests limit 0 (before ++ rest) → program limit (before ++ rest) ≡ Err rest → IsViablePrefix before → IsErrorPlace before rest
is_place reads nesting limit before [] n e b = (
  b,
  λ x p.
      let q : program limit (before ++ []) ≡ Ok x = reads limit (before ++ []) x (subst (λ l. SpellsProgram l x) (sym (append-nil before)) p) n in
      absurd cc,
)
is_place reads nesting limit before (t ∷ rest) n e b = (
  b,
  stops_where_none_goes_on reads nesting limit before rest t
      (nests_before limit 0 before (t ∷ rest) n) e,
)

pub stops_at_the_place : ReadsAllSpelled → NestsWithinLength → StopsAtThePlace
stops_at_the_place reads nesting limit ts rest n e =
    let (before, is, b) = stops_behind_a_beginning limit ts rest e in
    (before, is, is_place reads nesting limit before rest (subst (λ l. Nests limit 0 l) is n) (subst (λ l. program limit l ≡ Err rest) is e) b)

-- ---- one place
-- of two beginnings of one list the shorter goes on
data Splits (before rest before' rest' : List Symbol) : Type 0 where
  at_one : before ≡ before' → rest ≡ rest' → Splits before rest before' rest'
  sooner : (t : Symbol) (more others : List Symbol) → rest ≡ t ∷ others → before' ≡ before ++ t ∷ more → Splits before rest before' rest'
  later : (t : Symbol) (more others : List Symbol) → rest' ≡ t ∷ others → before ≡ before' ++ t ∷ more → Splits before rest before' rest'

behind_one : (t u : Symbol) (a b c d : List Symbol) → t ≡ u → Splits a b c d → Splits (t ∷ a) b (u ∷ c) d
behind_one t u a b c d e (at_one p q) = at_one (cc (e, p)) q
behind_one t u a b c d e (sooner v more others p q) = sooner v more others p (cc (e, q))
behind_one t u a b c d e (later v more others p q) = later v more others p (cc (e, q))

splits : (a b c d : List Symbol) → a ++ b ≡ c ++ d → Splits a b c d
splits [] b [] d e = at_one refl e
splits [] b (u ∷ c) d e = sooner u c (c ++ d) e refl
splits (t ∷ a) b [] d e = later t a (a ++ b) (sym e) refl
splits (t ∷ a) b (u ∷ c) d e =
    let first : t ≡ u = cc in
    let others : a ++ b ≡ c ++ d = cc in
    behind_one t u a b c d first (splits a b c d others)

begun : (before rest : List Symbol) → IsErrorPlace before rest → IsViablePrefix before
begun before [] place = place.0
begun before (t ∷ rest) place = place.0

none_further : (before rest others : List Symbol) (t : Symbol) → rest ≡ t ∷ others → IsErrorPlace before rest → IsViablePrefix (before ++ t ∷ []) → ⊥
none_further before rest others t e place b = (subst (λ l. IsErrorPlace before l) e place).1 b

goes_on : (before more : List Symbol) (t : Symbol) (longer : List Symbol)
    → longer ≡ before ++ t ∷ more → IsViablePrefix longer → IsViablePrefix (before ++ t ∷ [])
goes_on before more t longer e b = beginnings_are_closed (before ++ t ∷ []) more (subst IsViablePrefix (e ∙ sym (append_assoc before (t ∷ []) more)) b)

one_of_two : (a b c d : List Symbol) → Splits a b c d → IsErrorPlace a b → IsErrorPlace c d → (a ≡ c) × (b ≡ d)
one_of_two a b c d (at_one p q) first second = (p, q)
one_of_two a b c d (sooner t more others p q) first second = absurd (none_further a b others t p first (goes_on a more t c q (begun c d second)))
one_of_two a b c d (later t more others p q) first second = absurd (none_further c d others t p second (goes_on c more t a q (begun a b first)))

pub one_place : OnePlace
one_place before rest before' rest' e first second = one_of_two before rest before' rest' (splits before rest before' rest' e) first second
