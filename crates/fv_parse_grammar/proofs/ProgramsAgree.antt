-- Definitions, rules, lists, and the inside of brackets, in two lists that are the same up to and with a token.
use Rattle.std.proofs.Common.{◌≡◌, ℕ, zero, suc, ◌+◌, ◌≤◌, ◌<◌, List, [], ◌∷◌, length, Result, Ok, Err, refl, ap, arith}
use Rattle.fv_parse_grammar.specs.Symbol.{Symbol}
use Rattle.fv_parse_grammar.specs.Symbol.TheVariants.{Name, Comma, Open, Declare}
use Rattle.fv_parse_grammar.specs.declared.symbol.Inside.{Inside}
use Rattle.fv_parse_grammar.specs.declared.symbol.Inside.TheVariants as insides
use Rattle.fv_parse_grammar.specs.declared.symbol.Items.{Items}
use Rattle.fv_parse_grammar.specs.declared.symbol.Items.TheVariants.{Statements, Definitions, Rules, Parts}
use Rattle.fv_parse_grammar.specs.headline.Tree.{Tree, End}
use Rattle.fv_parse_grammar.specs.Descent as descent
use Rattle.fv_parse_grammar.specs.Descent.{Step, ◌>>=◌, Reader, phrase, ended, function_after, constant_after, after_name, definition, one_rule}
use Rattle.fv_parse_grammar.specs.Descent.{declared_text, declared_for, declaration, Item, one_of, skip_of, item, further, listed, descend, within}
use Rattle.fv_parse_grammar.proofs.lemmas.Loops.{all_of, before, many_one, many_skip, many_done, many_stop}
use Rattle.fv_parse_grammar.proofs.Agreement.{Fork, Same, abreast, past, beyond, remains, BothPass, BothRead, also, given, of_equal}
use Rattle.fv_parse_grammar.proofs.Agreement.{unrolled, Looks, takes, stays_at, looked, looked_among, opens, no_bracket, AgreesInside}
use Rattle.fv_parse_grammar.proofs.PiecesAgree.{expect_both, by_open, by_equals, by_arrow, by_semicolon, a_name_both, a_text_both, enclosed_both}
use Rattle.fv_parse_grammar.proofs.PhrasesAgree.{phrase_both, expression_both}
use Rattle.fv_parse_grammar.specs.declared.symbol.Operands.{Operands}
use Rattle.fv_parse_grammar.specs.declared.symbol.Operands.TheVariants as operands
use Rattle.fv_parse_grammar.specs.declared.symbol.Commas.TheVariants as commas

-- ---- definitions and rules
module _ {k : Fork} {d : ℕ} {inner inner' : Reader} (inside : AgreesInside k (suc d) inner inner') where
  ended_both : {ts us : List Symbol} → Same k d ts us → BothRead k d ts (ended inner ts) (ended inner' us)
  unfolding ended
  ended_both same = also (expression_both inside same) (λ x y s. also (expect_both by_semicolon s) (λ rest rest' s. given s))

  function_both : (start start' n : ℕ) {ts us : List Symbol}
      → Same k (suc d) ts us → BothRead k d ts (function_after inner start n ts) (function_after inner' start' n us)
  unfolding function_after
  function_both start start' n same =
      also (enclosed_both inside insides.Patterns same)
      (λ ps ps' s. also (expect_both by_equals s) (λ side side' s. also (ended_both s) (λ x y s. given s)))

  constant_both : (start start' n : ℕ) {ts us : List Symbol}
      → Same k d ts us → BothRead k d ts (constant_after inner start n ts) (constant_after inner' start' n us)
  unfolding constant_after
  constant_both start start' n same = also (expect_both by_equals same) (λ side side' s. also (ended_both s) (λ x y s. given s))

  name_look : (start start' n : ℕ) (t : Symbol) (ts us : List Symbol)
      → Looks k d d (λ x. x.1) t ts us (after_name inner start n (t ∷ ts)) (after_name inner' start' n (t ∷ us))
  name_look start start' n Open ts us = takes _ opens (λ s. function_both start start' n s)
  name_look start start' n t ts us = stays_at (λ s. constant_both start start' n s)

nothing_behind : (inner : Reader) (start n : ℕ) → remains (λ x. x.1) (after_name inner start n []) ≡ []
unfolding constant_after
nothing_behind inner start n = refl

-- by readers that agree inside brackets
module _ {k : Fork} {d : ℕ} {inner inner' : Reader} (inside : AgreesInside k (suc d) inner inner') where
  -- after the name
  definition_both : (n : ℕ) {ts us : List Symbol} → Same k d ts us → BothRead k d ts (definition inner (Name n ∷ ts)) (definition inner' (Name n ∷ us))
  unfolding definition
  definition_both n {ts = ts} {us = us} same =
      looked (after_name inner (length (Name n ∷ ts)) n) (after_name inner' (length (Name n ∷ us)) n) (nothing_behind inner _ n) (name_look inside _ _ n) same

  rule_both : {ts us : List Symbol} → Same k d ts us → BothRead k d ts (one_rule inner ts) (one_rule inner' us)
  unfolding one_rule
  rule_both same =
      also (expect_both by_open same) (λ opened opened' s. also (enclosed_both inside insides.Patterns s)
      (λ ps ps' s. also (expect_both by_arrow s) (λ side side' s. also (ended_both inside s) (λ x y s. given s))))

  -- after the bracket
  rule_behind : {ts us : List Symbol} → Same k (suc d) ts us → BothRead k d ts (one_rule inner (Open ∷ ts)) (one_rule inner' (Open ∷ us))
  unfolding one_rule
  rule_behind same =
      also (enclosed_both inside insides.Patterns same)
      (λ ps ps' s. also (expect_both by_arrow s) (λ side side' s. also (ended_both inside s) (λ x y s. given s)))

-- ---- declarations
text_both : {k : Fork} {d : ℕ} {ts us : List Symbol} → Same k d ts us → BothPass k d ts (declared_text ts) (declared_text us)
text_both same = also (a_text_both same) (λ text text' s. expect_both by_semicolon s)

declared_look : {k : Fork} {d : ℕ} (t : Symbol) (ts us : List Symbol) → Looks k d d (λ rest. rest) t ts us (declared_for (t ∷ ts)) (declared_for (t ∷ us))
declared_look (Name n) ts us = takes _ (no_bracket (λ p n. n)) (λ s. text_both s)
declared_look t ts us = stays_at (λ s. text_both s)

declaration_both : {k : Fork} {d : ℕ} {ts us : List Symbol} → Same k d ts us → BothPass k d ts (declaration ts) (declaration us)
declaration_both same = also (a_name_both same) (λ n n' s. looked declared_for declared_for refl declared_look s)

-- ---- lists
one_law : (next : List Symbol → Item) (t : Symbol) (ts : List Symbol) (r : Step Tree) → next (t ∷ ts) ≡ one_of r → length (remains (λ x. x.1) r) ≤ length ts
    → all_of next (t ∷ ts) ≡ (r >>= λ x. before x.0 (all_of next x.1))
one_law next t ts (Ok x) e few = many_one next (t ∷ ts) x.0 x.1 e (omega arith)
one_law next t ts (Err at) e few = many_stop next (t ∷ ts) at e

skip_law : (next : List Symbol → Item) (t : Symbol) (ts : List Symbol) (r : Result (List Symbol) (List Symbol))
    → next (t ∷ ts) ≡ skip_of r → length (remains (λ rest. rest) r) ≤ length ts
    → all_of next (t ∷ ts) ≡ (r >>= λ rest. all_of next rest)
skip_law next t ts (Ok rest) e few = many_skip next (t ∷ ts) rest e (omega arith)
skip_law next t ts (Err at) e few = many_stop next (t ∷ ts) at e

abbrev ItemsAgree : Fork → ℕ → (List Symbol → Item) → (List Symbol → Item) → ℕ → Type 0
ItemsAgree k d next next' n = (ts us : List Symbol) → length ts < n → Same k d ts us → BothRead k d ts (all_of next ts) (all_of next' us)

-- an item after a token, and what is passed over after one
one_both : {k : Fork} {m d : ℕ} (n : ℕ) (next next' : List Symbol → Item) (t : Symbol) (ts us : List Symbol) (r s : Step Tree)
    → ItemsAgree k d next next' n → length (t ∷ ts) ≤ n → next (t ∷ ts) ≡ one_of r → next' (t ∷ us) ≡ one_of s → Same k m ts us → BothRead k d ts r s
    → BothRead k d ts (all_of next (t ∷ ts)) (all_of next' (t ∷ us))
one_both n next next' t ts us r s go few p q same a = unrolled (λ x. before x.0 (all_of next x.1)) (λ x. before x.0 (all_of next' x.1)) same a
    (λ le. one_law next t ts r p le)
    (λ le. one_law next' t us s q le)
    (λ x y le alike. also (go _ _ (omega arith) alike) (λ z w s. given s))

skip_both : {k : Fork} {m d : ℕ} (n : ℕ) (next next' : List Symbol → Item) (t : Symbol) (ts us : List Symbol) (r s : Result (List Symbol) (List Symbol))
    → ItemsAgree k d next next' n → length (t ∷ ts) ≤ n → next (t ∷ ts) ≡ skip_of r → next' (t ∷ us) ≡ skip_of s → Same k m ts us → BothPass k d ts r s
    → BothRead k d ts (all_of next (t ∷ ts)) (all_of next' (t ∷ us))
skip_both n next next' t ts us r s go few p q same a = unrolled (λ rest. all_of next rest) (λ rest. all_of next' rest) same a
    (λ le. skip_law next t ts r p le)
    (λ le. skip_law next' t us s q le)
    (λ x y le alike. go _ _ (omega arith) alike)

-- no item
no_both : {k : Fork} {d : ℕ} (next next' : List Symbol → Item) {ts us : List Symbol}
    → all_of next ts ≡ Ok (End, ts) → all_of next' us ≡ Ok (End, us) → Same k d ts us → BothRead k d ts (all_of next ts) (all_of next' us)
no_both next next' p q s = of_equal p q (given s)

no_item : (inner : Reader) (items : Items) → item inner items [] ≡ descent.Nothing
no_item inner Statements = refl
no_item inner Definitions = refl
no_item inner Rules = refl
no_item inner (Parts kind) = refl

-- by readers that agree inside brackets
module _ {k : Fork} {d : ℕ} {inner inner' : Reader} (inside : AgreesInside k (suc d) inner inner') where
  item_look : (items : Items) (n : ℕ) → ItemsAgree k d (item inner items) (item inner' items) n → (t : Symbol) (ts us : List Symbol)
      → length (t ∷ ts) ≤ n → Looks k d d (λ x. x.1) t ts us (all_of (item inner items) (t ∷ ts)) (all_of (item inner' items) (t ∷ us))
  item_look Statements n go (Name m) ts us few = takes _ (no_bracket (λ p n. n))
      (λ s. one_both n (item inner Statements) (item inner' Statements)
      (Name m) ts us (definition inner (Name m ∷ ts)) (definition inner' (Name m ∷ us)) go few refl refl s (definition_both inside m s))
  item_look Statements n go Declare ts us few = takes _ (no_bracket (λ p n. n))
      (λ s. skip_both n (item inner Statements)
      (item inner' Statements) Declare ts us (declaration ts) (declaration us) go few refl refl s (declaration_both s))
  item_look Statements n go t ts us few =
      stays_at (λ s. no_both (item inner Statements)
      (item inner' Statements) (many_done (item inner Statements) (t ∷ ts) refl) (many_done (item inner' Statements) (t ∷ us) refl) s)
  item_look Definitions n go (Name m) ts us few = takes _ (no_bracket (λ p n. n))
      (λ s. one_both n (item inner Definitions) (item inner' Definitions)
      (Name m) ts us (definition inner (Name m ∷ ts)) (definition inner' (Name m ∷ us)) go few refl refl s (definition_both inside m s))
  item_look Definitions n go t ts us few =
      stays_at (λ s. no_both (item inner Definitions)
      (item inner' Definitions) (many_done (item inner Definitions) (t ∷ ts) refl) (many_done (item inner' Definitions) (t ∷ us) refl) s)
  item_look Rules n go Open ts us few = takes _ opens
      (λ s. one_both n (item inner Rules)
      (item inner' Rules) Open ts us (one_rule inner (Open ∷ ts)) (one_rule inner' (Open ∷ us)) go few refl refl s (rule_behind inside s))
  item_look Rules n go t ts us few =
      stays_at
      (λ s. no_both (item inner Rules) (item inner' Rules) (many_done (item inner Rules) (t ∷ ts) refl) (many_done (item inner' Rules) (t ∷ us) refl) s)
  item_look (Parts kind) n go Comma ts us few = takes _ (no_bracket (λ p n. n))
      (λ s. one_both n (item inner (Parts kind)) (item inner' (Parts kind)) Comma ts us (phrase inner kind commas.Separate 8 ts)
      (phrase inner' kind commas.Separate 8 us) go few refl refl s (phrase_both inside kind commas.Separate 8 (omega arith) ts us s))
  item_look (Parts kind) n go t ts us few =
      stays_at (λ s. no_both (item inner (Parts kind))
      (item inner' (Parts kind)) (many_done (item inner (Parts kind)) (t ∷ ts) refl) (many_done (item inner' (Parts kind)) (t ∷ us) refl) s)

  items_among : (items : Items) (n : ℕ) → ItemsAgree k d (item inner items) (item inner' items) n
  items_among items zero ts us few same = absurd (omega arith)
  items_among items (suc n) ts us few same = looked_among n (all_of (item inner items)) (all_of (item inner' items))
      (ap (λ r. remains (λ x. x.1) r) (many_done (item inner items) [] (no_item inner items)))
      (item_look items n (items_among items n)) (omega arith) same

  pub further_both : (items : Items) {ts us : List Symbol} → Same k d ts us → BothRead k d ts (further inner items ts) (further inner' items us)
  unfolding further
  further_both items {ts = ts} {us = us} same = items_among items (suc (length ts)) ts us (omega arith) same

  rules_both : {ts us : List Symbol} → Same k d ts us → BothRead k d ts (listed inner Rules ts) (listed inner' Rules us)
  unfolding listed
  rules_both same = also (rule_both inside same) (λ x y s. also (further_both Rules s) (λ z w s. given s))

  parts_both : (kind : Operands) {ts us : List Symbol} → Same k d ts us → BothRead k d ts (listed inner (Parts kind) ts) (listed inner' (Parts kind) us)
  unfolding listed
  parts_both kind {ts = ts} {us = us} same =
      also (phrase_both inside kind commas.Separate 8 (omega arith) ts us same) (λ x y s. also (further_both (Parts kind) s) (λ z w s. given s))

  -- ---- inside brackets
  descend_both : (what : Inside) {ts us : List Symbol} → Same k d ts us → BothRead k d ts (descend inner what ts) (descend inner' what us)
  descend_both insides.Expression same = expression_both inside same
  descend_both insides.Argument same = phrase_both inside operands.Expressions commas.Separate 8 (omega arith) _ _ same
  descend_both insides.Pattern same = phrase_both inside operands.Patterns commas.Join 8 (omega arith) _ _ same
  descend_both insides.Arguments same = parts_both operands.Expressions same
  descend_both insides.Patterns same = parts_both operands.Patterns same
  descend_both insides.Rules same = rules_both same
  descend_both insides.Definitions same = further_both Definitions same

-- where no bracket may be opened the token is passed, or more are open than may be
no_nesting : {k : Fork} {d : ℕ} {ts us : List Symbol} (s : Step Tree) → d ≡ k.limit → Same k (suc d) ts us → BothRead k (suc d) ts (Err ts) s
no_nesting s e (abreast p low n) = absurd (omega arith)
no_nesting s e (past le) = record { fewer = omega arith; alike = beyond le }

-- The one may open as many brackets as the limit leaves, and the other at least as many.
pub within_both : (k : Fork) (nesting more d : ℕ) → nesting + d ≡ k.limit → nesting ≤ more → AgreesInside k (suc d) (within nesting) (within more)
unfolding within
within_both k zero more d e le = record { agree = λ what same. no_nesting _ (omega arith) same }
within_both k (suc nesting) zero d e le = absurd (omega arith)
within_both k (suc nesting) (suc more) d e le =
    record { agree = λ what same. descend_both (within_both k nesting more (suc d) (omega arith) (omega arith)) what same }
