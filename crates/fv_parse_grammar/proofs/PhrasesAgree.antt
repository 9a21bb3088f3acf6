-- Postfixes, patterns, operators and expressions, in two lists that are the same up to and with a token.
use Rattle.std.proofs.Common.{◌≡◌, ℕ, zero, suc, ◌≤◌, ◌<◌, true, false, cond, List, [], ◌∷◌, length, drop, Ok, Err, refl, ap, ◌∙◌, arith}
use Rattle.std.specs.Prelude.{nat_eq}
use Rattle.std.proofs.lemmas.Bool.{eqb-true}
use Rattle.fv_parse_grammar.specs.Symbol.{Symbol}
use Rattle.fv_parse_grammar.specs.Symbol.TheVariants.{Name, Integer, Open, With, Tick}
use Rattle.fv_parse_grammar.specs.Symbol.TheVariants as symbols
use Rattle.fv_parse_grammar.specs.declared.symbol.Inside.TheVariants as insides
use Rattle.fv_parse_grammar.specs.headline.Symbols.{power, operator, is_left}
use Rattle.fv_parse_grammar.specs.headline.Tree.{Tree, Delayed, Apply, Binary, Where}
use Rattle.fv_parse_grammar.specs.declared.symbol.Mark.TheVariants as marks
use Rattle.fv_parse_grammar.specs.Descent.{Step, ◌>>=◌, Turn, Done, turn, run, Reader, power_at, expect, enclosed, plus_number, minus_number}
use Rattle.fv_parse_grammar.specs.Descent.{postfix, postfix_turn, atom_by_first, atom, operand, chain, phrase, left_turn, expression, with_turn}
use Rattle.fv_parse_grammar.proofs.lemmas.Loops.{run_next, run_done, run_stop, joined, chain_next, chain_done, chain_stop}
use Rattle.fv_parse_grammar.proofs.Agreement.{Fork, Same, remains, BothRead, also, given, halted, both_test, of_test, of_equal, unrolled, Looks}
use Rattle.fv_parse_grammar.proofs.Agreement.{takes, stays_at, looked, looked_among, opens, no_bracket, operator_passing, AgreesInside}
use Rattle.fv_parse_grammar.proofs.PiecesAgree.{expect_both, by_open_brace, by_close_brace, enclosed_both}
use Rattle.fv_parse_grammar.proofs.OperandsAgree.{primary_both}
use Rattle.fv_parse_grammar.specs.declared.symbol.Operands.{Operands}
use Rattle.fv_parse_grammar.specs.declared.symbol.Commas.{Commas}
use Rattle.fv_parse_grammar.specs.declared.symbol.Operands.TheVariants as operands
use Rattle.fv_parse_grammar.specs.declared.symbol.Commas.TheVariants as commas

-- ---- loops of turns
run_turn : (body : Tree → List Symbol → Turn) (x : Tree) (all : List Symbol) (r : Step Tree) (f : Tree → Tree)
    → body x all ≡ turn r f → length (remains (λ z. z.1) r) < length all
    → run body x all ≡ (r >>= λ z. run body (f z.0) z.1)
run_turn body x all (Ok z) f e fewer = run_next body x all (f z.0) z.1 e fewer
run_turn body x all (Err at) f e fewer = run_stop body x all at e

-- two loops agree on lists of fewer than n tokens
abbrev TurnsAgree : Fork → ℕ → (Tree → List Symbol → Turn) → (Tree → List Symbol → Turn) → ℕ → Type 0
TurnsAgree k d body body' n = (x y : Tree) (ts us : List Symbol) → length ts < n → Same k d ts us → BothRead k d ts (run body x ts) (run body' y us)

-- a turn after a token
turn_both : {k : Fork} {m d : ℕ}
    (n : ℕ) (body body' : Tree → List Symbol → Turn) (x y : Tree) (t : Symbol) (ts us : List Symbol) (r s : Step Tree) (f g : Tree → Tree)
    → TurnsAgree k d body body' n → length (t ∷ ts) ≤ n → body x (t ∷ ts) ≡ turn r f → body' y (t ∷ us) ≡ turn s g → Same k m ts us → BothRead k d ts r s
    → BothRead k d ts (run body x (t ∷ ts)) (run body' y (t ∷ us))
turn_both n body body' x y t ts us r s f g go few p q same a = unrolled (λ z. run body (f z.0) z.1) (λ z. run body' (g z.0) z.1) same a
    (λ le. run_turn body x (t ∷ ts) r f p (omega arith))
    (λ le. run_turn body' y (t ∷ us) s g q (omega arith))
    (λ z w le alike. go _ _ _ _ (omega arith) alike)

turns_among : (k : Fork) (d : ℕ) (body body' : Tree → List Symbol → Turn)
    → ((n : ℕ) → TurnsAgree k d body body' n → (x y : Tree) (t : Symbol) (ts us : List Symbol)
    → length (t ∷ ts) ≤ n → Looks k d d (λ z. z.1) t ts us (run body x (t ∷ ts)) (run body' y (t ∷ us)))
    → ((x : Tree) → body x [] ≡ Done) → (n : ℕ) → TurnsAgree k d body body' n
turns_among k d body body' looks none zero x y ts us few same = absurd (omega arith)
turns_among k d body body' looks none (suc n) x y ts us few same = looked_among n (run body x) (run body' y)
    (ap (λ r. remains (λ z. z.1) r) (run_done body x [] (none x))) (looks n (turns_among k d body body' looks none n) x y) (omega arith) same

-- ---- postfix
module _ {k : Fork} {d : ℕ} {inner inner' : Reader} (inside : AgreesInside k (suc d) inner inner') where
  postfix_look : (start start' : ℕ) (n : ℕ)
      → TurnsAgree k d (postfix_turn inner start) (postfix_turn inner' start') n → (x y : Tree) (t : Symbol) (ts us : List Symbol)
      → length (t ∷ ts) ≤ n → Looks k d d (λ z. z.1) t ts us (run (postfix_turn inner start) x (t ∷ ts)) (run (postfix_turn inner' start') y (t ∷ us))
  postfix_look start start' n go x y Tick ts us few = takes _ (no_bracket (λ p n. n))
      (λ s. of_equal (run_next (postfix_turn inner start) x (Tick ∷ ts) (Delayed start x) ts refl (omega arith))
      (run_next (postfix_turn inner' start') y (Tick ∷ us) (Delayed start' y) us refl (omega arith))
      (go _ _ _ _ (omega arith) s))
  postfix_look start start' n go x y Open ts us few = takes _ opens
      (λ s. turn_both n (postfix_turn inner start) (postfix_turn inner' start') x y Open ts us
      (enclosed inner insides.Arguments ts) (enclosed inner' insides.Arguments us) (λ z. Apply start x z) (λ z. Apply start' y z)
      go few refl refl s (enclosed_both inside insides.Arguments s))
  postfix_look start start' n go x y t ts us few =
      stays_at (λ s. of_equal (run_done (postfix_turn inner start) x (t ∷ ts) refl) (run_done (postfix_turn inner' start') y (t ∷ us) refl) (given s))

  postfix_both : {ts us : List Symbol} → Same k d ts us → BothRead k d ts (postfix inner ts) (postfix inner' us)
  unfolding postfix
  postfix_both {ts = ts} {us = us} same = also (primary_both inside same)
      (λ x y s. turns_among _ _ (postfix_turn inner (length ts))
      (postfix_turn inner' (length us)) (postfix_look (length ts) (length us)) (λ x. refl) (suc (length x.1)) x.0 y.0 x.1 y.1 (omega arith) s)

-- ---- patterns
plus_look : {k : Fork} {d : ℕ} (start start' : ℕ) (t : Symbol) (ts us : List Symbol)
    → Looks k d d (λ x. x.1) t ts us (plus_number start (t ∷ ts)) (plus_number start' (t ∷ us))
plus_look start start' (Integer n) ts us = takes _ (no_bracket (λ p n. n)) given
plus_look start start' t ts us = stays_at halted

minus_look : {k : Fork} {d : ℕ} (start start' : ℕ) (t : Symbol) (ts us : List Symbol)
    → Looks k d d (λ x. x.1) t ts us (minus_number start (t ∷ ts)) (minus_number start' (t ∷ us))
minus_look start start' (Integer n) ts us = takes _ (no_bracket (λ p n. n)) given
minus_look start start' t ts us = stays_at halted

-- by readers that agree inside brackets
module _ {k : Fork} {d : ℕ} {inner inner' : Reader} (inside : AgreesInside k (suc d) inner inner') where
  atom_look : (t : Symbol) (ts us : List Symbol)
      → Looks k d d (λ x. x.1) t ts us (atom_by_first inner t (t ∷ ts) ts) (atom_by_first inner' t (t ∷ us) us)
  atom_look (Integer n) ts us = takes _ (no_bracket (λ p n. n)) given
  atom_look (Name n) ts us = takes _ (no_bracket (λ p n. n)) given
  atom_look symbols.Plus ts us = takes _ (no_bracket (λ p n. n))
      (λ s. looked (plus_number (length (symbols.Plus ∷ ts))) (plus_number (length (symbols.Plus ∷ us))) refl (plus_look _ _) s)
  atom_look symbols.Minus ts us = takes _ (no_bracket (λ p n. n))
      (λ s. looked (minus_number (length (symbols.Minus ∷ ts))) (minus_number (length (symbols.Minus ∷ us))) refl (minus_look _ _) s)
  atom_look Open ts us = takes _ opens (λ s. enclosed_both inside insides.Pattern s)
  atom_look t ts us = stays_at halted

  atom_both : {ts us : List Symbol} → Same k d ts us → BothRead k d ts (atom inner ts) (atom inner' us)
  atom_both same = looked (atom inner) (atom inner') refl atom_look same

  operand_both : (kind : Operands) {ts us : List Symbol} → Same k d ts us → BothRead k d ts (operand inner kind ts) (operand inner' kind us)
  operand_both operands.Patterns same = atom_both same
  operand_both operands.Expressions same = postfix_both inside same

-- ---- operators
-- both readers of what the operators join agree
record AgreesPart (k : Fork) (d : ℕ) (part part' : List Symbol → Step Tree) : Type 0 where
  agree : (ts us : List Symbol) → Same k d ts us → BothRead k d ts (part ts) (part' us)

powered : (kind : Operands) (comma : Commas) (h : ℕ) (t : Symbol) → nat_eq (power kind comma t) (suc (suc h)) ≡ true
    → power kind comma t ≡ suc (suc h)
powered kind comma h t e = eqb-true (power kind comma t) (suc (suc h)) e

no_power : (kind : Operands) (comma : Commas) (h : ℕ) → h < 8 → nat_eq (power_at kind comma []) (suc (suc h)) ≡ false
no_power kind comma h small = of_test (nat_eq (power_at kind comma []) (suc (suc h)))
    (λ on. let p : power_at kind comma [] ≡ suc (suc h) = eqb-true (power_at kind comma []) (suc (suc h)) on in absurd (omega arith))
    (λ off. off)

-- to the left
left_look : {k : Fork} {d : ℕ} {part part' : List Symbol → Step Tree}
    → AgreesPart k d part part' → (kind : Operands) (comma : Commas) (h : ℕ) → h < 8 → (start start' : ℕ) (n : ℕ)
    → TurnsAgree k d (left_turn part kind comma (suc (suc h)) start) (left_turn part' kind comma (suc (suc h)) start') n
    → (x y : Tree) (t : Symbol) (ts us : List Symbol) → length (t ∷ ts) ≤ n
    → Looks k d d (λ z. z.1) t ts us
    (run (left_turn part kind comma (suc (suc h)) start) x (t ∷ ts)) (run (left_turn part' kind comma (suc (suc h)) start') y (t ∷ us))
left_look {part = part} {part' = part'} parts kind comma h small start start' n go x y t ts us few = of_test (nat_eq (power kind comma t) (suc (suc h)))
    (λ on. let r = powered kind comma h t on in takes _ (operator_passing kind comma t (omega arith) (omega arith))
    (λ s. turn_both n (left_turn part kind comma (suc (suc h)) start) (left_turn part' kind comma (suc (suc h)) start') x y t ts us (part ts) (part' us)
    (λ z. Binary start (operator t) x z) (λ z. Binary start' (operator t) y z) go few (rw on refl) (rw on refl) s (parts.agree ts us s)))
    (λ off. stays_at (λ s. of_equal (run_done (left_turn part kind comma (suc (suc h)) start) x (t ∷ ts) (rw off refl))
    (run_done (left_turn part' kind comma (suc (suc h)) start') y (t ∷ us) (rw off refl)) (given s)))

-- to the right: an operator after a part, and what follows it
abbrev behind_part : (List Symbol → Step Tree) → Operands → Commas → ℕ → List Symbol → Tree → List Symbol → Step Tree
behind_part part kind comma r all x at = cond (nat_eq (power_at kind comma at) r) (joined all at x (chain part kind comma r (drop 1 at))) (Ok (x, at))

operator_fewer : (kind : Operands) (comma : Commas) (h : ℕ) (at : List Symbol)
    → h < 8 → nat_eq (power_at kind comma at) (suc (suc h)) ≡ true → length (drop 1 at) < length at
operator_fewer kind comma h [] small e = let p : power_at kind comma [] ≡ suc (suc h) = eqb-true (power_at kind comma []) (suc (suc h)) e in
    absurd (omega arith)
operator_fewer kind comma h (t ∷ ts) small e = omega arith

chain_law : (part : List Symbol → Step Tree) (kind : Operands) (comma : Commas) (h : ℕ)
    → h < 8 → (ts : List Symbol) (q : Step Tree) → part ts ≡ q → length (remains (λ z. z.1) q) ≤ length ts
    → chain part kind comma (suc (suc h)) ts ≡ (q >>= λ x. behind_part part kind comma (suc (suc h)) ts x.0 x.1)
chain_law part kind comma h small ts (Ok x) e few = of_test (nat_eq (power_at kind comma x.1) (suc (suc h)))
    (λ on. let f = operator_fewer kind comma h x.1 small on in chain_next part kind comma (suc (suc h)) ts x.0 x.1 e on (omega arith) ∙ rw on refl)
    (λ off. chain_done part kind comma (suc (suc h)) ts x.0 x.1 e off ∙ rw off refl)
chain_law part kind comma h small ts (Err at) e few = chain_stop part kind comma (suc (suc h)) ts at e

joined_both : {k : Fork} {d : ℕ} (all all' at at' : List Symbol) (x y : Tree) {ts : List Symbol} {r s : Step Tree}
    → BothRead k d ts r s → BothRead k d ts (joined all at x r) (joined all' at' y s)
joined_both all all' at at' x y a = also a (λ z w s. given s)

abbrev ChainsAgree : Fork → ℕ → (List Symbol → Step Tree) → (List Symbol → Step Tree) → Operands → Commas → ℕ → ℕ → Type 0
ChainsAgree k d part part' kind comma r n =
    (ts us : List Symbol) → length ts < n → Same k d ts us → BothRead k d ts (chain part kind comma r ts) (chain part' kind comma r us)

behind_look : {k : Fork} {d : ℕ} (part part' : List Symbol → Step Tree) (kind : Operands) (comma : Commas) (h : ℕ)
    → h < 8 → (n : ℕ) → ChainsAgree k d part part' kind comma (suc (suc h)) n
    → (all all' : List Symbol) (x y : Tree) (t : Symbol) (ts us : List Symbol) → length (t ∷ ts) ≤ n
    → Looks k d d (λ z. z.1) t ts us (behind_part part kind comma (suc (suc h)) all x (t ∷ ts)) (behind_part part' kind comma (suc (suc h)) all' y (t ∷ us))
behind_look part part' kind comma h small n go all all' x y t ts us few = of_test (nat_eq (power kind comma t) (suc (suc h)))
    (λ on. let r = powered kind comma h t on in takes _ (operator_passing kind comma t (omega arith) (omega arith))
    (λ s. of_equal (rw on refl) (rw on refl) (joined_both all all' (t ∷ ts) (t ∷ us) x y (go ts us (omega arith) s))))
    (λ off. stays_at (λ s. of_equal (rw off refl) (rw off refl) (given {x = (x, t ∷ ts)} {y = (y, t ∷ us)} s)))

chain_among : (k : Fork) (d : ℕ) (part part' : List Symbol → Step Tree)
    → AgreesPart k d part part' → (kind : Operands) (comma : Commas) (h : ℕ) → h < 8 → (n : ℕ) → ChainsAgree k d part part' kind comma (suc (suc h)) n
chain_among k d part part' parts kind comma h small zero ts us few same = absurd (omega arith)
chain_among k d part part' parts kind comma h small (suc n) ts us few same =
    unrolled (λ x. behind_part part kind comma (suc (suc h)) ts x.0 x.1)
    (λ x. behind_part part' kind comma (suc (suc h)) us x.0 x.1) same (parts.agree ts us same)
    (λ le. chain_law part kind comma h small ts (part ts) refl le)
    (λ le. chain_law part' kind comma h small us (part' us) refl le)
    (λ x y le s. looked_among n (behind_part part kind comma (suc (suc h)) ts x.0)
    (behind_part part' kind comma (suc (suc h)) us y.0) (let off = no_power kind comma h small in rw off refl)
    (behind_look part part' kind comma h small n (chain_among k d part part' parts kind comma h small n) ts us x.0 y.0) (omega arith) s)

pub phrase_both : {k : Fork} {d : ℕ} {inner inner' : Reader}
    → AgreesInside k (suc d) inner inner' → (kind : Operands) (comma : Commas) (h : ℕ) → h < 9 → (ts us : List Symbol) → Same k d ts us
    → BothRead k d ts (phrase inner kind comma h ts) (phrase inner' kind comma h us)
unfolding phrase
phrase_both inside kind comma zero small ts us same = operand_both inside kind same
phrase_both {k = k} {d = d} {inner = inner} {inner' = inner'} inside kind comma (suc h) small ts us same =
    let parts : AgreesPart k d (phrase inner kind comma h) (phrase inner' kind comma h) = record { agree = phrase_both inside kind comma h (omega arith) } in
    both_test (is_left (suc h))
    (λ left. also (parts.agree ts us same) (λ x y s. turns_among _ _ (left_turn (phrase inner kind comma h) kind comma (suc (suc h)) (length ts))
    (left_turn (phrase inner' kind comma h) kind comma (suc (suc h)) (length us))
    (left_look parts kind comma h (omega arith) (length ts) (length us))
    (λ z. let off = no_power kind comma h (omega arith) in rw off refl) (suc (length x.1)) x.0 y.0 x.1 y.1 (omega arith) s))
    (λ right. chain_among _ _ (phrase inner kind comma h)
    (phrase inner' kind comma h) parts kind comma h (omega arith) (suc (length ts)) ts us (omega arith) same)

-- ---- expression
abbrev block : Reader → List Symbol → Step Tree
block inner ts = expect marks.OpenBrace ts >>= λ rest. (inner insides.Definitions rest >>= λ y. (expect marks.CloseBrace y.1 >>= λ end. Ok (y.0, end)))

-- by readers that agree inside brackets
module _ {k : Fork} {d : ℕ} {inner inner' : Reader} (inside : AgreesInside k (suc d) inner inner') where
  block_both : {ts us : List Symbol} → Same k d ts us → BothRead k d ts (block inner ts) (block inner' us)
  block_both same =
      also (expect_both by_open_brace same)
      (λ opened opened' s. also (inside.agree insides.Definitions s) (λ x y s. also (expect_both by_close_brace s) (λ rest rest' s. given s)))

  with_look : (start start' : ℕ) (n : ℕ) → TurnsAgree k d (with_turn inner start) (with_turn inner' start') n → (x y : Tree) (t : Symbol) (ts us : List Symbol)
      → length (t ∷ ts) ≤ n → Looks k d d (λ z. z.1) t ts us (run (with_turn inner start) x (t ∷ ts)) (run (with_turn inner' start') y (t ∷ us))
  with_look start start' n go x y With ts us few = takes _ (no_bracket (λ p n. n))
      (λ s. turn_both n (with_turn inner start)
      (with_turn inner' start') x y With ts us (block inner ts) (block inner' us) (λ z. Where start x z) (λ z. Where start' y z)
      go few refl refl s (block_both s))
  with_look start start' n go x y t ts us few =
      stays_at (λ s. of_equal (run_done (with_turn inner start) x (t ∷ ts) refl) (run_done (with_turn inner' start') y (t ∷ us) refl) (given s))

  pub expression_both : {ts us : List Symbol} → Same k d ts us → BothRead k d ts (expression inner ts) (expression inner' us)
  unfolding expression
  expression_both {ts = ts} {us = us} same =
      also (phrase_both inside operands.Expressions commas.Join 8 (omega arith) ts us same)
      (λ x y s. turns_among _ _ (with_turn inner (length ts))
      (with_turn inner' (length us)) (with_look (length ts) (length us)) (λ x. refl) (suc (length x.1)) x.0 y.0 x.1 y.1 (omega arith) s)
