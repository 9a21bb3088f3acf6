-- What the loops of the descent do, a turn at a time.
use Rattle.std.proofs.Common.{◌≡◌, ℕ, zero, suc, ◌<◌, true, false, cond, List, [], ◌∷◌, length, drop, Ok, Err, refl, ap, ◌∙◌, arith, inl, inr}
use Rattle.std.specs.Prelude.{nat_lt, nat_eq}
use Rattle.std.proofs.lemmas.Bool.{cases_lt, le-ltb, lt-ltb}
use Rattle.fv_lex.specs.declared.token.Symbol.{Symbol}
use Rattle.fv_parse_grammar.specs.headline.Tree.{Tree, Binary, End, More}
use Rattle.fv_parse_grammar.specs.Descent.{Step, ◌>>=◌, Turn, Done, Next, Stop, after, turns, run, power_at, operator_at, rights, chain}
use Rattle.fv_parse_grammar.specs.Descent.{at_comma, separated, all_separated}
use Rattle.fv_parse_grammar.specs.Descent.{Item, Nothing, Skip, One, Fault, with_item, many}
use Rattle.fv_parse_grammar.specs.declared.symbol.Operands.{Operands}
use Rattle.fv_parse_grammar.specs.declared.symbol.Commas.{Commas}

-- ---- turns
turns_again : (k : ℕ) (body : Tree → List Symbol → Turn) (x : Tree) (ts : List Symbol) → length ts < k → turns k body x ts ≡ run body x ts
unfolding turns run
turns_again zero body x ts h = absurd (omega arith)
turns_again (suc k) body x ts h = elim (cases_lt (length ts) k) [
  | inl lt ↦ rw (lt-ltb (length ts) k lt) (turns_again k body x ts lt)
  | inr le ↦ let e : k ≡ length ts = omega arith in ap (λ n. turns (suc n) body x ts) e
]

one_turn : (body : Tree → List Symbol → Turn) (x : Tree) (ts : List Symbol) → run body x ts ≡ after (turns (length ts) body) (Ok (x, ts)) (body x ts)
unfolding turns run
one_turn body x ts = let no : nat_lt (length ts) (length ts) ≡ false = le-ltb (length ts) (length ts) (omega arith) in rw no refl

pub run_next : (body : Tree → List Symbol → Turn) (x : Tree) (ts : List Symbol) (y : Tree) (rest : List Symbol)
    → body x ts ≡ Next y rest → length rest < length ts → run body x ts ≡ run body y rest
run_next body x ts y rest e h = one_turn body x ts ∙ ap (λ t. after (turns (length ts) body) (Ok (x, ts)) t) e ∙ turns_again (length ts) body y rest h

pub run_done : (body : Tree → List Symbol → Turn) (x : Tree) (ts : List Symbol) → body x ts ≡ Done → run body x ts ≡ Ok (x, ts)
run_done body x ts e = one_turn body x ts ∙ ap (λ t. after (turns (length ts) body) (Ok (x, ts)) t) e

pub run_stop : (body : Tree → List Symbol → Turn) (x : Tree) (ts at : List Symbol) → body x ts ≡ Stop at → run body x ts ≡ Err at
run_stop body x ts at e = one_turn body x ts ∙ ap (λ t. after (turns (length ts) body) (Ok (x, ts)) t) e

-- ---- parts that are joined to the right
rights_again : (k : ℕ) (part : List Symbol → Step Tree) (kind : Operands) (comma : Commas) (r : ℕ) (ts : List Symbol)
    → length ts < k → rights k part kind comma r ts ≡ chain part kind comma r ts
unfolding rights chain
rights_again zero part kind comma r ts h = absurd (omega arith)
rights_again (suc k) part kind comma r ts h = elim (cases_lt (length ts) k) [
  | inl lt ↦ rw (lt-ltb (length ts) k lt) (rights_again k part kind comma r ts lt)
  | inr le ↦ let e : k ≡ length ts = omega arith in ap (λ n. rights (suc n) part kind comma r ts) e
]

abbrev pub joined : List Symbol → List Symbol → Tree → Step Tree → Step Tree
joined ts at x read = read >>= λ y. Ok (Binary (length ts) (operator_at at) x y.0, y.1)

one_part : (part : List Symbol → Step Tree) (kind : Operands) (comma : Commas) (r : ℕ) (ts : List Symbol) → chain part kind comma r ts
    ≡ (part ts >>= λ x. cond (nat_eq (power_at kind comma x.1) r) (joined ts x.1 x.0 (rights (length ts) part kind comma r (drop 1 x.1))) (Ok (x.0, x.1)))
unfolding rights chain
one_part part kind comma r ts = let no : nat_lt (length ts) (length ts) ≡ false = le-ltb (length ts) (length ts) (omega arith) in rw no refl

pub chain_next : (part : List Symbol → Step Tree) (kind : Operands) (comma : Commas) (r : ℕ) (ts : List Symbol) (x : Tree) (rest : List Symbol)
    → part ts ≡ Ok (x, rest) → nat_eq (power_at kind comma rest) r ≡ true → length (drop 1 rest) < length ts
    → chain part kind comma r ts ≡ joined ts rest x (chain part kind comma r (drop 1 rest))
chain_next part kind comma r ts x rest e on h =
    one_part part kind comma r ts ∙ (rw (e, on) (ap (λ z. joined ts rest x z) (rights_again (length ts) part kind comma r (drop 1 rest) h)))

pub chain_done : (part : List Symbol → Step Tree) (kind : Operands) (comma : Commas) (r : ℕ) (ts : List Symbol) (x : Tree) (rest : List Symbol)
    → part ts ≡ Ok (x, rest) → nat_eq (power_at kind comma rest) r ≡ false → chain part kind comma r ts ≡ Ok (x, rest)
chain_done part kind comma r ts x rest e off = one_part part kind comma r ts ∙ rw (e, off) refl

pub chain_stop : (part : List Symbol → Step Tree) (kind : Operands) (comma : Commas) (r : ℕ) (ts at : List Symbol)
    → part ts ≡ Err at → chain part kind comma r ts ≡ Err at
chain_stop part kind comma r ts at e = one_part part kind comma r ts ∙ rw e refl

-- ---- what commas separate
abbrev pub with_first : {A : Type 0} → A → Step (List A) → Step (List A)
with_first x read = read >>= λ xs. Ok (x ∷ xs.0, xs.1)

module _ {A : Type 0} (item : List Symbol → Step A) where
  separated_again : (k : ℕ) (ts : List Symbol) → length ts < k → separated item k ts ≡ all_separated item ts
  unfolding separated
  separated_again zero ts h = absurd (omega arith)
  separated_again (suc k) ts h = elim (cases_lt (length ts) k) [
    | inl lt ↦ rw (lt-ltb (length ts) k lt) (separated_again k ts lt)
    | inr le ↦ let e : k ≡ length ts = omega arith in ap (λ n. separated item (suc n) ts) e
  ]

  one_separated : (ts : List Symbol)
      → all_separated item ts ≡ (item ts >>= λ x. cond (at_comma x.1) (with_first x.0 (separated item (length ts) (drop 1 x.1))) (Ok (x.0 ∷ [], x.1)))
  unfolding separated
  one_separated ts = let no : nat_lt (length ts) (length ts) ≡ false = le-ltb (length ts) (length ts) (omega arith) in rw no refl

  pub separated_step : (ts : List Symbol) (x : A) (rest : List Symbol) → item ts ≡ Ok (x, rest) → at_comma rest ≡ true → length (drop 1 rest) < length ts
      → all_separated item ts ≡ with_first x (all_separated item (drop 1 rest))
  separated_step ts x rest e on h = one_separated ts ∙ rw (e, on) (ap (λ r. with_first x r) (separated_again (length ts) (drop 1 rest) h))

  pub separated_end : (ts : List Symbol) (x : A) (rest : List Symbol) → item ts ≡ Ok (x, rest) → at_comma rest ≡ false
      → all_separated item ts ≡ Ok (x ∷ [], rest)
  separated_end ts x rest e off = one_separated ts ∙ rw (e, off) refl

  pub separated_stop : (ts at : List Symbol) → item ts ≡ Err at → all_separated item ts ≡ Err at
  separated_stop ts at e = one_separated ts ∙ rw e refl

-- ---- items
many_again : (k : ℕ) (next : List Symbol → Item) (ts : List Symbol) → length ts < k → many k next ts ≡ many (suc (length ts)) next ts
unfolding many
many_again zero next ts h = absurd (omega arith)
many_again (suc k) next ts h = elim (cases_lt (length ts) k) [
  | inl lt ↦ rw (lt-ltb (length ts) k lt) (many_again k next ts lt)
  | inr le ↦ let e : k ≡ length ts = omega arith in ap (λ n. many (suc n) next ts) e
]

abbrev pub all_of : (List Symbol → Item) → List Symbol → Step Tree
all_of next ts = many (suc (length ts)) next ts

abbrev pub before : Tree → Step Tree → Step Tree
before x read = read >>= λ y. Ok (More x y.0, y.1)

one_item : (next : List Symbol → Item) (ts : List Symbol) → all_of next ts ≡ with_item (many (length ts) next) ts (next ts)
unfolding many
one_item next ts = let no : nat_lt (length ts) (length ts) ≡ false = le-ltb (length ts) (length ts) (omega arith) in rw no refl

pub many_one : (next : List Symbol → Item) (ts : List Symbol) (x : Tree) (rest : List Symbol)
    → next ts ≡ One x rest → length rest < length ts → all_of next ts ≡ before x (all_of next rest)
many_one next ts x rest e h = one_item next ts ∙ rw e (ap (λ r. before x r) (many_again (length ts) next rest h))

pub many_skip : (next : List Symbol → Item) (ts rest : List Symbol) → next ts ≡ Skip rest → length rest < length ts → all_of next ts ≡ all_of next rest
many_skip next ts rest e h = one_item next ts ∙ rw e (many_again (length ts) next rest h)

pub many_done : (next : List Symbol → Item) (ts : List Symbol) → next ts ≡ Nothing → all_of next ts ≡ Ok (End, ts)
many_done next ts e = one_item next ts ∙ rw e refl

pub many_stop : (next : List Symbol → Item) (ts at : List Symbol) → next ts ≡ Fault at → all_of next ts ≡ Err at
many_stop next ts at e = one_item next ts ∙ rw e refl
