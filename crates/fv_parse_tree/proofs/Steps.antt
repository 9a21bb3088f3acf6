-- What each function of the reader adds to what it calls.
use Rattle.std.proofs.Common.{◌≡◌, ℕ, suc, ◌+◌, ◌-◌, ◌<◌, ◌≤◌, true, false, List, [], length, drop, Result, Ok, Err, refl, sym, ap, subst, ◌∙◌, arith}
use Rattle.std.specs.Prelude.{nat_eq}
use Rattle.std.proofs.lemmas.Bool.{lt-leb, le-leb}
use Rattle.fv_base.proofs.lemmas.Arena.{keeps_trans}
use Rattle.fv_lex.specs.declared.token.Symbol.{Symbol}
use Rattle.fv_parse_grammar.specs.declared.form.Operator.{Operator}
use Rattle.fv_parse_grammar.specs.declared.symbol.Inside.{Inside}
use Rattle.fv_parse_grammar.specs.declared.symbol.Items.{Items}
use Rattle.fv_parse_tree.specs.declared.node.TreeId.{TreeId}
use Rattle.fv_parse_tree.specs.declared.reader.Reader.{Reader}
use Rattle.fv_parse_tree.specs.declared.reader.Stop.{Stop}
use Rattle.fv_parse_grammar.specs.headline.Tree.{Tree, End}
use Rattle.fv_parse_grammar.specs.headline.Symbols.{is_left}
use Rattle.fv_parse_grammar.specs.Descent.{Step, ◌>>=◌, run, chain, power_at, operand, phrase, left_turn, descend, within, further, item}
use Rattle.fv_parse_grammar.specs.Descent.{Reader as Descent}
use Rattle.fv_parse_grammar.proofs.lemmas.Complete.{lower}
use Rattle.fv_parse_grammar.proofs.lemmas.Loops.{chain_next, chain_done, all_of}
use Rattle.fv_parse_tree.specs.Arena.{tree_at, trees}
use Rattle.fv_parse_tree.specs.Gives.{Fails, Gives, Found, Operates, in_front}
use Rattle.fv_parse_tree.proofs.Progress.{fails_by, by_operator}
use Rattle.fv_parse_grammar.specs.declared.symbol.Operands.{Operands}
use Rattle.fv_parse_grammar.specs.declared.symbol.Commas.{Commas}

-- ---- brackets
pub no_nesting : (nesting : ℕ) (what : Inside) (ts : List Symbol) → nesting ≡ 0 → within nesting what ts ≡ Err ts
unfolding within
no_nesting nesting what ts e = ap (λ n. within n what ts) e

-- ---- phrases
left_at : (inner : Descent) (kind : Operands) (comma : Commas) (k : ℕ) (ts : List Symbol) → suc k ≤ 5
    → phrase inner kind comma (suc k) ts
    ≡ (phrase inner kind comma k ts >>= λ x. run (left_turn (phrase inner kind comma k) kind comma (suc (suc k)) (length ts)) x.0 x.1)
unfolding phrase
left_at inner kind comma k ts h = let e : is_left (suc k) ≡ true = le-leb (suc k) 5 h in rw e refl

right_at : (inner : Descent) (kind : Operands) (comma : Commas) (k : ℕ) (ts : List Symbol)
    → 5 < suc k → phrase inner kind comma (suc k) ts ≡ chain (phrase inner kind comma k) kind comma (suc (suc k)) ts
unfolding phrase
right_at inner kind comma k ts h = let e : is_left (suc k) ≡ false = lt-leb (suc k) 5 h in rw e refl

-- a phrase of a precedence, by the phrase below it and the operators after that
module _ (inner : Descent) (kind : Operands) (comma : Commas) (h : ℕ) (ts : List Symbol) where
  abbrev part_below : List Symbol → Step Tree
  part_below = phrase inner kind comma (h - 1)

  abbrev lefts_behind : ℕ → Step Tree → Step Tree
  lefts_behind r part = part >>= λ x. run (left_turn part_below kind comma r (length ts)) x.0 x.1

  pub phrase_zero : h ≡ 0 → phrase inner kind comma h ts ≡ operand inner kind ts
  unfolding phrase
  phrase_zero e = ap (λ n. phrase inner kind comma n ts) e

  pub phrase_left : 0 < h → h ≤ 5 → phrase inner kind comma h ts ≡ lefts_behind (h + 1) (part_below ts)
  phrase_left some low =
      let e : suc (h - 1) ≡ h = omega arith in
      let two : suc (suc (h - 1)) ≡ h + 1 = omega arith in
      ap (λ n. phrase inner kind comma n ts) (sym e) ∙ left_at inner kind comma (h - 1) ts (omega arith) ∙ ap (λ n. lefts_behind n (part_below ts)) two

  pub phrase_right : 5 < h → phrase inner kind comma h ts ≡ chain part_below kind comma (h + 1) ts
  phrase_right high =
      let e : suc (h - 1) ≡ h = omega arith in
      let two : suc (suc (h - 1)) ≡ h + 1 = omega arith in
      ap (λ n. phrase inner kind comma n ts) (sym e) ∙ right_at inner kind comma (h - 1) ts (omega arith) ∙ ap (λ n. chain part_below kind comma n ts) two

  pub left_fails : (e : Stop) (at : List Symbol) → 0 < h → h ≤ 5 → Fails e at (part_below ts) → Fails e at (phrase inner kind comma h ts)
  left_fails e at some low f = fails_by e at (part_below ts) (phrase inner kind comma h ts) f (λ g. phrase_left some low ∙ rw g refl)

  left_found : (old mid new : List Tree) (rest end : List Symbol) (first id : TreeId) → 0 < h → h ≤ 5 → Found old mid first rest (part_below ts)
      → Found mid new id end (lefts_behind (h + 1) (Ok (tree_at mid first, rest))) → Found old new id end (phrase inner kind comma h ts)
  left_found old mid new rest end first id some low f g = record {
    keeps = keeps_trans End old mid new f.keeps g.keeps;
    inside = g.inside;
    is = phrase_left some low ∙ rw f.is g.is;
  }

  pub left_gives : (old mid new : Reader) (first : TreeId) (r : Result TreeId Stop) → 0 < h → h ≤ 5
      → Found (trees old.arena) (trees mid.arena) first mid.symbols.rest.now (part_below ts)
      → Gives mid new r (lefts_behind (h + 1) (Ok (tree_at (trees mid.arena) first, mid.symbols.rest.now)))
      → Gives old new r (phrase inner kind comma h ts)
  left_gives old mid new first (Ok x) some low f g =
      left_found (trees old.arena) (trees mid.arena) (trees new.arena) mid.symbols.rest.now new.symbols.rest.now first x some low f g
  left_gives old mid new first (Err e) some low f g =
      fails_by e new.symbols.rest.now (lefts_behind (h + 1) (Ok (tree_at (trees mid.arena) first, mid.symbols.rest.now))) (phrase inner kind comma h ts) g
      (λ k. phrase_left some low ∙ rw f.is k)

-- ---- chains
module _ (part : List Symbol → Step Tree) (kind : Operands) (comma : Commas) (r : ℕ) (ts rest : List Symbol) (x : Tree) (is : part ts ≡ Ok (x, rest)) where
  pub right_on : (next : List Symbol) (o : Operator) → Operates o kind comma r rest next → length next < length ts
      → chain part kind comma r ts ≡ by_operator (length ts) o x (chain part kind comma r next)
  right_on next o op h =
      let fewer : length (drop 1 rest) < length ts = subst (λ l. length l < length ts) op.after h in
      chain_next part kind comma r ts x rest is op.there fewer ∙ rw (op.is, op.after) refl

  pub right_off : nat_eq (power_at kind comma rest) r ≡ false → chain part kind comma r ts ≡ Ok (x, rest)
  right_off off = chain_done part kind comma r ts x rest is off

-- ---- lists
pub further_is : (inner : Descent) (items : Items) (ts : List Symbol) → further inner items ts ≡ all_of (item inner items) ts
unfolding further
further_is inner items ts = refl

-- what stands in a pair of brackets is read with one bracket less to open
pub descended : (old new : Reader) (r : Result TreeId Stop) (nesting : ℕ) (what w : Inside) (ts : List Symbol) → what ≡ w → 0 < nesting
    → Gives old new r (descend (within (nesting - 1)) w ts) → Gives old new r (within nesting what ts)
descended old new r nesting what w ts e h g = subst (λ v. Gives old new r (within nesting v ts)) (sym e)
    (subst (λ s. Gives old new r s) (sym (lower nesting w ts h)) g)

-- a list that begins with nothing
pub of_front : (ts : List Tree) (read : Step Tree) → in_front ts [] read ≡ read
of_front ts (Ok x) = refl
of_front ts (Err e) = refl

pub of_nothing : (old new : Reader) (r : Result TreeId Stop) (ts : List Tree) (read : Step Tree) → Gives old new r (in_front ts [] read) → Gives old new r read
of_nothing old new r ts read g = subst (λ s. Gives old new r s) (of_front ts read) g
