-- What turns keep, and what is read between commas: names and numbers are spelled.
use Rattle.std.proofs.Common.{◌≡◌, ℕ, zero, suc, Bool, true, false, cond, List, [], ◌∷◌, length, drop, Ok, refl, sym, subst}
use Rattle.std.specs.Prelude.{nat_lt}
use Rattle.fv_lex.specs.declared.token.Symbol.{Symbol}
use Rattle.fv_lex.specs.declared.token.Symbol.TheVariants.{Name, Integer, Comma}
use Rattle.fv_lex.specs.declared.token.Symbol.TheVariants as symbols
use Rattle.fv_parse_grammar.specs.declared.form.Literal.{Literal}
use Rattle.fv_parse_grammar.specs.declared.form.Literal.TheVariants as literal
use Rattle.fv_parse_grammar.specs.headline.Grammar.{SpellsNumber, unsigned, with_plus, with_minus, SpellsNumbers, one_number, more_numbers}
use Rattle.fv_parse_grammar.specs.Descent.{a_value, a_literal, literal_list, Step, Turn, Done, Next, Stop, after, turns, run, a_name}
use Rattle.fv_parse_grammar.specs.headline.Tree.{Tree}
use Rattle.fv_parse_grammar.specs.headline.Grammar.{SpellsNames, one_name, more_names}
use Rattle.fv_parse_grammar.specs.Descent.{at_comma, separated, name_list}
use Rattle.fv_parse_grammar.proofs.lemmas.Tokens.{bind_ok, read_as, a_name_ok, at_comma_is}

-- ---- loops
-- What each turn keeps, the loop keeps.
keep_case : (P : Tree → List Symbol → Type 0) (go : Tree → List Symbol → Step Tree) (x : Tree) (ts : List Symbol) (y : Tree) (rest : List Symbol) (t : Turn)
    → P x ts
    → ((z : Tree) (mid : List Symbol) → t ≡ Next z mid → go z mid ≡ Ok (y, rest) → P y rest)
    → after go (Ok (x, ts)) t ≡ Ok (y, rest) → P y rest
keep_case P go x ts y rest Done p next e = let q = read_as x y ts rest e in subst (λ r. P y r) q.1 (subst (λ z. P z ts) q.0 p)
keep_case P go x ts y rest (Next z mid) p next e = next z mid refl e
keep_case P go x ts y rest (Stop at) p next e = absurd cc

pub either : {A : Type 0} {y : A} (Q : Type 0) (b : Bool) (u v : A) → (b ≡ true → u ≡ y → Q) → (b ≡ false → v ≡ y → Q) → cond b u v ≡ y → Q
either Q true u v f g e = f refl e
either Q false u v f g e = g refl e

turns_keep : (P : Tree → List Symbol → Type 0) (body : Tree → List Symbol → Turn)
    → ((x : Tree) (ts : List Symbol) (y : Tree) (rest : List Symbol) → P x ts → body x ts ≡ Next y rest → P y rest)
    → (k : ℕ) (x : Tree) (ts : List Symbol) (y : Tree) (rest : List Symbol) → P x ts → turns k body x ts ≡ Ok (y, rest) → P y rest
unfolding turns
turns_keep P body step zero x ts y rest p e = absurd cc
turns_keep P body step (suc k) x ts y rest p e = either (P y rest) (nat_lt (length ts) k) _ _
    (λ _ now. turns_keep P body step k x ts y rest p now)
    (λ _ now. keep_case P (turns k body) x ts y rest (body x ts) p (λ z mid was then. turns_keep P body step k z mid y rest (step x ts z mid p was) then) now)
    e

pub run_keeps : (P : Tree → List Symbol → Type 0) (body : Tree → List Symbol → Turn)
    → ((x : Tree) (ts : List Symbol) (y : Tree) (rest : List Symbol) → P x ts → body x ts ≡ Next y rest → P y rest)
    → (x : Tree) (ts : List Symbol) (y : Tree) (rest : List Symbol) → P x ts → run body x ts ≡ Ok (y, rest) → P y rest
unfolding run
run_keeps P body step x ts y rest p e = turns_keep P body step (suc (length ts)) x ts y rest p e

-- ---- what commas separate
-- What an item spells and what spells all: one item does, and one with a comma and others after it.
module _ {A : Type 0} (part : List Symbol → Step A)
    (One : List Symbol → A → List Symbol → Type 0) (All : List Symbol → List A → List Symbol → Type 0)
    (sound : (ts : List Symbol) (x : A) (rest : List Symbol) → part ts ≡ Ok (x, rest) → One ts x rest)
    (alone : (ts rest : List Symbol) (x : A) → One ts x rest → All ts (x ∷ []) rest)
    (more : (ts mid rest : List Symbol) (x : A) (xs : List A) → One ts x (Comma ∷ mid) → All mid xs rest → All ts (x ∷ xs) rest) where
  pub separated_sound : (k : ℕ) (ts : List Symbol) (xs : List A) (rest : List Symbol) → separated part k ts ≡ Ok (xs, rest) → All ts xs rest
  unfolding separated
  separated_sound zero ts xs rest e = absurd cc
  separated_sound (suc k) ts xs rest e = either (All ts xs rest) (nat_lt (length ts) k) _ _
      (λ _ now. separated_sound k ts xs rest now)
      (λ _ now.
      let (x, was, then) = bind_ok _ _ _ now in
      let first = sound ts x.0 x.1 was in
      either (All ts xs rest) (at_comma x.1) _ _
      (λ on again.
      let (ys, got, end) = bind_ok _ _ _ again in
      let others = separated_sound k (drop 1 x.1) ys.0 ys.1 got in
      let same = read_as (x.0 ∷ ys.0) xs ys.1 rest end in
      let begun = subst (λ r. One ts x.0 r) (at_comma_is x.1 on) first in
      subst (λ l. All ts l rest) same.0 (subst (λ r. All ts (x.0 ∷ ys.0) r) same.1 (more ts (drop 1 x.1) ys.1 x.0 ys.0 begun others)))
      (λ off end.
      let same = read_as (x.0 ∷ []) xs x.1 rest end in
      subst (λ l. All ts l rest) same.0 (subst (λ r. All ts (x.0 ∷ []) r) same.1 (alone ts x.1 x.0 first)))
      then)
      e

-- a name stands there
abbrev IsNamed : List Symbol → ℕ → List Symbol → Type 0
IsNamed ts n rest = ts ≡ Name n ∷ rest

pub names_sound : (ts : List Symbol) (ns : List ℕ) (rest : List Symbol) → name_list ts ≡ Ok (ns, rest) → SpellsNames ts ns rest
names_sound ts ns rest e =
    separated_sound a_name IsNamed SpellsNames a_name_ok
    (λ ts rest n h. subst (λ l. SpellsNames l (n ∷ []) rest) (sym h) one_name)
    (λ ts mid rest n ns h p. subst (λ l. SpellsNames l (n ∷ ns) rest) (sym h) (more_names p))
    (suc (length ts)) ts ns rest e

-- ---- numbers
a_value_ok : (ts : List Symbol) (n : ℕ) (rest : List Symbol) → a_value ts ≡ Ok (n, rest) → ts ≡ Integer n ∷ rest
a_value_ok (Integer m ∷ ts) n rest e = let p = read_as m n ts rest e in cc (p.0, p.1)
a_value_ok [] n rest e = absurd cc
a_value_ok (t ∷ ts) n rest e = absurd cc

-- a number, and what follows it
abbrev Got : Literal → List Symbol → Step Literal
Got x rest = Ok (x, rest)

-- the same, by an equal answer
number_as : (ts : List Symbol) (x y : Literal) (mid rest : List Symbol) → SpellsNumber ts x mid → Got x mid ≡ Got y rest → SpellsNumber ts y rest
number_as ts x y mid rest s e =
    let same = read_as x y mid rest e in subst (λ z. SpellsNumber ts z rest) same.0 (subst (λ r. SpellsNumber ts x r) same.1 s)

pub literal_sound : (ts : List Symbol) (x : Literal) (rest : List Symbol) → a_literal ts ≡ Ok (x, rest) → SpellsNumber ts x rest
literal_sound (Integer n ∷ ts) x rest e = number_as (Integer n ∷ ts) (literal.Plain n) x ts rest unsigned e
literal_sound (symbols.Plus ∷ ts) x rest e =
    let (n, was, done) = bind_ok _ _ _ e in
    number_as (symbols.Plus ∷ ts) (literal.Plain n.0) x n.1 rest
    (subst (λ l. SpellsNumber (symbols.Plus ∷ l) (literal.Plain n.0) n.1) (sym (a_value_ok ts n.0 n.1 was)) with_plus) done
literal_sound (symbols.Minus ∷ ts) x rest e =
    let (n, was, done) = bind_ok _ _ _ e in
    number_as (symbols.Minus ∷ ts) (literal.Negative n.0) x n.1 rest
    (subst (λ l. SpellsNumber (symbols.Minus ∷ l) (literal.Negative n.0) n.1) (sym (a_value_ok ts n.0 n.1 was)) with_minus) done
literal_sound [] x rest e = absurd cc
literal_sound (t ∷ ts) x rest e = absurd cc

pub literals_sound : (ts : List Symbol) (xs : List Literal) (rest : List Symbol) → literal_list ts ≡ Ok (xs, rest) → SpellsNumbers ts xs rest
literals_sound ts xs rest e =
    separated_sound a_literal SpellsNumber SpellsNumbers literal_sound
    (λ ts rest x s. one_number s) (λ ts mid rest x xs s p. more_numbers s p) (suc (length ts)) ts xs rest e
