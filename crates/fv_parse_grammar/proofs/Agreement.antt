-- Two lists of tokens that are the same up to and with one: a reader does with the one what it does with the other, until it is past that token.
use Rattle.std.proofs.Common.{◌≡◌, ℕ, suc, ◌+◌, ◌≤◌, ◌<◌, ◌⊎◌, inl, inr, Bool, true, false, cond, List, [], ◌∷◌, ◌++◌, length, Result, Ok, Err, refl, sym, ap}
use Rattle.std.proofs.Common.{subst, arith}
use Rattle.std.proofs.lemmas.List.{length-append}
use Rattle.fv_parse_grammar.specs.Symbol.{Symbol}
use Rattle.fv_parse_grammar.specs.Symbol.TheVariants.{Open, Close, OpenBrace, CloseBrace}
use Rattle.fv_parse_grammar.specs.declared.symbol.Inside.{Inside}
use Rattle.fv_parse_grammar.specs.headline.Symbols.{power}
use Rattle.fv_parse_grammar.specs.Nesting.{Nests}
use Rattle.fv_parse_grammar.specs.Descent.{Step, ◌>>=◌, Reader}
use Rattle.fv_parse_grammar.specs.declared.symbol.Operands.{Operands}
use Rattle.fv_parse_grammar.specs.declared.symbol.Commas.{Commas}
use Rattle.fv_parse_grammar.specs.declared.symbol.Operands.TheVariants as operands

-- the token, what follows it in the one and in the other, and how many brackets may be open at once
pub record Fork : Type 0 where
  pub limit : ℕ
  pub token : Symbol
  pub one : List Symbol
  pub other : List Symbol

-- Both are at one place, at the token or before it, with d brackets open; or the one is past the token.
pub data Same (k : Fork) (d : ℕ) : List Symbol → List Symbol → Type 0 where
  abreast : (p : List Symbol) → d ≤ k.limit → Nests k.limit d p → Same k d (p ++ k.token ∷ k.one) (p ++ k.token ∷ k.other)
  past : {ts us : List Symbol} → length ts ≤ length k.one → Same k d ts us

-- what a reader leaves
abbrev pub remains : {A : Type 0} → (A → List Symbol) → Result A (List Symbol) → List Symbol
remains out (Ok x) = out x
remains out (Err at) = at

-- Both go on at one place, or both stop at one place; or the one is past the token.
pub data Alike (k : Fork) (d : ℕ) {A : Type 0} (out : A → List Symbol) : Result A (List Symbol) → Result A (List Symbol) → Type 0 where
  both_on : {x y : A} → Same k d (out x) (out y) → Alike k d out (Ok x) (Ok y)
  both_stopped : (p : List Symbol) → Alike k d out (Err (p ++ k.token ∷ k.one)) (Err (p ++ k.token ∷ k.other))
  beyond : {r s : Result A (List Symbol)} → length (remains out r) ≤ length k.one → Alike k d out r s

-- What two readers give is alike, and the one leaves no more tokens than these.
pub record Agrees (k : Fork) (d : ℕ) {A : Type 0} (out : A → List Symbol) (ts : List Symbol) (r s : Result A (List Symbol)) : Type 0 where
  pub fewer : length (remains out r) ≤ length ts
  pub alike : Alike k d out r s

-- readers of tokens alone, and readers of a value
abbrev pub BothPass : Fork → ℕ → List Symbol → Result (List Symbol) (List Symbol) → Result (List Symbol) (List Symbol) → Type 0
BothPass k d ts r s = Agrees k d {A = List Symbol} (λ rest. rest) ts r s

abbrev pub BothRead : {A : Type 0} → Fork → ℕ → List Symbol → Step A → Step A → Type 0
BothRead {A = A} k d ts r s = Agrees k d {A = A × List Symbol} (λ x. x.1) ts r s

-- ---- one after the other
-- where the token is passed, nothing is said of the other
beside_any : {k : Fork} {d : ℕ} {A : Type 0} {out : A → List Symbol} {ts : List Symbol} {r s : Result A (List Symbol)} (u : Result A (List Symbol))
    → Agrees k d out ts r s → length ts ≤ length k.one → Agrees k d out ts r u
beside_any {out = out} {ts = ts} {r = r} u a le = let f : length (remains out r) ≤ length ts = a.fewer in record { fewer = f; alike = beyond (omega arith) }

pub of_more : {k : Fork} {d : ℕ} {A : Type 0} {out : A → List Symbol} {mid ts : List Symbol} {r s : Result A (List Symbol)}
    → Agrees k d out mid r s → length mid ≤ length ts → Agrees k d out ts r s
of_more {out = out} {mid = mid} {r = r} a le = let f : length (remains out r) ≤ length mid = a.fewer in record { fewer = omega arith; alike = a.alike }

next_by : {k : Fork} {d e : ℕ}
    {A B : Type 0} {from : A → List Symbol} {out : B → List Symbol} (ts : List Symbol) (r s : Result A (List Symbol)) {f g : A → Result B (List Symbol)}
    → length (remains from r) ≤ length ts
    → Alike k d from r s → ((x y : A) → length (from x) ≤ length ts → Same k d (from x) (from y) → Agrees k e out (from x) (f x) (g y))
    → Agrees k e out (remains from r) (r >>= f) (s >>= g)
next_by ts r s fewer (both_on {x = x} {y = y} same) h = h x y fewer same
next_by ts r s fewer (both_stopped p) h = record { fewer = omega arith; alike = both_stopped p }
next_by ts (Ok x) s fewer (beyond le) h = beside_any _ (h x x fewer (past le)) le
next_by ts (Err at) s fewer (beyond le) h = record { fewer = omega arith; alike = beyond le }

pub next_within : {k : Fork} {d e : ℕ}
    {A B : Type 0} {from : A → List Symbol} {out : B → List Symbol} {ts : List Symbol} {r s : Result A (List Symbol)} {f g : A → Result B (List Symbol)}
    → Agrees k d from ts r s → ((x y : A) → length (from x) ≤ length ts → Same k d (from x) (from y) → Agrees k e out (from x) (f x) (g y))
    → Agrees k e out ts (r >>= f) (s >>= g)
next_within {ts = ts} {r = r} {s = s} a h = of_more (next_by ts r s a.fewer a.alike h) a.fewer

-- one reader after the other
pub also : {k : Fork} {d e : ℕ}
    {A B : Type 0} {from : A → List Symbol} {out : B → List Symbol} {ts : List Symbol} {r s : Result A (List Symbol)} {f g : A → Result B (List Symbol)}
    → Agrees k d from ts r s → ((x y : A) → Same k d (from x) (from y) → Agrees k e out (from x) (f x) (g y)) → Agrees k e out ts (r >>= f) (s >>= g)
also a h = next_within a (λ x y le same. h x y same)

-- a value is made
pub given : {k : Fork} {d : ℕ} {A : Type 0} {out : A → List Symbol} {x y : A} → Same k d (out x) (out y) → Agrees k d out (out x) (Ok x) (Ok y)
given same = record { fewer = omega arith; alike = both_on same }

-- nothing is taken
pub halted : {k : Fork} {d e : ℕ} {A : Type 0} {out : A → List Symbol} {ts us : List Symbol} → Same k d ts us → Agrees k e {A = A} out ts (Err ts) (Err us)
halted (abreast p low n) = record { fewer = omega arith; alike = both_stopped p }
halted (past le) = record { fewer = omega arith; alike = beyond le }

-- by a test that both make
pub both_test : (b : Bool) {k : Fork} {d : ℕ} {A : Type 0} {out : A → List Symbol} {ts : List Symbol} {r s u v : Result A (List Symbol)}
    → (b ≡ true → Agrees k d out ts r s) → (b ≡ false → Agrees k d out ts u v) → Agrees k d out ts (cond b r u) (cond b s v)
both_test true f g = f refl
both_test false f g = g refl

pub of_test : {P : Type 0} (b : Bool) → (b ≡ true → P) → (b ≡ false → P) → P
of_test true f g = f refl
of_test false f g = g refl

-- what both are equal to
pub of_equal : {k : Fork} {d : ℕ} {A : Type 0} {out : A → List Symbol} {ts : List Symbol} {r s u v : Result A (List Symbol)}
    → u ≡ r → v ≡ s → Agrees k d out ts r s → Agrees k d out ts u v
of_equal {k = k} {d = d} {out = out} {ts = ts} {r = r} {v = v} p q a = subst (λ z. Agrees k d out ts z v) (sym p) (subst (λ z. Agrees k d out ts r z) (sym q) a)

-- ---- what begins a loop again
-- the one's tokens are as many more than the other's as what follows the token
apart : {k : Fork} {d : ℕ} {ts us : List Symbol} → Same k d ts us → (length ts ≤ length k.one) ⊎ (length ts + length k.other ≡ length us + length k.one)
apart (abreast p low n) = inr (simp length-append (omega arith))
apart (past le) = inl le

apart_after : {k : Fork} {d : ℕ} {A : Type 0} {out : A → List Symbol} {r s : Result A (List Symbol)} → Alike k d out r s
    → (length (remains out r) ≤ length k.one) ⊎ (length (remains out r) + length k.other ≡ length (remains out s) + length k.one)
apart_after (both_on same) = apart same
apart_after (both_stopped p) = inr (simp length-append (omega arith))
apart_after (beyond le) = inl le

-- Two loops that are one reader after the other, as long as that reader leaves no more tokens than it is given.
pub unrolled : {k : Fork} {d e c : ℕ} {A B : Type 0} {from : A → List Symbol}
    {out : B → List Symbol} {ts us : List Symbol} {r s : Result A (List Symbol)} (f g : A → Result B (List Symbol)) {v w : Result B (List Symbol)}
    → Same k d ts us → Agrees k e from ts r s
    → (length (remains from r) ≤ length ts → v ≡ (r >>= f)) → (length (remains from s) ≤ length us → w ≡ (s >>= g))
    → ((x y : A) → length (from x) ≤ length ts → Same k e (from x) (from y) → Agrees k c out (from x) (f x) (g y))
    → Agrees k c out ts v w
unrolled {k = k} {c = c} {from = from} {out = out} {ts = ts} {us = us} {r = r} {s = s} f g {v = v} {w = w} same a one_law other_law h =
    let fewer : length (remains from r) ≤ length ts = a.fewer in
    let both = next_by ts r s fewer a.alike h in
    let beside_it : length (remains from r) ≤ length k.one → Agrees k c out ts v w
    = λ le. subst (λ z. Agrees k c out ts z w) (sym (one_law fewer)) (of_more (beside_any w both le) fewer) in
    elim (apart same) [
      | inl le ↦ beside_it (omega arith)
      | inr far ↦ elim (apart_after a.alike) [
        | inl le ↦ beside_it le
        | inr near ↦ subst (λ z. Agrees k c out ts z w)
            (sym (one_law fewer)) (subst (λ z. Agrees k c out ts (r >>= f) z) (sym (other_law (omega arith))) (of_more both fewer))
      ]
    ]

-- ---- by the first token
-- A token is passed, and m brackets are open after it.
pub record Passing (k : Fork) (d m : ℕ) (t : Symbol) : Type 0 where
  pub passed : (p : List Symbol) → d ≤ k.limit → Nests k.limit d (t ∷ p) → (m ≤ k.limit) × Nests k.limit m p

-- The first token is taken, or it stays.
pub data Looks (k : Fork) (d e : ℕ) {A : Type 0} (out : A → List Symbol) (t : Symbol) (ts us : List Symbol) (r s : Result A (List Symbol)) : Type 0 where
  takes : (m : ℕ) → Passing k d m t → (Same k m ts us → Agrees k e out ts r s) → Looks k d e out t ts us r s
  stays_at : (Same k d (t ∷ ts) (t ∷ us) → Agrees k e out (t ∷ ts) r s) → Looks k d e out t ts us r s

look_at : {k : Fork} {d e : ℕ} {A : Type 0} {out : A → List Symbol} {r s : Result A (List Symbol)}
    → d ≤ k.limit → Looks k d e out k.token k.one k.other r s → Agrees k e out (k.token ∷ k.one) r s
look_at {k = k} {out = out} {r = r} low (takes m step h) =
    let a = h (past (omega arith)) in
    let f : length (remains out r) ≤ length k.one = a.fewer in
    record { fewer = omega arith; alike = beyond f }
look_at low (stays_at h) = h (abreast [] low tt)

look_before : {k : Fork} {d e : ℕ} {A : Type 0} {out : A → List Symbol} {t : Symbol} (p : List Symbol) {r s : Result A (List Symbol)}
    → d ≤ k.limit → Nests k.limit d (t ∷ p)
    → Looks k d e out t (p ++ k.token ∷ k.one) (p ++ k.token ∷ k.other) r s → Agrees k e out (t ∷ p ++ k.token ∷ k.one) r s
look_before p low n (takes m step h) = let q = step.passed p low n in of_more (h (abreast p q.0 q.1)) (omega arith)
look_before {t = t} p low n (stays_at h) = h (abreast (t ∷ p) low n)

look_past : {k : Fork} {d e : ℕ} {A : Type 0} {out : A → List Symbol} {t : Symbol} {ts us : List Symbol} {r s : Result A (List Symbol)}
    → length (t ∷ ts) ≤ length k.one
    → Looks k d e out t ts us r s → Agrees k e out (t ∷ ts) r s
look_past low (takes m step h) = of_more (h (past (omega arith))) (omega arith)
look_past low (stays_at h) = h (past low)

-- Readers that look at the first token, in lists of at most n tokens.
pub looked_among : (n : ℕ) {k : Fork} {d e : ℕ} {A : Type 0} {out : A → List Symbol} (f g : List Symbol → Result A (List Symbol)) → remains out (f []) ≡ []
    → ((t : Symbol) (ts us : List Symbol) → length (t ∷ ts) ≤ n → Looks k d e out t ts us (f (t ∷ ts)) (g (t ∷ us)))
    → {ts us : List Symbol} → length ts ≤ n → Same k d ts us → Agrees k e out ts (f ts) (g us)
looked_among n {k = k} f g none looks few (abreast [] low nests) = look_at low (looks k.token k.one k.other few)
looked_among n {k = k} f g none looks few (abreast (t ∷ p) low nests) = look_before p low nests (looks t (p ++ k.token ∷ k.one) (p ++ k.token ∷ k.other) few)
looked_among n {out = out} f g none looks few (past {ts = []} le) =
    let z : length (remains out (f [])) ≡ 0 = ap length none in record { fewer = omega arith; alike = beyond (omega arith) }
looked_among n f g none looks few (past {ts = t ∷ ts} {us = us} le) = beside_any (g us) (look_past le (looks t ts ts few)) le

pub looked : {k : Fork} {d e : ℕ} {A : Type 0} {out : A → List Symbol} (f g : List Symbol → Result A (List Symbol)) → remains out (f []) ≡ []
    → ((t : Symbol) (ts us : List Symbol) → Looks k d e out t ts us (f (t ∷ ts)) (g (t ∷ us)))
    → {ts us : List Symbol} → Same k d ts us → Agrees k e out ts (f ts) (g us)
looked f g none looks {ts = ts} same = looked_among (length ts) f g none (λ t ts us few. looks t ts us) (omega arith) same

-- an opening bracket, a closing one, and any other token
pub opens : {k : Fork} {d : ℕ} → Passing k d (suc d) Open
opens {k = k} {d = d} = record { passed = λ p low n. let le : d + 1 ≤ k.limit = n.0 in (omega arith, n.1) }

pub opens_brace : {k : Fork} {d : ℕ} → Passing k d (suc d) OpenBrace
opens_brace {k = k} {d = d} = record { passed = λ p low n. let le : d + 1 ≤ k.limit = n.0 in (omega arith, n.1) }

pub closes : {k : Fork} {d : ℕ} → Passing k (suc d) d Close
closes {k = k} = record { passed = λ p low n. (omega arith, n) }

pub closes_brace : {k : Fork} {d : ℕ} → Passing k (suc d) d CloseBrace
closes_brace {k = k} = record { passed = λ p low n. (omega arith, n) }

pub no_bracket : {k : Fork} {d : ℕ} {t : Symbol} → ((p : List Symbol) → Nests k.limit d (t ∷ p) → Nests k.limit d p) → Passing k d d t
no_bracket h = record { passed = λ p low n. (low, h p n) }

-- an operator is no bracket
pub operator_passing : {k : Fork} {d : ℕ} (kind : Operands) (comma : Commas) (t : Symbol) → 1 < power kind comma t
    → power kind comma t < 99 → Passing k d d t
operator_passing operands.Patterns comma Open loose tight = absurd (omega arith)
operator_passing operands.Expressions comma Open loose tight = absurd (omega arith)
operator_passing kind comma OpenBrace loose tight = absurd (omega arith)
operator_passing kind comma Close loose tight = absurd (omega arith)
operator_passing kind comma CloseBrace loose tight = absurd (omega arith)
operator_passing kind comma t loose tight = record { passed = λ p low n. (low, n) }

-- ---- what stands in brackets
-- both readers of the inside of brackets agree
pub record AgreesInside (k : Fork) (d : ℕ) (inner other : Reader) : Type 0 where
  pub agree : (what : Inside) {ts us : List Symbol} → Same k d ts us → BothRead k d ts (inner what ts) (other what us)
