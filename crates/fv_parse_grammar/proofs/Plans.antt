-- What a reader takes, piece by piece, and how it is completed where the reader stops.
use Rattle.fv_parse_grammar.specs.declared.form.Literal.{Literal}
use Rattle.fv_parse_grammar.specs.headline.Grammar.{SpellsNumber, unsigned, SpellsNumbers, one_number}
use Rattle.std.proofs.Common.{◌≡◌, ℕ, zero, suc, Bool, true, false, cond, List, [], ◌∷◌, ◌++◌, Result, Ok, Err, refl, sym, ap, subst, ◌∙◌, append_assoc}
use Rattle.fv_parse_grammar.specs.Symbol.{Symbol}
use Rattle.fv_parse_grammar.specs.Symbol.TheVariants.{Name, Text}
use Rattle.fv_parse_grammar.specs.Symbol.TheVariants as symbols
use Rattle.fv_parse_grammar.specs.declared.symbol.Inside.{Inside}
use Rattle.fv_parse_grammar.specs.declared.symbol.Inside.TheVariants as insides
use Rattle.fv_parse_grammar.specs.declared.symbol.Items.{Items}
use Rattle.fv_parse_grammar.specs.declared.symbol.Items.TheVariants.{Parts}
use Rattle.fv_parse_grammar.specs.headline.Symbols.{power}
use Rattle.fv_parse_grammar.specs.headline.Tree.{Tree}
use Rattle.fv_parse_grammar.specs.headline.Grammar.{Level, Further, Definition, Expression, Listed, OneRule, Phrase, Postfix, Primary}
use Rattle.fv_parse_grammar.specs.headline.Grammar.{Atom, SpellsNames, one_name, Spells, no_more, first_rule, first_part, constant}
use Rattle.fv_parse_grammar.specs.headline.Grammar.{rule, plain, tighter, operand, pattern_operand, bare, named, atom_name}
use Rattle.fv_parse_grammar.specs.Descent.{Step, ◌>>=◌}
use Rattle.fv_parse_grammar.proofs.lemmas.Sound.{level_of}
use Rattle.fv_parse_grammar.specs.declared.symbol.Operands.{Operands}
use Rattle.fv_parse_grammar.specs.declared.symbol.Commas.{Commas}
use Rattle.fv_parse_grammar.specs.declared.symbol.Operands.TheVariants as operands
use Rattle.fv_parse_grammar.specs.declared.symbol.Commas.TheVariants as commas

-- `R ts rest`: the tokens are something, and then the rest.
abbrev pub Span : Type 1
Span = List Symbol → List Symbol → Type 0

-- no token
pub data Nought : List Symbol → List Symbol → Type 0 where
  nought : {ts : List Symbol} → Nought ts ts

-- this token
pub data Signed (t : Symbol) : List Symbol → List Symbol → Type 0 where
  signed : {rest : List Symbol} → Signed t (t ∷ rest) rest

-- a name
pub data Called : List Symbol → List Symbol → Type 0 where
  called : {n : ℕ} {rest : List Symbol} → Called (Name n ∷ rest) rest

-- a string
pub data Worded : List Symbol → List Symbol → Type 0 where
  worded : {n : ℕ} {rest : List Symbol} → Worded (Text n ∷ rest) rest

-- names with commas between
pub data CalledAll : List Symbol → List Symbol → Type 0 where
  called_all : {ts rest : List Symbol} {ns : List ℕ} → SpellsNames ts ns rest → CalledAll ts rest

-- a number with or without a sign
pub data Counted : List Symbol → List Symbol → Type 0 where
  counted : {ts rest : List Symbol} {x : Literal} → SpellsNumber ts x rest → Counted ts rest

-- numbers with commas between
pub data CountedAll : List Symbol → List Symbol → Type 0 where
  counted_all : {ts rest : List Symbol} {xs : List Literal} → SpellsNumbers ts xs rest → CountedAll ts rest

-- some tree is spelled
pub data Spelled (level : Level) : List Symbol → List Symbol → Type 0 where
  spelled : {ts rest : List Symbol} {x : Tree} → Spells level ts x rest → Spelled level ts rest

-- what stands before further items
pub record Adds (items : Items) (ts mid : List Symbol) : Type 0 where
  pub others : (rest : List Symbol) (x : Tree) → Spells (Further items) mid x rest → Spelled (Further items) ts rest

-- nothing, or an operator of this precedence and what follows it
pub data Onward (kind : Operands) (comma : Commas) (h : ℕ) : List Symbol → List Symbol → Type 0 where
  stay : {ts : List Symbol} → Onward kind comma h ts ts
  onward : {mid rest : List Symbol} (t : Symbol)
      → power kind comma t ≡ suc (suc h) → Spelled (Phrase kind comma (suc h)) mid rest → Onward kind comma h (t ∷ mid) rest

-- one and then the other
pub data Both (P Q : Span) : List Symbol → List Symbol → Type 0 where
  both : {a b c : List Symbol} → P a b → Q b c → Both P Q a c

-- one or the other
pub data Either (P Q : Span) : List Symbol → List Symbol → Type 0 where
  this : {a b : List Symbol} → P a b → Either P Q a b
  that : {a b : List Symbol} → Q a b → Either P Q a b

-- What a reader means to take: pieces, one after the other.
pub data Plan : Type 0 where
  Nothing : Plan
  Sign : Symbol → Plan
  AName : Plan
  AText : Plan
  NameList : Plan
  ALiteral : Plan
  LiteralList : Plan
  Inner : Inside → Plan
  Joined : Operands → Commas → ℕ → Plan
  APostfix : Plan
  APrimary : Plan
  AnAtom : Plan
  ADefinition : Plan
  ARule : Plan
  Others : Items → Plan
  Adding : Items → Plan
  GoesOn : Operands → Commas → ℕ → Plan
  Then : Plan → Plan → Plan
  Or : Plan → Plan → Plan

-- what a plan means
abbrev pub Spans : Plan → Span
Spans Nothing = Nought
Spans (Sign t) = Signed t
Spans AName = Called
Spans AText = Worded
Spans NameList = CalledAll
Spans ALiteral = Counted
Spans LiteralList = CountedAll
Spans (Inner what) = Spelled (level_of what)
Spans (Joined kind comma h) = Spelled (Phrase kind comma h)
Spans APostfix = Spelled Postfix
Spans APrimary = Spelled Primary
Spans AnAtom = Spelled Atom
Spans ADefinition = Spelled Definition
Spans ARule = Spelled OneRule
Spans (Others items) = Spelled (Further items)
Spans (Adding items) = Adds items
Spans (GoesOn kind comma h) = Onward kind comma h
Spans (Then p q) = Both (Spans p) (Spans q)
Spans (Or p q) = Either (Spans p) (Spans q)

-- ---- each plan can be carried out, whatever follows
abbrev pub Starts : Span → Type 0
Starts R = (tail : List Symbol) → (ts : List Symbol) × R ts tail

start_phrase : (kind : Operands) (comma : Commas) (h : ℕ) (tail : List Symbol) → (x : Tree) × Spells (Phrase kind comma h) (Name 0 ∷ tail) x tail
start_phrase operands.Patterns comma zero tail = (_, pattern_operand atom_name)
start_phrase operands.Expressions comma zero tail = (_, operand (bare named))
start_phrase kind comma (suc h) tail = let (x, s) = start_phrase kind comma h tail in (x, tighter s)

start_expression : (tail : List Symbol) → (x : Tree) × Spells Expression (Name 0 ∷ tail) x tail
start_expression tail = let (x, s) = start_phrase operands.Expressions commas.Join 8 tail in (x, plain s)

start_parts : (kind : Operands) (tail : List Symbol) → (x : Tree) × Spells (Listed (Parts kind)) (Name 0 ∷ tail) x tail
start_parts kind tail = let (x, s) = start_phrase kind commas.Separate 8 tail in (_, first_part s no_more)

start_rule : (tail : List Symbol)
    → (x : Tree) × Spells OneRule (symbols.Open ∷ Name 0 ∷ symbols.Close ∷ symbols.Arrow ∷ Name 0 ∷ symbols.Semicolon ∷ tail) x tail
start_rule tail =
    let (p, ps) = start_parts operands.Patterns (symbols.Close ∷ symbols.Arrow ∷ Name 0 ∷ symbols.Semicolon ∷ tail) in
    let (x, s) = start_expression (symbols.Semicolon ∷ tail) in
    (_, rule ps s)

start_definition : (tail : List Symbol) → (x : Tree) × Spells Definition (Name 0 ∷ symbols.Equals ∷ Name 0 ∷ symbols.Semicolon ∷ tail) x tail
start_definition tail = let (x, s) = start_expression (symbols.Semicolon ∷ tail) in (_, constant s)

start_inner : (what : Inside) → Starts (Spelled (level_of what))
start_inner insides.Expression tail = let (x, s) = start_expression tail in (_, spelled s)
start_inner insides.Argument tail = let (x, s) = start_phrase operands.Expressions commas.Separate 8 tail in (_, spelled s)
start_inner insides.Pattern tail = let (x, s) = start_phrase operands.Patterns commas.Join 8 tail in (_, spelled s)
start_inner insides.Arguments tail = let (x, s) = start_parts operands.Expressions tail in (_, spelled s)
start_inner insides.Patterns tail = let (x, s) = start_parts operands.Patterns tail in (_, spelled s)
start_inner insides.Rules tail = let (x, s) = start_rule tail in (_, spelled (first_rule s no_more))
start_inner insides.Definitions tail = (tail, spelled no_more)

pub starts : (p : Plan) → Starts (Spans p)
starts Nothing tail = (tail, nought)
starts (Sign t) tail = (t ∷ tail, signed)
starts AName tail = (Name 0 ∷ tail, called)
starts AText tail = (Text 0 ∷ tail, worded)
starts NameList tail = (Name 0 ∷ tail, called_all one_name)
starts ALiteral tail = (symbols.Integer 0 ∷ tail, counted unsigned)
starts LiteralList tail = (symbols.Integer 0 ∷ tail, counted_all (one_number unsigned))
starts (Inner what) tail = start_inner what tail
starts (Joined kind comma h) tail = let (x, s) = start_phrase kind comma h tail in (_, spelled s)
starts APostfix tail = (Name 0 ∷ tail, spelled (bare named))
starts APrimary tail = (Name 0 ∷ tail, spelled named)
starts AnAtom tail = (Name 0 ∷ tail, spelled atom_name)
starts ADefinition tail = let (x, s) = start_definition tail in (_, spelled s)
starts ARule tail = let (x, s) = start_rule tail in (_, spelled s)
starts (Others items) tail = (tail, spelled no_more)
starts (Adding items) tail = (tail, record { others = λ rest x s. spelled s })
starts (GoesOn kind comma h) tail = (tail, stay)
starts (Then p q) tail =
    let (mid, second) = starts q tail in
    let (ts, first) = starts p mid in
    (ts, both first second)
starts (Or p q) tail = let (ts, s) = starts q tail in (ts, that s)

-- ---- what is taken, and where it stops
-- the tokens up to the rest are such a piece, whatever follows
pub record Takes (R : Span) (ts rest : List Symbol) : Type 0 where
  pub used : List Symbol
  pub whole : ts ≡ used ++ rest
  pub spans : (tail : List Symbol) → R (used ++ tail) tail

-- the tokens up to the place begin such a piece, whatever follows
pub record Sticks (R : Span) (ts at : List Symbol) : Type 0 where
  pub used : List Symbol
  pub whole : ts ≡ used ++ at
  pub completed : (tail : List Symbol) → (mid : List Symbol) × R (used ++ mid) tail

-- What a reader gives of these tokens is a piece that they begin with, or the place where they stop being one.
pub data Fits {A : Type 0} (p : Plan) (out : A → List Symbol) (ts : List Symbol) : Result A (List Symbol) → Type 0 where
  took : {x : A} → Takes (Spans p) ts (out x) → Fits p out ts (Ok x)
  stuck : {at : List Symbol} → Sticks (Spans p) ts at → Fits p out ts (Err at)

-- What is taken after what was taken is taken from the beginning.
pub joins : {P Q : Span} {a b c : List Symbol} → Takes P a b → Takes Q b c → Takes (Both P Q) a c
joins {P = P} {Q = Q} {c = c} s t = record {
  used = s.used ++ t.used;
  whole = s.whole ∙ ap (λ l. s.used ++ l) t.whole ∙ sym (append_assoc s.used t.used c);
  spans = λ tail. subst (λ l. Both P Q l tail) (sym (append_assoc s.used t.used tail)) (both (s.spans (t.used ++ tail)) (t.spans tail));
}

-- so is a place after it
sticks_behind : {P Q : Span} {a b at : List Symbol} → Takes P a b → Sticks Q b at → Sticks (Both P Q) a at
sticks_behind {P = P} {Q = Q} {at = at} s t = record {
  used = s.used ++ t.used;
  whole = s.whole ∙ ap (λ l. s.used ++ l) t.whole ∙ sym (append_assoc s.used t.used at);
  completed =
      λ tail. let (mid, q) = t.completed tail in (mid, subst (λ l. Both P Q l tail) (sym (append_assoc s.used t.used mid)) (both (s.spans (t.used ++ mid)) q));
}

-- a reader after what was taken
pub behind : (p : Plan) {q : Plan} {B : Type 0} {out : B → List Symbol} {a b : List Symbol} {r : Result B (List Symbol)}
    → Takes (Spans p) a b → Fits q out b r → Fits (Then p q) out a r
behind p s (took t) = took (joins s t)
behind p s (stuck t) = stuck (sticks_behind s t)

-- What is stuck in the first piece is stuck in both: the second is completed as it starts.
pub sticks_before : {P : Span} (q : Plan) {a at : List Symbol} → Sticks P a at → Sticks (Both P (Spans q)) a at
sticks_before q s = record {
  used = s.used;
  whole = s.whole;
  completed = λ tail. let (mid, second) = starts q tail in let (ts, first) = s.completed mid in (ts, both first second);
}

-- one reader after the other
pub next : {p q : Plan} {A B : Type 0}
    {from : A → List Symbol} {out : B → List Symbol} {ts : List Symbol} {r : Result A (List Symbol)} {f : A → Result B (List Symbol)}
    → Fits p from ts r → ((x : A) → Fits q out (from x) (f x)) → Fits (Then p q) out ts (r >>= f)
next {p = p} (took s) g = behind p s (g _)
next {q = q} (stuck s) g = stuck (sticks_before q s)

-- another reading of the same tokens
pub onward_from : {p : Plan} {A B : Type 0}
    {from : A → List Symbol} {out : B → List Symbol} {ts : List Symbol} {r : Result A (List Symbol)} {f : A → Result B (List Symbol)}
    → Fits p from ts r → ((x : A) → Takes (Spans p) ts (from x) → Fits p out ts (f x)) → Fits p out ts (r >>= f)
onward_from (took s) g = g _ s
onward_from (stuck s) g = stuck s

-- what is taken is also something else
pub as_takes : {P Q : Span} {ts rest : List Symbol} → Takes P ts rest → ((a b : List Symbol) → P a b → Q a b) → Takes Q ts rest
as_takes s f = record { used = s.used; whole = s.whole; spans = λ tail. f _ _ (s.spans tail) }

pub as_sticks : {P Q : Span} {ts at : List Symbol} → Sticks P ts at → ((a b : List Symbol) → P a b → Q a b) → Sticks Q ts at
as_sticks s f = record { used = s.used; whole = s.whole; completed = λ tail. let (mid, q) = s.completed tail in (mid, f _ _ q) }

pub as_plan : {p : Plan} (q : Plan) {A : Type 0} {out : A → List Symbol} {ts : List Symbol} {r : Result A (List Symbol)}
    → Fits p out ts r → ((a b : List Symbol) → Spans p a b → Spans q a b) → Fits q out ts r
as_plan q (took s) f = took (as_takes s f)
as_plan q (stuck s) f = stuck (as_sticks s f)

pub nothing_taken : (ts : List Symbol) → Takes (Spans Nothing) ts ts
nothing_taken ts = record { used = []; whole = refl; spans = λ tail. nought }

-- the same, and a value is made of it
pub done : {A : Type 0} {out : A → List Symbol} {x : A} → Fits Nothing out (out x) (Ok x)
done {out = out} {x = x} = took (nothing_taken (out x))

no_more_taken : {P : Span} (a b : List Symbol) → Both P Nought a b → P a b
no_more_taken a b (both s nought) = s

pub made : {p : Plan} {A B : Type 0}
    {from : A → List Symbol} {out : B → List Symbol} {ts : List Symbol} {r : Result A (List Symbol)} {f : A → Result B (List Symbol)}
    → Fits p from ts r → ((x : A) → Fits Nothing out (from x) (f x)) → Fits p out ts (r >>= f)
made {p = p} s g = as_plan p (next s g) no_more_taken

-- nothing is taken yet
pub unread : (p : Plan) {A : Type 0} {out : A → List Symbol} {ts : List Symbol} → Fits {A = A} p out ts (Err ts)
unread p {ts = ts} = stuck (record { used = []; whole = refl; completed = starts p })

-- what stands already may stop anywhere after it
pub stays : {P : Span} {ts at : List Symbol} → Takes P ts at → Sticks P ts at
stays s = record { used = s.used; whole = s.whole; completed = λ tail. (tail, s.spans tail) }

pub one_taken : (t : Symbol) (ts : List Symbol) → Takes (Spans (Sign t)) (t ∷ ts) ts
one_taken t ts = record { used = t ∷ []; whole = refl; spans = λ tail. signed }

-- by a test
pub by_test : (b : Bool) {p : Plan} {A : Type 0} {out : A → List Symbol} {ts : List Symbol} {u v : Result A (List Symbol)}
    → (b ≡ true → Fits p out ts u) → (b ≡ false → Fits p out ts v) → Fits p out ts (cond b u v)
by_test true f g = f refl
by_test false f g = g refl

-- readers of tokens alone, and readers of a value
abbrev pub Passes : Plan → List Symbol → Result (List Symbol) (List Symbol) → Type 0
Passes p ts r = Fits {A = List Symbol} p (λ rest. rest) ts r

abbrev pub Reads : {A : Type 0} → Plan → List Symbol → Step A → Type 0
Reads {A = A} p ts r = Fits {A = A × List Symbol} p (λ x. x.1) ts r
