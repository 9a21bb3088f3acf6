-- The grammar: which tokens spell which tree (Faust manual; this project's profile).
use Rattle.fv_parse_grammar.specs.headline.Tree.{Waveform, Panel, Delayed, Apply, Binary, Where, Rule, Constant, Function, End, More}
use Rattle.std.specs.Prelude.{◌≡◌, ℕ, zero, suc, ◌<◌, true, false, List, [], ◌∷◌, ◌++◌, length}
use Rattle.fv_lex.specs.declared.token.Symbol.{Symbol}
use Rattle.fv_lex.specs.declared.token.Symbol.TheVariants as symbols
use Rattle.fv_lex.specs.declared.token.Symbol.TheVariants.{Name, Text, Integer, Comma, Open, Close, OpenBrace, CloseBrace}
use Rattle.fv_lex.specs.declared.token.Symbol.TheVariants.{Equals, Arrow, Semicolon, Dot, Declare, With, Tick}
use Rattle.fv_num.specs.declared.op.Op.TheVariants.{Add, Sub}
use Rattle.fv_num.specs.declared.primitive.Primitive.{Primitive as Operation}
use Rattle.fv_num.specs.declared.primitive.Primitive.TheVariants as primitives
use Rattle.fv_parse_grammar.specs.declared.form.Literal.{Literal}
use Rattle.fv_parse_grammar.specs.declared.form.Literal.TheVariants as literals
use Rattle.fv_lex.specs.declared.form.Iteration.{Iteration as Repetition}
use Rattle.fv_lex.specs.declared.form.Side.{Side}
use Rattle.fv_lex.specs.declared.form.Switch.{Switch as SwitchKind}
use Rattle.fv_lex.specs.declared.form.Slider.{Slider as SliderKind}
use Rattle.fv_lex.specs.declared.form.Panel.{Panel as PanelKind}
use Rattle.fv_parse_grammar.specs.declared.symbol.Items.{Items}
use Rattle.fv_parse_grammar.specs.declared.symbol.Items.TheVariants.{Statements, Definitions, Rules, Parts}
use Rattle.fv_parse_grammar.specs.headline.Symbols.{power, operator, is_left}
use Rattle.fv_parse_grammar.specs.headline.Tree.{Tree, Number, Negative, Named, MinusNamed, Primitive}
use Rattle.fv_parse_grammar.specs.headline.Tree.{Group, Abstraction, Case, Iteration, Ports, Switch, Slider}
use Rattle.fv_parse_grammar.specs.declared.symbol.Operands.{Operands}
use Rattle.fv_parse_grammar.specs.declared.symbol.Commas.{Commas}
use Rattle.fv_parse_grammar.specs.declared.symbol.Operands.TheVariants as operands
use Rattle.fv_parse_grammar.specs.declared.symbol.Commas.TheVariants as commas

-- What is spelled. `Further items` is any number of items, `Listed items` is at least one; those of `Parts` have commas between.
-- `Phrase kind comma precedence` joins parts by the operators up to a precedence, the lower, the tighter:
-- 0 none, 1 `@`, 2 `* / % & xor << >>`, 3 `+ - |`, 4 the comparisons, 5 `~`, 6 `,` (where commas join), 7 `:`, 8 `<:` and `:>`.
pub data Level : Type 0 where
  Further : Items → Level
  Definition : Level
  Expression : Level
  Listed : Items → Level
  OneRule : Level
  Phrase : Operands → Commas → ℕ → Level
  Postfix : Level
  Primary : Level
  Atom : Level

-- `SpellsNames tokens names rest`: the tokens are name {"," name}, and then the rest.
pub data SpellsNames : List Symbol → List ℕ → List Symbol → Type 0 where
  one_name : {n : ℕ} {rest : List Symbol} → SpellsNames (Name n ∷ rest) (n ∷ []) rest
  more_names : {n : ℕ} {ts rest : List Symbol} {ns : List ℕ} → SpellsNames ts ns rest → SpellsNames (Name n ∷ Comma ∷ ts) (n ∷ ns) rest

-- `SpellsNumber tokens number rest`: the tokens are an integer, with or without a sign, and then the rest.
pub data SpellsNumber : List Symbol → Literal → List Symbol → Type 0 where
  unsigned : {n : ℕ} {rest : List Symbol} → SpellsNumber (Integer n ∷ rest) (literals.Plain n) rest
  with_plus : {n : ℕ} {rest : List Symbol} → SpellsNumber (symbols.Plus ∷ Integer n ∷ rest) (literals.Plain n) rest
  with_minus : {n : ℕ} {rest : List Symbol} → SpellsNumber (symbols.Minus ∷ Integer n ∷ rest) (literals.Negative n) rest

-- `SpellsNumbers tokens numbers rest`: the tokens are number {"," number}, and then the rest.
pub data SpellsNumbers : List Symbol → List Literal → List Symbol → Type 0 where
  one_number : {ts rest : List Symbol} {x : Literal} → SpellsNumber ts x rest → SpellsNumbers ts (x ∷ []) rest
  more_numbers : {ts mid rest : List Symbol} {x : Literal} {xs : List Literal}
      → SpellsNumber ts x (Comma ∷ mid) → SpellsNumbers mid xs rest → SpellsNumbers ts (x ∷ xs) rest

-- `Spells level tokens tree rest`: the tokens are what spells the tree, and then the rest. One case for each production.
pub data Spells : Level → List Symbol → Tree → List Symbol → Type 0 where
  -- {statement}, {definition}, and what follows the first rule, argument or pattern
  no_more : {items : Items} {rest : List Symbol} → Spells (Further items) rest End rest
  stated : {ts mid rest : List Symbol} {x y : Tree} → Spells Definition ts x mid → Spells (Further Statements) mid y rest
      → Spells (Further Statements) ts (More x y) rest
  declared : {n s : ℕ} {ts rest : List Symbol} {x : Tree} → Spells (Further Statements) ts x rest
      → Spells (Further Statements) (Declare ∷ Name n ∷ Text s ∷ Semicolon ∷ ts) x rest
  declared_for : {n m s : ℕ} {ts rest : List Symbol} {x : Tree} → Spells (Further Statements) ts x rest
      → Spells (Further Statements) (Declare ∷ Name n ∷ Name m ∷ Text s ∷ Semicolon ∷ ts) x rest
  defined : {ts mid rest : List Symbol} {x y : Tree} → Spells Definition ts x mid → Spells (Further Definitions) mid y rest
      → Spells (Further Definitions) ts (More x y) rest
  ruled : {ts mid rest : List Symbol} {x y : Tree} → Spells OneRule ts x mid → Spells (Further Rules) mid y rest
      → Spells (Further Rules) ts (More x y) rest
  parted : {kind : Operands} {ts mid rest : List Symbol} {x y : Tree}
      → Spells (Phrase kind commas.Separate 8) ts x mid → Spells (Further (Parts kind)) mid y rest
      → Spells (Further (Parts kind)) (Comma ∷ ts) (More x y) rest
  -- rule {rule}; argument {"," argument}; pattern {"," pattern}
  first_rule : {ts mid rest : List Symbol} {x y : Tree} → Spells OneRule ts x mid → Spells (Further Rules) mid y rest
      → Spells (Listed Rules) ts (More x y) rest
  first_part : {kind : Operands} {ts mid rest : List Symbol} {x y : Tree}
      → Spells (Phrase kind commas.Separate 8) ts x mid → Spells (Further (Parts kind)) mid y rest
      → Spells (Listed (Parts kind)) ts (More x y) rest
  -- name "=" expression ";"
  constant : {n : ℕ} {ts rest : List Symbol} {x : Tree} → Spells Expression ts x (Semicolon ∷ rest)
      → Spells Definition (Name n ∷ Equals ∷ ts) (Constant (length (Name n ∷ Equals ∷ ts)) n x) rest
  -- name "(" patterns ")" "=" expression ";"
  function : {n : ℕ} {ts mid rest : List Symbol} {ps x : Tree}
      → Spells (Listed (Parts operands.Patterns)) ts ps (Close ∷ Equals ∷ mid) → Spells Expression mid x (Semicolon ∷ rest)
      → Spells Definition (Name n ∷ Open ∷ ts) (Function (length (Name n ∷ Open ∷ ts)) n ps x) rest
  -- "(" patterns ")" "=>" expression ";"
  rule : {ts mid rest : List Symbol} {ps x : Tree}
      → Spells (Listed (Parts operands.Patterns)) ts ps (Close ∷ Arrow ∷ mid) → Spells Expression mid x (Semicolon ∷ rest)
      → Spells OneRule (Open ∷ ts) (Rule (length (Open ∷ ts)) ps x) rest
  -- an expression: any phrase, and any number of "with" "{" definitions "}" after it
  plain : {ts rest : List Symbol} {x : Tree} → Spells (Phrase operands.Expressions commas.Join 8) ts x rest → Spells Expression ts x rest
  qualified : {ts mid rest : List Symbol} {x y : Tree}
      → Spells Expression ts x (With ∷ OpenBrace ∷ mid) → Spells (Further Definitions) mid y (CloseBrace ∷ rest)
      → Spells Expression ts (Where (length ts) x y) rest
  -- the operators of one precedence
  tighter : {kind : Operands} {comma : Commas} {h : ℕ} {ts rest : List Symbol} {x : Tree}
      → Spells (Phrase kind comma h) ts x rest → Spells (Phrase kind comma (suc h)) ts x rest
  leftward : {kind : Operands} {comma : Commas} {h : ℕ} {ts mid rest : List Symbol} (t : Symbol) {x y : Tree}
      → h < 8 → is_left (suc h) ≡ true → power kind comma t ≡ suc (suc h)
      → Spells (Phrase kind comma (suc h)) ts x (t ∷ mid)
      → Spells (Phrase kind comma h) mid y rest → Spells (Phrase kind comma (suc h)) ts (Binary (length ts) (operator t) x y) rest
  rightward : {kind : Operands} {comma : Commas} {h : ℕ} {ts mid rest : List Symbol} (t : Symbol) {x y : Tree}
      → h < 8 → is_left (suc h) ≡ false → power kind comma t ≡ suc (suc h)
      → Spells (Phrase kind comma h) ts x (t ∷ mid)
      → Spells (Phrase kind comma (suc h)) mid y rest → Spells (Phrase kind comma (suc h)) ts (Binary (length ts) (operator t) x y) rest
  operand : {comma : Commas} {ts rest : List Symbol} {x : Tree} → Spells Postfix ts x rest → Spells (Phrase operands.Expressions comma zero) ts x rest
  pattern_operand : {comma : Commas} {ts rest : List Symbol} {x : Tree} → Spells Atom ts x rest → Spells (Phrase operands.Patterns comma zero) ts x rest
  -- postfix
  bare : {ts rest : List Symbol} {x : Tree} → Spells Primary ts x rest → Spells Postfix ts x rest
  delayed : {ts rest : List Symbol} {x : Tree} → Spells Postfix ts x (Tick ∷ rest) → Spells Postfix ts (Delayed (length ts) x) rest
  applied : {ts mid rest : List Symbol} {x y : Tree} → Spells Postfix ts x (Open ∷ mid) → Spells (Listed (Parts operands.Expressions)) mid y (Close ∷ rest)
      → Spells Postfix ts (Apply (length ts) x y) rest
  -- primary
  number : {n : ℕ} {rest : List Symbol} → Spells Primary (Integer n ∷ rest) (Number (length (Integer n ∷ rest)) n) rest
  plus_number : {n : ℕ} {rest : List Symbol} → Spells Primary (symbols.Plus ∷ Integer n ∷ rest) (Number (length (symbols.Plus ∷ Integer n ∷ rest)) n) rest
  minus_number : {n : ℕ} {rest : List Symbol} → Spells Primary (symbols.Minus ∷ Integer n ∷ rest) (Negative (length (symbols.Minus ∷ Integer n ∷ rest)) n) rest
  minus_name : {n : ℕ} {rest : List Symbol} → Spells Primary (symbols.Minus ∷ Name n ∷ rest) (MinusNamed (length (symbols.Minus ∷ Name n ∷ rest)) n) rest
  named : {n : ℕ} {rest : List Symbol} → Spells Primary (Name n ∷ rest) (Named (length (Name n ∷ rest)) n) rest
  plus : {rest : List Symbol} → Spells Primary (symbols.Plus ∷ rest) (Primitive (length (symbols.Plus ∷ rest)) (primitives.Point Add)) rest
  minus : {rest : List Symbol} → Spells Primary (symbols.Minus ∷ rest) (Primitive (length (symbols.Minus ∷ rest)) (primitives.Point Sub)) rest
  primitive : {p : Operation} {rest : List Symbol} → Spells Primary (symbols.Primitive p ∷ rest) (Primitive (length (symbols.Primitive p ∷ rest)) p) rest
  -- "(" expression ")"
  grouped : {ts rest : List Symbol} {x : Tree} → Spells Expression ts x (Close ∷ rest) → Spells Primary (Open ∷ ts) (Group (length (Open ∷ ts)) x) rest
  -- "\" "(" names ")" "." "(" expression ")"
  abstracted : {ts mid rest : List Symbol} {ns : List ℕ} {x : Tree} → SpellsNames ts ns (Close ∷ Dot ∷ Open ∷ mid) → Spells Expression mid x (Close ∷ rest)
      → Spells Primary (symbols.Backslash ∷ Open ∷ ts) (Abstraction (length (symbols.Backslash ∷ Open ∷ ts)) ns x) rest
  -- "case" "{" rules "}"
  cased : {ts rest : List Symbol} {x : Tree} → Spells (Listed Rules) ts x (CloseBrace ∷ rest)
      → Spells Primary (symbols.Case ∷ OpenBrace ∷ ts) (Case (length (symbols.Case ∷ OpenBrace ∷ ts)) x) rest
  -- "waveform" "{" numbers "}"
  waved : {ts rest : List Symbol} {xs : List Literal} → SpellsNumbers ts xs (CloseBrace ∷ rest)
      → Spells Primary (symbols.Waveform ∷ OpenBrace ∷ ts) (Waveform (length (symbols.Waveform ∷ OpenBrace ∷ ts)) xs) rest
  -- ("par" | "seq" | "sum" | "prod") "(" name "," argument "," expression ")"
  iterated : {i : Repetition} {n : ℕ} {ts mid rest : List Symbol} {x y : Tree}
      → Spells (Phrase operands.Expressions commas.Separate 8) ts x (Comma ∷ mid) → Spells Expression mid y (Close ∷ rest) → Spells Primary
      (symbols.Iteration i ∷ Open ∷ Name n ∷ Comma ∷ ts) (Iteration (length (symbols.Iteration i ∷ Open ∷ Name n ∷ Comma ∷ ts)) i n x y) rest
  -- ("inputs" | "outputs") "(" expression ")"
  ported : {s : Side} {ts rest : List Symbol} {x : Tree} → Spells Expression ts x (Close ∷ rest)
      → Spells Primary (symbols.Ports s ∷ Open ∷ ts) (Ports (length (symbols.Ports s ∷ Open ∷ ts)) s x) rest
  -- ("button" | "checkbox") "(" string ")"
  switched : {k : SwitchKind} {s : ℕ} {rest : List Symbol} → Spells Primary
      (symbols.Switch k ∷ Open ∷ Text s ∷ Close ∷ rest) (Switch (length (symbols.Switch k ∷ Open ∷ Text s ∷ Close ∷ rest)) k s) rest
  -- ("hslider" | "vslider" | "nentry") "(" string "," argument "," argument "," argument "," argument ")"
  slid : {k : SliderKind} {s : ℕ} {ts t1 t2 t3 rest : List Symbol} {x0 x1 x2 x3 : Tree}
      → Spells (Phrase operands.Expressions commas.Separate 8) ts x0 (Comma ∷ t1) → Spells (Phrase operands.Expressions commas.Separate 8) t1 x1 (Comma ∷ t2)
      → Spells (Phrase operands.Expressions commas.Separate 8) t2 x2 (Comma ∷ t3) → Spells (Phrase operands.Expressions commas.Separate 8) t3 x3 (Close ∷ rest)
      → Spells Primary (symbols.Slider k ∷ Open ∷ Text s ∷ Comma ∷ ts) (Slider (length (symbols.Slider k ∷ Open ∷ Text s ∷ Comma ∷ ts)) k s x0 x1 x2 x3) rest
  -- ("hgroup" | "vgroup" | "tgroup") "(" string "," expression ")"
  paneled : {k : PanelKind} {s : ℕ} {ts rest : List Symbol} {x : Tree} → Spells Expression ts x (Close ∷ rest)
      → Spells Primary (symbols.Panel k ∷ Open ∷ Text s ∷ Comma ∷ ts) (Panel (length (symbols.Panel k ∷ Open ∷ Text s ∷ Comma ∷ ts)) k s x) rest
  -- what stands in a pattern
  atom_number : {n : ℕ} {rest : List Symbol} → Spells Atom (Integer n ∷ rest) (Number (length (Integer n ∷ rest)) n) rest
  atom_plus_number : {n : ℕ} {rest : List Symbol} → Spells Atom (symbols.Plus ∷ Integer n ∷ rest) (Number (length (symbols.Plus ∷ Integer n ∷ rest)) n) rest
  atom_minus_number : {n : ℕ} {rest : List Symbol}
      → Spells Atom (symbols.Minus ∷ Integer n ∷ rest) (Negative (length (symbols.Minus ∷ Integer n ∷ rest)) n) rest
  atom_name : {n : ℕ} {rest : List Symbol} → Spells Atom (Name n ∷ rest) (Named (length (Name n ∷ rest)) n) rest
  -- "(" compositions of patterns ")", which make no form of their own
  atom_grouped : {ts rest : List Symbol} {x : Tree} → Spells (Phrase operands.Patterns commas.Join 8) ts x (Close ∷ rest) → Spells Atom (Open ∷ ts) x rest

-- The tokens spell this program.
abbrev pub SpellsProgram : List Symbol → Tree → Type 0
SpellsProgram ts x = Spells (Further Statements) ts x []

-- Some further tokens make a program (a viable prefix of the grammar).
abbrev pub IsViablePrefix : List Symbol → Type 0
IsViablePrefix ts = (more : List Symbol) × (x : Tree) × SpellsProgram (ts ++ more) x
