-- Reading from left to right, with one token of lookahead, down to a number of open brackets: the productions of
-- `Grammar`, as functions (Faust manual; this project's profile).
use Rattle.fv_parse_grammar.specs.headline.Tree.{Waveform, Panel, Delayed, Apply, Binary, Where, Rule, Constant, Function, End, More}
use Rattle.std.specs.Prelude.{ℕ, zero, suc, Bool, true, false, nat_lt, nat_eq, List, [], ◌∷◌, length, drop, Result, Ok, Err, if◌then◌else◌}
use Rattle.fv_lex.specs.declared.token.Symbol.{Symbol}
use Rattle.fv_lex.specs.declared.token.Symbol.TheVariants.{Name, Text, Integer, Comma, Open, Declare, With, Tick}
use Rattle.fv_num.specs.declared.op.Op.TheVariants.{Add, Sub}
use Rattle.fv_num.specs.declared.primitive.Primitive.TheVariants.{Point}
use Rattle.fv_parse_grammar.specs.declared.form.Operator.{Operator}
use Rattle.fv_parse_grammar.specs.declared.form.Operator.TheVariants as operators
use Rattle.fv_lex.specs.declared.token.Symbol.TheVariants as symbols
use Rattle.fv_parse_grammar.specs.declared.form.Literal.{Literal}
use Rattle.fv_parse_grammar.specs.declared.form.Literal.TheVariants as literal
use Rattle.fv_lex.specs.declared.form.Iteration.{Iteration as Repetition}
use Rattle.fv_lex.specs.declared.form.Side.{Side}
use Rattle.fv_lex.specs.declared.form.Switch.{Switch as SwitchKind}
use Rattle.fv_lex.specs.declared.form.Slider.{Slider as SliderKind}
use Rattle.fv_lex.specs.declared.form.Panel.{Panel as PanelKind}
use Rattle.fv_parse_grammar.specs.declared.symbol.Inside.{Inside}
use Rattle.fv_parse_grammar.specs.declared.symbol.Inside.TheVariants as insides
use Rattle.fv_parse_grammar.specs.declared.symbol.Items.{Items}
use Rattle.fv_parse_grammar.specs.declared.symbol.Items.TheVariants.{Statements, Definitions, Rules, Parts}
use Rattle.fv_parse_grammar.specs.declared.symbol.Mark.{Mark}
use Rattle.fv_parse_grammar.specs.declared.symbol.Mark.TheVariants as marks
use Rattle.fv_parse_grammar.specs.headline.Symbols.{power, operator, is_left}
use Rattle.fv_parse_grammar.specs.Symbols.{is_mark}
use Rattle.fv_parse_grammar.specs.headline.Tree.{Tree, Number, Negative, Named, MinusNamed, Primitive}
use Rattle.fv_parse_grammar.specs.headline.Tree.{Group, Abstraction, Case, Iteration, Ports, Switch, Slider}
use Rattle.fv_parse_grammar.specs.declared.symbol.Operands.{Operands}
use Rattle.fv_parse_grammar.specs.declared.symbol.Commas.{Commas}
use Rattle.fv_parse_grammar.specs.declared.symbol.Operands.TheVariants as operands
use Rattle.fv_parse_grammar.specs.declared.symbol.Commas.TheVariants as commas

-- A step gives a value and the tokens after it, or the tokens from the first that does not fit.
abbrev pub Step : Type 0 → Type 0
Step A = Result (A × List Symbol) (List Symbol)

-- one step, and then another with what it gave
infixl 10 ◌>>=◌
abbrev pub ◌>>=◌ : {A B : Type 0} → Result A (List Symbol) → (A → Result B (List Symbol)) → Result B (List Symbol)
(Ok x) >>= f = f x
(Err e) >>= f = Err e

-- what reads the inside of brackets
abbrev pub Reader : Type 0
Reader = Inside → List Symbol → Step Tree

-- how loosely the first token joins what stands before it; the end of the text ends every phrase
abbrev pub power_at : Operands → Commas → List Symbol → ℕ
power_at kind comma [] = 99
power_at kind comma (t ∷ ts) = power kind comma t

-- the operator that the first token is
abbrev pub operator_at : List Symbol → Operator
operator_at [] = operators.Sequence
operator_at (t ∷ ts) = operator t

-- ---- single tokens
-- this mark, and what follows it
abbrev pub expect : Mark → List Symbol → Result (List Symbol) (List Symbol)
expect m [] = Err []
expect m (t ∷ ts) = if is_mark m t then Ok ts else Err (t ∷ ts)

-- a name's number, and what follows it
abbrev pub a_name : List Symbol → Step ℕ
a_name (Name n ∷ ts) = Ok (n, ts)
a_name ts = Err ts

-- a string's number, and what follows it
abbrev pub a_text : List Symbol → Step ℕ
a_text (Text n ∷ ts) = Ok (n, ts)
a_text ts = Err ts

-- a comma comes first
abbrev pub at_comma : List Symbol → Bool
at_comma [] = false
at_comma (Comma ∷ ts) = true
at_comma (t ∷ ts) = false

-- ---- loops: turns of a body, as long as it goes on and tokens get fewer
-- what one turn of a loop does: nothing further, a tree and the tokens after it, or what does not fit
pub data Turn : Type 0 where
  Done : Turn
  Next : Tree → List Symbol → Turn
  Stop : List Symbol → Turn

-- what follows a turn: nothing further, another turn, or the end at what does not fit
abbrev pub after : (Tree → List Symbol → Step Tree) → Step Tree → Turn → Step Tree
after go stay Done = stay
after go stay (Next x ts) = go x ts
after go stay (Stop ts) = Err ts

-- at most this many turns, each with fewer tokens
unfoldable pub turns : ℕ → (Tree → List Symbol → Turn) → Tree → List Symbol → Step Tree
turns zero body x ts = Err ts
turns (suc k) body x ts = if nat_lt (length ts) k then turns k body x ts else after (turns k body) (Ok (x, ts)) (body x ts)

-- turns, as many as there may be
unfoldable pub run : (Tree → List Symbol → Turn) → Tree → List Symbol → Step Tree
run body x ts = turns (suc (length ts)) body x ts

-- what one turn makes of a part that was read
abbrev pub turn : Step Tree → (Tree → Tree) → Turn
turn (Ok x) f = Next (f x.0) x.1
turn (Err e) f = Stop e

-- ---- what commas separate
-- at most this many items, with commas between
unfoldable pub separated : {A : Type 0} → (List Symbol → Step A) → ℕ → List Symbol → Step (List A)
separated item zero ts = Err ts
separated item (suc k) ts =
    if nat_lt (length ts) k then separated item k ts
    else (item ts >>= λ x.
    if at_comma x.1 then (separated item k (drop 1 x.1) >>= λ xs. Ok (x.0 ∷ xs.0, xs.1))
    else Ok (x.0 ∷ [], x.1))

-- item {"," item}
abbrev pub all_separated : {A : Type 0} → (List Symbol → Step A) → List Symbol → Step (List A)
all_separated item ts = separated item (suc (length ts)) ts

-- name {"," name}
abbrev pub name_list : List Symbol → Step (List ℕ)
name_list ts = all_separated a_name ts

-- ---- numbers
-- an integer's number, and what follows it
abbrev pub a_value : List Symbol → Step ℕ
a_value (Integer n ∷ ts) = Ok (n, ts)
a_value ts = Err ts

-- a number with or without a sign
abbrev pub a_literal : List Symbol → Step Literal
a_literal (Integer n ∷ ts) = Ok (literal.Plain n, ts)
a_literal (symbols.Plus ∷ ts) = a_value ts >>= λ n. Ok (literal.Plain n.0, n.1)
a_literal (symbols.Minus ∷ ts) = a_value ts >>= λ n. Ok (literal.Negative n.0, n.1)
a_literal ts = Err ts

-- number {"," number}
abbrev pub literal_list : List Symbol → Step (List Literal)
literal_list ts = all_separated a_literal ts

-- ---- what stands in brackets, with the bracket after it
-- what stands in brackets, and the bracket after it
abbrev pub enclosed : Reader → Inside → List Symbol → Step Tree
enclosed inner what ts = do
  x ← inner what ts
  rest ← expect marks.Close x.1
  Ok (x.0, rest)

-- an argument, with the comma after it
abbrev pub argument : Reader → List Symbol → Step Tree
argument inner ts = do
  x ← inner insides.Argument ts
  rest ← expect marks.Comma x.1
  Ok (x.0, rest)

-- ---- primary
-- what a plus in an operand's place begins: a number, or the primitive
abbrev pub after_plus : ℕ → List Symbol → Step Tree
after_plus start (Integer n ∷ ts) = Ok (Number start n, ts)
after_plus start ts = Ok (Primitive start (Point Add), ts)

-- what a minus in an operand's place begins: a number, a name, or the primitive
abbrev pub after_minus : ℕ → List Symbol → Step Tree
after_minus start (Integer n ∷ ts) = Ok (Negative start n, ts)
after_minus start (Name n ∷ ts) = Ok (MinusNamed start n, ts)
after_minus start ts = Ok (Primitive start (Point Sub), ts)

-- expression ")"
abbrev pub group : Reader → ℕ → List Symbol → Step Tree
group inner start ts = do
  x ← enclosed inner insides.Expression ts
  Ok (Group start x.0, x.1)

-- "(" names ")" "." "(" expression ")"
unfoldable pub abstraction : Reader → ℕ → List Symbol → Step Tree
abstraction inner start ts = do
  opened ← expect marks.Open ts
  ns ← name_list opened
  closed ← expect marks.Close ns.1
  dotted ← expect marks.Dot closed
  again ← expect marks.Open dotted
  x ← enclosed inner insides.Expression again
  Ok (Abstraction start ns.0 x.0, x.1)

-- "{" rules "}"
unfoldable pub case_of : Reader → ℕ → List Symbol → Step Tree
case_of inner start ts = do
  opened ← expect marks.OpenBrace ts
  x ← inner insides.Rules opened
  rest ← expect marks.CloseBrace x.1
  Ok (Case start x.0, rest)

-- "{" numbers "}"
unfoldable pub waveform : ℕ → List Symbol → Step Tree
waveform start ts = do
  opened ← expect marks.OpenBrace ts
  xs ← literal_list opened
  rest ← expect marks.CloseBrace xs.1
  Ok (Waveform start xs.0, rest)

-- "(" name "," argument "," expression ")"
unfoldable pub iteration : Reader → ℕ → Repetition → List Symbol → Step Tree
iteration inner start i ts = do
  opened ← expect marks.Open ts
  n ← a_name opened
  rest ← expect marks.Comma n.1
  x ← argument inner rest
  y ← enclosed inner insides.Expression x.1
  Ok (Iteration start i n.0 x.0 y.0, y.1)

-- "(" expression ")"
unfoldable pub ports : Reader → ℕ → Side → List Symbol → Step Tree
ports inner start side ts = do
  opened ← expect marks.Open ts
  x ← enclosed inner insides.Expression opened
  Ok (Ports start side x.0, x.1)

-- "(" string ")"
unfoldable pub switch : ℕ → SwitchKind → List Symbol → Step Tree
switch start kind ts = do
  opened ← expect marks.Open ts
  label ← a_text opened
  rest ← expect marks.Close label.1
  Ok (Switch start kind label.0, rest)

-- "(" string ","
unfoldable pub label : List Symbol → Step ℕ
label ts = do
  opened ← expect marks.Open ts
  text ← a_text opened
  rest ← expect marks.Comma text.1
  Ok (text.0, rest)

-- "(" string "," argument "," argument "," argument "," argument ")"
unfoldable pub slider : Reader → ℕ → SliderKind → List Symbol → Step Tree
slider inner start kind ts = do
  text ← label ts
  x0 ← argument inner text.1
  x1 ← argument inner x0.1
  x2 ← argument inner x1.1
  x3 ← enclosed inner insides.Argument x2.1
  Ok (Slider start kind text.0 x0.0 x1.0 x2.0 x3.0, x3.1)

-- "(" string "," expression ")"
unfoldable pub panel : Reader → ℕ → PanelKind → List Symbol → Step Tree
panel inner start kind ts = do
  text ← label ts
  x ← enclosed inner insides.Expression text.1
  Ok (Panel start kind text.0 x.0, x.1)

-- by the first token: it, all the tokens, and those after the first
unfoldable pub by_first : Reader → Symbol → List Symbol → List Symbol → Step Tree
by_first inner (Integer n) all ts = Ok (Number (length all) n, ts)
by_first inner (Name n) all ts = Ok (Named (length all) n, ts)
by_first inner symbols.Plus all ts = after_plus (length all) ts
by_first inner symbols.Minus all ts = after_minus (length all) ts
by_first inner (symbols.Primitive p) all ts = Ok (Primitive (length all) p, ts)
by_first inner Open all ts = group inner (length all) ts
by_first inner symbols.Backslash all ts = abstraction inner (length all) ts
by_first inner symbols.Case all ts = case_of inner (length all) ts
by_first inner symbols.Waveform all ts = waveform (length all) ts
by_first inner (symbols.Iteration i) all ts = iteration inner (length all) i ts
by_first inner (symbols.Ports s) all ts = ports inner (length all) s ts
by_first inner (symbols.Switch k) all ts = switch (length all) k ts
by_first inner (symbols.Slider k) all ts = slider inner (length all) k ts
by_first inner (symbols.Panel k) all ts = panel inner (length all) k ts
by_first inner t all ts = Err all

-- what stands in an operand's place
abbrev pub primary : Reader → List Symbol → Step Tree
primary inner [] = Err []
primary inner (t ∷ ts) = by_first inner t (t ∷ ts) ts

-- ---- postfix
-- arguments ")", after the bracket of an application
abbrev pub applied_to : Reader → ℕ → Tree → List Symbol → Turn
applied_to inner start x ts = turn (enclosed inner insides.Arguments ts) (λ y. Apply start x y)

-- a tick or an application, after an operand
abbrev pub postfix_turn : Reader → ℕ → Tree → List Symbol → Turn
postfix_turn inner start x [] = Done
postfix_turn inner start x (Tick ∷ ts) = Next (Delayed start x) ts
postfix_turn inner start x (Open ∷ ts) = applied_to inner start x ts
postfix_turn inner start x (t ∷ ts) = Done

-- an operand with what follows it
unfoldable pub postfix : Reader → List Symbol → Step Tree
postfix inner ts = primary inner ts >>= λ x. run (postfix_turn inner (length ts)) x.0 x.1

-- ---- patterns
-- a number after a plus in a pattern
abbrev pub plus_number : ℕ → List Symbol → Step Tree
plus_number start (Integer n ∷ ts) = Ok (Number start n, ts)
plus_number start ts = Err ts

-- a number after a minus in a pattern
abbrev pub minus_number : ℕ → List Symbol → Step Tree
minus_number start (Integer n ∷ ts) = Ok (Negative start n, ts)
minus_number start ts = Err ts

-- what stands in a pattern, by its first token
abbrev pub atom_by_first : Reader → Symbol → List Symbol → List Symbol → Step Tree
atom_by_first inner (Integer n) all ts = Ok (Number (length all) n, ts)
atom_by_first inner (Name n) all ts = Ok (Named (length all) n, ts)
atom_by_first inner symbols.Plus all ts = plus_number (length all) ts
atom_by_first inner symbols.Minus all ts = minus_number (length all) ts
atom_by_first inner Open all ts = enclosed inner insides.Pattern ts
atom_by_first inner t all ts = Err all

-- what stands in a pattern
abbrev pub atom : Reader → List Symbol → Step Tree
atom inner [] = Err []
atom inner (t ∷ ts) = atom_by_first inner t (t ∷ ts) ts

-- what the operators join
abbrev pub operand : Reader → Operands → List Symbol → Step Tree
operand inner operands.Patterns ts = atom inner ts
operand inner operands.Expressions ts = postfix inner ts

-- ---- operators
-- an operator of this power and what follows it, joined to the left
abbrev pub left_turn : (List Symbol → Step Tree) → Operands → Commas → ℕ → ℕ → Tree → List Symbol → Turn
left_turn part kind comma r start x ts =
    if nat_eq (power_at kind comma ts) r then turn (part (drop 1 ts)) (λ y. Binary start (operator_at ts) x y) else Done

-- at most this many parts, joined to the right
unfoldable pub rights : ℕ → (List Symbol → Step Tree) → Operands → Commas → ℕ → List Symbol → Step Tree
rights zero part kind comma r ts = Err ts
rights (suc k) part kind comma r ts =
    if nat_lt (length ts) k then rights k part kind comma r ts
    else (part ts >>= λ x.
    if nat_eq (power_at kind comma x.1) r then (rights k part kind comma r (drop 1 x.1) >>= λ y. Ok (Binary (length ts) (operator_at x.1) x.0 y.0, y.1))
    else Ok (x.0, x.1))

-- parts that are joined to the right
unfoldable pub chain : (List Symbol → Step Tree) → Operands → Commas → ℕ → List Symbol → Step Tree
chain part kind comma r ts = rights (suc (length ts)) part kind comma r ts

-- parts that are joined by the operators up to a precedence
unfoldable pub phrase : Reader → Operands → Commas → ℕ → List Symbol → Step Tree
phrase inner kind comma zero ts = operand inner kind ts
phrase inner kind comma (suc h) ts =
    if is_left (suc h) then (phrase inner kind comma h ts >>= λ x. run (left_turn (phrase inner kind comma h) kind comma (suc (suc h)) (length ts)) x.0 x.1)
    else chain (phrase inner kind comma h) kind comma (suc (suc h)) ts

-- ---- expression
-- `with` comes first
abbrev pub at_with : List Symbol → Bool
at_with [] = false
at_with (With ∷ ts) = true
at_with (t ∷ ts) = false

-- "{" definitions "}", after `with`
abbrev pub with_part : Reader → ℕ → Tree → List Symbol → Turn
with_part inner start x ts =
    turn (expect marks.OpenBrace ts >>= λ rest. (inner insides.Definitions rest >>= λ y. (expect marks.CloseBrace y.1 >>= λ end. Ok (y.0, end))))
    (λ y. Where start x y)

-- definitions that stand after an expression
abbrev pub with_turn : Reader → ℕ → Tree → List Symbol → Turn
with_turn inner start x [] = Done
with_turn inner start x (With ∷ ts) = with_part inner start x ts
with_turn inner start x (t ∷ ts) = Done

-- a phrase, and any number of `with`s after it
unfoldable pub expression : Reader → List Symbol → Step Tree
expression inner ts = phrase inner operands.Expressions commas.Join 8 ts >>= λ x. run (with_turn inner (length ts)) x.0 x.1

-- ---- definitions and rules
-- expression ";"
unfoldable pub ended : Reader → List Symbol → Step Tree
ended inner ts = do
  x ← expression inner ts
  rest ← expect marks.Semicolon x.1
  Ok (x.0, rest)

-- patterns ")" "=" expression ";", after a name and its bracket
unfoldable pub function_after : Reader → ℕ → ℕ → List Symbol → Step Tree
function_after inner start n ts = do
  ps ← enclosed inner insides.Patterns ts
  side ← expect marks.Equals ps.1
  x ← ended inner side
  Ok (Function start n ps.0 x.0, x.1)

-- "=" expression ";", after a name
unfoldable pub constant_after : Reader → ℕ → ℕ → List Symbol → Step Tree
constant_after inner start n ts = do
  side ← expect marks.Equals ts
  x ← ended inner side
  Ok (Constant start n x.0, x.1)

-- what follows the name of a definition
abbrev pub after_name : Reader → ℕ → ℕ → List Symbol → Step Tree
after_name inner start n (Open ∷ ts) = function_after inner start n ts
after_name inner start n ts = constant_after inner start n ts

-- a definition
unfoldable pub definition : Reader → List Symbol → Step Tree
definition inner ts = a_name ts >>= λ n. after_name inner (length ts) n.0 n.1

-- "(" patterns ")" "=>" expression ";"
unfoldable pub one_rule : Reader → List Symbol → Step Tree
one_rule inner ts = do
  opened ← expect marks.Open ts
  ps ← enclosed inner insides.Patterns opened
  side ← expect marks.Arrow ps.1
  x ← ended inner side
  Ok (Rule (length ts) ps.0 x.0, x.1)

-- what follows "declare"
abbrev pub declared_text : List Symbol → Result (List Symbol) (List Symbol)
declared_text ts = a_text ts >>= λ text. expect marks.Semicolon text.1

-- [name] string ";"
abbrev pub declared_for : List Symbol → Result (List Symbol) (List Symbol)
declared_for (Name n ∷ ts) = declared_text ts
declared_for ts = declared_text ts

-- name [name] string ";"
abbrev pub declaration : List Symbol → Result (List Symbol) (List Symbol)
declaration ts = a_name ts >>= λ n. declared_for n.1

-- ---- lists
-- what further stands in a list: nothing, what is passed over, a tree, or what does not fit
pub data Item : Type 0 where
  Nothing : Item
  Skip : List Symbol → Item
  One : Tree → List Symbol → Item
  Fault : List Symbol → Item

-- a tree that was read, as an item
abbrev pub one_of : Step Tree → Item
one_of (Ok x) = One x.0 x.1
one_of (Err e) = Fault e

-- what was passed over, as an item
abbrev pub skip_of : Result (List Symbol) (List Symbol) → Item
skip_of (Ok ts) = Skip ts
skip_of (Err e) = Fault e

-- a definition or a declaration
abbrev pub statement : Reader → List Symbol → Item
statement inner (Name n ∷ ts) = one_of (definition inner (Name n ∷ ts))
statement inner (Declare ∷ ts) = skip_of (declaration ts)
statement inner ts = Nothing

-- a definition, where no declaration may stand
abbrev pub inner_definition : Reader → List Symbol → Item
inner_definition inner (Name n ∷ ts) = one_of (definition inner (Name n ∷ ts))
inner_definition inner ts = Nothing

-- a further rule
abbrev pub next_rule : Reader → List Symbol → Item
next_rule inner (Open ∷ ts) = one_of (one_rule inner (Open ∷ ts))
next_rule inner ts = Nothing

-- a comma and a further argument or pattern
abbrev pub next_part : Reader → Operands → List Symbol → Item
next_part inner kind (Comma ∷ ts) = one_of (phrase inner kind commas.Separate 8 ts)
next_part inner kind ts = Nothing

-- a further item of a list
abbrev pub item : Reader → Items → List Symbol → Item
item inner Statements ts = statement inner ts
item inner Definitions ts = inner_definition inner ts
item inner Rules ts = next_rule inner ts
item inner (Parts kind) ts = next_part inner kind ts

-- the items from one on
abbrev pub with_item : (List Symbol → Step Tree) → List Symbol → Item → Step Tree
with_item others ts Nothing = Ok (End, ts)
with_item others ts (Skip rest) = others rest
with_item others ts (One x rest) = others rest >>= λ y. Ok (More x y.0, y.1)
with_item others ts (Fault at) = Err at

-- at most this many further items
unfoldable pub many : ℕ → (List Symbol → Item) → List Symbol → Step Tree
many zero next ts = Err ts
many (suc k) next ts = if nat_lt (length ts) k then many k next ts else with_item (many k next) ts (next ts)

-- any number of items
unfoldable pub further : Reader → Items → List Symbol → Step Tree
further inner items ts = many (suc (length ts)) (item inner items) ts

-- the first item of a list that has one
abbrev pub first_item : Reader → Items → List Symbol → Step Tree
first_item inner Rules ts = one_rule inner ts
first_item inner (Parts kind) ts = phrase inner kind commas.Separate 8 ts
first_item inner items ts = Err ts

-- a list that has an item
unfoldable pub listed : Reader → Items → List Symbol → Step Tree
listed inner items ts = do
  x ← first_item inner items ts
  y ← further inner items x.1
  Ok (More x.0 y.0, y.1)

-- ---- inside brackets
-- what stands in brackets, by its kind
abbrev pub descend : Reader → Reader
descend inner insides.Expression ts = expression inner ts
descend inner insides.Argument ts = phrase inner operands.Expressions commas.Separate 8 ts
descend inner insides.Pattern ts = phrase inner operands.Patterns commas.Join 8 ts
descend inner insides.Arguments ts = listed inner (Parts operands.Expressions) ts
descend inner insides.Patterns ts = listed inner (Parts operands.Patterns) ts
descend inner insides.Rules ts = listed inner Rules ts
descend inner insides.Definitions ts = further inner Definitions ts

-- the descent with this many brackets that may still be opened
unfoldable pub within : ℕ → Reader
within zero what ts = Err ts
within (suc nesting) what ts = descend (within nesting) what ts

-- nothing stands after a program
abbrev pub whole_text : Tree × List Symbol → Result Tree (List Symbol)
whole_text (x, []) = Ok x
whole_text (x, t ∷ ts) = Err (t ∷ ts)

-- a whole program
unfoldable pub program : ℕ → List Symbol → Result Tree (List Symbol)
program nesting ts = further (within nesting) Statements ts >>= whole_text
