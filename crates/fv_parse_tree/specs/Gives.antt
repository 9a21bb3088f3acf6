-- What a function of the parser returned, against what the descent gives.
use Rattle.std.specs.Prelude.{◌≡◌, ℕ, ◌<◌, Bool, true, false, nat_eq, drop, List, [], ◌∷◌, length, Option, Some, None, Result, Ok, Err}
use Rattle.fv_lex.specs.declared.token.Symbol.{Symbol}
use Rattle.fv_parse_grammar.specs.declared.form.Operator.{Operator}
use Rattle.fv_parse_tree.specs.declared.arena.Entry.{Entry}
use Rattle.fv_parse_tree.specs.declared.node.TreeId.{TreeId}
use Rattle.fv_parse_tree.specs.declared.reader.Reader.{Reader}
use Rattle.fv_parse_tree.specs.declared.reader.Symbols.{Symbols}
use Rattle.fv_parse_tree.specs.declared.reader.Stop.{Stop}
use Rattle.fv_parse_tree.specs.declared.reader.Stop.TheVariants as stops
use Rattle.fv_parse_tree.specs.declared.text.Fault.{Fault}
use Rattle.fv_parse_tree.specs.declared.text.Fault.TheVariants as faults
use Rattle.fv_parse_grammar.specs.headline.Tree.{Tree}
use Rattle.fv_parse_grammar.specs.Descent.{Step, ◌>>=◌, Turn, Done, Next, Item, Nothing, Skip, One, power_at, operator_at}
use Rattle.fv_parse_grammar.specs.Descent.{Stop as Halts, Fault as Refused}
use Rattle.fv_parse_tree.specs.Arena.{tree_at, trees, forest, Keeps}
use Rattle.fv_parse_grammar.specs.declared.symbol.Operands.{Operands}
use Rattle.fv_parse_grammar.specs.declared.symbol.Commas.{Commas}

-- reading stops where the symbols are left, or memory ran out
abbrev pub Fails : {A : Type 0} → Stop → List Symbol → Result A (List Symbol) → Type 0
Fails stops.NoMemory at read = Unit {0}
Fails stops.Syntax at read = read ≡ Err at

-- what is read symbol by symbol
abbrev pub Takes : {X A : Type 0} → (X → List Symbol → A) → Symbols → Result X Stop → Result A (List Symbol) → Type 0
Takes view new (Ok x) read = read ≡ Ok (view x new.rest.now)
Takes view new (Err e) read = Fails e new.rest.now read

-- the first symbol was passed, if a test knows it
abbrev pub Skips : (List Symbol → Bool) → Symbols → Symbols → Bool → Type 0
Skips test old new true = (test old.rest.now ≡ true) × (new.rest.now ≡ drop 1 old.rest.now) × (length new.rest.now < length old.rest.now)
Skips test old new false = (test old.rest.now ≡ false) × (new.rest.now ≡ old.rest.now)

-- the operator of this power was passed
pub record Operates (op : Operator) (kind : Operands) (comma : Commas) (wanted : ℕ) (tokens rest : List Symbol) : Type 0 where
  pub there : nat_eq (power_at kind comma tokens) wanted ≡ true
  pub is : op ≡ operator_at tokens
  pub after : rest ≡ drop 1 tokens
  pub shorter : length rest < length tokens

-- an operator of this power was passed, if it stood there
abbrev pub IsOperatorAt : Operands → Commas → ℕ → Symbols → Symbols → Option Operator → Type 0
IsOperatorAt kind comma wanted old new None = (nat_eq (power_at kind comma old.rest.now) wanted ≡ false) × (new.rest.now ≡ old.rest.now)
IsOperatorAt kind comma wanted old new (Some op) = Operates op kind comma wanted old.rest.now new.rest.now

-- the tree was found, and those before it are still there
pub record Found (old new : List Tree) (id : TreeId) (rest : List Symbol) (read : Step Tree) : Type 0 where
  pub keeps : Keeps old new
  pub inside : id < length new
  pub is : read ≡ Ok (tree_at new id, rest)

-- what reads a tree
abbrev pub Gives : Reader → Reader → Result TreeId Stop → Step Tree → Type 0
Gives old new (Ok id) read = Found (trees old.arena) (trees new.arena) id new.symbols.rest.now read
Gives old new (Err e) read = Fails e new.symbols.rest.now read

-- one turn of a loop
pub record Turned (old new : List Tree) (id : TreeId) (rest : List Symbol) (t : Turn) : Type 0 where
  pub keeps : Keeps old new
  pub inside : id < length new
  pub is : t ≡ Next (tree_at new id) rest

-- nothing more is read
pub record Ended {A : Type 0} (old new : List Tree) (before rest : List Symbol) (done a : A) : Type 0 where
  pub keeps : Keeps old new
  pub same : rest ≡ before
  pub is : a ≡ done

-- a turn stops where the symbols are left
abbrev pub Stays : Stop → List Symbol → Turn → Type 0
Stays stops.NoMemory at t = Unit {0}
Stays stops.Syntax at t = t ≡ Halts at

-- what reads one turn
abbrev pub GivesTurn : Reader → Reader → Result (Option TreeId) Stop → Turn → Type 0
GivesTurn old new (Ok (Some id)) t = Turned (trees old.arena) (trees new.arena) id new.symbols.rest.now t
GivesTurn old new (Ok None) t = Ended (trees old.arena) (trees new.arena) old.symbols.rest.now new.symbols.rest.now Done t
GivesTurn old new (Err e) t = Stays e new.symbols.rest.now t

-- what was found of a list's further items: a tree, or what is passed over
abbrev pub FoundItem : List Tree → List Tree → Option TreeId → List Symbol → Item → Type 0
FoundItem old new None rest i = i ≡ Skip rest
FoundItem old new (Some id) rest i = (id < length new) × (i ≡ One (tree_at new id) rest)

-- one item, or what is passed over
pub record Itemized (old new : List Tree) (found : Option TreeId) (rest : List Symbol) (i : Item) : Type 0 where
  pub keeps : Keeps old new
  pub is : FoundItem old new found rest i

-- an item stops where the symbols are left
abbrev pub Refuses : Stop → List Symbol → Item → Type 0
Refuses stops.NoMemory at i = Unit {0}
Refuses stops.Syntax at i = i ≡ Refused at

-- what reads one item
abbrev pub GivesItem : Reader → Reader → Result (Option (Option TreeId)) Stop → Item → Type 0
GivesItem old new (Ok (Some found)) i = Itemized (trees old.arena) (trees new.arena) found new.symbols.rest.now i
GivesItem old new (Ok None) i = Ended (trees old.arena) (trees new.arena) old.symbols.rest.now new.symbols.rest.now Nothing i
GivesItem old new (Err e) i = Refuses e new.symbols.rest.now i

-- a first item, as a list
abbrev pub list_of : Option TreeId → List TreeId
list_of None = []
list_of (Some id) = id ∷ []

-- the trees of these numbers in front of the list that is read
abbrev pub in_front : List Tree → List TreeId → Step Tree → Step Tree
in_front ts ids read = read >>= λ y. Ok (forest ts ids y.0, y.1)

-- why there is no tree
abbrev pub Refuse : Fault → Result Tree (List Symbol) → Type 0
Refuse faults.NoMemory read = Unit {0}
Refuse (faults.Syntax at) read = read ≡ Err at.now

-- a whole text: the root's tree is what reading gives
abbrev pub Reads : {X : Type 0} → (X → List Entry) → (X → TreeId) → Result X Fault → Result Tree (List Symbol) → Type 0
Reads entries root (Ok x) read = (read ≡ Ok (tree_at (trees (entries x)) (root x))) × (root x < length (entries x))
Reads entries root (Err e) read = Refuse e read
