-- Values and environments, and what a name stands for (Faust manual; this project's profile). They are trees; the code keeps
-- arenas. A name is its bytes.
use Rattle.std.specs.Prelude.{ℕ, suc, Bool, false, List, [], ◌∷◌, map, filter, Option, Some, None, if◌then◌else◌}
use Rattle.std.specs.Str.{bytes_eq}
use Rattle.fv_lex.specs.headline.Token.{Lexed}
use Rattle.fv_parse_grammar.specs.headline.Tree.{Tree, items}
use Rattle.fv_parse_grammar.specs.headline.Tree as tree
use Rattle.fv_diagram.specs.headline.Diagram.{Diagram}
use Rattle.fv_parse.specs.headline.Trees.{text_of}

-- a name is its bytes
abbrev pub Name : Type 0
Name = List ℕ

-- a rule: its patterns and its right side
pub record Rule : Type 0 where
  pub patterns : List Tree
  pub body : Tree

mutual
  -- A value is a diagram, an abstraction or rules. An abstraction has the parameters left, the body and the environment. Rules have
  -- their place (how many tokens there are from their first one on), the rules, the environment and the arguments taken so far.
  pub data Value : Type 0 where
    Flat : (diagram : Diagram) → Value
    Abstraction : (first : List ℕ) → (others : List (List ℕ)) → (body : Tree) → (env : Env) → Value
    Rules : (start : ℕ) → (rules : List Rule) → (env : Env) → (taken : Taken) → Value

  -- An environment is a list of scopes, the innermost first: a name bound to a value, or a list of definitions.
  pub data Env : Type 0 where
    Outermost : Env
    Bound : (name : List ℕ) → (value : Value) → (outer : Env) → Env
    Scope : (definitions : Tree) → (outer : Env) → Env

  -- the arguments that rules have taken, the last one first
  pub data Taken : Type 0 where
    Nothing : Taken
    And : (last : Value) → (before : Taken) → Taken

-- What the definitions of a name make of it: its right side, an abstraction, or rules.
pub data Definition : Type 0 where
  Plain : (body : Tree) → Definition
  Parameters : (first : Name) → (others : List Name) → (body : Tree) → Definition
  Cases : (start : ℕ) → (rules : List Rule) → Definition

-- What a name stands for: a value, a definition in the environment from its own list outwards, or nothing.
pub data Meaning : Type 0 where
  IsValue : (value : Value) → Meaning
  IsDefined : (definition : Definition) → (env : Env) → Meaning
  Unknown : Meaning

-- a rule as it is spelled, or a definition by patterns
abbrev pub rule_of : Tree → Rule
rule_of (tree.Rule s ps x) = record { patterns = items ps; body = x }
rule_of (tree.Function s n ps x) = record { patterns = items ps; body = x }
rule_of x = record { patterns = []; body = x }

-- a tree is a definition of this name
abbrev pub is_of : Lexed → Name → Tree → Bool
is_of l name (tree.Constant s n x) = bytes_eq (text_of l n) name
is_of l name (tree.Function s n ps x) = bytes_eq (text_of l n) name
is_of l name x = false

-- one name more in front, where all are names
abbrev pub with_name : Name → Option (List Name) → Option (List Name)
with_name x None = None
with_name x (Some xs) = Some (x ∷ xs)

-- the names of patterns that are all names
abbrev pub names_of : Lexed → List Tree → Option (List Name)
names_of l [] = Some []
names_of l (tree.Named s n ∷ ps) = with_name (text_of l n) (names_of l ps)
names_of l (p ∷ ps) = None

-- one definition with patterns: an abstraction where they are all names, else one rule
abbrev pub of_one : Option (List Name) → ℕ → List Tree → Tree → Definition
of_one (Some (x ∷ xs)) s ps body = Parameters x xs body
of_one _ s ps body = Cases s (record { patterns = ps; body = body } ∷ [])

-- What the definitions of one name, in their order, make of it.
abbrev pub definition_of : Lexed → List Tree → Option Definition
definition_of l (tree.Constant s n x ∷ ds) = Some (Plain x)
definition_of l (tree.Function s n ps x ∷ []) = Some (of_one (names_of l (items ps)) s (items ps) x)
definition_of l (tree.Function s n ps x ∷ d ∷ ds) = Some (Cases s (rule_of (tree.Function s n ps x) ∷ map rule_of (d ∷ ds)))
definition_of l ds = None

-- a definition that was found, in the environment of its list, else what the name means further outwards
abbrev pub or_else : Option Definition → Env → Meaning → Meaning
or_else (Some d) env m = IsDefined d env
or_else None env m = m

-- What a name stands for in an environment: the innermost scope that has it.
abbrev pub lookup : Lexed → Env → Name → Meaning
lookup l Outermost name = Unknown
lookup l (Bound x v outer) name = if bytes_eq x name then IsValue v else lookup l outer name
lookup l (Scope ds outer) name = or_else (definition_of l (filter (is_of l name) (items ds))) (Scope ds outer) (lookup l outer name)

-- the arguments taken, the first one first, before others
abbrev pub in_order : Taken → List Value → List Value
in_order Nothing after = after
in_order (And v before) after = in_order before (v ∷ after)

-- how many arguments were taken
abbrev pub count_taken : Taken → ℕ
count_taken Nothing = 0
count_taken (And v before) = suc (count_taken before)
