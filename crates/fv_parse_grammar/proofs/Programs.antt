-- Definitions, rules, lists, and the whole program.
use Rattle.std.proofs.Common.{◌≡◌, ℕ, zero, suc, List, [], ◌∷◌, ◌++◌, length, Result, Err, refl, sym, subst, arith, append_assoc}
use Rattle.std.specs.Prelude.{nat_lt}
use Rattle.std.proofs.lemmas.List.{append-nil}
use Rattle.fv_parse_grammar.specs.Symbol.{Symbol}
use Rattle.fv_parse_grammar.specs.Symbol.TheVariants.{Name, Comma, Open, Close, Equals, Arrow, Semicolon, Declare}
use Rattle.fv_parse_grammar.specs.declared.symbol.Inside.TheVariants as insides
use Rattle.fv_parse_grammar.specs.declared.symbol.Items.{Items}
use Rattle.fv_parse_grammar.specs.declared.symbol.Items.TheVariants.{Statements, Definitions, Rules, Parts}
use Rattle.fv_parse_grammar.specs.headline.Tree.{Tree}
use Rattle.fv_parse_grammar.specs.headline.Grammar.{Further, Definition, Listed, OneRule, IsViablePrefix, SpellsProgram, no_more, stated, declared}
use Rattle.fv_parse_grammar.specs.headline.Grammar.{declared_for, defined, ruled, parted, first_rule, first_part, constant, function, rule}
use Rattle.fv_parse_grammar.specs.Descent as descent
use Rattle.fv_parse_grammar.specs.declared.symbol.Mark.TheVariants as marks
use Rattle.fv_parse_grammar.specs.Descent.{Step, ◌>>=◌, Reader, ended, function_after, constant_after, after_name}
use Rattle.fv_parse_grammar.specs.Descent.{definition, one_rule, declared_text, declaration, Item, Skip, One, Fault, one_of}
use Rattle.fv_parse_grammar.specs.Descent.{skip_of, item, with_item, many, further, listed, within, program, whole_text}
use Rattle.fv_parse_grammar.specs.Beginnings.{StopsBehindABeginning, BeginningsAreClosed, ProgramsBegin}
use Rattle.fv_parse_grammar.proofs.Plans.{called, worded, both, this, that, signed, Spelled, spelled, Adds, Plan, Sign, AName, AText, Inner}
use Rattle.fv_parse_grammar.proofs.Plans.{Joined, ADefinition, ARule, Others, Adding, Then, Or, Spans, Takes, Sticks, took, stuck, behind, next}
use Rattle.fv_parse_grammar.proofs.Plans.{made, done, as_plan, unread, one_taken, by_test, Passes, Reads, as_sticks, sticks_before, stays}
use Rattle.fv_parse_grammar.proofs.Pieces.{expect_passes, a_name_reads, a_text_reads, ReadsInside, enclosed_reads}
use Rattle.fv_parse_grammar.proofs.OperandBeginnings.{headed}
use Rattle.fv_parse_grammar.proofs.Phrases.{phrase_reads, expression_reads}
use Rattle.fv_parse_grammar.specs.declared.symbol.Operands.{Operands}
use Rattle.fv_parse_grammar.specs.declared.symbol.Operands.TheVariants as operands
use Rattle.fv_parse_grammar.specs.declared.symbol.Commas.TheVariants as commas

-- ---- definitions and rules
-- expression ";"
ended_reads : (inner : Reader) → ReadsInside inner → (ts : List Symbol) → Reads (Then (Inner insides.Expression) (Sign Semicolon)) ts (ended inner ts)
unfolding ended
ended_reads inner reads ts = next (expression_reads inner reads ts) (λ x. made (expect_passes marks.Semicolon x.1) (λ rest. done))

-- what may follow a name: "(" patterns ")" "=" expression ";", or "=" expression ";"
abbrev FunctionSide : Plan
FunctionSide = Then (Sign Open) (Then (Then (Inner insides.Patterns) (Sign Close)) (Then (Sign Equals) (Then (Inner insides.Expression) (Sign Semicolon))))

abbrev ConstantSide : Plan
ConstantSide = Then (Sign Equals) (Then (Inner insides.Expression) (Sign Semicolon))

-- by a reader that reads inside brackets
module _ (inner : Reader) (reads : ReadsInside inner) where
  function_reads : (start n : ℕ) (ts : List Symbol) → Reads FunctionSide (Open ∷ ts) (function_after inner start n ts)
  unfolding function_after
  function_reads start n ts = headed Open ts
      (next (enclosed_reads inner reads insides.Patterns ts)
      (λ ps. next (expect_passes marks.Equals ps.1) (λ side. made (ended_reads inner reads side) (λ x. done))))

  constant_reads : (start n : ℕ) (ts : List Symbol) → Reads ConstantSide ts (constant_after inner start n ts)
  unfolding constant_after
  constant_reads start n ts = next (expect_passes marks.Equals ts) (λ side. made (ended_reads inner reads side) (λ x. done))

  after_name_reads : (start n : ℕ) (ts : List Symbol) → Reads (Or FunctionSide ConstantSide) ts (after_name inner start n ts)
  after_name_reads start n (Open ∷ ts) = as_plan (Or FunctionSide ConstantSide) (function_reads start n ts) (λ a b s. this s)
  after_name_reads start n [] = as_plan (Or FunctionSide ConstantSide) (constant_reads start n []) (λ a b s. that s)
  after_name_reads start n (t ∷ ts) = as_plan (Or FunctionSide ConstantSide) (constant_reads start n (t ∷ ts)) (λ a b s. that s)

is_definition : (a b : List Symbol) → Spans (Then AName (Or FunctionSide ConstantSide)) a b → Spelled Definition a b
is_definition a b (both called (this (both signed (both (both (spelled ps) signed) (both signed (both (spelled x) signed)))))) = spelled (function ps x)
is_definition a b (both called (that (both signed (both (spelled x) signed)))) = spelled (constant x)

definition_reads : (inner : Reader) → ReadsInside inner → (ts : List Symbol) → Reads ADefinition ts (definition inner ts)
unfolding definition
definition_reads inner reads ts = as_plan ADefinition (next (a_name_reads ts) (λ n. after_name_reads inner reads (length ts) n.0 n.1)) is_definition

-- "(" patterns ")" "=>" expression ";"
is_rule : (a b : List Symbol)
    → Spans (Then (Sign Open) (Then (Then (Inner insides.Patterns) (Sign Close)) (Then (Sign Arrow) (Then (Inner insides.Expression) (Sign Semicolon))))) a b
    → Spelled OneRule a b
is_rule a b (both signed (both (both (spelled ps) signed) (both signed (both (spelled x) signed)))) = spelled (rule ps x)

rule_reads : (inner : Reader) → ReadsInside inner → (ts : List Symbol) → Reads ARule ts (one_rule inner ts)
unfolding one_rule
rule_reads inner reads ts = as_plan ARule
    (next (expect_passes marks.Open ts) (λ opened. next (enclosed_reads inner reads insides.Patterns opened)
    (λ ps. next (expect_passes marks.Arrow ps.1) (λ side. made (ended_reads inner reads side) (λ x. done)))))
    is_rule

-- ---- declarations
-- string ";"
abbrev DeclaredText : Plan
DeclaredText = Then AText (Sign Semicolon)

declared_text_passes : (ts : List Symbol) → Passes DeclaredText ts (declared_text ts)
declared_text_passes ts = next (a_text_reads ts) (λ text. expect_passes marks.Semicolon text.1)

declared_for_passes : (ts : List Symbol) → Passes (Or (Then AName DeclaredText) DeclaredText) ts (descent.declared_for ts)
declared_for_passes (Name n ∷ ts) =
    as_plan (Or (Then AName DeclaredText) DeclaredText)
    (behind AName (record { used = Name n ∷ []; whole = refl; spans = λ tail. called }) (declared_text_passes ts)) (λ a b s. this s)
declared_for_passes [] = as_plan (Or (Then AName DeclaredText) DeclaredText) (declared_text_passes []) (λ a b s. that s)
declared_for_passes (t ∷ ts) = as_plan (Or (Then AName DeclaredText) DeclaredText) (declared_text_passes (t ∷ ts)) (λ a b s. that s)

declaration_passes : (ts : List Symbol) → Passes (Then AName (Or (Then AName DeclaredText) DeclaredText)) ts (declaration ts)
declaration_passes ts = next (a_name_reads ts) (λ n. declared_for_passes n.1)

-- ---- lists
-- What further stands in a list adds to what follows it.
data Puts (items : Items) (ts : List Symbol) : Item → Type 0 where
  no_item : Puts items ts descent.Nothing
  skip_item : {rest : List Symbol} → Takes (Spans (Adding items)) ts rest → Puts items ts (Skip rest)
  one_item : {x : Tree} {rest : List Symbol} → Takes (Spans (Adding items)) ts rest → Puts items ts (One x rest)
  fault_item : {at : List Symbol} → Sticks (Spans (Adding items)) ts at → Puts items ts (Fault at)

of_step : {items : Items} {ts : List Symbol} {r : Step Tree} → Reads (Adding items) ts r → Puts items ts (one_of r)
of_step (took s) = one_item s
of_step (stuck s) = fault_item s

of_pass : {items : Items} {ts : List Symbol} {r : Result (List Symbol) (List Symbol)} → Passes (Adding items) ts r → Puts items ts (skip_of r)
of_pass (took s) = skip_item s
of_pass (stuck s) = fault_item s

states : (a b : List Symbol) → Spelled Definition a b → Adds Statements a b
states a b (spelled x) = record { others = λ rest y s. spelled (stated x s) }

declares : (a b : List Symbol) → Spans (Then (Sign Declare) (Then AName (Or (Then AName DeclaredText) DeclaredText))) a b → Adds Statements a b
declares a b (both signed (both called (this (both called (both worded signed))))) = record { others = λ rest y s. spelled (declared_for s) }
declares a b (both signed (both called (that (both worded signed)))) = record { others = λ rest y s. spelled (declared s) }

defines : (a b : List Symbol) → Spelled Definition a b → Adds Definitions a b
defines a b (spelled x) = record { others = λ rest y s. spelled (defined x s) }

rules_on : (a b : List Symbol) → Spelled OneRule a b → Adds Rules a b
rules_on a b (spelled x) = record { others = λ rest y s. spelled (ruled x s) }

parts_on : (kind : Operands) (a b : List Symbol) → Spans (Then (Sign Comma) (Joined kind commas.Separate 8)) a b → Adds (Parts kind) a b
parts_on kind a b (both signed (spelled x)) = record { others = λ rest y s. spelled (parted x s) }

item_adds : (inner : Reader) → ReadsInside inner → (items : Items) (ts : List Symbol) → Puts items ts (item inner items ts)
item_adds inner reads Statements (Name n ∷ ts) = of_step (as_plan (Adding Statements) (definition_reads inner reads (Name n ∷ ts)) states)
item_adds inner reads Statements (Declare ∷ ts) =
    of_pass (as_plan (Adding Statements) (behind (Sign Declare) (one_taken Declare ts) (declaration_passes ts)) declares)
item_adds inner reads Statements [] = no_item
item_adds inner reads Statements (t ∷ ts) = no_item
item_adds inner reads Definitions (Name n ∷ ts) = of_step (as_plan (Adding Definitions) (definition_reads inner reads (Name n ∷ ts)) defines)
item_adds inner reads Definitions [] = no_item
item_adds inner reads Definitions (t ∷ ts) = no_item
item_adds inner reads Rules (Open ∷ ts) = of_step (as_plan (Adding Rules) (rule_reads inner reads (Open ∷ ts)) rules_on)
item_adds inner reads Rules [] = no_item
item_adds inner reads Rules (t ∷ ts) = no_item
item_adds inner reads (Parts kind) (Comma ∷ ts) =
    of_step (as_plan (Adding (Parts kind)) (headed Comma ts (phrase_reads inner reads kind commas.Separate 8 (omega arith) ts)) (parts_on kind))
item_adds inner reads (Parts kind) [] = no_item
item_adds inner reads (Parts kind) (t ∷ ts) = no_item

adds_on : (items : Items) (a b : List Symbol) → Spans (Then (Adding items) (Others items)) a b → Spelled (Further items) a b
adds_on items a b (both s (spelled x)) = s.others _ _ x

with_item_reads : (items : Items) (others : List Symbol → Step Tree) → ((ts : List Symbol) → Reads (Others items) ts (others ts))
    → (ts : List Symbol) (found : Item) → Puts items ts found → Reads (Others items) ts (with_item others ts found)
with_item_reads items others reads ts found no_item = took (record { used = []; whole = refl; spans = λ tail. spelled no_more })
with_item_reads items others reads ts found (skip_item s) = as_plan (Others items) (behind (Adding items) s (reads _)) (adds_on items)
with_item_reads items others reads ts found (one_item s) = as_plan (Others items) (behind (Adding items) s (made (reads _) (λ y. done))) (adds_on items)
with_item_reads items others reads ts found (fault_item s) = stuck (as_sticks (sticks_before (Others items) s) (adds_on items))

many_read : (items : Items) (next_item : List Symbol → Item)
    → ((ts : List Symbol) → Puts items ts (next_item ts)) → (k : ℕ) (ts : List Symbol) → Reads (Others items) ts (many k next_item ts)
unfolding many
many_read items next_item adds zero ts = unread (Others items)
many_read items next_item adds (suc k) ts = by_test (nat_lt (length ts) k)
    (λ _. many_read items next_item adds k ts)
    (λ _. with_item_reads items (many k next_item) (many_read items next_item adds k) ts (next_item ts) (adds ts))

further_reads : (inner : Reader) → ReadsInside inner → (items : Items) (ts : List Symbol) → Reads (Others items) ts (further inner items ts)
unfolding further
further_reads inner reads items ts = many_read items (item inner items) (item_adds inner reads items) (suc (length ts)) ts

-- rule {rule}; argument {"," argument}; pattern {"," pattern}
lists_rules : (a b : List Symbol) → Spans (Then ARule (Others Rules)) a b → Spelled (Listed Rules) a b
lists_rules a b (both (spelled x) (spelled y)) = spelled (first_rule x y)

lists_parts : (kind : Operands) (a b : List Symbol) → Spans (Then (Joined kind commas.Separate 8) (Others (Parts kind))) a b → Spelled (Listed (Parts kind)) a b
lists_parts kind a b (both (spelled x) (spelled y)) = spelled (first_part x y)

-- by a reader that reads inside brackets
module _ (inner : Reader) (reads : ReadsInside inner) where
  rules_read : (ts : List Symbol) → Reads (Then ARule (Others Rules)) ts (listed inner Rules ts)
  unfolding listed
  rules_read ts = next (rule_reads inner reads ts) (λ x. made (further_reads inner reads Rules x.1) (λ y. done))

  parts_read : (kind : Operands) (ts : List Symbol) → Reads (Then (Joined kind commas.Separate 8) (Others (Parts kind))) ts (listed inner (Parts kind) ts)
  unfolding listed
  parts_read kind ts =
      next (phrase_reads inner reads kind commas.Separate 8 (omega arith) ts) (λ x. made (further_reads inner reads (Parts kind) x.1) (λ y. done))

-- ---- inside brackets
within_reads : (nesting : ℕ) → ReadsInside (within nesting)
unfolding within
within_reads zero what ts = unread (Inner what)
within_reads (suc nesting) insides.Expression ts = expression_reads (within nesting) (within_reads nesting) ts
within_reads (suc nesting) insides.Argument ts =
    as_plan (Inner insides.Argument) (phrase_reads (within nesting) (within_reads nesting) operands.Expressions commas.Separate 8 (omega arith) ts) (λ a b s. s)
within_reads (suc nesting) insides.Pattern ts =
    as_plan (Inner insides.Pattern) (phrase_reads (within nesting) (within_reads nesting) operands.Patterns commas.Join 8 (omega arith) ts) (λ a b s. s)
within_reads (suc nesting) insides.Arguments ts =
    as_plan (Inner insides.Arguments) (parts_read (within nesting) (within_reads nesting) operands.Expressions ts) (lists_parts operands.Expressions)
within_reads (suc nesting) insides.Patterns ts =
    as_plan (Inner insides.Patterns) (parts_read (within nesting) (within_reads nesting) operands.Patterns ts) (lists_parts operands.Patterns)
within_reads (suc nesting) insides.Rules ts = as_plan (Inner insides.Rules) (rules_read (within nesting) (within_reads nesting) ts) lists_rules
within_reads (suc nesting) insides.Definitions ts =
    as_plan (Inner insides.Definitions) (further_reads (within nesting) (within_reads nesting) Definitions ts) (λ a b s. s)

-- ---- the whole program
stops_behind : (ts : List Symbol) (x : Tree) (left rest : List Symbol)
    → Takes (Spans (Others Statements)) ts left → whole_text (x, left) ≡ Err rest → Sticks (Spans (Others Statements)) ts rest
stops_behind ts x [] rest s e = absurd cc
stops_behind ts x (t ∷ left) rest s e = let q : t ∷ left ≡ rest = cc in subst (λ l. Sticks (Spans (Others Statements)) ts l) q (stays s)

stops : (ts : List Symbol) (r : Step Tree) (rest : List Symbol)
    → Reads (Others Statements) ts r → (r >>= whole_text) ≡ Err rest → Sticks (Spans (Others Statements)) ts rest
stops ts r rest (took {x = x} s) e = stops_behind ts x.0 x.1 rest s e
stops ts r rest (stuck {at = at} s) e = let q : at ≡ rest = cc in subst (λ l. Sticks (Spans (Others Statements)) ts l) q s

begins : (ts : List Symbol) → (more : List Symbol) × Spelled (Further Statements) (ts ++ more) [] → IsViablePrefix ts
begins ts (more, spelled x) = (more, _, x)

pub stops_behind_a_beginning : StopsBehindABeginning
unfolding program
stops_behind_a_beginning nesting ts rest e =
    let s = stops ts (further (within nesting) Statements ts) rest (further_reads (within nesting) (within_reads nesting) Statements ts) e in
    (s.used, s.whole, begins s.used (s.completed []))

-- ---- beginnings
pub beginnings_are_closed : BeginningsAreClosed
beginnings_are_closed before more (others, x, s) = (more ++ others, x, subst (λ l. SpellsProgram l x) (append_assoc before more others) s)

pub programs_begin : ProgramsBegin
programs_begin ts x s = ([], x, subst (λ l. SpellsProgram l x) (sym (append-nil ts)) s)
