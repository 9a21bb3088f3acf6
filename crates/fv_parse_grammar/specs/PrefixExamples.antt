-- Small beginnings, and places where the descent stops.
use Rattle.std.specs.Prelude.{◌≡◌, List, [], ◌∷◌, Err, refl}
use Rattle.fv_parse_grammar.specs.Symbol.{Symbol}
use Rattle.fv_parse_grammar.specs.Symbol.TheVariants.{Name, Comma, Open, Close, Equals, Semicolon, Primitive as Known}
use Rattle.fv_parse_grammar.specs.Primitive.TheVariants.{Wire}
use Rattle.fv_parse_grammar.specs.declared.symbol.Items.TheVariants.{Statements}
use Rattle.fv_parse_grammar.specs.headline.Tree.{Tree, End}
use Rattle.fv_parse_grammar.specs.headline.Grammar.{Spells, Further, Definition, Expression, Primary, IsViablePrefix, stated}
use Rattle.fv_parse_grammar.specs.headline.Grammar.{no_more, constant, plain, tighter, operand, bare, primitive, grouped}
use Rattle.fv_parse_grammar.specs.Descent.{program, within, further, many, definition, constant_after, ended}
use Rattle.fv_parse_grammar.specs.Descent.{expression, phrase, chain, rights, postfix, by_first, turns, run}
use Rattle.fv_parse_grammar.specs.headline.Beginnings.{IsErrorPlace}

-- `_`
abbrev underscore : Symbol
underscore = Known Wire

-- an operand is an expression
of_operand : {ts rest : List Symbol} {x : Tree} → Spells Primary ts x rest → Spells Expression ts x rest
of_operand s = plain (tighter (tighter (tighter (tighter (tighter (tighter (tighter (tighter (operand (bare s))))))))))

-- `process = _`
a_wire : IsViablePrefix (Name 0 ∷ Equals ∷ underscore ∷ [])
a_wire = (Semicolon ∷ [], _, stated (constant (of_operand primitive)) no_more)

-- `process = (_`
an_open_group : IsViablePrefix (Name 0 ∷ Equals ∷ Open ∷ underscore ∷ [])
an_open_group = (Close ∷ Semicolon ∷ [], _, stated (constant (of_operand (grouped (of_operand primitive)))) no_more)

-- `process = (_;` stops at `;`
a_group_not_closed : program 128 (Name 0 ∷ Equals ∷ Open ∷ underscore ∷ Semicolon ∷ []) ≡ Err (Semicolon ∷ [])
unfolding program within further many definition constant_after ended expression phrase chain rights postfix by_first turns run
a_group_not_closed = refl

-- `process = (_);`, where no bracket may be opened, stops after the bracket
no_nesting_for_a_group : program 0 (Name 0 ∷ Equals ∷ Open ∷ underscore ∷ Close ∷ Semicolon ∷ []) ≡ Err (underscore ∷ Close ∷ Semicolon ∷ [])
unfolding program within further many definition constant_after ended expression phrase chain rights postfix by_first turns run
no_nesting_for_a_group = refl

-- no definition begins with `,`
no_definition : {ts rest : List Symbol} {x : Tree} → Spells Definition (Comma ∷ ts) x rest → ⊥
no_definition s = elim s [ ]

no_program : {ts : List Symbol} {x : Tree} → Spells (Further Statements) (Comma ∷ ts) x [] → ⊥
no_program (stated p q) = no_definition p

-- the place of the error in `,` is before it
a_comma_alone : IsErrorPlace [] (Comma ∷ [])
a_comma_alone = (([], End, no_more), λ begins. no_program begins.2)

-- the empty text is a program, and has no such place
no_place_in_nothing : IsErrorPlace [] [] → ⊥
no_place_in_nothing place = place.1 End no_more
