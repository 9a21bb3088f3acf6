-- Small texts with their trees, and one that has none.
use Rattle.std.specs.Prelude.{◌≡◌, ℕ, [], ◌∷◌, Ok, Err, refl}
use Rattle.fv_lex.specs.declared.token.Symbol.TheVariants.{Name, Text, Integer, Comma, Open, Close, OpenBrace, CloseBrace, Equals, Arrow, Semicolon, Dot}
use Rattle.fv_lex.specs.declared.token.Symbol.TheVariants.{Declare, With, Tick, Plus, Minus, Colon, Tilde, Backslash, Case as CaseWord}
use Rattle.fv_lex.specs.declared.token.Symbol.{Symbol}
use Rattle.fv_lex.specs.declared.token.Symbol.TheVariants as symbols
use Rattle.fv_num.specs.declared.op.Op.TheVariants.{Add, Sub, Mul}
use Rattle.fv_num.specs.declared.primitive.Primitive.TheVariants as primitives
use Rattle.fv_parse_grammar.specs.declared.form.Operator.TheVariants.{Infix, Recursion, Parallel, Sequence}
use Rattle.fv_parse_grammar.specs.headline.Tree.{Number, Negative, Named, MinusNamed, Primitive, Tree, Abstraction, Case, Delayed}
use Rattle.fv_parse_grammar.specs.headline.Tree.{Apply, Binary, Where, Rule, Constant, Function, End, More, items, start_of}
use Rattle.fv_parse_grammar.specs.Descent.{program, within, further, many, listed, definition, function_after, constant_after}
use Rattle.fv_parse_grammar.specs.Descent.{one_rule, ended, expression, phrase, chain, rights, postfix, by_first, abstraction}
use Rattle.fv_parse_grammar.specs.Descent.{case_of, iteration, slider, label, panel, turns, run, separated}

-- `_` and `*` as tokens, `_` and `!` as trees
abbrev underscore : Symbol
underscore = symbols.Primitive primitives.Wire

abbrev times : Symbol
times = symbols.Primitive (primitives.Point Mul)

abbrev wire : ℕ → Tree
wire s = Primitive s primitives.Wire

abbrev cut : ℕ → Tree
cut s = Primitive s primitives.Cut

-- `p = _;` is one definition; a tree's number is how many tokens there are from it on
a_wire : program 128 (Name 0 ∷ Equals ∷ underscore ∷ Semicolon ∷ []) ≡ Ok (More (Constant 4 0 (wire 2)) End)
unfolding program within further many listed definition
    function_after constant_after one_rule ended expression phrase chain rights postfix by_first abstraction case_of
    iteration slider label panel turns run separated
a_wire = refl

-- `p = 1 + 2 * 3;`: `*` is tighter than `+`
product_first : program 128 (Name 0 ∷ Equals ∷ Integer 1 ∷ Plus ∷ Integer 2 ∷ times ∷ Integer 3 ∷ Semicolon ∷ [])
    ≡ Ok (More (Constant 8 0 (Binary 6 (Infix (primitives.Point Add)) (Number 6 1) (Binary 4 (Infix (primitives.Point Mul)) (Number 4 2) (Number 2 3)))) End)
unfolding program within further many listed definition
    function_after constant_after one_rule ended expression phrase chain rights postfix by_first abstraction case_of
    iteration slider label panel turns run separated
product_first = refl

-- `p = 1 - 2 - 3;` to the left
difference_to_the_left : program 128 (Name 0 ∷ Equals ∷ Integer 1 ∷ Minus ∷ Integer 2 ∷ Minus ∷ Integer 3 ∷ Semicolon ∷ [])
    ≡ Ok (More (Constant 8 0 (Binary 6 (Infix (primitives.Point Sub)) (Binary 6 (Infix (primitives.Point Sub)) (Number 6 1) (Number 4 2)) (Number 2 3))) End)
unfolding program within further many listed definition
    function_after constant_after one_rule ended expression phrase chain rights postfix by_first abstraction case_of
    iteration slider label panel turns run separated
difference_to_the_left = refl

-- `p = _ : _ : _;` to the right
sequence_to_the_right : program 128 (Name 0 ∷ Equals ∷ underscore ∷ Colon ∷ underscore ∷ Colon ∷ underscore ∷ Semicolon ∷ [])
    ≡ Ok (More (Constant 8 0 (Binary 6 Sequence (wire 6) (Binary 4 Sequence (wire 4) (wire 2)))) End)
unfolding program within further many listed definition
    function_after constant_after one_rule ended expression phrase chain rights postfix by_first abstraction case_of
    iteration slider label panel turns run separated
sequence_to_the_right = refl

-- `p = _ , _ : +;`: `,` is tighter than `:`
parallel_before_sequence : program 128 (Name 0 ∷ Equals ∷ underscore ∷ Comma ∷ underscore ∷ Colon ∷ Plus ∷ Semicolon ∷ [])
    ≡ Ok (More (Constant 8 0 (Binary 6 Sequence (Binary 6 Parallel (wire 6) (wire 4)) (Primitive 2 (primitives.Point Add)))) End)
unfolding program within further many listed definition
    function_after constant_after one_rule ended expression phrase chain rights postfix by_first abstraction case_of
    iteration slider label panel turns run separated
parallel_before_sequence = refl

-- `p = + ~ _ ~ _;` to the left
recursion_to_the_left : program 128 (Name 0 ∷ Equals ∷ Plus ∷ Tilde ∷ underscore ∷ Tilde ∷ underscore ∷ Semicolon ∷ [])
    ≡ Ok (More (Constant 8 0 (Binary 6 Recursion (Binary 6 Recursion (Primitive 6 (primitives.Point Add)) (wire 4)) (wire 2))) End)
unfolding program within further many listed definition
    function_after constant_after one_rule ended expression phrase chain rights postfix by_first abstraction case_of
    iteration slider label panel turns run separated
recursion_to_the_left = refl

-- `p = f(1, 2)';`: arguments are a list, and `'` goes after the application
an_application : program 128 (Name 0 ∷ Equals ∷ Name 2 ∷ Open ∷ Integer 1 ∷ Comma ∷ Integer 2 ∷ Close ∷ Tick ∷ Semicolon ∷ [])
    ≡ Ok (More (Constant 10 0 (Delayed 8 (Apply 8 (Named 8 2) (More (Number 6 1) (More (Number 4 2) End))))) End)
unfolding program within further many listed definition
    function_after constant_after one_rule ended expression phrase chain rights postfix by_first abstraction case_of
    iteration slider label panel turns run separated
an_application = refl

-- `p = -x + -1;`: a minus before a name, and one before a number
minus_before_operands : program 128 (Name 0 ∷ Equals ∷ Minus ∷ Name 3 ∷ Plus ∷ Minus ∷ Integer 1 ∷ Semicolon ∷ [])
    ≡ Ok (More (Constant 8 0 (Binary 6 (Infix (primitives.Point Add)) (MinusNamed 6 3) (Negative 3 1))) End)
unfolding program within further many listed definition
    function_after constant_after one_rule ended expression phrase chain rights postfix by_first abstraction case_of
    iteration slider label panel turns run separated
minus_before_operands = refl

-- `p = a with { a = 1; };`
a_where : program 128 (Name 0 ∷ Equals ∷ Name 2 ∷ With ∷ OpenBrace ∷ Name 5 ∷ Equals ∷ Integer 1 ∷ Semicolon ∷ CloseBrace ∷ Semicolon ∷ [])
    ≡ Ok (More (Constant 11 0 (Where 9 (Named 9 2) (More (Constant 6 5 (Number 4 1)) End))) End)
unfolding program within further many listed definition
    function_after constant_after one_rule ended expression phrase chain rights postfix by_first abstraction case_of
    iteration slider label panel turns run separated
a_where = refl

-- `p = \(x).(x);`
an_abstraction : program 128 (Name 0 ∷ Equals ∷ Backslash ∷ Open ∷ Name 4 ∷ Close ∷ Dot ∷ Open ∷ Name 8 ∷ Close ∷ Semicolon ∷ [])
    ≡ Ok (More (Constant 11 0 (Abstraction 9 (4 ∷ []) (Named 3 8))) End)
unfolding program within further many listed definition
    function_after constant_after one_rule ended expression phrase chain rights postfix by_first abstraction case_of
    iteration slider label panel turns run separated
an_abstraction = refl

-- `p = case { (0) => 1; };`
a_case : program 128 (Name 0 ∷ Equals ∷ CaseWord ∷ OpenBrace ∷ Open ∷ Integer 0 ∷ Close ∷ Arrow ∷ Integer 1 ∷ Semicolon ∷ CloseBrace ∷ Semicolon ∷ [])
    ≡ Ok (More (Constant 12 0 (Case 10 (More (Rule 8 (More (Number 7 0) End) (Number 4 1)) End))) End)
unfolding program within further many listed definition
    function_after constant_after one_rule ended expression phrase chain rights postfix by_first abstraction case_of
    iteration slider label panel turns run separated
a_case = refl

-- `declare a "b"; f(x) = x;`: a declaration makes no tree
a_declaration : program 128 (Declare ∷ Name 1 ∷ Text 2 ∷ Semicolon ∷ Name 4 ∷ Open ∷ Name 6 ∷ Close ∷ Equals ∷ Name 9 ∷ Semicolon ∷ [])
    ≡ Ok (More (Function 7 4 (More (Named 5 6) End) (Named 2 9)) End)
unfolding program within further many listed definition
    function_after constant_after one_rule ended expression phrase chain rights postfix by_first abstraction case_of
    iteration slider label panel turns run separated
a_declaration = refl

-- `p = 1 +;` stops at `;`
no_second_operand : program 128 (Name 0 ∷ Equals ∷ Integer 1 ∷ Plus ∷ Semicolon ∷ []) ≡ Err (Semicolon ∷ [])
unfolding program within further many listed definition
    function_after constant_after one_rule ended expression phrase chain rights postfix by_first abstraction case_of
    iteration slider label panel turns run separated
no_second_operand = refl

-- the items of a list, and where it starts: with its first item
two_items : items (More (wire 4) (More (cut 2) End)) ≡ wire 4 ∷ cut 2 ∷ []
two_items = refl

list_at_its_first : start_of (More (wire 4) (More (cut 2) End)) ≡ 4
list_at_its_first = refl
