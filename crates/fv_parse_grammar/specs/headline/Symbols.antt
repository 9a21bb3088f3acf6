-- What the tokens mean to the grammar.
use Rattle.std.specs.Prelude.{ℕ, Bool, nat_le}
use Rattle.fv_lex.specs.declared.token.Symbol.{Symbol}
use Rattle.fv_lex.specs.declared.token.Symbol.TheVariants as symbols
use Rattle.fv_num.specs.declared.op.Op.TheVariants as ops
use Rattle.fv_num.specs.declared.primitive.Primitive.TheVariants as primitives
use Rattle.fv_parse_grammar.specs.declared.form.Operator.{Operator}
use Rattle.fv_parse_grammar.specs.declared.form.Operator.TheVariants.{Infix, Recursion, Parallel, Sequence, Split, Merge}
use Rattle.fv_parse_grammar.specs.declared.symbol.Operands.{Operands}
use Rattle.fv_parse_grammar.specs.declared.symbol.Commas.{Commas}
use Rattle.fv_parse_grammar.specs.declared.symbol.Operands.TheVariants as operands
use Rattle.fv_parse_grammar.specs.declared.symbol.Commas.TheVariants as commas

-- how loosely an operator of expressions binds: in a pattern it ends what stands before it
abbrev pub outside : Operands → ℕ → ℕ
outside operands.Patterns r = 99
outside operands.Expressions r = r

-- How loosely a token joins what stands before it, in a pattern or not, where commas join or not.
-- An operator of precedence h has 1 + h, a postfix has 1, and what a sign would swallow has 0. What ends every phrase has 99.
-- (Faust manual, priorities and associations)
abbrev pub power : Operands → Commas → Symbol → ℕ
power kind comma (symbols.Name n) = 0
power kind comma (symbols.Integer n) = 0
power kind comma symbols.Tick = outside kind 1
power kind comma symbols.Open = outside kind 1
power kind comma (symbols.Primitive primitives.Delay) = outside kind 2
power kind comma (symbols.Primitive (primitives.Point ops.Mul)) = outside kind 3
power kind comma (symbols.Primitive (primitives.Point ops.Div)) = outside kind 3
power kind comma (symbols.Primitive (primitives.Point ops.Rem)) = outside kind 3
power kind comma (symbols.Primitive (primitives.Point ops.And)) = outside kind 3
power kind comma (symbols.Primitive (primitives.Point ops.Xor)) = outside kind 3
power kind comma (symbols.Primitive (primitives.Point ops.Shl)) = outside kind 3
power kind comma (symbols.Primitive (primitives.Point ops.Shr)) = outside kind 3
power kind comma symbols.Plus = outside kind 4
power kind comma symbols.Minus = outside kind 4
power kind comma (symbols.Primitive (primitives.Point ops.Or)) = outside kind 4
power kind comma (symbols.Primitive (primitives.Point ops.Lt)) = outside kind 5
power kind comma (symbols.Primitive (primitives.Point ops.Le)) = outside kind 5
power kind comma (symbols.Primitive (primitives.Point ops.Gt)) = outside kind 5
power kind comma (symbols.Primitive (primitives.Point ops.Ge)) = outside kind 5
power kind comma (symbols.Primitive (primitives.Point ops.Eq)) = outside kind 5
power kind comma (symbols.Primitive (primitives.Point ops.Ne)) = outside kind 5
power kind comma symbols.Tilde = 6
power kind commas.Join symbols.Comma = 7
power kind comma symbols.Colon = 8
power kind comma symbols.Split = 9
power kind comma symbols.Merge = 9
power kind comma t = 99

-- the operator that a token is
abbrev pub operator : Symbol → Operator
operator (symbols.Primitive p) = Infix p
operator symbols.Plus = Infix (primitives.Point ops.Add)
operator symbols.Minus = Infix (primitives.Point ops.Sub)
operator symbols.Tilde = Recursion
operator symbols.Comma = Parallel
operator symbols.Split = Split
operator symbols.Merge = Merge
operator t = Sequence

-- the operators up to precedence 5 associate to the left, the others to the right
abbrev pub is_left : ℕ → Bool
is_left precedence = nat_le precedence 5
