-- The tree that the tokens spell.
use Rattle.std.proofs.Common.{◌≡◌, ℕ, List, Ok, refl}
use Rattle.fv_lex.specs.headline.Token.{symbols_of}
use Rattle.fv_lex.specs.headline.Symbols.{value}
use Rattle.fv_parse_grammar.specs.Primitive.TheVariants as primitives
use Rattle.fv_lex.specs.Op.TheVariants as ops
use Rattle.fv_parse_grammar.specs.declared.form.Operator.TheVariants.{Infix, Recursion, Sequence, Split, Merge}
use Rattle.fv_parse_grammar.specs.Iteration.TheVariants.{Parallel}
use Rattle.fv_parse_grammar.specs.headline.Tree.{Tree, Number, Named, Primitive, Group, Iteration, Apply, Binary, Constant, Function, End, More}
use Rattle.fv_parse_grammar.specs.Laws.{ReadsOnlySpelled}
use Rattle.fv_parse_grammar.specs.Descent.{program, within, further, many, listed, definition, function_after, constant_after, ended}
use Rattle.fv_parse_grammar.specs.Descent.{expression, phrase, chain, rights, postfix, by_first, iteration, turns, run}
use Rattle.fv_top_program.specs.Outcomes.{IsAccepted}
use Rattle.fv_top_make.proofs.Tokens.{lexed}

-- `+ ~ (@(i*37+1) : *(i+3) : /(8))`
abbrev pub body : Tree
body = Binary 43 Recursion (Primitive 43 (primitives.Point ops.Add)) (Group 41 (Binary 40 Sequence
    (Apply 40 (Primitive 40 primitives.Delay)
    (More (Binary 38 (Infix (primitives.Point ops.Add)) (Binary 38 (Infix (primitives.Point ops.Mul)) (Named 38 10) (Number 36 37)) (Number 34 1)) End))
    (Binary 31 Sequence
    (Apply 31 (Primitive 31 (primitives.Point ops.Mul)) (More (Binary 29 (Infix (primitives.Point ops.Add)) (Named 29 19) (Number 27 3)) End))
    (Apply 24 (Primitive 24 (primitives.Point ops.Div)) (More (Number 22 8) End)))))

-- `v(i)`, after the number of voices
abbrev pub one_voice : Tree
one_voice = Apply 8 (Named 8 40) (More (Named 6 42) End)

-- `par(i,N,v(i))`
abbrev pub all_voices : ℕ → Tree
all_voices n = Iteration 14 Parallel 36 (Number 10 n) one_voice

-- `_ <: par(i,N,v(i)) :> _`
abbrev pub process : ℕ → Tree
process n = Binary 16 Split (Primitive 16 primitives.Wire) (Binary 14 Merge (all_voices n) (Primitive 2 primitives.Wire))

-- the whole text
abbrev pub tree : ℕ → Tree
tree n = More (Function 48 0 (More (Named 46 2) End) body) (More (Constant 18 30 (process n)) End)

-- the descent reads it
read : (digits : List ℕ) → program 128 (symbols_of (lexed digits).tokens) ≡ Ok (tree (value digits))
unfolding program within further many listed definition function_after constant_after ended
    expression phrase chain rights postfix by_first iteration turns run
read digits = refl

pub accepted : ReadsOnlySpelled → (digits : List ℕ) → IsAccepted (lexed digits) (tree (value digits))
accepted only digits = record {
  supported = refl;
  spelled = only 128 (symbols_of (lexed digits).tokens) (tree (value digits)) (read digits);
  accepted = refl;
}
