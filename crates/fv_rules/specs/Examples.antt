-- Small evaluations, which hold by computing.
use Rattle.std.specs.Prelude.{◌≡◌, refl, ℕ, List, [], ◌∷◌, codes, pos, negsuc, Result, Ok, Err, Some, None}
use Rattle.std.specs.Int.{int_wrap}
use Rattle.fv_lex.specs.declared.token.Kind.TheVariants.{Name as a_name}
use Rattle.fv_lex.specs.declared.token.Symbol.TheVariants as symbols
use Rattle.fv_lex.specs.headline.Token.{Token, Lexed}
use Rattle.fv_diagram.specs.Op.TheVariants as op
use Rattle.fv_parse_grammar.specs.headline.Tree.{Tree}
use Rattle.fv_parse_grammar.specs.headline.Tree as tree
use Rattle.fv_parse_grammar.specs.declared.form.Operator.TheVariants as operators
use Rattle.fv_parse_grammar.specs.Iteration.TheVariants as repetitions
use Rattle.fv_parse_grammar.specs.Side.TheVariants as sides
use Rattle.fv_parse_grammar.specs.Slider.TheVariants as sliders
use Rattle.fv_diagram.specs.Primitive.TheVariants as prim
use Rattle.fv_diagram.specs.headline.Diagram.{Diagram, Primitive, Constant, Slot, Bind, Par, Seq}
use Rattle.fv_rules.specs.declared.refusal.EvalRefusal.TheVariants.{UnknownName, NotANumber, IterationCount, NoRule, NotADiagram, TooManyArguments}
use Rattle.fv_rules.specs.declared.refusal.EvalRefusal.TheVariants.{EvalBudget, ControlClash, ControlBounds}
use Rattle.fv_rules.specs.headline.Values.{Outermost, Scope}
use Rattle.fv_diagram_numbers.specs.headline.Numbers.{number_of}
use Rattle.fv_diagram.specs.declared.control.ControlInfo.{ControlInfo}
use Rattle.fv_rules.specs.declared.refusal.EvalRefusal.{EvalRefusal}
use Rattle.fv_rules.specs.headline.Steps.{State, ◌>>=◌}
use Rattle.fv_rules.specs.headline.Rules.{ev, turned, name_value, finished, within}

state : ℕ → ℕ → State
state n s = record { visits = n; controls = []; slot = s; tables = 0 }

word : List ℕ → Token
word text = record { symbol = symbols.Name 0; kind = a_name; text = text; place = record { line = 1; column = 1 } }

-- the tokens 0, 1 and 2: `f`, `x` and another `x`
lexed : Lexed
lexed = record { tokens = word (codes "f") ∷ word (codes "x") ∷ word (codes "x") ∷ []; end = record { line = 1; column = 9 } }

minus : Diagram
minus = Primitive (prim.Point op.Sub)

-- `3 - 1` has the number 2
two : number_of (Seq (Par (Constant (pos 3)) (Constant (pos 1))) (Primitive (prim.Point op.Sub))) ≡ Some (pos 2)
unfolding int_wrap
two = refl

-- `_` has no number
none : number_of (Primitive prim.Wire) ≡ None
none = refl

-- `-(1)`: the argument is taken on the right
takes_one : (ev lexed).diagram (tree.Apply 9 (tree.Primitive 9 (prim.Point op.Sub)) (tree.More (tree.Number 7 1) tree.End)) Outermost (state 9 0)
    ≡ Ok (Seq (Par (Primitive prim.Wire) (Constant (pos 1))) minus, state 6 0)
unfolding within state lexed int_wrap minus
takes_one = refl

-- with one visit there is none left for the parts
too_few : (ev lexed).diagram (tree.Binary 9 operators.Parallel (tree.Primitive 9 prim.Wire) (tree.Primitive 7 prim.Wire)) Outermost (state 1 0) ≡ Err EvalBudget
unfolding within state lexed
too_few = refl

-- `\(x).(x)` as a diagram
opened : (ev lexed).diagram (tree.Abstraction 9 (1 ∷ []) (tree.Named 3 2)) Outermost (state 9 5) ≡ Ok (Bind 5 (Slot 5), state 7 6)
unfolding within state lexed word
opened = refl

nowhere : (ev lexed).value (tree.Named 3 2) Outermost (state 9 5) ≡ Err (UnknownName (codes "x"))
unfolding within state lexed word
nowhere = refl

-- ---- whole programs; the tokens that are neither names nor labels have no bytes here, since nothing reads them
-- a program's value with twenty visits (with a million the checker would build as many evaluators)
few : Lexed → Tree → Result (Diagram × List ControlInfo) EvalRefusal
few l x = finished ((name_value l (ev l) (codes "process") (Scope x Outermost) >>= turned l (ev l)) (state 20 0))

at : List ℕ → ℕ → Token
at text column = record { symbol = symbols.Name 0; kind = a_name; text = text; place = record { line = 1; column = column } }

sign : Token
sign = word []

-- `f(0) = 1; process = f(1);`: no rule, at the application
f_of_one : Lexed
f_of_one = record {
  tokens =
      at (codes "f") 1 ∷ sign ∷ sign ∷ sign ∷ sign ∷ sign ∷ sign ∷ at (codes "process") 11 ∷ sign ∷ at (codes "f") 21 ∷ sign ∷ sign ∷ sign ∷ sign ∷ [];
  end = record { line = 1; column = 26 };
}

no_rule : few f_of_one (tree.More (tree.Function 14 0 (tree.More (tree.Number 12 0) tree.End) (tree.Number 9 1))
    (tree.More (tree.Constant 7 7 (tree.Apply 5 (tree.Named 5 9) (tree.More (tree.Number 3 1) tree.End))) tree.End))
    ≡ Err (NoRule 1 21)
unfolding few within state f_of_one at sign word int_wrap
no_rule = refl

-- `f(0) = 1; process = f(0);`
one_rule : few f_of_one (tree.More (tree.Function 14 0 (tree.More (tree.Number 12 0) tree.End) (tree.Number 9 1))
    (tree.More (tree.Constant 7 7 (tree.Apply 5 (tree.Named 5 9) (tree.More (tree.Number 3 0) tree.End))) tree.End))
    ≡ Ok (Constant (pos 1), [])
unfolding few within state f_of_one at sign word int_wrap
one_rule = refl

-- `process = f; f(0) = 1;`, with the tokens above: rules where a diagram is needed, at the definition
unapplied : few f_of_one (tree.More (tree.Constant 7 7 (tree.Named 5 9))
    (tree.More (tree.Function 14 0 (tree.More (tree.Number 12 0) tree.End) (tree.Number 9 1)) tree.End))
    ≡ Err (NotADiagram 1 1)
unfolding few within state f_of_one at sign word int_wrap
unapplied = refl

-- `f(f) = f;` as a diagram is a bind, and `f(1,2)` gives an integer two arguments
as_bind : few f_of_one (tree.More (tree.Constant 7 7 (tree.Named 5 9))
    (tree.More (tree.Function 14 0 (tree.More (tree.Named 12 0) tree.End) (tree.Named 9 0)) tree.End))
    ≡ Ok (Bind 0 (Slot 0), [])
unfolding few within state f_of_one at sign word int_wrap
as_bind = refl

left_over : few f_of_one (tree.More (tree.Constant 7 7 (tree.Apply 5 (tree.Named 5 9) (tree.More (tree.Number 3 1) (tree.More (tree.Number 2 2) tree.End))))
    (tree.More (tree.Function 14 0 (tree.More (tree.Named 12 0) tree.End) (tree.Named 9 0)) tree.End))
    ≡ Err (TooManyArguments 1 0)
unfolding few within state f_of_one at sign word int_wrap
left_over = refl

-- `sum(f,2,f)` is `0,1 : +`; a count of `_` has no number, and one of 0 is below 1
summed : (ev f_of_one).diagram (tree.Iteration 9 repetitions.Sum 0 (tree.Number 7 2) (tree.Named 5 9)) Outermost (state 9 0)
    ≡ Ok (Seq (Par (Constant (pos 0)) (Constant (pos 1))) (Primitive (prim.Point op.Add)), state 5 0)
unfolding within state f_of_one at sign word int_wrap
summed = refl

uncounted : (ev f_of_one).diagram (tree.Iteration 9 repetitions.Sum 0 (tree.Primitive 7 prim.Wire) (tree.Named 5 9)) Outermost (state 9 0)
    ≡ Err (NotANumber 1 11)
unfolding within state f_of_one at sign word int_wrap
uncounted = refl

below_one : (ev f_of_one).diagram (tree.Iteration 9 repetitions.Sum 0 (tree.Negative 7 3) (tree.Named 5 9)) Outermost (state 9 0)
    ≡ Err (IterationCount (negsuc 2))
unfolding within state f_of_one at sign word int_wrap
below_one = refl

-- `inputs(+)`
two_inputs : (ev lexed).diagram (tree.Ports 9 sides.Inputs (tree.Primitive 7 (prim.Point op.Add))) Outermost (state 9 0) ≡ Ok (Constant (pos 2), state 7 0)
unfolding within state lexed
two_inputs = refl

-- `-x` with `x = 1;` costs two visits and those of the right side
negated : (ev lexed).diagram (tree.MinusNamed 9 1) (Scope (tree.More (tree.Constant 8 2 (tree.Number 7 1)) tree.End) Outermost) (state 9 0)
    ≡ Ok (Seq (Par (Constant (pos 0)) (Constant (pos 1))) minus, state 6 0)
unfolding within state lexed word int_wrap minus
negated = refl

-- a slider whose init is above its max, and one of the same label with another max
unbounded : (ev f_of_one).diagram (tree.Slider 9 sliders.Horizontal 7 (tree.Number 7 11) (tree.Number 6 0) (tree.Number 5 10) (tree.Number 4 1))
    Outermost (state 9 0) ≡ Err (ControlBounds (codes "roces"))
unfolding within state f_of_one at sign word int_wrap
unbounded = refl

clashing : (ev f_of_one).diagram (tree.Binary 9 operators.Parallel
    (tree.Slider 9 sliders.Horizontal 7 (tree.Number 7 0) (tree.Number 6 0) (tree.Number 5 1) (tree.Number 4 1))
    (tree.Slider 9 sliders.Horizontal 7 (tree.Number 7 0) (tree.Number 6 0) (tree.Number 5 2) (tree.Number 4 1))) Outermost (state 99 0)
    ≡ Err (ControlClash (codes "roces"))
unfolding within state f_of_one at sign word int_wrap
clashing = refl
