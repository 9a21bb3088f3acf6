-- What the tree evaluates to, and how many visits that takes.
use Rattle.std.proofs.Common.{◌≡◌, ℕ, zero, suc, ◌+◌, ◌-◌, ◌*◌, ◌≤◌, true, false, ◌||◌, if◌then◌else◌, List, [], ◌∷◌, ◌++◌, codes, ℤ}
use Rattle.std.proofs.Common.{pos, ◌+ℤ◌, ◌*ℤ◌, Some, None, Ok, refl, ap, ap₂, ◌∙◌, sym, arith, le-leb, append_assoc, append-nil}
use Rattle.std.proofs.Math.Nat.{mod-one}
use Rattle.fv_lex.specs.headline.Token.{Lexed}
use Rattle.fv_rules.specs.Words.{wrap}
use Rattle.fv_interval.specs.Op.TheVariants as op
use Rattle.fv_parse_grammar.specs.headline.Tree.{Tree, Number, Primitive as Spelled, Binary}
use Rattle.fv_parse_grammar.specs.declared.form.Operator.{Operator}
use Rattle.fv_parse_grammar.specs.declared.form.Operator.TheVariants as operators
use Rattle.fv_parse_grammar.specs.Iteration.TheVariants as repetitions
use Rattle.fv_interval.specs.Primitive.{Primitive as Prim}
use Rattle.fv_interval.specs.Primitive.TheVariants.{Wire, Delay, Point}
use Rattle.fv_interval.specs.Diagram.{Diagram, Primitive, Constant, Par, Seq, Split, Merge, Rec, size, inputs, outputs, has_table_primitive}
use Rattle.fv_rules.specs.ArityKind.TheVariants as kind
use Rattle.fv_rules.specs.declared.refusal.EvalRefusal.TheVariants.{Arity, TableForm}
use Rattle.fv_rules.specs.declared.refusal.TableCause.TheVariants as cause
use Rattle.fv_rules.specs.Numbers.{number_of}
use Rattle.fv_rules.specs.headline.Values.{Value, Flat, Env, Outermost, Bound, Scope}
use Rattle.fv_rules.specs.Values.{LiteralsStay}
use Rattle.fv_rules.specs.headline.Steps.{State, Eval, after, ◌>>=◌, give, refuse, is_multiple, unless}
use Rattle.fv_rules.specs.headline.Steps.{misfit, before_table, put_as, put, whole as without_primitives}
use Rattle.fv_rules.specs.headline.Rules.{Evaluator, within, ev, flat, turned, rule, joined, from_right, bodies, gathered, counted, finished, program_value}
use Rattle.fv_top_make.specs.Voices.{voice, voices_from}
use Rattle.fv_top_make.proofs.Tokens.{lexed}
use Rattle.fv_top_make.proofs.Trees.{tree, process, all_voices, one_voice}
use Rattle.fv_lex.specs.Limits.TheConstants.{GREATEST_LITERAL, SIZE_LIMIT}

-- the state with n visits left, no controls, no slots and no tables
abbrev pub state : ℕ → State
state n = record { visits = n; controls = []; slot = 0; tables = 0 }

-- a number with k more
abbrev pub more : ℕ → ℕ → ℕ
more zero n = n
more (suc k) n = suc (more k n)

-- the definitions of the text
abbrev pub outermost : ℕ → Env
outermost n = Scope (tree n) Outermost

-- ---- what is put

put_gives : (d : Diagram) (s : State) → before_table d ≡ None → misfit d ≡ None → size d ≤ SIZE_LIMIT → put d s ≡ Ok (d, s)
put_gives d s plain fits small = ap₂ (λ o m. put_as o m d s) plain fits ∙ (rw (le-leb (size d) SIZE_LIMIT small) refl)

multiple_of_one : (n : ℕ) → 1 ≤ n → is_multiple n 1 ≡ true
multiple_of_one n h = rw (le-leb 1 n h, mod-one n) refl

-- the voices from number i on, one after another
abbrev pub voices : ℕ → ℕ → List Diagram
voices i zero = []
voices i (suc k) = voice i ∷ voices (suc i) k

size_is : (i k : ℕ) → size (voices_from i k) ≡ 20 * k + 19
size_is i zero = refl
size_is i (suc k) = omega (arith, size_is (suc i) k)

inputs_are : (i k : ℕ) → inputs (voices_from i k) ≡ k + 1
inputs_are i zero = refl
inputs_are i (suc k) = omega (arith, inputs_are (suc i) k)

outputs_are : (i k : ℕ) → outputs (voices_from i k) ≡ k + 1
outputs_are i zero = refl
outputs_are i (suc k) = omega (arith, outputs_are (suc i) k)

-- side by side
beside_one_another : (i k : ℕ) (s : State) → k ≤ 63 → from_right Par (voice i) (voices (suc i) k) s ≡ Ok (voices_from i k, s)
beside_one_another i zero s h = refl
beside_one_another i (suc k) s h =
    ap (λ o. after o (λ r. put (Par (voice i) r))) (beside_one_another (suc i) k s (omega arith))
    ∙ put_gives (voices_from i (suc k)) s refl refl (omega (arith, size_is i (suc k)))

-- all of them on one input, added up
abbrev pub added : ℕ → Diagram
added k = Merge (voices_from 0 k) (Primitive Wire)

abbrev pub whole : ℕ → Diagram
whole k = Split (Primitive Wire) (added k)

added_put : (k : ℕ) (s : State) → k ≤ 63 → put (added k) s ≡ Ok (added k, s)
added_put k s h =
    let some = outputs_are 0 k in
    let fits = multiple_of_one (outputs (voices_from 0 k)) (omega arith) in
    put_gives (added k) s refl (ap (λ b. unless b (Arity kind.Merge (outputs (voices_from 0 k)) 1)) fits) (omega (arith, size_is 0 k))

whole_put : (k : ℕ) (s : State) → k ≤ 63 → put (whole k) s ≡ Ok (whole k, s)
whole_put k s h =
    let some = inputs_are 0 k in
    let fits = multiple_of_one (inputs (voices_from 0 k)) (omega arith) in
    put_gives (whole k) s refl (ap (λ b. unless b (Arity kind.Split 1 (inputs (voices_from 0 k)))) fits) (omega (arith, size_is 0 k))

-- none of them has a table primitive
none_in_voices : (i k : ℕ) → has_table_primitive (voices_from i k) ≡ false
none_in_voices i zero = refl
none_in_voices i (suc k) = none_in_voices (suc i) k

none_in_whole : (k : ℕ) → has_table_primitive (whole k) ≡ false
none_in_whole k = ap (λ b. b || false) (none_in_voices 0 k)

-- ---- one voice

-- a primitive of two inputs, the second of which is a number
abbrev by : Prim → ℤ → Diagram
by p n = Seq (Par (Primitive Wire) (Constant n)) (Primitive p)

-- voice i, as the rules give it: its numbers wrap
abbrev given : ℕ → Diagram
given i = Rec (Primitive (Point op.Add)) (Seq (by Delay (wrap (wrap (pos i *ℤ wrap (pos 37)) +ℤ wrap (pos 1))))
    (Seq (by (Point op.Mul) (wrap (pos i +ℤ wrap (pos 3)))) (by (Point op.Div) (wrap (pos 8)))))

given_voice : (digits : List ℕ) (depth left i n : ℕ)
    → (within (more 12 depth) (lexed digits)).diagram one_voice (Bound (codes "i") (Flat (Constant (pos i))) (outermost n))
    (state (more 23 left)) ≡ Ok (given i, state left)
unfolding within
given_voice digits depth left i n = refl

-- a number that a text may have does not wrap
stays : LiteralsStay → (n : ℕ) → n ≤ GREATEST_LITERAL → wrap (pos n) ≡ pos n
stays literals n h = (literals n h).0

-- ---- evaluation, and the visits that it takes

number_gives : (l : Lexed) (depth n left : ℕ) (env : Env)
    → (within (suc depth) l).diagram (Number 10 n) env (state (suc left)) ≡ Ok (Constant (wrap (pos n)), state left)
unfolding within
number_gives l depth n left env = refl

wire_gives : (l : Lexed) (depth j left : ℕ) (env : Env)
    → (within (suc depth) l).diagram (Spelled j Wire) env (state (suc left)) ≡ Ok (Primitive Wire, state left)
unfolding within
wire_gives l depth j left env = refl

value_by : (l : Lexed) (depth : ℕ) (x : Tree) (env : Env) (left : ℕ)
    → (within (suc depth) l).value x env (state (suc left)) ≡ rule l (within depth l) x env (state left)
unfolding within
value_by l depth x env left = refl

diagram_by : (l : Lexed) (depth : ℕ) (x : Tree) (env : Env) (left : ℕ) (d : Diagram) (s : State)
    → rule l (within depth l) x env (state left) ≡ Ok (Flat d, s) → (within (suc depth) l).diagram x env (state (suc left)) ≡ Ok (d, s)
unfolding within
diagram_by l depth x env left d s h = ap (λ o. after o (turned l (within depth l))) h

binary_gives : (l : Lexed) (e : Evaluator) (j : ℕ) (o : Operator) (x y : Tree) (env : Env) (s t u w : State) (a b c : Diagram)
    → e.diagram x env s ≡ Ok (a, t) → e.diagram y env t ≡ Ok (b, u) → joined o a b u ≡ Ok (c, w)
    → rule l e (Binary j o x y) env s ≡ Ok (Flat c, w)
binary_gives l e j o x y env s t u w a b c f g h =
    ap (λ r. after r (λ a. e.diagram y env >>= λ b. flat (joined o a b))) f
    ∙ ap (λ r. after r (λ b. flat (joined o a b))) g
    ∙ ap (λ r. after r (λ d. give (Flat d))) h

module _ (literals : LiteralsStay) where
  delay_number : (i : ℕ) → i ≤ 63 → wrap (wrap (pos i *ℤ wrap (pos 37)) +ℤ wrap (pos 1)) ≡ pos (i * 37 + 1)
  delay_number i h =
      ap (λ z. wrap (wrap (pos i *ℤ z) +ℤ wrap (pos 1))) (stays literals 37 (omega arith))
      ∙ ap (λ z. wrap (wrap (pos i *ℤ pos 37) +ℤ z)) (stays literals 1 (omega arith))
      ∙ ap (λ z. wrap (z +ℤ pos 1)) (stays literals (i * 37) (omega arith))
      ∙ stays literals (i * 37 + 1) (omega arith)

  factor_number : (i : ℕ) → i ≤ 63 → wrap (pos i +ℤ wrap (pos 3)) ≡ pos (i + 3)
  factor_number i h = ap (λ z. wrap (pos i +ℤ z)) (stays literals 3 (omega arith)) ∙ stays literals (i + 3) (omega arith)

  given_is : (i : ℕ) → i ≤ 63 → given i ≡ voice i
  given_is i h = rw (delay_number i h, factor_number i h, stays literals 8 (omega arith)) refl

  -- ---- the voices

  -- the visits of this many voices, before those that are left
  abbrev pub spent : ℕ → ℕ → ℕ
  spent zero left = left
  spent (suc k) left = more 23 (spent k left)

  spent_is : (k left : ℕ) → spent k left ≡ k * 23 + left
  spent_is zero left = omega arith
  spent_is (suc k) left = omega (arith, spent_is k left)

  -- `v(i)` for i, i + 1, .., after those that are done
  abbrev all_bodies : (digits : List ℕ) (depth n i k : ℕ) (done : List Diagram) → Eval (List Diagram)
  all_bodies digits depth n i k done = bodies (within (more 12 depth) (lexed digits)) (codes "i") one_voice (outermost n) i k done

  module _ (digits : List ℕ) (depth n : ℕ) where
    bodies_are : (k i left : ℕ) (done : List Diagram) → i + k ≤ 64
        → all_bodies digits depth n i k done (state (spent k left)) ≡ Ok (done ++ voices i k, state left)
    bodies_are zero i left done h = ap (λ ds. Ok (ds, state left)) (sym (append-nil done))
    bodies_are (suc k) i left done h =
        ap (λ o. after o (λ d. all_bodies digits depth n (suc i) k (done ++ d ∷ [])))
        (given_voice digits depth (spent k left) i n ∙ ap (λ d. Ok (d, state (spent k left))) (given_is i (omega arith)))
        ∙ bodies_are k (suc i) left (done ++ voice i ∷ []) (omega arith)
        ∙ ap (λ ds. Ok (ds, state left)) (append_assoc done (voice i ∷ []) (voices (suc i) k))

  module _ (digits : List ℕ) (k : ℕ) (few : k ≤ 63) where
    abbrev l : Lexed
    l = lexed digits

    iterated : (depth left : ℕ)
        → rule l (within (more 12 depth) l) (all_voices (suc k)) (outermost (suc k)) (state (suc (spent (suc k) left)))
        ≡ Ok (Flat (voices_from 0 k), state left)
    iterated depth left =
        let gather : ℕ → Eval Value = λ m. all_bodies digits depth (suc k) 0 m [] >>= gathered repetitions.Parallel in
        ap (λ o. after o (λ d. counted l 10 (number_of d) >>= gather))
        (number_gives l (more 11 depth) (suc k) (spent (suc k) left) (outermost (suc k)))
        ∙ ap (λ z. after (counted l 10 (Some z) (state (spent (suc k) left))) gather) (stays literals (suc k) (omega arith))
        ∙ ap (λ o. after o (gathered repetitions.Parallel)) (bodies_are digits depth (suc k) (suc k) 0 left [] (omega arith))
        ∙ ap (λ o. after o (λ d. give (Flat d))) (beside_one_another 0 k (state left) few)

    processed : (depth left : ℕ)
        → rule l (within (more 14 depth) l) (process (suc k)) (outermost (suc k)) (state (more 4 (spent (suc k) (suc left))))
        ≡ Ok (Flat (whole k), state left)
    processed depth left =
        let env = outermost (suc k) in
        let m = spent (suc k) (suc left) in
        let merged = Binary 14 operators.Merge (all_voices (suc k)) (Spelled 2 Wire) in
        binary_gives l (within (more 14 depth) l) 16 operators.Split (Spelled 16 Wire) merged env
        (state (more 4 m)) (state (more 3 m)) (state left) (state left) (Primitive Wire) (added k) (whole k)
        (wire_gives l (more 13 depth) 16 (more 3 m) env)
        (diagram_by l (more 13 depth) merged env (more 2 m) (added k) (state left)
        (binary_gives l (within (more 13 depth) l) 14 operators.Merge (all_voices (suc k)) (Spelled 2 Wire) env
        (state (more 2 m)) (state (suc left)) (state left) (state left) (voices_from 0 k) (Primitive Wire) (added k)
        (diagram_by l (more 12 depth) (all_voices (suc k)) env (suc m) (voices_from 0 k) (state (suc left)) (iterated depth (suc left)))
        (wire_gives l (more 12 depth) 2 left env) (added_put k (state left) few)))
        (whole_put k (state left) few)

    pub evaluated : program_value l (tree (suc k)) ≡ Ok (whole k, [])
    evaluated =
        let left = 999970 - k * 23 in
        let all : more 4 (spent (suc k) (suc left)) ≡ 999998 = omega (arith, spent_is (suc k) (suc left)) in
        ap (λ o. finished (after (after o (turned l (ev l))) without_primitives))
        (value_by l 999998 (process (suc k)) (outermost (suc k)) 999998
        ∙ ap (λ m. rule l (within 999998 l) (process (suc k)) (outermost (suc k)) (state m)) (sym all)
        ∙ processed 999984 left)
        ∙ ap (λ b. finished ((if b then refuse (TableForm cause.Primitive) else give (whole k)) (state left))) (none_in_whole k)
