-- What is waited for, where a tree is visited.
use Rattle.std.proofs.Common.{◌≡◌, ℕ, suc, ◌+◌, List, ◌∷◌, drop, Vec, Result, sym, ap, subst, ◌∙◌, arith}
use Rattle.std.specs.declared.alloc.Global.{Global}
use Rattle.fv_parse_grammar.specs.headline.Tree.{Tree}
use Rattle.fv_parse.specs.Trees.{Parsed}
use Rattle.fv_rules.specs.declared.refusal.EvalRefusal.{EvalRefusal}
use Rattle.fv_eval_scopes.specs.declared.value.Value as code_value
use Rattle.fv_rules.specs.headline.Values.{Env}
use Rattle.fv_eval_scopes.specs.Shows.{ShowsEnv, ShowsTree, ShowsValues}
use Rattle.fv_rules.specs.Machine.{Leftover, Continuation, Valued, Visit, Running}
use Rattle.fv_eval.specs.declared.continuation.Continuation as code_continuation
use Rattle.fv_eval.specs.declared.continuation.Continuation.TheVariants as continuation
use Rattle.fv_eval.specs.declared.continuation.ForValue.TheVariants as valued
use Rattle.fv_eval.specs.declared.continuation.Focus as code_focus
use Rattle.fv_eval.specs.declared.machine.Machine as code_machine
use Rattle.fv_eval.specs.inner.Continuations.{ShowsContinuation, Steps, world}
use Rattle.fv_eval.proofs.Completing.{Leaves}
use Rattle.fv_eval.proofs.Places.{drop_behind}

-- the clause of `wait`, for one tree
abbrev pub Waits : Parsed → (m n : code_machine.Machine) → Result code_focus.Focus EvalRefusal → code_continuation.Continuation → (id e : ℕ) → Type 0
Waits p m n r f id e = (F : Continuation) (x : Tree) (E : Env) → ShowsContinuation (world p m) f F → ShowsTree (world p m) id x
    → ShowsEnv (world p m) e E
    → Steps p m n r (λ Fs s. Running (Visit x E) (F ∷ Fs) s)

-- the arguments after a place wait
pub leave_waits : (p : Parsed)
    (m n : code_machine.Machine) (r : Result code_focus.Focus EvalRefusal) (app body e at next : ℕ) (us : Vec code_value.Value Global) → next ≡ at + 1
    → Waits p m n r (continuation.Valued (valued.Leftover app us next)) body e → Leaves p m n r app body e us.items at
leave_waits p m n r app body e at next us one wait s f ys x E a more t b h k =
    let next_is : next ≡ suc at = omega (arith, one) in
    let left : drop next us.items ≡ k.1 = ap (λ (i : ℕ). drop i us.items) next_is ∙ drop_behind us.items at k.0 k.1 k.2 in
    wait (Valued (Leftover s more)) x E
    (record { f = f; ys = ys; tree = t; arguments = subst (λ (vs : List code_value.Value). ShowsValues (world p m) vs more) (sym left) k.4 }) b h
