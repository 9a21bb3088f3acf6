-- One step of the machine.
use Rattle.std.proofs.Common.{◌≡◌, ℕ, zero, suc, ◌<◌, ◌-◌, Result, Ok, Err, sym, ap, subst, ◌∙◌, arith}
use Rattle.fv_parse_grammar.specs.headline.Tree.{Tree}
use Rattle.fv_parse.specs.Trees.{Parsed, size_of, tree_in}
use Rattle.fv_rules.specs.declared.refusal.EvalRefusal.{EvalRefusal}
use Rattle.fv_rules.specs.declared.refusal.EvalRefusal.TheVariants.{EvalBudget}
use Rattle.fv_eval_scopes.specs.declared.value.Value as code_value
use Rattle.fv_rules.specs.headline.Values.{Name, Env, lookup}
use Rattle.fv_rules.specs.headline.Steps.{State, Outcome, spent}
use Rattle.fv_eval_scopes.specs.Shows.{ShowsEnv, IsNamed}
use Rattle.fv_rules.specs.Machine.{Config, begin, begin_name, calling, step, visiting}
use Rattle.fv_eval.specs.declared.continuation.Focus as code_focus
use Rattle.fv_eval.specs.declared.continuation.Focus.TheVariants as focus
use Rattle.fv_eval.specs.declared.machine.Machine as code_machine
use Rattle.fv_eval.specs.inner.Continuations.{Begins, Goes, Runs, Steps, state_of, world}

-- ---- visits that are spent

spent_some : (n : ℕ) (s : State) → 0 < n → spent n s ≡ Ok (tt, record s { visits = n - 1 })
spent_some zero s h = absurd (omega (arith, h))
spent_some (suc n) s h = let e : n ≡ suc n - 1 = omega arith in ap (λ (k : ℕ). Ok (tt, record s { visits = k })) e

spent_none : (n : ℕ) (s : State) → n ≡ 0 → spent n s ≡ Err EvalBudget
spent_none n s e = ap (λ (k : ℕ). spent k s) e

-- ---- what a step does

-- the tree that is visited is there
pub visit_there : (p : Parsed) (m : code_machine.Machine) (i e : ℕ) → Runs p m (focus.Visit i e) → i < size_of p
visit_there p m i e h = h.1.4.0

-- a tree is visited
pub visit_steps : (p : Parsed) (m spent n : code_machine.Machine) (i e : ℕ) (r : Result code_focus.Focus EvalRefusal)
    → 0 < m.visits → spent ≡ record m { visits = m.visits - 1 }
    → Begins p spent n r e (tree_in p i) → (c : Config) → Goes p m (Ok (focus.Visit i e)) c → Goes p n r (step p.tokens c)
visit_steps p m spent n i e r some one begins c g =
    let rest : State = state_of (record m { visits = m.visits - 1 }) in
    let same : step p.tokens c ≡ begin p.tokens (tree_in p i) g.1 g.2 rest =
    ap (step p.tokens) g.3
    ∙ ap (λ (o : Outcome Unit). visiting p.tokens o g.0 g.1 g.2) (spent_some m.visits (state_of m) some)
    ∙ ap (λ (x : Tree). begin p.tokens x g.1 g.2 rest) (sym g.4.1) in
    let after : Begins p (record m { visits = m.visits - 1 }) n r e (tree_in p i) =
    subst (λ (k : code_machine.Machine). Begins p k n r e (tree_in p i)) one begins in
    subst (λ (d : Config). Goes p n r d) (sym same) (after g.1 g.5 g.2 g.6)

-- a name is called
pub call_steps : (p : Parsed) (m spent n : code_machine.Machine) (i e : ℕ) (r : Result code_focus.Focus EvalRefusal)
    → 0 < m.visits → spent ≡ record m { visits = m.visits - 1 }
    → ((x : Name) (E : Env) → IsNamed (world p spent) i x → ShowsEnv (world p spent) e E → Steps p spent n r (λ Fs s. begin_name x (lookup p.tokens E x) Fs s))
    → (c : Config) → Goes p m (Ok (focus.Call i e)) c → Goes p n r (step p.tokens c)
call_steps p m spent n i e r some one begins c g =
    let rest : State = state_of (record m { visits = m.visits - 1 }) in
    let same : step p.tokens c ≡ begin_name g.0 (lookup p.tokens g.1 g.0) g.2 rest =
    ap (step p.tokens) g.3 ∙ ap (λ (o : Outcome Unit). calling p.tokens o g.0 g.1 g.2) (spent_some m.visits (state_of m) some) in
    let after =
    subst
    (λ (k : code_machine.Machine). (x : Name) (E : Env)
    → IsNamed (world p k) i x → ShowsEnv (world p k) e E → Steps p k n r (λ Fs s. begin_name x (lookup p.tokens E x) Fs s))
    one begins in
    subst (λ (d : Config). Goes p n r d) (sym same) (after g.0 g.1 g.4 g.5 g.2 g.6)

-- an ended machine stays so
pub done_steps : (p : Parsed) (m : code_machine.Machine) (u : code_value.Value) (c : Config)
    → Goes p m (Ok (focus.Done u)) c → Goes p m (Ok (focus.Done u)) (step p.tokens c)
done_steps p m u c g = (g.0, ap (step p.tokens) g.1, g.2)
