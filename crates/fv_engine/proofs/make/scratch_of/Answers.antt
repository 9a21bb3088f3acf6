use Rattle.std.proofs.Common.{◌≡◌, ◌<◌, ◌≤◌, ◌*◌, ◌⊎◌, inl, inr, ℕ, ◌+◌, List, [], ◌∷◌, ◌++◌, length, get_or, sym, ap, ◌∙◌, subst, arith}
use Rattle.std.proofs.lemmas.Bool.{cases_lt}
use Rattle.std.proofs.lemmas.List.{get_or_append_left, get_or_push, length_push}
use Rattle.fv_loopcode.specs.declared.step.Step.{Step}
use Rattle.fv_loopcode_machine.specs.Scratches.{HasRoom}
use Rattle.fv_loopcode_machine.specs.declared.scratch.Scratch.{Scratch}
use Rattle.fv_split_plan.specs.headline.View.{code_of}
use Rattle.fv_engine.proofs.make.scratch_of.Goals as goal

pub loop-j-preserved : goal.loop-j-preserved
loop-j-preserved c =
    let p = c.args.plan.now in
    let xs = c.loop-j.scratch.items in
    let x : Scratch = c.in_ok-one.one in
    let n = c.loop-j.j in
    let here = c.loop-j.invariant.count in
    let many : c.len.result ≡ length (code_of p n) = c.len.ensures ∙ ap (λ (ss : List Step). length ss) c.code.ensures in
    let room : HasRoom (code_of p n) x = record {
      regs = c.in_ok-one.ensures.regs ∙ many;
      rows = c.in_ok-one.ensures.rows ∙ ap (λ m. m * 128) many;
      last = c.in_ok-one.ensures.last;
    } in
    let Fit : List Scratch → Type 0 = λ ys. (i : ℕ) (d : Scratch) → i < n + 1 → HasRoom (code_of p i) (get_or ys i d) in
    let go : (i : ℕ) (d : Scratch) → i < n + 1 → (i < n) ⊎ (n ≤ i) → HasRoom (code_of p i) (get_or (xs ++ x ∷ []) i d) =
    λ i d m. elim [
      | inl l ↦ subst (HasRoom (code_of p i)) (sym (get_or_append_left xs (x ∷ []) d i (omega (arith, l, here)))) (c.loop-j.invariant.each i d l)
      | inr l ↦ (let is : i ≡ n = omega (arith, l, m) in
          subst (HasRoom (code_of p i)) (sym (get_or_push xs x d i (omega (arith, is, here)))) (subst (λ k. HasRoom (code_of p k) x) (sym is) room))
    ] in
    record {
      count = ap (λ (ys : List Scratch). length ys) c.in_ok-push.ensures.items ∙ length_push xs x ∙ (omega (arith, here));
      each = subst Fit (sym c.in_ok-push.ensures.items) (λ i d m. go i d m (cases_lt i n));
    }
