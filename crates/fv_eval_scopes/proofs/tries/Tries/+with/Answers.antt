use Rattle.std.proofs.Common.{◌≡◌, ◌⊎◌, ◌∙◌, ◌+◌, ◌-◌, ◌/◌, ℕ, suc, List, [], ◌∷◌, ◌++◌, length, Some, ap, sym, subst, arith}
use Rattle.std.proofs.lemmas.List.{length_push}
use Rattle.fv_eval_scopes.specs.declared.tries.Fork.{Fork}
use Rattle.fv_eval_scopes.specs.Tries.{child_of, AreThere, IsWith}
use Rattle.fv_eval_scopes.proofs.lemmas.Forks.{Joins, with_more}
use Rattle.fv_eval_scopes.proofs.tries.Tries.+with.Goals as goal

pub returns-clause-with : goal.returns-clause-with
returns-clause-with t c there =
    let old : List Fork = c.args.self.now in
    let mid : List Fork = c.with.new.self in
    let new : List Fork = c.push.new.self.items in
    let root = c.args.root in
    let number = c.args.number in
    let value = c.args.value in
    let below = c.in_ok-below.below in
    let fork : Fork = c.forked-fork.result in
    let n : ℕ = c.args.levels - 1 in
    let up : c.args.levels ≡ suc n = omega (arith, c.if-levels-eq0.false) in
    let pushed : new ≡ mid ++ fork ∷ [] = c.in_ok-push.ensures.items ∙ ap (λ (xs : List Fork). xs ++ fork ∷ []) c.self.view_is in
    let long : length new ≡ length mid + 1 = ap length pushed ∙ length_push mid fork in
    let j : Joins old mid new n root number value below c.len.result fork = record {
      grown = c.in_ok-below.ensures.grown;
      is = subst (λ x. AreThere old n x → IsWith old mid n x (number / 2) value below) c.child-next.ensures c.in_ok-below.ensures.with;
      pushed = pushed;
      place = omega (arith, c.len.ensures, c.push.new.self.ok.0, long);
      there = c.forked-fork.ensures.there;
      other = c.forked-fork.ensures.other ∙ c.child-other.ensures;
      either = subst (λ x. (b : ℕ) → (child_of (Some fork) b ≡ below) ⊎ (child_of (Some fork) b ≡ x)) c.child-other.ensures c.forked-fork.ensures.either;
    } in
    subst (λ m. IsWith old new m root number value c.len.result) (sym up) (with_more j (subst (λ m. AreThere old m root) up there))
