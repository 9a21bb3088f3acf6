use Rattle.std.proofs.Common.{◌≡◌, [], ◌∷◌, ◌++◌, length, sym, ap, ◌∙◌, subst, append_assoc, append-nil, arith}
use Rattle.std.proofs.lemmas.List.{length_push, nil_from_length}
use Rattle.std.specs.Vec.Iter.{into_iter_items}
use Rattle.fv_loopcode.specs.Code.{AreValid}
use Rattle.fv_split_code.specs.Emitted.{code_in}
use Rattle.fv_split.specs.inner.Lists.{AreCoded}
use Rattle.fv_split.proofs.ListLemmas.{coded_more, code_behind}
use Rattle.fv_split.proofs.loop_code.all_code.Goals as goal

pub code-requires : goal.code-requires
code-requires c =
    let at = c.loop-steps in
    let x = c.in-Some.steps in
    let whole = ap (λ xs. at.yielded ++ xs) (sym c.in-Some.ensures.steps.0) ∙ at.invariant.all ∙ c.into_iter-steps-iterator.ensures.into_iter_gives.0 in
    let read = ap (λ codes. code_in codes (length at.yielded)) (sym whole) ∙ code_behind at.yielded _ x in
    subst (AreValid c.args.counts) (read ∙ sym c.deref.ensures.value) (c.requires (length at.yielded))

pub loop-steps-preserved : goal.loop-steps-preserved
loop-steps-preserved c =
    let at = c.loop-steps in
    let x = c.in-Some.steps in
    let steps : into_iter_items at.steps-iterator ≡ x ∷ into_iter_items c.next.new.self = c.in-Some.ensures.steps.0 in
    let whole = ap (λ xs. at.yielded ++ xs) (sym steps) ∙ at.invariant.all in
    let codes = into_iter_items c.into_iter-steps-iterator.result in
    let read = ap (λ cs. code_in cs (length at.yielded)) (sym whole) ∙ code_behind at.yielded _ x in
    record {
      all = append_assoc at.yielded (x ∷ []) _ ∙ whole;
      coded = subst (λ n. AreCoded codes n c.push.new.self.items) (sym (length_push at.yielded x))
          (coded_more codes (length at.yielded) at.all.items c.push.new.self.items c.in_ok-code.field-0 at.invariant.coded c.in_ok-push.ensures.items
          (c.in_ok-code.ensures ∙ c.deref.ensures.value ∙ sym read));
      long = let was = at.invariant.long in let gone = c.in-Some.ensures.steps.1 in let short = ap length steps in omega arith;
    }

pub returns : goal.returns
returns c =
    let at = c.loop-steps in
    let empty : into_iter_items at.steps-iterator ≡ [] = nil_from_length _ (sym at.invariant.long ∙ c.in-None.ensures.steps.0) in
    let all = sym (append-nil at.yielded) ∙ ap (λ xs. at.yielded ++ xs) (sym empty) ∙ at.invariant.all in
    let given = c.into_iter-steps-iterator.ensures.into_iter_gives.0 in
    let codes = into_iter_items c.into_iter-steps-iterator.result in
    subst (λ cs. AreCoded cs (length cs) at.all.items) given (subst (λ ys. AreCoded codes (length ys) at.all.items) all at.invariant.coded)
