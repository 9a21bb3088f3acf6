use Rattle.std.proofs.Common.{rules, arith, ◌≡◌, ◌<◌, ◌+◌, ◌∙◌, inl, inr, [], ◌∷◌, length, slice_index_or, sym, subst}
use Rattle.std.proofs.lemmas.Bool.{cases_eq}
use Rattle.std.proofs.lemmas.List.{get_or_push, get_or_append_left}
use Rattle.fv_engine_codes.specs.Plans.{IsLocalCode}
use Rattle.fv_engine_codes.proofs.codes.local_codes.Goals as goal

pub loop-j-preserved : goal.loop-j-preserved
loop-j-preserved c =
    let plan = c.args.plan.now in
    let tasks = c.args.tasks.now.tasks in
    let items = c.loop-j.codes.items in
    let code = c.in_ok-code.code in
    let count : length items ≡ c.loop-j.j = (let h = c.loop-j.invariant.count in let o = c.loop-j.codes.ok in omega arith) in
    record {
      each = λ i l. subst (λ v. IsLocalCode plan tasks i (slice_index_or v i [])) (sym c.push_reserved.ensures.items) (elim (cases_eq i c.loop-j.j) [
        | inl e ↦ subst (IsLocalCode plan tasks i) (sym (get_or_push items code [] i (count ∙ sym e)))
            (subst (λ n. IsLocalCode plan tasks n code) (sym e) c.in_ok-code.ensures)
        | inr n ↦ subst (IsLocalCode plan tasks i) (sym (get_or_append_left items (code ∷ []) [] i (omega arith)))
            (c.loop-j.invariant.each i (omega arith))
      ]);
      count = search rules;
      room = search rules;
      long = search rules;
    }
