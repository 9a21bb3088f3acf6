use Rattle.std.proofs.Common.{◌≡◌, ◌+◌, suc, ◌<◌, length, sym, ap, ◌∙◌, subst, arith, All}
use Rattle.fv_split_code.specs.Emitted.{code_in}
use Rattle.fv_split_code.proofs.lemmas.AddLemmas.{code_read}
use Rattle.fv_split.specs.inner.ToldReads.{LoadsAmong, view_of, reads_of_steps, reads_of_loops}
use Rattle.fv_split.proofs.TellLemmas.{length_all}
use Rattle.fv_split.proofs.told_reads.reads.Goals as goal

pub steps-requires-clause-lanes : goal.steps-requires-clause-lanes
steps-requires-clause-lanes c =
    let read = c.deref.ensures.value ∙ code_read c.args.codes.now c.loop-j.j c.index-codes-j.result c.loop-j-test.true c.index-codes-j.is in
    subst (All (LoadsAmong (length c.args.owners.now))) (sym read) (c.requires.lanes c.loop-j.j)

pub steps-requires-clause-owners : goal.steps-requires-clause-owners
steps-requires-clause-owners c =
    let long = ap (λ t. length t.last) c.loop-j.invariant ∙ length_all c.args.owners.now c.args.codes.now c.loop-j.j in
    subst (λ n. All (λ k. k < n) c.args.owners.now) (sym long) c.requires.owners

pub loop-j-preserved : goal.loop-j-preserved
loop-j-preserved c =
    let owners = c.args.owners.now in
    let codes = c.args.codes.now in
    let j = c.loop-j.j in
    let read = c.deref.ensures.value ∙ code_read codes j c.index-codes-j.result c.loop-j-test.true c.index-codes-j.is in
    let z : suc j ≡ j + 1 = omega arith in
    c.in_ok-steps.ensures ∙ ap (reads_of_steps owners j (view_of c.loop-j.told_reads)) read
    ∙ ap (λ t. reads_of_steps owners j t (code_in codes j)) c.loop-j.invariant
    ∙ ap (reads_of_loops owners codes) z
