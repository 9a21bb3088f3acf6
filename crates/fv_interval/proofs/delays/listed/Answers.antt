use Rattle.std.proofs.Common.{rules}
use Rattle.fv_interval.specs.inner.Delays.{IsRefused}
use Rattle.fv_interval.proofs.lemmas.Refused.{listed_more, refused_by}
use Rattle.fv_interval.proofs.delays.listed.Goals as goal

pub returns-in_err-delay-clause-refused : goal.returns-in_err-delay-clause-refused
returns-in_err-delay-clause-refused c =
    let e = c.in_err-delay.field-0.0 in
    let h : IsRefused c.args.spans.now e =
    refused_by c.args.spans.now c.loop-i.i c.index-spans-i.result e c.loop-i-test.true c.index-spans-i.is c.loop-i.invariant.0 c.in_err-delay.ensures.refused in
    search rules

pub loop-i-preserved : goal.loop-i-preserved
loop-i-preserved c =
    listed_more c.args.spans.now c.loop-i.i c.index-spans-i.result _ _ c.loop-i.total c.loop-i.delays.items _ c.loop-i-test.true c.index-spans-i.is
    c.in_ok-delay.ensures.ok c.loop-i.invariant c.in_ok-push.ensures.items c.from-total.ensures
