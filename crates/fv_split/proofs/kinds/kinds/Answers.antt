use Rattle.std.proofs.Common.{ap, ◌∙◌, pos}
use Rattle.std.proofs.lemmas.List.{get_or_default}
use Rattle.fv_split_plan.specs.Separated.{lane_at}
use Rattle.fv_split_code.specs.declared.kind.Kind.TheVariants as kind
use Rattle.fv_split.specs.inner.Bases.{kind_with}
use Rattle.fv_split.proofs.ListLemmas.{kinds_more}
use Rattle.fv_split.proofs.kinds.kinds.Goals as goal

pub loop-s-preserved : goal.loop-s-preserved
loop-s-preserved c =
    let bases = c.args.bases.now in
    let lanes = c.args.lanes.now in
    let s = c.loop-s.s in
    kinds_more bases lanes s c.loop-s.kinds.items c.push.new.self.items c.kind_with.result c.loop-s.invariant c.in_ok-push.ensures.items
    (c.kind_with.ensures ∙ ap (λ b. kind_with b (lane_at lanes s)) (get_or_default bases s (kind.Number (pos 0)) kind.Inner c.loop-s-test.true))
