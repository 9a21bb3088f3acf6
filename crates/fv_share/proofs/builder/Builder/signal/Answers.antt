use Rattle.std.proofs.Common.{◌≡◌, ◌<◌, [], length, get_or, sym, ap, ◌∙◌, subst, slice_get}
use Rattle.fv_signal.specs.headline.Value.{OperandsBelow}
use Rattle.fv_share.specs.Drafts.{Draft, graph_of}
use Rattle.fv_share.specs.Inside.{draft_of}
use Rattle.fv_share.proofs.lemmas.Puts.{got}
use Rattle.fv_share.proofs.lemmas.Kept.{earlier}
use Rattle.fv_share.proofs.builder.Builder.signal.Goals as goal

pub returns-clause-operands : goal.returns-clause-operands
returns-clause-operands c =
    let d = draft_of c.self.inside in
    let e : get_or d.signals c.args.id c.in-Some.signal.now ≡ c.in-Some.signal.now =
    got d.signals c.args.id c.in-Some.signal.now c.in-Some.signal.now (ap (slice_get d.signals) (sym c.number.ensures) ∙ sym c.in-Some.ensures.key) in
    let l : c.args.id < length d.signals = subst (λ (x : Draft). c.args.id < length x.signals) (sym c.self.view_is) c.requires in
    earlier d c.args.id c.in-Some.signal.now (subst (OperandsBelow (graph_of d []) c.args.id) e (c.self.invariant.ordered c.args.id c.in-Some.signal.now l))
