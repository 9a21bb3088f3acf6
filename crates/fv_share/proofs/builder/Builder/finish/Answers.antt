use Rattle.std.proofs.Common.{◌≡◌, ℕ, List, sym, subst, rules, All, ◌<◌, length}
use Rattle.fv_signal.specs.declared.signal.Signal.{Signal}
use Rattle.fv_signal.specs.headline.Value.{IsGraph}
use Rattle.fv_share.specs.Drafts.{Draft, AreClosed, IsDraft}
use Rattle.fv_share.specs.Inside.{draft_of}
use Rattle.fv_share.proofs.lemmas.Kept.{finished}
use Rattle.fv_share.proofs.builder.Builder.finish.Goals as goal

pub new-requires : goal.new-requires
new-requires c =
    let d = draft_of c.self.inside in
    let signals : c.in_ok-signals.signals.items ≡ d.signals = search rules in
    let outs : c.in_ok-outs.outs.items ≡ c.args.outputs.now = search rules in
    subst (λ (ss : List Signal). IsGraph (record { signals = ss; groups = d.groups; tables = d.tables; outputs = c.in_ok-outs.outs.items })) (sym signals)
    (finished d c.in_ok-outs.outs.items c.self.invariant (subst AreClosed (sym c.self.view_is) c.requires.closed)
    (subst (λ (os : List ℕ). All (λ s. s < length d.signals) os) (sym outs)
    (subst (λ (e : Draft). All (λ s. s < length e.signals) c.args.outputs.now) (sym c.self.view_is) c.requires.outputs)))

pub returns-clause-whole : goal.returns-clause-whole
returns-clause-whole c = finished c.args.self c.args.outputs.now (subst IsDraft c.self.view_is c.self.invariant) c.requires.closed c.requires.outputs
