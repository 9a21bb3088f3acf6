use Rattle.std.proofs.Common.{◌≡◌, List, get_or, sym, ap, ◌∙◌, subst}
use Rattle.fv_signal.specs.declared.signal.Signal.{Signal}
use Rattle.fv_share.specs.Drafts.{Draft, CanPut, IsDraft}
use Rattle.fv_share.specs.Inside.{draft_of}
use Rattle.fv_share.proofs.lemmas.Same.{same_equal}
use Rattle.fv_share.proofs.lemmas.Puts.{got}
use Rattle.fv_share.proofs.lemmas.Kept.{put_keeps}
use Rattle.fv_share.proofs.builder.Builder.node.Goals as goal

pub invariant_of-self-2 : goal.invariant_of-self-2
invariant_of-self-2 c =
    let d = draft_of c.self.inside in
    subst (λ (ss : List Signal). IsDraft (record d { signals = ss })) (sym c.in_ok-place.ensures.keys)
    (put_keeps d c.args.signal c.self.invariant (subst (λ (e : Draft). CanPut e c.args.signal) (sym c.self.view_is) c.requires) c.number_fits.ensures)

pub returns-clause-shared : goal.returns-clause-shared
returns-clause-shared c =
    let s = c.in_ok-place.ensures.stored in
    let ss = c.insert_full.new.self.keys in
    let distinct = (invariant_of-self-2 c).distinct in
    λ i d l.
    let there : get_or ss c.in_ok-place.place d ≡ c.args.signal =
    got ss c.in_ok-place.place s.0 d s.1 ∙ sym (same_equal c.args.signal s.0 s.2) in (
      λ e. distinct i c.in_ok-place.place d l c.in_ok-place.ensures.within (e ∙ sym there) ∙ sym c.new.ensures,
      λ e. ap (λ k. get_or ss k d) (e ∙ c.new.ensures) ∙ there,
    )
