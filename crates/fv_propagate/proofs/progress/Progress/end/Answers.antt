use Rattle.std.proofs.Common.{◌≡◌, ◌∷◌, [], length, map, sym, ap, ◌∙◌, subst, arith, All}
use Rattle.std.proofs.lemmas.List.{get_or-set_same}
use Rattle.fv_signal.specs.declared.signal.Signal.TheVariants.{Member}
use Rattle.fv_share.specs.Drafts.{Draft, width_of}
use Rattle.fv_propagate.specs.inner.Progress.{Progress, puts, shut, IsThere, IsProgress, AreOpen, fed_of}
use Rattle.fv_propagate.specs.inner.Inside.{progress_of}
use Rattle.fv_propagate.proofs.Kept.{members_keep_progress, popped_is_progress}
use Rattle.fv_propagate.proofs.progress.Progress.end.Goals as goal

pub invariant_of-self-in_err-close_group : goal.invariant_of-self-in_err-close_group
invariant_of-self-in_err-close_group c =
    let s = progress_of c.self.inside in
    let fs = c.pop_front.new.self.items in
    subst (λ (d : Draft). IsProgress (record s { draft = d; feedbacks = fs })) (sym c.in_err-close_group.ensures.err)
    (popped_is_progress s c.in-Some.feedback fs c.in-Some.ensures.items c.self.invariant)

pub invariant_of-self-2 : goal.invariant_of-self-2
invariant_of-self-2 c =
    let s = progress_of c.self.inside in
    let fs = c.pop_front.new.self.items in
    subst (λ (d : Draft). IsProgress (record s { draft = d; feedbacks = fs })) (sym c.in_ok-close_group.ensures.ok)
    (members_keep_progress s c.in-Some.feedback fs c.args.outs.now c.in-Some.ensures.items c.self.invariant)

pub close_group-requires-clause-pending : goal.close_group-requires-clause-pending
close_group-requires-clause-pending c = (subst (AreOpen c.self.inside.builder) c.in-Some.ensures.items c.self.invariant.pending).0

pub close_group-requires-clause-members : goal.close_group-requires-clause-members
close_group-requires-clause-members c = subst (λ (p : Progress). All (IsThere p) c.args.outs.now) (sym c.self.view_is) c.requires.wires

pub close_group-requires-clause-backs : goal.close_group-requires-clause-backs
close_group-requires-clause-backs c =
    let f = c.requires.fed in
    let pending = subst (AreOpen c.self.inside.builder) c.in-Some.ensures.items c.self.invariant.pending in
    let counts : c.in-Some.feedback.count ∷ map (λ f. f.count) c.pop_front.new.self.items ≡ f.0 ∷ f.1 =
    sym (ap (map (λ f. f.count)) c.in-Some.ensures.items) ∙ ap fed_of c.self.view_is ∙ f.2 in
    let count : c.in-Some.feedback.count ≡ f.0 = cc in
    let enough = f.3 in
    λ s k x l e. omega (arith, pending.1 s k x l e, count, enough)

pub put_members-requires-clause-width : goal.put_members-requires-clause-width
put_members-requires-clause-width c =
    let g = c.in-Some.feedback.group in
    let there = (subst (AreOpen c.self.inside.builder) c.in-Some.ensures.items c.self.invariant.pending).0.0 in
    ap (λ (d : Draft). width_of d g) c.in_ok-close_group.ensures.ok
    ∙ ap length (get_or-set_same c.self.inside.builder.groups g c.args.outs.now [] there)

pub returns : goal.returns
returns c =
    let s = progress_of c.self.inside in
    let f = c.in-Some.feedback in
    let fs = c.pop_front.new.self.items in
    let outs = c.args.outs.now in
    c.in_ok-members.ensures
    ∙ ap (λ (d : Draft). puts (Member f.group) (length outs) (record s { draft = d; feedbacks = fs })) c.in_ok-close_group.ensures.ok
    ∙ sym (ap (λ ls. shut ls outs s) c.in-Some.ensures.items)
    ∙ ap (λ (p : Progress). shut p.feedbacks outs p) c.self.view_is
