use Rattle.std.proofs.Common.{◌≡◌, ℕ, ◌≤◌, List, sym, ap, ◌∙◌, subst, arith}
use Rattle.fv_signal.specs.declared.signal.Signal.TheVariants.{Back}
use Rattle.fv_share.specs.Drafts.{IsPending, BacksWithin}
use Rattle.fv_propagate.specs.declared.progress.Feedback.{Feedback}
use Rattle.fv_propagate.specs.inner.Progress.{Progress, puts, IsWireOf}
use Rattle.fv_propagate.proofs.Puts.{puts_more, puts_feedbacks}
use Rattle.fv_propagate.proofs.Kept.{puts_pending, pending_names, nested_wires, backs_puts}
use Rattle.fv_propagate.proofs.progress.Progress.put_backs.Goals as goal

-- the progress after some Backs
waits : (g i : ℕ) (s p : Progress) (ids : List ℕ) → (ids, p) ≡ puts (Back g) i s → IsPending s.draft g → IsPending p.draft g
waits g i s p ids e h = subst (λ (q : Progress). IsPending q.draft g) (sym (ap (λ r. r.1) e)) (puts_pending (Back g) i s g h)

few : (g i count : ℕ) (s p : Progress) (ids : List ℕ) → i ≤ count → (ids, p) ≡ puts (Back g) i s → BacksWithin s.draft g count → BacksWithin p.draft g count
few g i count s p ids l e h =
    subst (λ (q : Progress). BacksWithin q.draft g count) (sym (ap (λ r. r.1) e))
    (backs_puts (Back g) i s g count (λ j k m f. let same : j ≡ k = cc in omega (arith, same, m, l)) h)

pub put-requires-clause-can : goal.put-requires-clause-can
put-requires-clause-can c = record {
  operands = tt;
  names = pending_names c.loop-i.self.draft c.args.group c.loop-i.i
      (waits c.args.group c.loop-i.i c.args.self.now c.loop-i.self c.loop-i.all.items c.loop-i.invariant c.requires.pending);
}

pub put-requires-clause-admitted : goal.put-requires-clause-admitted
put-requires-clause-admitted c =
    let s = c.args.self.now in
    let g = c.args.group in
    let same : c.loop-i.self.feedbacks ≡ s.feedbacks = ap (λ r. r.1.feedbacks) c.loop-i.invariant ∙ puts_feedbacks (Back g) c.loop-i.i s in
    subst (λ (fs : List Feedback). IsWireOf fs g c.loop-i.i) (sym same) (nested_wires g g c.loop-i.i s.feedbacks (omega arith) c.requires.inner)

pub loop-i-preserved : goal.loop-i-preserved
loop-i-preserved c =
    puts_more (Back c.args.group) c.loop-i.i c.args.self.now c.loop-i.self c.put.new.self c.loop-i.all.items _ c.in_ok-id.id c.loop-i.invariant
    c.in_ok-id.ensures c.in_ok-push.ensures.items

pub returns-clause-pending : goal.returns-clause-pending
returns-clause-pending c = waits c.args.group c.loop-i.i c.args.self.now c.loop-i.self c.loop-i.all.items c.loop-i.invariant c.requires.pending

pub returns-clause-backs : goal.returns-clause-backs
returns-clause-backs c =
    few c.args.group c.loop-i.i c.args.count c.args.self.now c.loop-i.self c.loop-i.all.items (omega arith) c.loop-i.invariant c.requires.backs
