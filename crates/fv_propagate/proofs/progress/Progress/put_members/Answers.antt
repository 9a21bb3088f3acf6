use Rattle.std.proofs.Common.{◌≡◌, length, get_or, sym, ap, ◌∙◌, subst, arith, []}
use Rattle.fv_signal.specs.declared.signal.Signal.TheVariants.{Member}
use Rattle.fv_share.specs.Drafts.{IsShut, width_of}
use Rattle.fv_propagate.specs.inner.Progress.{Progress}
use Rattle.fv_propagate.proofs.Puts.{puts_more, puts_groups}
use Rattle.fv_propagate.proofs.Kept.{puts_shut}
use Rattle.fv_propagate.proofs.progress.Progress.put_members.Goals as goal

pub put-requires-clause-can : goal.put-requires-clause-can
put-requires-clause-can c =
    let s = c.args.self.now in
    let g = c.args.group in
    let i = c.loop-i.i in
    let same = ap (λ r. r.1) c.loop-i.invariant in
    let wide : width_of c.loop-i.self.draft g ≡ c.args.count =
    ap (λ (p : Progress). width_of p.draft g) same ∙ ap (λ gs. length (get_or gs g [])) (puts_groups (Member g) i s) ∙ c.requires.width in record {
      operands = tt;
      names = (subst (λ (p : Progress). IsShut p.draft g) (sym same) (puts_shut (Member g) i s g c.requires.shut), omega (arith, wide));
    }

pub loop-i-preserved : goal.loop-i-preserved
loop-i-preserved c =
    puts_more (Member c.args.group) c.loop-i.i c.args.self.now c.loop-i.self c.put.new.self c.loop-i.all.items _ c.in_ok-id.id c.loop-i.invariant
    c.in_ok-id.ensures c.in_ok-push.ensures.items
