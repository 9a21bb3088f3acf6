use Rattle.std.proofs.Common.{◌≡◌, ◌<◌, length, get_or, subst, arith, pos}
use Rattle.std.proofs.lemmas.List.{get_or_default}
use Rattle.std.proofs.lemmas.List.Elements.{All-get_or}
use Rattle.fv_split_plan.specs.Reach.{at}
use Rattle.fv_split_code.specs.declared.kind.Kind.TheVariants as kind
use Rattle.fv_split_code.specs.Emits.{owned_by, MeanNow, AreFound}
use Rattle.fv_split_code.proofs.StepLemmas.{mean_more, of_kind, found_more}
use Rattle.fv_split_code.proofs.operand.operands.Goals as goal

pub returns : goal.returns
returns c =
    let e : c.loop-k.k ≡ length c.args.signals.now = omega arith in (
      subst (AreFound c.loop-k.found) e c.loop-k.invariant.found,
      subst (λ n. MeanNow c.args.kinds.now c.args.registers.now c.args.code.now.items c.loop-k.code.items c.args.signals.now c.loop-k.found n
          (owned_by c.args.owners.now c.args.own))
          e c.loop-k.invariant.mean,
    )

pub loop-k-preserved : goal.loop-k-preserved
loop-k-preserved c =
    let four = c.loop-k.invariant.found.four in
    let own = owned_by c.args.owners.now c.args.own in
    let signal = at c.args.signals.now c.loop-k.k in
    let b : signal < length c.args.registers.now =
    All-get_or (λ s. s < length c.args.registers.now) c.args.signals.now c.loop-k.k 0 c.loop-k-test.true c.requires.signals in
    record {
      found = found_more c.loop-k.found c.loop-k.k c.in_ok-register.register c.loop-k.invariant.found;
      mean =
          mean_more c.args.kinds.now c.args.registers.now c.args.code.now.items c.loop-k.code.items c.operand.new.code.items c.args.signals.now c.loop-k.found
          c.loop-k.k c.in_ok-register.register own (omega (arith, four)) c.loop-k.invariant.mean
          (of_kind c.args.registers.now c.loop-k.code.items c.operand.new.code.items signal c.in_ok-register.register _ (get_or c.args.kinds.now signal
          (kind.Number (pos 0))) own
          (get_or_default c.args.kinds.now signal kind.Inner (kind.Number (pos 0)) (omega (arith, b, c.requires.kinds))) c.in_ok-register.ensures);
    }
