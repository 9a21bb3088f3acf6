use Rattle.std.proofs.Common.{ℕ, sym, ap, ◌∙◌, subst, arith, w32, FitsSigned, to_z, of_z}
use Rattle.std.proofs.lemmas.Int.{ints, to_z-of_z}
use Rattle.fv_signal.specs.declared.signal.Signal.TheVariants.{Const, Delay}
use Rattle.fv_share.specs.Drafts.{Draft, put}
use Rattle.fv_simplify.proofs.Put.{there_after}
use Rattle.fv_simplify.proofs.late.put_delay.Goals as goal

pub put_signal-requires : goal.put_signal-requires
put_signal-requires c = record {
  operands = there_after c.args.builder.now (Const (to_z w32 (of_z w32 c.signed-n.result))) (c.in_ok-d.d, c.put_number.new.builder)
      c.args.x c.in_ok-d.ensures.value
      c.requires.there;
  names = tt;
}

pub returns-clause-value : goal.returns-clause-value
returns-clause-value c =
    let old = c.args.builder.now in
    let small = c.requires.small in
    let fits : FitsSigned w32 c.signed-n.result = subst (FitsSigned w32) (sym c.signed-n.ensures) (omega (arith, ints, small)) in
    c.in_ok-id.ensures.value
    ∙ ap (λ (q : ℕ × Draft). put q.1 (Delay c.args.x q.0 c.args.by))
    (c.in_ok-d.ensures.value ∙ ap (λ k. put old (Const k)) (to_z-of_z w32 c.signed-n.result fits ∙ c.signed-n.ensures))
