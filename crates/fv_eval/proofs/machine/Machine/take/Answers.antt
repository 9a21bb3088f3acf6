use Rattle.std.proofs.Common.{◌+◌, refl, sym, subst}
use Rattle.fv_eval_scopes.specs.declared.value.Value as code_value
use Rattle.fv_eval_scopes.specs.declared.value.Value.TheVariants as value
use Rattle.std.specs.Prelude.{Some, None}
use Rattle.fv_eval.specs.inner.Continuations.{world}
use Rattle.fv_eval.proofs.Taking.{Takes, argument_grew, last_of_rules, rules_take}
use Rattle.fv_eval.proofs.machine.Machine.take.Goals as goal

pub returns-then-saturating_sub-le1-clause-took : goal.returns-then-saturating_sub-le1-clause-took
returns-then-saturating_sub-le1-clause-took c =
    let p = c.args.text.now in
    let m = c.args.self.now in
    let f = c.in-Rules in
    subst (λ (u : code_value.Value). Takes p m m u c.args.argument None) (sym f.is)
    (λ v a h k. last_of_rules (world p m)
    f.ruled f.env f.count f.last c.width.result c.saturating_sub.result v a c.width.ensures c.saturating_sub.ensures c.if-saturating_sub-le1.true h)

pub returns-in_ok-place-in-Rules-clause-grew : goal.returns-in_ok-place-in-Rules-clause-grew
returns-in_ok-place-in-Rules-clause-grew c =
    argument_grew c.args.text.now c.args.self.now c.take.new.self
    (record { value = c.args.argument; before = c.in-Rules.last }) c.in_ok-place-in-Rules.ensures.ok.1

pub returns-in_ok-place-in-Rules-clause-took : goal.returns-in_ok-place-in-Rules-clause-took
returns-in_ok-place-in-Rules-clause-took c =
    let p = c.args.text.now in
    let m = c.args.self.now in
    let f = c.in-Rules in
    let n = record m { scopes = c.take.new.self } in
    let k1 = f.count + 1 in
    let j = c.in_ok-place-in-Rules.place in
    subst (λ (u : code_value.Value). Takes p m n u c.args.argument (Some (value.Rules f.ruled f.env k1 j))) (sym f.is)
    (λ v a h k. rules_take p m c.take.new.self
    f.ruled f.env f.count f.last c.width.result c.saturating_sub.result k1 j c.args.argument v a c.width.ensures c.saturating_sub.ensures
    c.if-saturating_sub-le1.false refl c.in_ok-place-in-Rules.ensures.ok.0 c.in_ok-place-in-Rules.ensures.ok.1 h k)
