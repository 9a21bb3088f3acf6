use Rattle.std.proofs.Common.{arith}
use Rattle.std.proofs.lemmas.Result.{err_from_is_err_and}
use Rattle.fv_parse_grammar.specs.Descent.{a_literal, literal_list}
use Rattle.fv_parse_tree.proofs.Progress.{items_on, items_finish, items_fail}
use Rattle.fv_parse_tree.proofs.reader.Symbols.literals.Goals as goal

pub returns-in_err-item-clause-is : goal.returns-in_err-item-clause-is
returns-in_err-item-clause-is c =
    let p = err_from_is_err_and c.from_residual.result c.from_residual.ensures.1 in
    rw (p.1, p.2) (items_fail a_literal c.loop-items.items.items c.loop-items.self.rest.now c.literal.new.self.rest.now
    (literal_list c.args.self.now.rest.now) c.in_err-item.field-0.0 c.in_err-item.ensures.is c.loop-items.invariant.same)

pub loop-items-preserved : goal.loop-items-preserved
loop-items-preserved c =
    let on = c.if-not-skip_comma.ensures in
    record {
      shorter = omega (arith, on.2, c.in_ok-item.ensures.shorter, c.loop-items.invariant.shorter);
      same =
          items_on a_literal c.loop-items.items.items _ c.loop-items.self.rest.now c.in_ok-item.item c.literal.new.self.rest.now
          (literal_list c.args.self.now.rest.now) c.in_ok-item.ensures.is c.in_ok-push.ensures.items c.loop-items.invariant.same
          c.skip_comma.new.self.rest.now on.0 on.1 (omega (arith, on.2, c.in_ok-item.ensures.shorter));
    }

pub returns-then-not-skip_comma-clause-is : goal.returns-then-not-skip_comma-clause-is
returns-then-not-skip_comma-clause-is c =
    let off = c.if-not-skip_comma.ensures in
    items_finish a_literal c.loop-items.items.items _ c.loop-items.self.rest.now c.in_ok-item.item c.literal.new.self.rest.now
    (literal_list c.args.self.now.rest.now) c.in_ok-item.ensures.is c.in_ok-push.ensures.items c.loop-items.invariant.same
    c.skip_comma.new.self.rest.now off.0 off.1
