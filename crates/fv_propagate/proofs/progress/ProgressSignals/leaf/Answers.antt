use Rattle.std.proofs.Common.{map, ap, arith}
use Rattle.fv_propagate.proofs.Kept.{grown_leaf}
use Rattle.fv_propagate.proofs.progress.ProgressSignals.leaf.Goals as goal

pub returns-clause-wire : goal.returns-clause-wire
returns-clause-wire c = (grown_leaf c.args.leaf c.args.ins.now c.args.self.now c.put_leaf.new.self c.in_ok-id.id c.in_ok-id.ensures).there

pub returns-clause-keeps : goal.returns-clause-keeps
returns-clause-keeps c =
    let longer = (grown_leaf c.args.leaf c.args.ins.now c.args.self.now c.put_leaf.new.self c.in_ok-id.id c.in_ok-id.ensures).longer in
    λ w h. omega (arith, h, longer)

pub returns-clause-fed : goal.returns-clause-fed
returns-clause-fed c =
    ap (λ fs. map (λ f. f.count) fs) (grown_leaf c.args.leaf c.args.ins.now c.args.self.now c.put_leaf.new.self c.in_ok-id.id c.in_ok-id.ensures).same
