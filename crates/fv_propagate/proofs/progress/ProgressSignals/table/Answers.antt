use Rattle.std.proofs.Common.{map, ap, arith}
use Rattle.fv_propagate.proofs.Kept.{grown_tabled}
use Rattle.fv_propagate.proofs.progress.ProgressSignals.table.Goals as goal

pub returns-clause-wire : goal.returns-clause-wire
returns-clause-wire c = (grown_tabled c.args.writes c.args.values.now c.args.ins.now c.args.self.now c.put_table.new.self c.in_ok-id.id
    c.in_ok-id.ensures).there

pub returns-clause-keeps : goal.returns-clause-keeps
returns-clause-keeps c =
    let longer = (grown_tabled c.args.writes c.args.values.now c.args.ins.now c.args.self.now c.put_table.new.self c.in_ok-id.id c.in_ok-id.ensures).longer in
    λ w h. omega (arith, h, longer)

pub returns-clause-fed : goal.returns-clause-fed
returns-clause-fed c = ap (map (λ f. f.count)) (grown_tabled c.args.writes c.args.values.now c.args.ins.now c.args.self.now c.put_table.new.self
    c.in_ok-id.id c.in_ok-id.ensures).same
