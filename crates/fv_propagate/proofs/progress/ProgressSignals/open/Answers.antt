use Rattle.std.proofs.Common.{arith}
use Rattle.fv_propagate.proofs.Kept.{grown_opened}
use Rattle.fv_propagate.proofs.progress.ProgressSignals.open.Goals as goal

pub returns-clause-width : goal.returns-clause-width
returns-clause-width c = (grown_opened c.args.count c.args.self.now c.begin.new.self c.in_ok-late.late.items c.in_ok-late.ensures).0.wide

pub returns-clause-wires : goal.returns-clause-wires
returns-clause-wires c = (grown_opened c.args.count c.args.self.now c.begin.new.self c.in_ok-late.late.items c.in_ok-late.ensures).0.there

pub returns-clause-keeps : goal.returns-clause-keeps
returns-clause-keeps c =
    let longer = (grown_opened c.args.count c.args.self.now c.begin.new.self c.in_ok-late.late.items c.in_ok-late.ensures).0.longer in
    λ w h. omega (arith, h, longer)

pub returns-clause-fed : goal.returns-clause-fed
returns-clause-fed c = (grown_opened c.args.count c.args.self.now c.begin.new.self c.in_ok-late.late.items c.in_ok-late.ensures).1
