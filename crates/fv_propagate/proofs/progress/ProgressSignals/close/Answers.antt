use Rattle.std.proofs.Common.{◌∷◌, ap, ◌∙◌, arith}
use Rattle.fv_propagate.proofs.Kept.{grown_closed, fed_rest}
use Rattle.fv_propagate.proofs.progress.ProgressSignals.close.Goals as goal

pub returns-clause-width : goal.returns-clause-width
returns-clause-width c =
    (grown_closed c.args.outs.now c.args.self.now c.end.new.self c.in_ok-members.members.items c.in_ok-members.ensures c.requires.wires).0.wide

pub returns-clause-wires : goal.returns-clause-wires
returns-clause-wires c =
    (grown_closed c.args.outs.now c.args.self.now c.end.new.self c.in_ok-members.members.items c.in_ok-members.ensures c.requires.wires).0.there

pub returns-clause-keeps : goal.returns-clause-keeps
returns-clause-keeps c =
    let longer = (grown_closed c.args.outs.now c.args.self.now c.end.new.self c.in_ok-members.members.items c.in_ok-members.ensures c.requires.wires).0.longer
    in
    λ w h. omega (arith, h, longer)

pub returns-clause-fed : goal.returns-clause-fed
returns-clause-fed c =
    let f = c.requires.fed in
    let rest = (grown_closed c.args.outs.now c.args.self.now c.end.new.self c.in_ok-members.members.items c.in_ok-members.ensures c.requires.wires).1 in
    (f.0, fed_rest c.args.self.now.feedbacks f.0 f.1 f.2 ∙ ap (λ ns. f.0 ∷ ns) rest)
