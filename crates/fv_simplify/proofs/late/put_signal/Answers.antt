use Rattle.fv_simplify.proofs.Put.{ok_there}
use Rattle.fv_simplify.proofs.late.put_signal.Goals as goal

pub returns-clause-there : goal.returns-clause-there
returns-clause-there c = ok_there c.args.builder.now c.args.signal c.node.new.self c.node.result c.node.ensures.put
