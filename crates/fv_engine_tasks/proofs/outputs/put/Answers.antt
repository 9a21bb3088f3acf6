use Rattle.fv_engine_tasks.proofs.Copies.{others_stay}
use Rattle.fv_engine_tasks.proofs.outputs.put.Goals as goal

pub returns-clause-others : goal.returns-clause-others
returns-clause-others c = λ s j inside apart.
    others_stay c.args.width s j c.args.t c.args.place c.args.output.now _ inside c.requires.inside apart
