use Rattle.std.proofs.Common.{ap, ◌∙◌, rules, SFits, w32, to_z-of_z}
use Rattle.fv_num.specs.headline.Words.{apply_of, inputs_of}
use Rattle.fv_diagram_numbers.proofs.Actions.{cut_out}
use Rattle.fv_diagram_numbers.proofs.timeless.applied.Goals as goal

pub returns : goal.returns
returns c =
    let f : SFits w32 c.apply.result = search rules in
    to_z-of_z f ∙ (c.apply.ensures ∙ ap (apply_of c.args.op)
    (cut_out c.args.numbers.now c.args.from (inputs_of c.args.op) c.inputs-count.result c.inputs-count.ensures c.requires))
