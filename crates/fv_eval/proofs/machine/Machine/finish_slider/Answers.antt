use Rattle.std.proofs.Common.{refl}
use Rattle.fv_eval.proofs.Forms.{is_no_other_slider}
use Rattle.fv_eval.proofs.machine.Machine.finish_slider.Goals as goal

pub unreachable-requires : goal.unreachable-requires
unreachable-requires c =
    is_no_other_slider c.args.tree.now c.args.tree.now c.args.slider c.node.result.now _ refl c.node.ensures.tree c.requires.form c.in_default.not-Slider
