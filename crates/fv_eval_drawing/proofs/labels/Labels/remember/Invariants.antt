use Rattle.std.proofs.Common.{◌-◌, suc, vec_len, List}
use Rattle.fv_parse.specs.Trees.{Parsed}
use Rattle.fv_diagram.specs.declared.control.ControlInfo.{ControlInfo}
use Rattle.fv_eval_drawing.specs.Controls.{AreLabelled}
use Rattle.fv_eval_drawing.proofs.labels.Labels.remember.Given as goal

abbrev pub invariant-grow : goal.invariant-grow
invariant-grow l = (p : Parsed) (cs : List ControlInfo) → AreLabelled p cs l.fn.self → AreLabelled p cs l.self-inside.numbers.items

abbrev pub decreases-grow : goal.decreases-grow
decreases-grow l = suc l.place - vec_len l.self-inside.numbers
