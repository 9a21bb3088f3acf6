use Rattle.std.proofs.Common.{◌≡◌, ◌+◌, drop}
use Rattle.fv_rules.specs.headline.Rules.{all_outputs}
use Rattle.fv_eval_drawing.specs.Makes.{trees_of}
use Rattle.fv_eval_drawing.proofs.diagrams.Drawing.all_outputs.Given as goal

abbrev pub invariant-loop-part : goal.invariant-loop-part
invariant-loop-part l =
    l.sum + all_outputs (trees_of l.self.diagrams (drop l.part-index l.parts)) ≡ all_outputs (trees_of l.self.diagrams l.parts)
