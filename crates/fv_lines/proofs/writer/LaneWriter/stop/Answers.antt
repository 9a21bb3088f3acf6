use Rattle.std.proofs.Common.{◌≡◌, ◌+◌, ◌++◌, length, ap, ◌∙◌, arith}
use Rattle.std.proofs.lemmas.List.{length-append}
use mathlib.Core.Logic.{inl, inr}
use Rattle.fv_lines.specs.Hold.{held}
use Rattle.fv_lines.specs.Writer.{content_of}
use Rattle.fv_lines.specs.declared.writer.LaneWriter.{LaneWriter}
use Rattle.fv_lines.proofs.Rotate.{begins}
use Rattle.fv_lines.proofs.writer.LaneWriter.stop.Goals as goal
use Rattle.fv_lines.proofs.writer.LaneWriter.stop.Goals.{then-start-self, else-start-self}

pub returns-clause-held : goal.returns-clause-held
returns-clause-held c =
    let w : LaneWriter = c.args.self in
    let last : c.end-ended.result.0.last ≡ content_of w = c.end-ended.ensures.ended.1 in
    let low_is : length (w.low.front.now ++ w.low.rest.items) ≡ length w.low.front.now + length w.low.rest.items =
    length-append w.low.front.now w.low.rest.items in
    let high_is : length (w.high.front.now ++ w.high.rest.items) ≡ length w.high.front.now + length w.high.rest.items =
    length-append w.high.front.now w.high.rest.items in
    ap (held w.shape c.if-start-self.start) last
    ∙ begins w.high.front.now w.high.rest.items w.low.front.now w.low.rest.items w.shape.history c.if-start-self.start w.order
    (omega (arith, w.count)) (elim c.if-start-self.branch [
      | then-start-self k ↦ inr (omega (arith, low_is, high_is, w.len, k.if-start-self, k.start-is, c.len-start.ensures))
      | else-start-self k ↦ inl (omega (arith, low_is, k.start-is, c.len-start.ensures))
    ])
