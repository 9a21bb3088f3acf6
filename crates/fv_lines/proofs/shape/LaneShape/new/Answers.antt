use Rattle.std.proofs.Common.{rules, refl, arith, ◌∙◌}
use Rattle.fv_lines.proofs.shape.LaneShape.new.Goals as goal
use Rattle.fv_lines.proofs.shape.LaneShape.new.Goals.{then-history-le-COPIED_HISTORY, else-history-le-COPIED_HISTORY, then-history-le-COPIED_HISTORY-2}
use Rattle.fv_lines.proofs.shape.LaneShape.new.Goals.{else-history-le-COPIED_HISTORY-2}
use Rattle.fv_lines.proofs.Turns.{mask_small, mask_large}

pub returns : goal.returns
returns c = (
  refl,
  refl,
  (
    (λ small. elim c.if-history-le-COPIED_HISTORY.branch [
      | then-history-le-COPIED_HISTORY k ↦ omega (arith, k.len-is, c.from.ensures, c.from-2.ensures)
      | else-history-le-COPIED_HISTORY k ↦ absurd (omega (arith, small, k.if-history-le-COPIED_HISTORY))
    ]),
    (λ large. elim c.if-history-le-COPIED_HISTORY.branch [
      | then-history-le-COPIED_HISTORY k ↦ absurd (omega (arith, large, k.if-history-le-COPIED_HISTORY))
      | else-history-le-COPIED_HISTORY k ↦ search rules
    ]),
  ),
)

pub invariant_of-result-clause-mask_is : goal.invariant_of-result-clause-mask_is
invariant_of-result-clause-mask_is c =
    elim c.if-history-le-COPIED_HISTORY-2.branch [
      | then-history-le-COPIED_HISTORY-2 m ↦ elim c.if-history-le-COPIED_HISTORY.branch [
        | then-history-le-COPIED_HISTORY k ↦ mask_small c.args.history c.if-history-le-COPIED_HISTORY.len c.if-history-le-COPIED_HISTORY-2.mask
            (omega (arith, m.if-history-le-COPIED_HISTORY-2)) (omega (arith, k.len-is, c.from.ensures, c.from-2.ensures, c.requires)) (omega (arith, m.mask-is))
        | else-history-le-COPIED_HISTORY k ↦ absurd (omega (arith, k.if-history-le-COPIED_HISTORY, m.if-history-le-COPIED_HISTORY-2))
      ]
      | else-history-le-COPIED_HISTORY-2 m ↦ elim c.if-history-le-COPIED_HISTORY.branch [
        | then-history-le-COPIED_HISTORY k ↦ absurd (omega (arith, k.if-history-le-COPIED_HISTORY, m.if-history-le-COPIED_HISTORY-2))
        | else-history-le-COPIED_HISTORY k ↦ mask_large c.args.history c.if-history-le-COPIED_HISTORY.len c.if-history-le-COPIED_HISTORY-2.mask
            (omega (arith, m.if-history-le-COPIED_HISTORY-2))
            (k.next_power_of_two-len.ensures.power.0, k.len-is ∙ k.next_power_of_two-len.ensures.power.1) m.mask-is
      ]
    ]
