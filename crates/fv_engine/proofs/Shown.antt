-- What an engine shows of its lanes' parts.
use Rattle.std.proofs.Common.{ℕ, ◌<◌, length, sym, ◌∙◌, subst, arith}
use Rattle.fv_lines.specs.Shape.{IsLaneLength}
use Rattle.fv_split_plan.specs.headline.View.{lane_info}
use Rattle.fv_engine.specs.Stands.{HaveLengths}
use Rattle.fv_engine.specs.Stored.{IsStored}
use Rattle.fv_engine.specs.declared.engine.Engine.TheInside.{Inside}

within : (e : Inside) → IsStored e → (l : ℕ) → l < length e.plan.lanes → l < length e.lanes.layout
within e inv l i = let a = e.lanes.entries.0 in let b = inv.shapes.count in omega (arith, a, b, i)

pub have_lengths : (e : Inside) → IsStored e → HaveLengths e.plan e.sizes.block e.lanes.layout
have_lengths e inv = record {
  count = sym e.lanes.entries.0 ∙ inv.shapes.count;
  each = λ l i.
      subst (λ n. IsLaneLength (lane_info e.plan l).history e.sizes.block n) (sym (e.lanes.held l (within e inv l i)).0) (inv.shapes.lengths l i);
}
