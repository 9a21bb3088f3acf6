-- The chain of the loans of writers, later.
use Rattle.std.proofs.Common.{suc, List, [], ◌∷◌, sym, subst, ◌∙◌, arith}
use base.Fml.{GName}
use Rattle.fv_lines.specs.Writer.{outer_of}
use Rattle.fv_lines.specs.declared.writer.LaneWriter.{LaneWriter}
use Rattle.fv_lines.specs.Cut.{IsChain}
use Rattle.fv_engine_crew.specs.inner.Lanes.{AreSame}

-- the same writers are of the same chain
pub chain_later : (begun ws : List LaneWriter) (γ δ : GName) → AreSame begun ws → IsChain γ δ begun → IsChain γ δ ws
chain_later [] [] γ δ same c = c
chain_later [] (w ∷ ws) γ δ same c = let n = same.count in absurd (omega arith)
chain_later (v ∷ vs) [] γ δ same c = let n = same.count in absurd (omega arith)
chain_later (v ∷ vs) (w ∷ ws) γ δ same c =
    let first = same.each 0 w (omega arith) in (
      first.whole ∙ c.0,
      subst (λ (η : GName). IsChain η δ ws) (sym first.high)
          (chain_later vs ws (outer_of v).high δ (record {
            count = let n = same.count in omega arith;
            each = λ l d m. same.each (suc l) d (omega arith);
          }) c.1),
    )
