-- One writer more at the end of a chain.
use Rattle.std.proofs.Common.{◌≡◌, List, [], ◌∷◌, ◌++◌, refl, sym, ap, ◌∙◌, ℤ}
use Rattle.std.specs.List.{flat_map}
use Rattle.std.proofs.lemmas.List.{append_assoc}
use Rattle.std.proofs.Common.{append-nil}
use base.Fml.{GName}
use Rattle.fv_lines.specs.Writer.{content_of, outer_of}
use Rattle.fv_lines.specs.declared.writer.LaneWriter.{LaneWriter}
use Rattle.fv_lines.specs.Cut.{IsChain}

pub chain_push : (ws : List LaneWriter) (w : LaneWriter) (γ δ : GName) → IsChain γ δ ws → (outer_of w).whole ≡ δ → IsChain γ (outer_of w).high (ws ++ w ∷ [])
chain_push [] w γ δ c e = (e ∙ sym c, refl)
chain_push (v ∷ vs) w γ δ c e = (c.0, chain_push vs w (outer_of v).high δ c.1 e)

-- what a chain with one writer more at its end says of the others
pub record Popped (γ δ : GName) (ws : List LaneWriter) (w : LaneWriter) : Type 0 where
  pub others : IsChain γ (outer_of w).whole ws
  pub last : (outer_of w).high ≡ δ

pub chain_pop : (ws : List LaneWriter) (w : LaneWriter) (γ δ : GName) → IsChain γ δ (ws ++ w ∷ []) → Popped γ δ ws w
chain_pop [] w γ δ c = record { others = sym c.0; last = c.1 }
chain_pop (v ∷ vs) w γ δ c = let p = chain_pop vs w (outer_of v).high δ c.1 in record { others = (c.0, p.others); last = p.last }

pub contents_pop : (ws : List LaneWriter) (w : LaneWriter) (xs : List ℤ)
    → flat_map content_of (ws ++ w ∷ []) ++ xs ≡ flat_map content_of ws ++ (content_of w ++ xs)
contents_pop [] w xs = ap (λ (ys : List ℤ). ys ++ xs) (append-nil (content_of w))
contents_pop (v ∷ vs) w xs =
    append_assoc (content_of v) (flat_map content_of (vs ++ w ∷ [])) xs ∙ ap (λ (ys : List ℤ). content_of v ++ ys) (contents_pop vs w xs)
    ∙ sym (append_assoc (content_of v) (flat_map content_of vs) (content_of w ++ xs))
