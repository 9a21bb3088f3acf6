-- A graph that is put together from its parts.
use Rattle.std.proofs.Common.{◌≡◌, ℕ, ◌<◌, List, length, map, ℤ, ap, ap₂, ◌∙◌, arith}
use Rattle.fv_signal.specs.declared.signal.Signal.{Signal}
use Rattle.fv_signal.specs.headline.Value.{Graph}
use Rattle.fv_analysis.specs.headline.Stands.{node}
use Rattle.fv_simplify.specs.Folding.{reading, IsFolding}
use Rattle.fv_simplify.specs.Folded.{with_images, redirected}

abbrev pub of_parts : List Signal → List (List ℕ) → List (List ℤ) → List ℕ → Graph
of_parts signals groups tables outputs = record { signals = signals; groups = groups; tables = tables; outputs = outputs }

pub made : (g : Graph) (p : ℕ → ℕ) (ss : List Signal) (gs : List (List ℕ)) (ts : List (List ℤ)) (os : List ℕ) → ss ≡ map (with_images p) g.signals
    → gs ≡ map (map p) g.groups → ts ≡ g.tables → os ≡ map p g.outputs
    → of_parts ss gs ts os ≡ redirected g p
made g p ss gs ts os a b c d =
    ap₂ (λ x y. of_parts x y ts os) a b ∙ ap₂ (λ x y. of_parts (map (with_images p) g.signals) (map (map p) g.groups) x y) c d

-- each signal may stand for itself
pub themselves_fold : (g : Graph) (p : ℕ → ℕ) → ((s : ℕ) → s < length g.signals → p s ≡ s) → IsFolding g p
themselves_fold g p h = record {
  earlier = λ s l. omega (arith, h s l);
  alike = λ s l. ap (λ r. reading g p p (node g r)) (h s l);
}
