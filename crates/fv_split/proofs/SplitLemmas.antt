-- What the passes are given.
use Rattle.std.proofs.Common.{◌≡◌, ℕ, ◌<◌, List, [], length, get_or, sym, ap, subst, arith, All}
use Rattle.std.specs.Prelude.{Option}
use Rattle.std.proofs.lemmas.List.Elements.{All-from_get_or, All-weaker}
use Rattle.fv_signal.specs.headline.Value.{Graph, IsGraph}
use Rattle.fv_signal.specs.headline.Rates.{rate_in, rate_at, rates}
use Rattle.fv_signal.proofs.lemmas.Grown.{length_grown}
use Rattle.fv_loopcode.specs.declared.step.Step.{Step}
use Rattle.fv_loopcode.specs.declared.step.Step.TheVariants as step
use Rattle.fv_loopcode.specs.headline.Code.{IsStill}
use Rattle.fv_loopcode.specs.Code.{AreValid, NamesThere}
use Rattle.fv_analysis.specs.headline.Stands.{stands_of}
use Rattle.fv_analysis.proofs.lemmas.StandLemmas.{stands_long}
use Rattle.fv_split_lanes.specs.declared.lanes.Lanes.{Lanes}
use Rattle.fv_split_lanes.specs.Placed.{ArePlaced}
use Rattle.fv_split_plan.proofs.lemmas.NodeLemmas.{listed}
use Rattle.fv_split_code.specs.Held.{ReadsWithin, HoldsUpTo}

pub rates_long : (g : Graph) → length (rates g.signals) ≡ length g.signals
rates_long g = omega (arith, length_grown (λ now. rate_in (rate_at now)) [] g.signals)

-- the outputs' signals are there
pub outputs_there : (g : Graph) → IsGraph g → (outputs stands : List ℕ) → outputs ≡ g.outputs → stands ≡ stands_of g → All (λ s. s < length stands) outputs
outputs_there g graph outputs stands eo es =
    subst (All (λ s. s < length stands)) (sym eo)
    (All-from_get_or (λ s. s < length stands) g.outputs 0 (λ i m. let o = graph.outputs i m in omega (arith, o, ap length es, stands_long g)))

-- what stands for signals is there
pub stands_there : (n : ℕ) (stands : List ℕ) (lanes : List (Option ℕ)) → All (λ s. s < n) stands → length lanes ≡ n → All (λ s. s < length lanes) stands
stands_there n stands lanes a e = All-weaker (λ s. s < n) (λ s. s < length lanes) (λ s l. omega (arith, l, e)) stands a

-- the lanes' signals are there
pub signals_there : (g : Graph) (p : Lanes) → ArePlaced g p → (signals histories : List ℕ) → signals ≡ p.signals.items
    → length histories ≡ length g.signals →
    All (λ s. s < length histories) signals
signals_there g p placed signals histories es eh =
    subst (All (λ s. s < length histories)) (sym es)
    (All-from_get_or (λ s. s < length histories) p.signals.items 0 (λ l m. let k = (placed.lanes.named l m).0 in omega (arith, k, eh)))

still_there : (g : Graph) (s : Step) → IsStill s → ReadsWithin g s → NamesThere (record { lanes = 0; tables = length g.tables; cells = 0 }) s
still_there g (step.Number z) h r = tt
still_there g (step.Held k) h r = tt
still_there g (step.Input k) h r = tt
still_there g (step.Point op args) h r = tt
still_there g (step.Load lane back max) h r = absurd h
still_there g (step.Append lane value) h r = absurd h
still_there g (step.Read table arg) h r = listed g.tables table r
still_there g (step.Write cells args) h r = absurd h

-- the code of the held values is valid over no lanes and cells, and the graph's tables
pub held_valid : (g : Graph) (s : ℕ) (numbers : List ℕ) (steps : List Step) → HoldsUpTo g s numbers steps →
    AreValid (record { lanes = 0; tables = length g.tables; cells = 0 }) steps
held_valid g s numbers steps h i d l = (still_there g (get_or steps i d) (h.held_code.still i d l) (h.reads i d l), h.ordered i d l)
