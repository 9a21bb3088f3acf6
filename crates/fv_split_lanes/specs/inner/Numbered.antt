-- Signals that are numbered, and which are inner.
use Rattle.std.specs.Prelude.{◌≡◌, ◌↔◌, ℕ, ◌<◌, List, [], ◌∷◌, ◌++◌, length, None, Some, Bool, true, false, if◌then◌else◌}
use Rattle.fv_signal.specs.declared.rate.Rate.{Rate}
use Rattle.fv_signal.specs.declared.rate.Rate.TheVariants as rate
use Rattle.fv_signal.specs.headline.Value.{Graph}
use Rattle.fv_signal.specs.headline.Rates.{rate_at}
use Rattle.fv_components.specs.headline.Reach.{at}
use Rattle.fv_components.specs.Reach.{AreComponents}
use Rattle.fv_analysis.specs.headline.Stands.{node}
use Rattle.fv_split_plan.specs.headline.Separated.{IsComputed, links_of}
use Rattle.fv_split_plan.specs.Separated.{lane_at}
use Rattle.fv_split_lanes.specs.declared.lanes.Numbering.{Numbering}
use Rattle.fv_split_lanes.specs.inner.Homes.{bit_at}
use Rattle.fv_split_lanes.specs.inner.Ranks.{AreRanks}

-- one signal more, with a lane of its loop
pub record AddsLane (old : Numbering) (signal owner : ℕ) (new : Numbering) : Type 0 where
  pub lanes : new.lanes.items ≡ old.lanes.items ++ Some (length old.signals.items) ∷ []
  pub signals : new.signals.items ≡ old.signals.items ++ signal ∷ []
  pub owners : new.owners.items ≡ old.owners.items ++ owner ∷ []
  pub places : new.places.items ≡ old.places.items ++ owner ∷ []

-- one signal more, without a lane
pub record AddsNone (old : Numbering) (none : ℕ) (new : Numbering) : Type 0 where
  pub lanes : new.lanes.items ≡ old.lanes.items ++ None ∷ []
  pub signals : new.signals.items ≡ old.signals.items
  pub owners : new.owners.items ≡ old.owners.items
  pub places : new.places.items ≡ old.places.items ++ none ∷ []

-- the one or the other
abbrev pub AddsSignal : Numbering → (signal : ℕ) → (separated : Bool) → (owner none : ℕ) → Numbering → Type 0
AddsSignal old signal true owner none new = AddsLane old signal owner new
AddsSignal old signal false owner none new = AddsNone old none new

-- the first n signals are numbered
pub record NumberedUpTo (marks : List Bool) (numbers ranks : List ℕ) (n : ℕ) (p : Numbering) : Type 0 where
  pub long : length p.lanes.items ≡ n
  pub placed : length p.places.items ≡ n
  pub owned : length p.owners.items ≡ length p.signals.items
  pub has : (s l : ℕ) → lane_at p.lanes.items s ≡ Some l → (bit_at marks s ≡ true) × (l < length p.signals.items) × (at p.signals.items l ≡ s)
  pub all : (s : ℕ) → s < n → bit_at marks s ≡ true → (l : ℕ) × (lane_at p.lanes.items s ≡ Some l)
  pub named : (l : ℕ) → l < length p.signals.items → (at p.signals.items l < n) × (lane_at p.lanes.items (at p.signals.items l) ≡ Some l)
  pub owners : (l : ℕ) → l < length p.signals.items → at p.owners.items l ≡ at ranks (at numbers (at p.signals.items l))
  pub places : (s : ℕ) → s < n → at p.places.items s ≡ (if bit_at marks s then at ranks (at numbers s) else at ranks (length marks))

-- all signals are
abbrev pub AreNumbered : (marks : List Bool) → (numbers ranks : List ℕ) → Numbering → Type 0
AreNumbered marks numbers ranks p = NumberedUpTo marks numbers ranks (length marks) p

-- the marked signals have lanes in these loops: those of the components that have a lane
pub record AreLooped (g : Graph) (marks : List Bool) (p : Numbering) (loops : ℕ) : Type 0 where
  pub numbers : List ℕ
  pub ranks : List ℕ
  pub components : AreComponents (links_of g) (length g.signals) numbers
  pub ranked : AreRanks numbers marks ranks
  pub numbered : AreNumbered marks numbers ranks p
  pub counted : loops ≡ at ranks (length marks)

-- signal s is computed at each sample, and is not marked
pub record IsInnerBy (g : Graph) (rates : List Rate) (marks : List Bool) (s : ℕ) : Type 0 where
  pub computed : IsComputed (node g s)
  pub sampled : rate_at rates s ≡ rate.Sample
  pub alone : bit_at marks s ≡ false

-- just the inner ones among the first n signals are marked
pub record AreInner (g : Graph) (rates : List Rate) (marks : List Bool) (n : ℕ) (inner : List Bool) : Type 0 where
  pub long : length inner ≡ n
  pub each : (s : ℕ) → (bit_at inner s ≡ true) ↔ ((s < n) × IsInnerBy g rates marks s)
