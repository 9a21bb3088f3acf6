-- Where each signal of a graph is computed: lanes, loops and homes.
use Rattle.std.specs.Prelude.{◌≡◌, ◌↔◌, ◌⊎◌, ℕ, ◌<◌, ◌≤◌, length, Some}
use Rattle.fv_signal.specs.declared.rate.Rate.TheVariants as rate
use Rattle.fv_signal.specs.headline.Value.{Graph}
use Rattle.fv_signal.specs.headline.Rates.{rate_of}
use Rattle.fv_components.specs.headline.Reach.{at, Reaches}
use Rattle.fv_analysis.specs.headline.Stands.{node}
use Rattle.fv_split_plan.specs.headline.Separated.{IsSeparated, IsComputed, ReadsSignal, links_of}
use Rattle.fv_split_plan.specs.Separated.{lane_at}
use Rattle.fv_split_lanes.specs.declared.lanes.Lanes.{Lanes}

-- a signal that is computed inside the code of the one that reads it
pub record IsInner (g : Graph) (s : ℕ) : Type 0 where
  pub within : s < length g.signals
  pub computed : IsComputed (node g s)
  pub sampled : rate_of g s ≡ rate.Sample
  pub alone : ¬ IsSeparated g s

-- Just the separated signals have lanes, each its own.
pub record LanesArePlaced (g : Graph) (p : Lanes) : Type 0 where
  pub long : length p.lanes.items ≡ length g.signals
  pub owned : length p.owners.items ≡ length p.signals.items
  pub named : (l : ℕ) → l < length p.signals.items → (at p.signals.items l < length g.signals) × (lane_at p.lanes.items (at p.signals.items l) ≡ Some l)
  pub has : (s l : ℕ) → lane_at p.lanes.items s ≡ Some l → IsSeparated g s × (l < length p.signals.items) × (at p.signals.items l ≡ s)
  pub all : (s : ℕ) → IsSeparated g s → (l : ℕ) × (lane_at p.lanes.items s ≡ Some l)

-- Two lanes have one loop exactly where each of their signals reaches the other, and what a lane's signal reaches has no greater loop.
pub record LoopsArePlaced (g : Graph) (p : Lanes) : Type 0 where
  pub below : (l : ℕ) → l < length p.signals.items → at p.owners.items l < p.loops
  pub together : (l m : ℕ) → l < length p.signals.items → m < length p.signals.items →
      (at p.owners.items l ≡ at p.owners.items m)
      ↔ (Reaches (links_of g) (at p.signals.items l) (at p.signals.items m) × Reaches (links_of g) (at p.signals.items m) (at p.signals.items l))
  pub order : (l m : ℕ) → l < length p.signals.items → m < length p.signals.items → Reaches (links_of g) (at p.signals.items l) (at p.signals.items m) →
      at p.owners.items m ≤ at p.owners.items l
  pub some : (j : ℕ) → j < p.loops → (l : ℕ) × (l < length p.signals.items) × (at p.owners.items l ≡ j)

-- Where signals are at home. A home that is not below loops is none.
pub record HomesArePlaced (g : Graph) (p : Lanes) : Type 0 where
  pub long : length p.homes.items ≡ length g.signals
  -- a signal with a lane is at home in its loop
  pub lanes : (l : ℕ) → l < length p.signals.items → at p.homes.items (at p.signals.items l) ≡ at p.owners.items l
  -- what is at home has a lane or is an inner signal
  pub inners : (s : ℕ) → s < length g.signals → at p.homes.items s < p.loops → IsSeparated g s ⊎ IsInner g s
  -- the inner signals that it reads are at home there too
  pub closed : (s r : ℕ) → s < length g.signals → at p.homes.items s < p.loops → ReadsSignal g s r → IsInner g r → at p.homes.items r ≡ at p.homes.items s
  -- the lanes of what it reaches have no greater loops
  pub lower : (s r l : ℕ) → s < length g.signals → at p.homes.items s < p.loops → Reaches (links_of g) s r → lane_at p.lanes.items r ≡ Some l →
      at p.owners.items l ≤ at p.homes.items s

-- the places of all signals
pub record ArePlaced (g : Graph) (p : Lanes) : Type 0 where
  pub lanes : LanesArePlaced g p
  pub loops : LoopsArePlaced g p
  pub homes : HomesArePlaced g p
