-- Signals that are marked since they are separated.
use Rattle.std.specs.Prelude.{◌≡◌, ◌⊎◌, ◌↔◌, ℕ, ◌<◌, ◌≤◌, List, length, Bool, true}
use Rattle.fv_signal.specs.declared.signal.Signal.{Signal}
use Rattle.fv_signal.specs.declared.signal.Signal.TheVariants as signal
use Rattle.fv_signal.specs.declared.rate.Rate.{Rate}
use Rattle.fv_signal.specs.declared.rate.Rate.TheVariants as rate
use Rattle.fv_signal.specs.headline.Rates.{rate_at}
use Rattle.fv_signal.specs.headline.Value.{Graph, members}
use Rattle.fv_components.specs.headline.Reach.{at}
use Rattle.fv_analysis.specs.headline.Stands.{node}
use Rattle.fv_split_plan.specs.headline.Separated.{IsComputed, IsSeparated}
use Rattle.fv_split_plan.specs.Separated.{IsWritten}
use Rattle.fv_split_lanes.specs.declared.reader.Reader.{Reader}
use Rattle.fv_split_lanes.specs.declared.reader.Reader.TheVariants.{Many}
use Rattle.fv_split_lanes.specs.inner.Homes.{bit_at}
use Rattle.fv_split_lanes.specs.inner.Readers.{reader_at}

-- just those with P are marked more
pub record Marks (old new : List Bool) (P : ℕ → Type 0) : Type 0 where
  pub long : length new ≡ length old
  pub keeps : (s : ℕ) → bit_at old s ≡ true → bit_at new s ≡ true
  pub adds : (s : ℕ) → P s → bit_at new s ≡ true
  pub only : (s : ℕ) → bit_at new s ≡ true → (bit_at old s ≡ true) ⊎ P s

-- one of the first n places has R with s
pub record ByOne (R : ℕ → ℕ → Type 0) (n s : ℕ) : Type 0 where
  pub place : ℕ
  pub below : place < n
  pub is : R place s

-- the signal at a place stands for s
abbrev pub Named : (stands signals : List ℕ) → ℕ → ℕ → Type 0
Named stands signals k s = at stands (at signals k) ≡ s

-- a delay that may go back reads s
abbrev pub DelaysTo : (stands : List ℕ) → Signal → ℕ → Type 0
DelaysTo stands (signal.Input i) s = ⊥
DelaysTo stands (signal.Const n) s = ⊥
DelaysTo stands (signal.Control k) s = ⊥
DelaysTo stands (signal.Point op args) s = ⊥
DelaysTo stands (signal.Delay x d max) s = (1 ≤ max) × (at stands x ≡ s)
DelaysTo stands (signal.Back group i) s = ⊥
DelaysTo stands (signal.Member group i) s = ⊥
DelaysTo stands (signal.Read table r) s = ⊥
DelaysTo stands (signal.Write table w x r) s = ⊥

-- signal k does
abbrev pub Delayed : Graph → (stands : List ℕ) → ℕ → ℕ → Type 0
Delayed g stands k s = DelaysTo stands (node g k) s

-- a definition of group k stands for s
abbrev pub Defined : Graph → (stands : List ℕ) → ℕ → ℕ → Type 0
Defined g stands k s = ByOne (Named stands (members g k)) (length (members g k)) s

-- a signal is computed at each sample, and many read it
abbrev pub IsSharedBy : Signal → Rate → Reader → Type 0
IsSharedBy node often reader = IsComputed node × (often ≡ rate.Sample) × (reader ≡ Many)

-- signal k is s, and it is so
abbrev pub Shared : Graph → List Rate → List Reader → ℕ → ℕ → Type 0
Shared g rates readers k s = (k ≡ s) × IsSharedBy (node g k) (rate_at rates k) (reader_at readers k)

-- signal k is s, and a table that is written
abbrev pub Written : Graph → ℕ → ℕ → Type 0
Written g k s = (k ≡ s) × IsWritten (node g k)

-- just the separated signals are marked
pub record AreMarked (g : Graph) (marks : List Bool) : Type 0 where
  pub long : length marks ≡ length g.signals
  pub each : (s : ℕ) → (bit_at marks s ≡ true) ↔ IsSeparated g s
