-- How often a signal may change (this project's profile).
use Rattle.std.specs.Prelude.{◌≡◌, ℕ, ◌<◌, List, [], ◌∷◌, length, take, map, slice_index_or, pos}
use Rattle.fv_num.specs.headline.Words.{inputs_of}
use Rattle.fv_signal.specs.declared.signal.Signal.{Signal}
use Rattle.fv_signal.specs.declared.signal.Signal.TheVariants.{Input, Const, Control, Point, Delay, Back, Member, Read, Write}
use Rattle.fv_signal.specs.declared.rate.Rate.{Rate}
use Rattle.fv_signal.specs.declared.rate.Rate.TheVariants as rate
use Rattle.fv_signal.specs.headline.Grown.{grown}
use Rattle.fv_signal.specs.headline.Value.{Graph}

-- the faster of two rates, where a constant is the slowest
abbrev pub faster : Rate → Rate → Rate
faster rate.Constant r = r
faster rate.Control rate.Constant = rate.Control
faster rate.Control rate.Control = rate.Control
faster rate.Control rate.Sample = rate.Sample
faster rate.Sample r = rate.Sample

-- the fastest of all
abbrev pub fastest : List Rate → Rate
fastest [] = rate.Constant
fastest (r ∷ rs) = faster r (fastest rs)

-- A signal's rate, from the rates of its operands. An operation has the fastest of theirs, and an item of a table that of its
-- index. What passes through a delay, a group or a table that is written is of rate sample.
abbrev pub rate_in : (ℕ → Rate) → Signal → Rate
rate_in r (Input i) = rate.Sample
rate_in r (Const n) = rate.Constant
rate_in r (Control k) = rate.Control
rate_in r (Point op args) = fastest (map r (take (inputs_of op) args))
rate_in r (Delay x d max) = rate.Sample
rate_in r (Back group i) = rate.Sample
rate_in r (Member group i) = rate.Sample
rate_in r (Read table i) = r i
rate_in r (Write table w x i) = rate.Sample

-- the rate of signal s
abbrev pub rate_at : List Rate → ℕ → Rate
rate_at rs s = slice_index_or rs s rate.Sample

-- the rates of a graph's signals
abbrev pub rates : List Signal → List Rate
rates ss = grown (λ now. rate_in (rate_at now)) [] ss

-- the rate of a graph's signal
abbrev pub rate_of : Graph → ℕ → Rate
rate_of g s = rate_at (rates g.signals) s

-- the graph names the control
pub record NamesControl (g : Graph) (k : ℕ) : Type 0 where
  pub place : ℕ
  pub within : place < length g.signals
  pub is : slice_index_or g.signals place (Const (pos 0)) ≡ Control k
