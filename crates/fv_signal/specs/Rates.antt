-- What calls say beside `headline/Rates`: how often a signal may change (this project's profile).
use Rattle.std.specs.Prelude.{◌≡◌, ◌≢◌, ℕ, ◌<◌, List, length}
use Rattle.fv_num.specs.headline.Frames.{Frame, Stream}
use Rattle.fv_signal.specs.declared.rate.Rate.TheVariants as rate
use Rattle.fv_signal.specs.headline.Value.{Graph, value, IsOrdered}
use Rattle.fv_signal.specs.headline.Rates.{rate_of, NamesControl}

-- a constant has one value, at all samples of all runs
abbrev pub ConstantsStay : Graph → Type 0
ConstantsStay g =
    IsOrdered g → (s : ℕ) → s < length g.signals → rate_of g s ≡ rate.Constant →
    (X Y : List Frame) (c d : ℕ → Stream) (t u : ℕ) → value g s X c t ≡ value g s Y d u

-- a signal slower than the samples is the same wherever the controls are
abbrev pub ControlsDecide : Graph → Type 0
ControlsDecide g =
    IsOrdered g → (s : ℕ) → s < length g.signals → rate_of g s ≢ rate.Sample →
    (X Y : List Frame) (c d : ℕ → Stream) (t u : ℕ) → ((k : ℕ) → NamesControl g k → c k t ≡ d k u) → value g s X c t ≡ value g s Y d u
