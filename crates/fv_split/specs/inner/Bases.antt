-- What each signal is to its own code, and to code that reads it.
use Rattle.std.specs.Prelude.{◌≡◌, ℕ, ◌<◌, List, length, Option, None, Some, unwrap_or}
use Rattle.fv_signal.specs.declared.signal.Signal.{Signal}
use Rattle.fv_signal.specs.declared.signal.Signal.TheVariants as signal
use Rattle.fv_signal.specs.declared.rate.Rate.{Rate}
use Rattle.fv_signal.specs.declared.rate.Rate.TheVariants as rate
use Rattle.fv_signal.specs.headline.Value.{Graph, definition}
use Rattle.fv_signal.specs.headline.Rates.{rate_at}
use Rattle.fv_components.specs.headline.Reach.{at}
use Rattle.fv_analysis.specs.headline.Stands.{node}
use Rattle.fv_split_plan.specs.Separated.{lane_at}
use Rattle.fv_split_code.specs.declared.kind.Kind.{Kind}
use Rattle.fv_split_code.specs.declared.kind.Kind.TheVariants as kind
use Rattle.fv_split_code.specs.Emits.{kind_of}

-- what a node that changes at each sample is without its lane
abbrev pub sample_base : Graph → (stands : List ℕ) → (lanes : List (Option ℕ)) → Signal → Kind
sample_base g stands lanes (signal.Input i) = kind.Input i
sample_base g stands lanes (signal.Const n) = kind.Inner
sample_base g stands lanes (signal.Control k) = kind.Inner
sample_base g stands lanes (signal.Point op args) = kind.Inner
sample_base g stands lanes (signal.Delay x d max) = kind.Inner
sample_base g stands lanes (signal.Back group i) = kind.Back (unwrap_or (lane_at lanes (at stands (definition g group i))) 0)
sample_base g stands lanes (signal.Member group i) = kind.Inner
sample_base g stands lanes (signal.Read table r) = kind.Inner
sample_base g stands lanes (signal.Write table w x r) = kind.Inner

-- what a node that is constant is without its lane: a literal is its number, and any other is the held value of this number
abbrev pub constant_base : Signal → (number : ℕ) → Kind
constant_base (signal.Input i) number = kind.Held number
constant_base (signal.Const n) number = kind.Number n
constant_base (signal.Control k) number = kind.Held number
constant_base (signal.Point op args) number = kind.Held number
constant_base (signal.Delay x d max) number = kind.Held number
constant_base (signal.Back group i) number = kind.Held number
constant_base (signal.Member group i) number = kind.Held number
constant_base (signal.Read table r) number = kind.Held number
constant_base (signal.Write table w x r) number = kind.Held number

-- what a node is without its lane: one that a control may change is the held value of this number
abbrev pub base_of : Graph → (stands : List ℕ) → (lanes : List (Option ℕ)) → Signal → Rate → (number : ℕ) → Kind
base_of g stands lanes n rate.Constant number = constant_base n number
base_of g stands lanes n rate.Control number = kind.Held number
base_of g stands lanes n rate.Sample number = sample_base g stands lanes n

-- what a signal is to code that reads it: a number or a held value is read as one, and any other signal from its lane where it has one
abbrev pub kind_with : Kind → Option ℕ → Kind
kind_with (kind.Number n) lane = kind.Number n
kind_with (kind.Held k) lane = kind.Held k
kind_with (kind.Lane m) None = kind.Lane m
kind_with (kind.Lane m) (Some l) = kind.Lane l
kind_with (kind.Input i) None = kind.Input i
kind_with (kind.Input i) (Some l) = kind.Lane l
kind_with (kind.Back m) None = kind.Back m
kind_with (kind.Back m) (Some l) = kind.Lane l
kind_with kind.Inner None = kind.Inner
kind_with kind.Inner (Some l) = kind.Lane l

-- so it is with the first n signals
pub record AreBases (g : Graph) (stands : List ℕ) (rates : List Rate) (lanes : List (Option ℕ)) (numbers : List ℕ) (n : ℕ) (bases : List Kind) : Type 0 where
  pub long : length bases ≡ n
  pub each : (s : ℕ) → s < n → kind_of bases s ≡ base_of g stands lanes (node g s) (rate_at rates s) (at numbers s)

-- so it is with the first n signals
pub record AreKinds (bases : List Kind) (lanes : List (Option ℕ)) (n : ℕ) (kinds : List Kind) : Type 0 where
  pub long : length kinds ≡ n
  pub each : (s : ℕ) → s < n → kind_of kinds s ≡ kind_with (kind_of bases s) (lane_at lanes s)
