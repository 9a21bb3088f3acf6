-- Worked examples, which compute.
use Rattle.std.specs.Prelude.{◌≡◌, refl, List, [], ◌∷◌, pos, negsuc}
use Rattle.std.specs.Int.{int_wrap}
use Rattle.fv_num.specs.declared.op.Op.TheVariants.{Add, Sub, Rem}
use Rattle.fv_num.specs.headline.Frames.{Frame}
use Rattle.fv_signal.specs.declared.signal.Signal.TheVariants.{Input, Const, Control, Point, Delay, Back, Member, Read, Write}
use Rattle.fv_signal.specs.declared.rate.Rate.TheVariants as rate
use Rattle.fv_signal.specs.headline.Value.{Graph, back_by, value}
use Rattle.fv_signal.specs.headline.Rates.{rates}

-- the running sum of the input: + ~ _
abbrev running_sum : Graph
running_sum = record { signals = Input 0 ∷ Back 0 0 ∷ Point Add (1 ∷ 0 ∷ 0 ∷ 0 ∷ []) ∷ Member 0 0 ∷ []; groups = (2 ∷ []) ∷ []; tables = []; outputs = 3 ∷ [] }

-- the input less itself two samples earlier, and a control and one
abbrev difference : Graph
difference = record {
  signals = Input 0 ∷ Const (pos 2) ∷ Delay 0 1 2 ∷ Point Sub (0 ∷ 2 ∷ 2 ∷ 2 ∷ []) ∷ Control 0 ∷ Const (pos 1) ∷ Point Add
      (4 ∷ 5 ∷ 5 ∷ 5 ∷ []) ∷ [];
  groups = [];
  tables = [];
  outputs = 3 ∷ 6 ∷ [];
}

abbrev frames : List Frame
frames = (pos 5 ∷ []) ∷ (pos 7 ∷ []) ∷ (pos 4 ∷ []) ∷ []

sums : (value running_sum 3 frames (λ k t. pos 0) 0 ≡ pos 5) × (value running_sum 3 frames (λ k t. pos 0) 1 ≡ pos 12)
    × (value running_sum 3 frames (λ k t. pos 0) 2 ≡ pos 16)
unfolding int_wrap
sums = (refl, refl, refl)

differences : (value difference 3 frames (λ k t. pos 9) 1 ≡ pos 7) × (value difference 3 frames (λ k t. pos 9) 2 ≡ negsuc 0)
    × (value difference 6 frames (λ k t. pos 9) 2 ≡ pos 10)
unfolding int_wrap
differences = (refl, refl, refl)

rates_of_each : rates difference.signals ≡ rate.Sample ∷ rate.Constant ∷ rate.Sample ∷ rate.Sample ∷ rate.Control ∷ rate.Constant ∷ rate.Control ∷ []
rates_of_each = refl

-- a delay that says 3, 9 or -3, where it goes back 5 at most
goes_back : (back_by 5 (pos 3) ≡ 3) × (back_by 5 (pos 9) ≡ 5) × (back_by 5 (negsuc 2) ≡ 0)
goes_back = (refl, refl, refl)

-- a written table of two sevens on (0,1,0), (1,5,0), (0,9,1): the write and the read of one time are one step
abbrev cells : Graph
cells = record { signals = Input 0 ∷ Input 1 ∷ Input 2 ∷ Write 0 0 1 2 ∷ []; groups = []; tables = (pos 7 ∷ pos 7 ∷ []) ∷ []; outputs = 3 ∷ [] }

abbrev three : List Frame
three = (pos 0 ∷ pos 1 ∷ pos 0 ∷ []) ∷ (pos 1 ∷ pos 5 ∷ pos 0 ∷ []) ∷ (pos 0 ∷ pos 9 ∷ pos 1 ∷ []) ∷ []

writes : (value cells 3 three (λ k t. pos 0) 0 ≡ pos 1) × (value cells 3 three (λ k t. pos 0) 1 ≡ pos 1) × (value cells 3 three (λ k t. pos 0) 2 ≡ pos 5)
writes = (refl, refl, refl)

-- a waveform of three values: the item of the table at a count that begins anew
abbrev wave : Graph
wave = record {
  signals = Back 0 0 ∷ Const (pos 1) ∷ Point Add (0 ∷ 1 ∷ 0 ∷ 0 ∷ []) ∷ Const (pos 3) ∷ Point Rem (2 ∷ 3 ∷ 2 ∷ 2 ∷ []) ∷ Read 0 0 ∷ [];
  groups = (4 ∷ []) ∷ [];
  tables = (pos 10 ∷ negsuc 19 ∷ pos 30 ∷ []) ∷ [];
  outputs = 3 ∷ 5 ∷ [];
}

turns : (value wave 5 [] (λ k t. pos 0) 0 ≡ pos 10) × (value wave 5 [] (λ k t. pos 0) 1 ≡ negsuc 19)
    × (value wave 5 [] (λ k t. pos 0) 2 ≡ pos 30) × (value wave 5 [] (λ k t. pos 0) 3 ≡ pos 10)
unfolding int_wrap
turns = (refl, refl, refl, refl)
