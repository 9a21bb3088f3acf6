-- Code that is emitted for a loop, step by step.
use Rattle.std.specs.Prelude.{◌≡◌, ℕ, ◌<◌, ◌≤◌, List, [], ◌∷◌, ◌++◌, length, slice_index_or, Bool, true, false, ◌&&◌, nat_lt, nat_eq}
use Rattle.fv_signal.specs.declared.signal.Signal.TheVariants as signal
use Rattle.fv_signal.specs.headline.Value.{Graph, definition}
use Rattle.fv_loopcode.specs.declared.step.Step.{Step}
use Rattle.fv_loopcode.specs.headline.Obeys.{Roles, Place, OfLane, nothing, done_after}
use Rattle.fv_split_plan.specs.Reach.{at}
use Rattle.fv_analysis.specs.headline.Stands.{stand, StandsAt}
use Rattle.fv_split_plan.specs.headline.Fits.{Names}
use Rattle.fv_split_plan.specs.Fits.{Mean, Value, mean_at, IsAlways, StepFits}
use Rattle.fv_split_code.specs.declared.kind.Kind.{Kind}
use Rattle.fv_split_code.specs.declared.kind.Kind.TheVariants as kind

-- Code so far: each step has a use, and in the end the registers have these means, and these places were changed.
abbrev pub FitsUpTo : Graph → Names → Roles → (done : Place → Bool) → List Mean → List Step → (ends : List Mean) → (ended : Place → Bool) → Type 0
FitsUpTo g p r done ms [] ends ended = (ends ≡ ms) × (ended ≡ done)
FitsUpTo g p r done ms (s ∷ ss) ends ended = (m : Mean) × StepFits g p r done ms s m × FitsUpTo g p r (done_after done s) (ms ++ m ∷ []) ss ends ended

-- The code so far serves: its steps have these uses, and the registers of the signals that are known mean them.
pub record Serves (g : Graph) (p : Names) (r : Roles) (known : ℕ → Bool)
    (regs : List ℕ) (steps : List Step) (means : List Mean) (ended : Place → Bool) : Type 0 where
  pub fits : FitsUpTo g p r nothing [] steps means ended
  pub there : (q : ℕ) → known q ≡ true → (at regs q < length means) × (mean_at means (at regs q) ≡ Value q)

-- what a signal is to the loops
abbrev pub KindFits : Graph → Names → Kind → ℕ → Type 0
KindFits g p (kind.Number n) s = IsAlways g s n
KindFits g p (kind.Held k) s = (k < p.count) × (p.held k ≡ s)
KindFits g p (kind.Lane l) s = p.lane l ≡ s
KindFits g p (kind.Input i) s = StandsAt g s (signal.Input i)
KindFits g p (kind.Back l) s =
    (group i : ℕ) × StandsAt g s (signal.Back group i) × (definition g group i < length g.signals)
    × (stand g (definition g group i) ≡ p.lane l) × (1 ≤ p.history l)
KindFits g p kind.Inner s = Unit {0}

-- it has to be known, where its register is read
abbrev pub IsKnown : Roles → (known : ℕ → Bool) → Kind → ℕ → Type 0
IsKnown r known (kind.Number n) s = Unit {0}
IsKnown r known (kind.Held k) s = Unit {0}
IsKnown r known (kind.Lane l) s = r.own (OfLane l) ≡ true → known s ≡ true
IsKnown r known (kind.Input i) s = Unit {0}
IsKnown r known (kind.Back l) s = Unit {0}
IsKnown r known kind.Inner s = known s ≡ true

-- the lane of a signal may be loaded, where its kind is to be loaded
abbrev pub IsLoaded : Roles → Kind → Type 0
IsLoaded r (kind.Number n) = Unit {0}
IsLoaded r (kind.Held k) = Unit {0}
IsLoaded r (kind.Lane l) = r.own (OfLane l) ≡ false → r.loaded l ≡ true
IsLoaded r (kind.Input i) = Unit {0}
IsLoaded r (kind.Back l) = r.loaded l ≡ true
IsLoaded r kind.Inner = Unit {0}

-- The code has grown so that register w means signal s: whatever it served before it serves now.
abbrev pub MeansNow : List ℕ → (old new : List Step) → (s w : ℕ) → Kind → (own : ℕ → Bool) → Type 0
MeansNow regs old new s w k own =
    (g : Graph) (p : Names) (r : Roles) (known : ℕ → Bool) (means : List Mean) (ended : Place → Bool) →
    ((l : ℕ) → r.own (OfLane l) ≡ own l) → IsLoaded r k → KindFits g p k s → IsKnown r known k s → Serves g p r known regs old means ended →
    (more : List Mean) × Serves g p r known regs new (means ++ more) ended × (mean_at (means ++ more) w ≡ Value s) × (w < length (means ++ more))

-- the lanes of a loop
abbrev pub owned_by : (owners : List ℕ) → (j : ℕ) → ℕ → Bool
owned_by owners j l = nat_lt l (length owners) && nat_eq (at owners l) j

-- the kind's lane is there
abbrev pub IsKindWithin : (lanes : ℕ) → Kind → Type 0
IsKindWithin n (kind.Number k) = Unit {0}
IsKindWithin n (kind.Held k) = Unit {0}
IsKindWithin n (kind.Lane l) = l < n
IsKindWithin n (kind.Input i) = Unit {0}
IsKindWithin n (kind.Back l) = Unit {0}
IsKindWithin n kind.Inner = Unit {0}

-- what the signal at a place of the list is
abbrev pub kind_of : List Kind → ℕ → Kind
kind_of kinds s = slice_index_or kinds s kind.Inner

-- The code has grown so that each of the first n registers means the signal at its place: whatever it served before it serves now.
abbrev pub MeanNow : List Kind → List ℕ → (old new : List Step) → (signals found : List ℕ) → (n : ℕ) → (own : ℕ → Bool) → Type 0
MeanNow kinds regs old new signals found n own =
    (g : Graph) (p : Names) (r : Roles) (known : ℕ → Bool) (means : List Mean) (ended : Place → Bool) →
    ((l : ℕ) → r.own (OfLane l) ≡ own l) →
    ((k : ℕ) → k < n →
    KindFits g p (kind_of kinds (at signals k)) (at signals k) × IsKnown r known (kind_of kinds (at signals k)) (at signals k)
    × IsLoaded r (kind_of kinds (at signals k))) →
    Serves g p r known regs old means ended →
    (more : List Mean) × Serves g p r known regs new (means ++ more) ended
    × ((k : ℕ) → k < n → (at found k < length (means ++ more)) × (mean_at (means ++ more) (at found k) ≡ Value (at signals k)))

-- the registers of the first n of four operands, and 0 for the others
pub record AreFound (found : List ℕ) (n : ℕ) : Type 0 where
  pub four : length found ≡ 4
  pub rest : (k : ℕ) → n ≤ k → at found k ≡ 0
