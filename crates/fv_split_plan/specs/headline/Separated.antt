-- The separated signals of a graph, which have lanes, and what each signal reads and reaches (this project's profile).
use Rattle.std.specs.Prelude.{◌≡◌, ◌≢◌, ℕ, ◌<◌, ◌≤◌, List, [], ◌∷◌, length, take, nat_lt, if◌then◌else◌}
use Rattle.fv_num.specs.headline.Words.{inputs_of}
use Rattle.fv_signal.specs.declared.signal.Signal.{Signal}
use Rattle.fv_signal.specs.declared.signal.Signal.TheVariants.{Input, Const, Control, Point, Delay, Back, Member, Read, Write}
use Rattle.fv_signal.specs.declared.rate.Rate.TheVariants as rate
use Rattle.fv_signal.specs.headline.Value.{Graph, members, definition}
use Rattle.fv_signal.specs.headline.Rates.{rate_of}
use Rattle.fv_components.specs.headline.Reach.{Links, at}
use Rattle.fv_analysis.specs.headline.Stands.{node, stand, StandsAt}

-- the signals that a node reads
abbrev pub operands : Signal → List ℕ
operands (Point op args) = take (inputs_of op) args
operands (Delay x d max) = x ∷ d ∷ []
operands (Read table r) = r ∷ []
operands (Write table w x r) = w ∷ x ∷ r ∷ []
operands _ = []

-- what a node leads to in one step: what the member is defined as that a Back or a Member names, and what another node reads
abbrev pub found_from : Graph → Signal → List ℕ
found_from g (Back group i) = definition g group i ∷ []
found_from g (Member group i) = definition g group i ∷ []
found_from g n = operands n

-- what each signal leads to, nothing where there is no signal
abbrev pub links_of : Graph → Links
links_of g s = if nat_lt s (length g.signals) then found_from g (node g s) else []

-- signal r reads signal s, where a member stands for its definition
pub record ReadsSignal (g : Graph) (r s : ℕ) : Type 0 where
  pub within : r < length g.signals
  pub place : ℕ
  pub is_operand : place < length (operands (node g r))
  pub is : stand g (at (operands (node g r)) place) ≡ s

-- an operation, a delay or a table
abbrev pub IsComputed : Signal → Type 0
IsComputed (Point op args) = Unit {0}
IsComputed (Delay x d max) = Unit {0}
IsComputed (Read table r) = Unit {0}
IsComputed (Write table w x r) = Unit {0}
IsComputed _ = ⊥

-- Why a signal is separated: it is an output of the program; a delay that may go back reads it; it defines a member of a
-- group; it is computed at each sample and two nodes read it; or it is a table that is written.
pub data IsSeparated (g : Graph) (s : ℕ) : Type 0 where
  AsOutput : (j : ℕ) → j < length g.outputs → stand g (at g.outputs j) ≡ s → IsSeparated g s
  AsDelayed : (r x d max : ℕ) → StandsAt g r (Delay x d max) → 1 ≤ max → stand g x ≡ s → IsSeparated g s
  AsDefinition : (group i : ℕ) → group < length g.groups → i < length (members g group) → stand g (definition g group i) ≡ s → IsSeparated g s
  AsShared : (q r : ℕ) → IsComputed (node g s) → rate_of g s ≡ rate.Sample → q ≢ r → ReadsSignal g q s → ReadsSignal g r s → IsSeparated g s
  AsWritten : (table w x r : ℕ) → StandsAt g s (Write table w x r) → IsSeparated g s
