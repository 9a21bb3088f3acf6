-- When the code of a loop fits a graph: each of its registers is for something (this project's profile).
use Rattle.std.specs.Prelude.{ℕ, List, [], ℤ}
use Rattle.fv_num.specs.headline.Frames.{Frame, Stream}
use Rattle.fv_num.specs.headline.Tables.{after}
use Rattle.fv_signal.specs.declared.signal.Signal.{Signal}
use Rattle.fv_signal.specs.declared.signal.Signal.TheVariants as signal
use Rattle.fv_signal.specs.headline.Value.{Graph, table_of, value}
use Rattle.fv_loopcode.specs.headline.Obeys.{Flows}
use Rattle.fv_analysis.specs.headline.Stands.{node}

-- The names of a plan: the signal of each lane and how much history the lane keeps; how many held values there are, and the signal
-- of each; and the signal of each cells.
pub record Names : Type 0 where
  pub lane : ℕ → ℕ
  pub history : ℕ → ℕ
  pub count : ℕ
  pub held : ℕ → ℕ
  pub cells : ℕ → ℕ

-- the list of a table that is written before time t, nothing where the node is none
abbrev pub written_by : Graph → (X : List Frame) → (c : ℕ → Stream) → Signal → (t : ℕ) → List ℤ
written_by g X c (signal.Write table w x r) t = after (table_of g table) (value g w X c) (value g x X c) t
written_by g X c _ t = []

-- what the lanes, tables and cells of a plan carry
abbrev pub flows : Graph → Names → (X : List Frame) → (c : ℕ → Stream) → Flows
flows g p X c = record {
  lanes = λ l. value g (p.lane l) X c;
  tables = table_of g;
  cells = λ k. written_by g X c (node g (p.cells k));
}
