-- A block leads from an engine that stands for its frames to one that does.
use Rattle.std.proofs.Common.{◌≡◌, ℕ, ◌+◌, ◌*◌, ◌<◌, ◌≤◌, List, length, sym, ap, ◌∙◌, subst, arith, ℤ}
use Rattle.fv_signal.specs.Words.{argument}
use Rattle.fv_signal.specs.Frames.{Frame, Stream, table, rows}
use Rattle.fv_base.proofs.lemmas.Lists.{table_same}
use Rattle.fv_signal.specs.headline.Value.{Graph, value}
use Rattle.fv_analysis.proofs.lemmas.StandLemmas.{stands_alike}
use Rattle.fv_loopcode.specs.headline.State.{State, list_at}
use Rattle.fv_outside.specs.headline.Tasks.{Tasks}
use Rattle.fv_outside.specs.declared.gate.Line.{Line}
use Rattle.fv_split_plan.specs.Reach.{at}
use Rattle.fv_split_plan.specs.headline.Plans.{PlanStands}
use Rattle.fv_engine_tasks.specs.headline.Block.{vectors_of}
use Rattle.fv_engine_tasks.specs.Block.{HoldUpTo}
use Rattle.fv_engine_tasks.specs.Outputs.{sample_of}
use Rattle.fv_engine_tasks.specs.Underway.{EndsBlock}
use Rattle.fv_engine_tasks.proofs.lemmas.Numbers.{enough}
use Rattle.fv_engine.specs.inner.Plans.{NamesThere}
use Rattle.fv_engine.specs.Stands.{EngineView, StandsFor, AreGiven, GoesOn, AreBegun, AreEnded, played}
use Rattle.fv_engine.proofs.Values.{GoesBehind, block_in, heard, content, values_obey, begins, sample_is, next_past, next_items}

-- an engine with this region, these starts and these cells
abbrev pub with_state : EngineView → (region : List ℤ) → (starts : List ℕ) → (cells : List (List ℤ)) → EngineView
with_state e region starts cells = record e { region = region; starts = starts; cells = cells }

-- a block of n frames ran between these states, and the engine then has this region, these starts and these cells
pub record HasRun (old : EngineView) (region : List ℤ) (starts : List ℕ) (cells : List (List ℤ)) (n : ℕ) (input controls output : List ℤ) (tasks : Tasks)
    (first now : State) (lines : List Line) : Type 0 where
  pub names : NamesThere old.plan old.channels (length controls)
  pub some : 1 ≤ old.vector
  pub loops : tasks.loops ≡ old.plan.loops
  pub vectors : tasks.vectors ≡ vectors_of n old.vector
  pub begun : AreBegun old n first
  pub ends : EndsBlock tasks (block_in old n controls input) first now lines
  pub ended : AreEnded (with_state old region starts cells) n now
  pub samples : (t j : ℕ) → t < n → j < length old.plan.outputs
      → argument output (t * length old.plan.outputs + j) ≡ sample_of now.lanes t (at old.plan.outputs j)

module _ {old : EngineView} {region : List ℤ} {starts : List ℕ} {cells : List (List ℤ)} {n : ℕ} {input controls output : List ℤ} {tasks : Tasks}
    {first now : State} {lines : List Line} (run : HasRun old region starts cells n input controls output tasks first now lines) where
  module _ (g : Graph) (s : PlanStands g old.plan) (X : List Frame) (c : ℕ → Stream) (stands : StandsFor old g s.names X c)
      (given : AreGiven controls c (length X) n) where
    abbrev all : List Frame
    all = heard old X n input

    abbrev behind : GoesBehind old n controls g X c
    behind = record { plan = s; names = run.names; given = given }

    full : (j : ℕ) → j < old.plan.loops → n ≤ run.ends.vectors j * old.vector
    full j l =
        let every = run.ends.all j (omega (arith, run.loops, l)) ∙ run.vectors in
        subst (λ v. n ≤ v * old.vector) (sym every) (enough n old.vector run.some)

    holds : HoldUpTo (block_in old n controls input) (content behind input) run.ends.vectors now
    holds = run.ends.holds (content behind input) (values_obey behind input) (begins behind input run.begun stands)

    -- sample j of frame t, and its signal's value
    abbrev out : ℕ → ℕ → ℤ
    out t j = argument output (t * length g.outputs + j)

    abbrev wanted : ℕ → ℕ → ℤ
    wanted t j = value g (at g.outputs j) all c (length X + t)

    sample : (t j : ℕ) → t < n → j < length g.outputs → out t j ≡ wanted t j
    sample t j l m =
        let w = s.outputs.0 in let e = s.ends j m in
        ap (λ (k : ℕ). argument output (t * k + j)) (sym w) ∙ run.samples t j l (omega (arith, w, m))
        ∙ sample_is behind input full holds (at old.plan.outputs j) t e.1 l
        ∙ ap (λ (x : ℕ). value g x all c (length X + t)) (s.outputs.1 j m) ∙ stands_alike g s.graph.ordered (at g.outputs j) e.0 all c (length X + t)

    samples : rows (length g.outputs) n output ≡ played g all c (length X) n
    samples = table_same n (λ t. table (length g.outputs) (out t)) (λ t. table (length g.outputs) (wanted t))
        (λ t l. table_same (length g.outputs) (out t) (wanted t) (λ j m. sample t j l m))

    stands_then : StandsFor (with_state old region starts cells) g s.names all c
    stands_then = record {
      histories = λ l i. run.ended.items l i ∙ next_past behind input full holds l i;
      cells = λ k i. ap (λ lists. list_at lists k) (sym run.ended.cells) ∙ next_items behind input full holds k i;
    }

  pub goes_on : GoesOn old (with_state old region starts cells) n input controls output
  goes_on g s X c stands given = (samples g s X c stands given, stands_then g s X c stands given)
