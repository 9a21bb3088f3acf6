-- A block may run since its engine stands for something, and the engine stands for something afterwards.
use Rattle.std.proofs.Common.{ℕ, ◌+◌, List, length, sym, arith, ℤ, nat_lt, lt-ltb}
use Rattle.std.proofs.lemmas.Bool.{cond-true, cond-false, le-ltb}
use Rattle.fv_signal.specs.Words.{argument}
use Rattle.fv_signal.specs.Frames.{Stream}
use Rattle.fv_loopcode.specs.headline.State.{State}
use Rattle.fv_engine_tasks.specs.Block.{IsReal}
use Rattle.fv_engine.specs.inner.Plans.{NamesThere}
use Rattle.fv_engine.specs.Stands.{EngineView, StandsFor, AreGiven, AreBegun, Standing, GoesOn, continued}
use Rattle.fv_engine.proofs.Values.{GoesBehind, block_in, heard, content, values_obey, begins}
use Rattle.fv_engine.proofs.Alike.{stands_alike}
use Rattle.fv_engine.proofs.Goes.{with_state}

module _ (e : EngineView) (h : Standing e) (n : ℕ) (input controls : List ℤ) where
  -- how long the engine stood, and the controls from then on
  abbrev time : ℕ
  time = length h.frames

  abbrev d : ℕ → Stream
  d = continued h.controls time controls

  given : AreGiven controls d time n
  given k u l m = cond-false (nat_lt (time + u) time) (h.controls k (time + u)) (argument controls k) (le-ltb (time + u) time (omega arith))

  stands : StandsFor e h.graph h.plan.stands.names h.frames d
  stands = stands_alike e h.graph h.plan.stands.names h.frames h.controls d
      (λ k u l. sym (cond-true (nat_lt u time) (h.controls k u) (argument controls k) (lt-ltb u time l))) h.stands

  pub real : NamesThere e.plan e.channels (length controls) → (first : State) → AreBegun e n first → IsReal (block_in e n controls input) first
  real names first begun = record { content = content behind input; obeys = values_obey behind input; begins = begins behind input begun stands }
    where
      behind : GoesBehind e n controls h.graph h.frames d
      behind = record { plan = h.plan.stands; names = names; given = given }

  pub stands_on : (region : List ℤ) (starts : List ℕ) (cells : List (List ℤ)) (output : List ℤ)
      → GoesOn e (with_state e region starts cells) n input controls output → Standing (with_state e region starts cells)
  stands_on region starts cells output goes = record {
    graph = h.graph;
    plan = h.plan;
    frames = heard e h.frames n input;
    controls = d;
    stands = (goes h.graph h.plan.stands h.frames d stands given).1;
  }
