-- What the places hold when a block is done.
use Rattle.std.proofs.Common.{◌≡◌, ℕ, ◌+◌, ◌*◌, ◌<◌, List, length, ap, ◌∙◌, arith, All, get_or}
use Rattle.fv_outside.specs.headline.Tasks.{Tasks}
use Rattle.fv_outside.specs.declared.gate.Line.{Line}
use Rattle.fv_loopcode.specs.headline.Lanes.{lane_of}
use Rattle.fv_loopcode.specs.headline.State.{State}
use Rattle.fv_loopcode.specs.headline.Obeys.{OfLane}
use Rattle.fv_engine_tasks.specs.headline.Block.{vectors_of}
use Rattle.fv_engine_tasks.specs.Block.{Block, IsReal, HoldUpTo}
use Rattle.fv_engine_tasks.specs.Jobs.{IsJob}
use Rattle.fv_engine_tasks.specs.Outputs.{CanRead}
use Rattle.fv_engine_tasks.specs.Underway.{EndsBlock}
use Rattle.fv_engine_tasks.proofs.lemmas.Numbers.{enough}

-- a block that is done
pub record IsDone (g : Tasks) (b : Block) (first now : State) (lines : List Line) : Type 0 where
  pub job : IsJob b g
  pub real : IsReal b first
  pub ends : EndsBlock g b first now lines

module _ {g : Tasks} {b : Block} {first now : State} {lines : List Line} (done : IsDone g b first now lines) where
  holds : HoldUpTo b done.real.content done.ends.vectors now
  holds = done.ends.holds done.real.content done.real.obeys done.real.begins

  -- a lane's list is its history and the block's samples
  pub lane_full : (l : ℕ) → l < b.plan.lanes → length (lane_of now.lanes l).items ≡ (lane_of now.lanes l).history + b.frames
  lane_full l i =
      let o = done.job.owned l i in let h = holds.holds o.0 (OfLane l) o.2 in
      let all = done.ends.all o.0 (omega (arith, done.job.loops, o.1)) ∙ done.job.vectors in
      let v : done.ends.vectors o.0 * b.vector ≡ vectors_of b.frames b.vector * b.vector = ap (λ n. n * b.vector) all in
      let e = enough b.frames b.vector done.job.vector in omega (arith, h.just, h.holds.history, v, e)

  pub can_read : (t : ℕ) → t < b.frames → (lanes : List ℕ) → All (λ l. l < b.plan.lanes) lanes → All (CanRead now.lanes t) lanes
  can_read t m lanes h = λ k d i.
      let f = lane_full (get_or lanes k d) (h k d i) in
      (omega (arith, done.ends.long, h k d i), record { not_before = omega arith; written = omega (arith, f, m) })
