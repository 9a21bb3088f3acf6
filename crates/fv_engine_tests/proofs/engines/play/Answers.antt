use Rattle.std.proofs.Common.{ℕ, ◌+◌, ◌*◌, ◌≤◌, length, ap, ◌∙◌, subst, arith}
use Rattle.std.proofs.Math.Nat.{mul-le-mul_right}
use Rattle.fv_split_plan.specs.Code.{NamesHeld}
use Rattle.fv_engine.specs.Stands.{EngineView, SameParts}
use Rattle.fv_engine_tests.specs.Runs.{IsSquare}
use Rattle.fv_engine_tests.proofs.engines.play.Goals as goal

-- a part of some rows ends within them
part_end : (frame count frames width : ℕ) → frame + count ≤ frames → frame * width + count * width ≤ frames * width
part_end frame count frames width h = omega (arith, mul-le-mul_right width h)

pub slice_bounds-heard-end : goal.slice_bounds-heard-end
slice_bounds-heard-end g c =
    let n = c.min-count.result in
    let inside : c.playing.frame + n ≤ c.args.frames = omega arith in
    let e = part_end c.playing.frame n c.args.frames c.args.sizes.width inside in
    omega (arith, e, c.requires.input)

pub run_block-report-requires-clause-controls : goal.run_block-report-requires-clause-controls
run_block-report-requires-clause-controls g c κs within = λ k h.
    c.requires.engine.named k (subst (λ (e : EngineView). NamesHeld e.plan.held k) c.playing.invariant.same h)

-- an engine with the same parts is for the same frames, blocks and controls
same_square : (old new : EngineView) (width block controls : ℕ) → SameParts old new → IsSquare old width block controls →
    IsSquare new width block controls
same_square old new width block controls same is =
    record {
      channels = ap (λ (e : EngineView). e.channels) same ∙ is.channels;
      outputs = ap (λ (e : EngineView). length e.plan.outputs) same ∙ is.outputs;
      block_is = ap (λ (e : EngineView). e.block) same ∙ is.block_is;
      named = λ k h. is.named k (subst (λ (e : EngineView). NamesHeld e.plan.held k) same h);
    }

pub returns : goal.returns
returns g c =
    same_square c.args.engine.now c.playing.engine c.args.sizes.width c.args.sizes.block (length c.args.controls.now) c.playing.invariant.same
    c.requires.engine
