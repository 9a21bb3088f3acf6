use Rattle.std.proofs.Common.{◌≡◌, ℕ, length, take, ◌∙◌, arith}
use Rattle.std.proofs.lemmas.List.{length-take}
use Rattle.fv_engine_tasks.specs.Outputs.{sample_of}
use Rattle.fv_engine_tasks.proofs.Copies.{strip_more}
use Rattle.fv_engine_tasks.proofs.outputs.copy_lane.Goals as goal

pub strips-preserved : goal.strips-preserved
strips-preserved g c =
    let w : ℕ = c.args.width in
    let p : ℕ = c.args.place in
    let from : ℕ = c.strips.from in
    let count : ℕ = c.min-count.result in
    let many : length (take count c.strips.row) ≡ count = length-take count c.strips.row ∙ (omega (arith, c.min-count.array_long, c.min-count.ensures)) in
    record {
      inside = omega (arith, c.min-count.ensures, c.strips-test.true);
      put = strip_more from count w p c.strips.output c.copy_strip.new.output
          (λ (t : ℕ). sample_of (g.S.Store.state c.args.store.now).lanes t c.args.lane)
          (λ k l. c.copy_strip.ensures.put k (omega (arith, many, l)))
          (λ t l. c.copy_strip.ensures.others t p c.requires.inside (λ _ before. absurd (omega (arith, before, l))))
          c.strips.invariant.put;
      others = λ t j inside apart. c.copy_strip.ensures.others t j inside (λ same _. apart same) ∙ c.strips.invariant.others t j inside apart;
    }
