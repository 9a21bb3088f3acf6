use Rattle.std.proofs.Common.{ℕ, ◌≤◌, List, length, take, All, arith}
use Rattle.std.specs.List.{sum_by}
use Rattle.std.proofs.lemmas.List.Sums.{sum_by-le, sum_by-take-le}
use Rattle.fv_base.specs.declared.limits.TheConstants.{MOST_CHANNELS}
use Rattle.fv_diagram.specs.headline.Diagram.{inputs, outputs}
use Rattle.fv_top_program.specs.Compiled.{compiled_of}
use Rattle.fv_top_program.specs.declared.programs.Read.{Read}
use Rattle.fv_top_program.proofs.jobs.arity_of.Goals as goal

-- the channels of first programs are few
few : (f : Read → ℕ) (rs : List Read) (n : ℕ) → All (λ r. f r ≤ MOST_CHANNELS) rs → length rs ≤ 16 → sum_by f (take n rs) ≤ 4096
few f rs n h most = omega (arith, sum_by-take-le f rs n, sum_by-le f MOST_CHANNELS rs h, most)

pub overflow_add-inputs : goal.overflow_add-inputs
overflow_add-inputs c =
    let rs = c.args.reads.now in
    let sum = few (λ (r : Read). inputs (compiled_of r.program).diagram) rs c.loop-read.read-index (λ k d l. let r = c.requires.read k d l in r.plays.narrow)
    c.requires.few in
    let is = c.loop-read.invariant.inputs in
    let most = c.arity-arity.ensures.inputs in omega (arith, sum, is, most)

pub overflow_add-outputs : goal.overflow_add-outputs
overflow_add-outputs c =
    let rs = c.args.reads.now in
    let sum = few (λ (r : Read). outputs (compiled_of r.program).diagram) rs c.loop-read.read-index (λ k d l. let r = c.requires.read k d l in r.plays.few)
    c.requires.few in
    let is = c.loop-read.invariant.outputs in
    let most = c.arity-arity.ensures.outputs in omega (arith, sum, is, most)
