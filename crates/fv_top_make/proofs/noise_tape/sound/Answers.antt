use Rattle.std.proofs.Common.{◌≡◌, suc, ◌+◌, ℤ, pos, ◌∷◌, [], ◌++◌, length, take, sym, ap, ap₂, ◌∙◌, rules, arith, SFits, w32, to_z, of_z, to_z-of_z}
use Rattle.std.proofs.Math.Seq.{take-suc-set}
use Rattle.std.specs.Prelude.{slice_set}
use Rattle.std.proofs.lemmas.List.{length-set}
use Rattle.fv_num.specs.headline.Words.{shifted_right}
use Rattle.fv_top_make.specs.headline.Made.{next_state, noise_behind}
use Rattle.fv_top_make.specs.Made.{state_behind}
use Rattle.fv_top_make.proofs.Sounding.{noise_more, state_more}
use Rattle.fv_top_make.proofs.noise_tape.sound.Goals as goal

pub sounding-preserved : goal.sounding-preserved
sounding-preserved c =
    let s = c.args.noise.now.state in
    let i = c.sounding.i in
    let xs = c.sounding.to in
    let inv = c.sounding.invariant in
    let test = c.sounding-test.true in
    let one : i + 1 ≡ suc i = omega arith in
    let state_fits : SFits w32 c.next_state-state.result = search rules in
    let sample_fits : SFits w32 c.apply.result = search rules in
    let y = to_z w32 (of_z w32 c.apply.result) in
    let z = to_z w32 (of_z w32 c.next_state-state.result) in
    let next : c.next_state-state.result ≡ next_state (state_behind s i) = c.next_state-state.ensures ∙ ap next_state inv.state in
    let sample : c.apply.result ≡ shifted_right c.next_state-state.result (pos 16) = simp to_z-of_z at c.apply.ensures in
    let long : length (slice_set xs i y) ≡ length xs = length-set xs i y in
    record {
      within = omega (arith, long, test);
      long = long ∙ inv.long;
      heard = ap (λ k. take k (slice_set xs i y)) one ∙ take-suc-set xs i y test
          ∙ ap₂ (λ ys (a : ℤ). ys ++ a ∷ []) inv.heard (to_z-of_z sample_fits ∙ sample ∙ ap (λ (t : ℤ). shifted_right t (pos 16)) next)
          ∙ sym (ap (noise_behind s) one ∙ noise_more s i);
      state = to_z-of_z state_fits ∙ next ∙ sym (ap (state_behind s) one ∙ state_more s i);
    }
