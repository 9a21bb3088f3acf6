-- What is known once samples were read of an input, in each coding.
use Rattle.std.proofs.Common.{◌≡◌, ℕ, ◌+◌, ◌*◌, ◌/◌, ◌≤◌, ◌<◌, List, length, sym, ap, ◌∙◌, arith, ℤ}
use Rattle.fv_base.specs.declared.role.Role.TheVariants.{Input}
use Rattle.fv_outside.specs.headline.Desk.{DeskState}
use Rattle.fv_pcm.specs.declared.coding.Coding.{Coding}
use Rattle.fv_pcm.specs.Coded.{samples_in}
use Rattle.fv_pcm.specs.Reads.{HasRead}
use Rattle.fv_pcm.proofs.lemmas.Reads.{all_taken}
use Rattle.fv_wav.specs.Stopping.{Passes, IsSaid}

-- all samples that were asked for were read
pub all_read : {c : Coding} {bits n : ℕ} {to : List ℤ} {a b : DeskState} (asked : List ℤ) → HasRead c bits n to a b → length to ≡ length asked
    → n ≤ length to * (bits / 8) → length asked * (bits / 8) ≤ n
    → Passes (length to * (bits / 8)) (to ≡ samples_in c bits (length to) (a.left Input)) a b
all_read {bits = bits} {n = n} {to = to} asked r same few enough =
    let wide : length to * (bits / 8) ≡ length asked * (bits / 8) = ap (λ (k : ℕ). k * (bits / 8)) same in
    let all : n ≡ length to * (bits / 8) = omega (arith, wide, few, enough) in
    record { bytes = r.bytes; long = r.long ∙ all; takes = r.takes; steady = r.steady; told = λ t. r.whole all t }

-- the input ended within them: a refusal that names a place names that of its end
pub ended_within : {c : Coding} {bits n : ℕ} {to : List ℤ} {a b : DeskState} {Refusal : Type 0} (refusal : ℕ → Refusal) (place : ℕ) (asked : List ℤ)
    → HasRead c bits n to a b → length to ≡ length asked → n < length asked * (bits / 8)
    → IsSaid ((length (a.left Input) < length to * (bits / 8)) × (refusal (place + n) ≡ refusal (place + length (a.left Input)))) a b
ended_within {bits = bits} {n = n} {to = to} refusal place asked r same short =
    let wide : length to * (bits / 8) ≡ length asked * (bits / 8) = ap (λ (k : ℕ). k * (bits / 8)) same in
    let within : n < length to * (bits / 8) = omega (arith, wide, short) in
    record {
      steady = r.steady;
      told = λ t. let k = all_taken r within t in (omega (arith, k, within), ap (λ (m : ℕ). refusal (place + m)) (sym k));
    }
