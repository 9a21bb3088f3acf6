-- A file of which no more than one byte past its limit was read.
use Rattle.std.proofs.Common.{◌≡◌, ℕ, ◌<◌, ◌≤◌, List, length, take, refl, sym, ap, ◌∙◌, arith, length-take, Err, ⊎_elim}
use Rattle.std.proofs.lemmas.Bool.{cases_lt, lt-leb}
use Rattle.std.proofs.lemmas.List.{take_all}
use Rattle.fv_base.specs.declared.limits.TheConstants.{LONGEST_TEXT}
use Rattle.fv_base.specs.declared.role.Role.TheVariants.{Program}
use Rattle.fv_jobs.specs.declared.refusal.JobsRefusal.TheVariants.{TextTooLong}
use Rattle.fv_jobs.specs.headline.File.{jobs_file}
use Rattle.fv_jobs.specs.File.{bytes_read, FrontIsEnough, JobsAreWhole}

too_long : (bytes : List ℕ) → LONGEST_TEXT < length bytes → jobs_file bytes ≡ Err (TextTooLong Program)
too_long bytes h = let t = lt-leb (length bytes) LONGEST_TEXT h in rw t refl

-- what is read of a file that is too long is too long
long_front : (file bytes : List ℕ) → bytes ≡ take bytes_read file → LONGEST_TEXT < length file → LONGEST_TEXT < length bytes
long_front file bytes e h = omega (arith, ap length e, length-take bytes_read file)

short_front : (file bytes : List ℕ) → bytes ≡ take bytes_read file → length file ≤ LONGEST_TEXT → file ≡ bytes
short_front file bytes e h = sym (e ∙ take_all bytes_read file (omega arith))

pub same : FrontIsEnough
same file bytes e =
    ⊎_elim (λ (w : LONGEST_TEXT < length file). too_long file w ∙ sym (too_long bytes (long_front file bytes e w)))
    (λ (w : length file ≤ LONGEST_TEXT). ap jobs_file (short_front file bytes e w)) (cases_lt LONGEST_TEXT (length file))

pub whole : JobsAreWhole
whole file bytes jobs e r =
    ⊎_elim (λ (w : LONGEST_TEXT < length file). let long = too_long bytes (long_front file bytes e w) in absurd cc)
    (λ (w : length file ≤ LONGEST_TEXT). short_front file bytes e w) (cases_lt LONGEST_TEXT (length file))
