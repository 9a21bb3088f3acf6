-- A file of each kind is one thing, and its first bytes are enough.
use Rattle.std.proofs.Common.{◌≡◌, ℕ, List, take, Ok, Err, refl, sym, ◌∙◌}
use Rattle.std.specs.Prelude.{Result}
use Rattle.fv_jobs.specs.File.{FrontIsEnough as JobsFront, JobsAreWhole, bytes_read}
use Rattle.fv_top_words.specs.declared.manner.ProgramKind.TheVariants.{Alone, Rack}
use Rattle.fv_top_report.specs.declared.refusal.Refusal.{Refusal}
use Rattle.fv_top_report.specs.headline.Layers.{of_jobs}
use Rattle.fv_top_program.specs.headline.Answers.{Then, Turned, kept, turned}
use Rattle.fv_top_program.specs.Answers.{IsOnce, IsSome, RefusesOthers}
use Rattle.fv_top_program.specs.headline.Compiled.{Compiled}
use Rattle.fv_top_program.specs.headline.Program.{delayed, delays_in, first_bad, narrow}
use Rattle.fv_top_program.specs.inner.Layers.{Delayed, Narrow}
use Rattle.fv_top_program.specs.Program.{IsOneText, IsSomeText, IsOneOrOther as TextOneOrOther}
use Rattle.fv_top_program.specs.Program.{FrontIsEnough as TextFront, ProgramIsWhole as TextIsWhole}
use Rattle.fv_top_program.proofs.lemmas.AnswerLaws.{kept_is, then_once, then_refuses, then_some, turned_once, turned_some}
use Rattle.fv_top_program.proofs.lemmas.Texts.{then_front}
use Rattle.fv_top_program.specs.headline.Racks.{EachIs, RackIs, rack_of}
use Rattle.fv_top_program.specs.inner.RackLayers.{Beside, JobsAre, JobsHave}
use Rattle.fv_top_program.specs.Kinds.{FrontIsEnough, IsOneFile, IsSomeFile, IsOneOrOther, ProgramIsWhole}
use Rattle.fv_top_program.proofs.Each.{each_once, each_some, then_parts}

abbrev Any : List ℕ → Type 0
Any file = Unit {0}

-- ---- a file of jobs is one thing

rack_once : IsOneText → IsOnce RackIs
rack_once once =
    let jobs = turned_once of_jobs JobsAre (λ file r s h k. sym h ∙ k) in
    let have = then_once (Turned of_jobs JobsAre) (EachIs 0) jobs (each_once once 0) in
    let rack = then_once JobsHave Beside have (λ ps r s h k. sym h ∙ k) in
    let sum = then_once (Then JobsHave Beside) Delayed rack (λ p r s h k. sym h ∙ k) in
    then_once (Then (Then JobsHave Beside) Delayed) Narrow sum (λ p r s h k. sym h ∙ k)

narrow_by : (p : Compiled) (r : Result Compiled Refusal) → narrow p ≡ r → ((a : Compiled) → Narrow p (Ok a) → ⊥) → (e : Refusal) × Narrow p (Err e)
narrow_by p (Ok a) is none = absurd (none a is)
narrow_by p (Err e) is none = (e, is)

sum_some : IsSomeText → IsSome Any (Then (Then JobsHave Beside) Delayed)
sum_some some =
    let jobs = turned_some of_jobs Any JobsAre (λ file u. (_, refl)) in
    let have = then_some Any (Turned of_jobs JobsAre) (EachIs 0) jobs (λ file ts u h. each_some some 0 ts tt) in
    let rack = then_some Any JobsHave Beside have (λ file ps u h. (Ok (rack_of ps), refl)) in
    then_some Any (Then JobsHave Beside) Delayed rack (λ file p u h. (delayed p (first_bad (delays_in p)), refl))

rack_some : IsSomeText → IsSome Any RackIs
rack_some some = then_some Any (Then (Then JobsHave Beside) Delayed) Narrow (sum_some some) (λ file p u h. (narrow p, refl))

rack_others : IsSomeText → RefusesOthers RackIs
rack_others some = then_refuses (Then (Then JobsHave Beside) Delayed) Narrow (sum_some some) (λ p none. narrow_by p (narrow p) refl none)

pub one_file : IsOneText → IsOneFile
one_file once Alone = once
one_file once Rack = rack_once once

pub some_file : IsSomeText → IsSomeFile
some_file some Alone = some
some_file some Rack = rack_some some

pub one_or_other : TextOneOrOther → IsSomeText → IsOneOrOther
one_or_other others some Alone = others
one_or_other others some Rack = rack_others some

-- ---- its first bytes are enough

jobs_front : JobsFront → (file bytes : List ℕ) → bytes ≡ take bytes_read file → (r : Result (List (List ℕ)) Refusal) → Turned of_jobs JobsAre bytes r
    → Turned of_jobs JobsAre file r
jobs_front front file bytes e r (kept a h) = kept a (front file bytes e ∙ h)
jobs_front front file bytes e r (turned f h) = turned f (front file bytes e ∙ h)

rack_front : JobsFront → (file bytes : List ℕ) (r : Result Compiled Refusal) → bytes ≡ take bytes_read file → RackIs bytes r → RackIs file r
rack_front front file bytes r e h =
    then_front (Then (Then JobsHave Beside) Delayed) Narrow bytes file
    (then_front (Then JobsHave Beside) Delayed bytes file
    (then_front JobsHave Beside bytes file
    (then_front (Turned of_jobs JobsAre) (EachIs 0) bytes file (jobs_front front file bytes e))))
    r h

rack_whole : JobsAreWhole → (file bytes : List ℕ) (p : Compiled) → bytes ≡ take bytes_read file → RackIs bytes (Ok p) → file ≡ bytes
rack_whole whole file bytes p e h =
    let wide = then_parts (Then (Then JobsHave Beside) Delayed) Narrow bytes p (Ok p) refl h in
    let sum = then_parts (Then JobsHave Beside) Delayed bytes wide.0 (Ok wide.0) refl wide.1 in
    let rack = then_parts JobsHave Beside bytes sum.0 (Ok sum.0) refl sum.1 in
    let have = then_parts (Turned of_jobs JobsAre) (EachIs 0) bytes rack.0 (Ok rack.0) refl rack.1 in
    whole file bytes have.0 e (kept_is of_jobs JobsAre bytes have.0 have.1)

pub front_is_enough : TextFront → JobsFront → FrontIsEnough
front_is_enough text jobs Alone file bytes r e h = text file bytes r e h
front_is_enough text jobs Rack file bytes r e h = rack_front jobs file bytes r e h

pub program_is_whole : TextIsWhole → JobsAreWhole → ProgramIsWhole
program_is_whole text jobs Alone file bytes p e h = text file bytes p e h
program_is_whole text jobs Rack file bytes p e h = rack_whole jobs file bytes p e h
