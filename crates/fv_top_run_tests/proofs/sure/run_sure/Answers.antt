use Rattle.std.proofs.Common.{◌≡◌, ℕ, List, Option, Some, None, refl, inl}
use Rattle.std.specs.Prelude.{IsSome, option_map}
use Rattle.fv_outside.specs.Role.TheVariants.{Program, Controls, Input, Output, Report}
use Rattle.fv_outside.specs.headline.Desk.{DeskState, File, file_named}
use Rattle.fv_top.specs.Runs.{Run}
use Rattle.fv_top.specs.Commands.{Playing}
use Rattle.fv_top.specs.Sources.{found}
use Rattle.fv_top.specs.Loading.{IsThere}
use Rattle.fv_top.specs.headline.Promise.{Write, IsAnswered}
use Rattle.fv_top.specs.headline.Stages.{Turn, reads, writes, more, none}
use Rattle.fv_top_run_tests.specs.Sure.{IsSure}
use Rattle.fv_top_run_tests.proofs.sure.run_sure.Goals as goal

-- a file that has bytes is there
there : (file : Option (List ℕ)) (bytes : List ℕ) → file ≡ Some bytes → IsSome file
there file bytes e = rw e refl

some_there : (file bytes : Option (List ℕ)) → option_map Some file ≡ Some bytes → IsSome file
some_there None bytes e = absurd cc
some_there (Some b) bytes e = refl

found_there : (name : Option (List ℕ)) (files : List File) (bytes : Option (List ℕ)) → found files name ≡ Some bytes → IsThere name files
found_there None files bytes e = tt
found_there (Some name) files bytes e = some_there (file_named name files) bytes e

-- the turns of writing
answered : {words : List (List ℕ)} {run : Run} {desk : DeskState} → IsSure words run desk → (t : Turn) → IsAnswered (Playing run) desk Write t
answered sure (reads role) = sure.unfailing Input
answered sure (writes role) = (sure.unfailing Output, sure.room Output)

pub returns : goal.returns
returns g c =
    -- after the facts on the type parameters
    let sure = c.requires.1.1.1.1.1 in
    let p = sure.plays in
    c.run_faustvec.ensures.complete (Playing g.run) sure.asks sure.tells
    (more (λ t takes. inl (sure.tells, (sure.unfailing Program, there _ _ p.of.file))) p.of
    (more (λ t takes. inl (sure.tells, (sure.unfailing Controls, found_there _ _ _ p.under.file))) (p.of, p.changes, p.under)
    (more (λ t takes. inl (sure.tells, (sure.unfailing Input, found_there _ _ _ p.on.file))) (p.source, p.on)
    (more (λ t takes. absurd takes) p
    (more (λ t takes. inl (sure.tells, answered sure t)) (p, sure.whole)
    (more (λ t takes. inl (sure.tells, (sure.unfailing Report, sure.room Report))) tt none))))))
