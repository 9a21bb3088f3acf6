-- A file that was read to its end.
use Rattle.std.proofs.Common.{◌≡◌, ◌≢◌, ℕ, ◌≤◌, ◌<◌, List, [], length, take, drop, sym, ◌∙◌, ap, arith, refl, ⊎_elim}
use Rattle.std.specs.Prelude.{IsTrue, IsSome, Some, Ok, Err}
use Rattle.std.proofs.lemmas.Bool.{cases_lt, lt-leb}
use Rattle.std.proofs.lemmas.List.{drop_all, length-take}
use Rattle.fv_base.specs.declared.role.Role.{Role}
use Rattle.fv_base.specs.declared.role.Role.TheVariants.{Program, Input, Controls, Output, Report}
use Rattle.fv_outside.specs.headline.Desk.{DeskState}
use Rattle.fv_outside.proofs.lemmas.States.{told_before}
use Rattle.fv_diagram.specs.declared.control.ControlInfo.{ControlInfo}
use Rattle.fv_control.specs.declared.script.Change.{Change}
use Rattle.fv_control.specs.headline.Script.{script}
use Rattle.fv_control.specs.declared.refusal.ScriptRefusal.TheVariants.{TextTooLong}
use Rattle.fv_top_words.specs.headline.Runs.{Run}
use Rattle.fv_top_words.specs.headline.Commands.{Playing}
use Rattle.fv_top_files.specs.Loading.{ReadsFile}
use Rattle.fv_top.specs.headline.Promise.{IsReadBy}

-- where the first bytes of a file are all of it, none is left after them
pub none_left : (count : ℕ) (file bytes : List ℕ) → bytes ≡ take count file → file ≡ bytes → drop count file ≡ []
none_left count file bytes first whole =
    let few : length file ≤ count = omega (arith, ap length (whole ∙ first), length-take count file) in
    drop_all count file few

-- a script that is accepted is no longer than a script may be
short_script : (controls : List ControlInfo) (bytes : List ℕ) (s : List Change) → script controls bytes ≡ Ok s → length bytes ≤ 1048576
unfolding script
short_script controls bytes s is =
    ⊎_elim
    (λ (long : 1048576 < length bytes).
    let too = lt-leb (length bytes) 1048576 long in
    let refused : script controls bytes ≡ Err (TextTooLong Controls) = rw too refl in
    let both = sym refused ∙ is in absurd cc)
    (λ (short : length bytes ≤ 1048576). short)
    (cases_lt 1048576 (length bytes))

-- so it was read to its end
pub script_whole : (controls : List ControlInfo) (file bytes : List ℕ) (s : List Change) → bytes ≡ take 1048577 file → script controls bytes ≡ Ok s
    → drop 1048577 file ≡ []
script_whole controls file bytes s first is =
    let short = short_script controls bytes s is in
    let few : length file ≤ 1048577 = omega (arith, short, ap length first, length-take 1048577 file) in
    drop_all 1048577 file few

-- the program's file and the script were read to their ends, and then an input's head
pub read_whole : (run : Run) {a b c d : DeskState} → ReadsFile Program (Some run.program) a b → ReadsFile Controls run.controls b c
    → ReadsFile Input run.input c d → (IsTrue a.tells → b.left Program ≡ []) → (IsTrue b.tells → IsSome run.controls → c.left Controls ≡ [])
    → IsTrue a.tells → (r : Role) → IsReadBy (Playing run) r → r ≢ Input → d.left r ≡ []
read_whole run {d = d} first second third program controls t =
    let after = told_before first.quiet.goes_on t in
    let later = told_before second.quiet.goes_on after in
    elim [
      | Program ↦ λ is other. third.others later Program (λ named e. absurd cc) ∙ second.others after Program (λ named e. absurd cc) ∙ program t
      | Input ↦ λ is other. absurd (other refl)
      | Controls ↦ λ is other. third.others later Controls (λ named e. absurd cc) ∙ controls after is
      | Output ↦ λ is other. absurd is
      | Report ↦ λ is other. absurd is
    ]
