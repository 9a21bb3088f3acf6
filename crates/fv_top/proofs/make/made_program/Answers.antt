use Rattle.std.proofs.Common.{◌≡◌, ◌⊎◌, List, ℕ, Ok, Err, ◌∙◌, ap, subst}
use Rattle.std.proofs.lemmas.Result.{err_from_is_err_and}
use Rattle.fv_diagram.specs.headline.Diagram.{inputs}
use Rattle.fv_top_make.specs.headline.Made.{text_of}
use Rattle.fv_top_report.specs.declared.refusal.Refusal.TheVariants.{NoMemory}
use Rattle.fv_top_program.specs.headline.Compiled.{Compiled}
use Rattle.fv_top_program.specs.headline.Kinds.{FileIs}
use Rattle.fv_top_program.specs.Kinds.{IsOfKind}
use Rattle.fv_top_words.specs.declared.manner.ProgramKind.TheVariants.{Alone}
use Rattle.fv_top.specs.headline.Promise.{IsMade}
use Rattle.fv_top.proofs.Making.{only_memory}
use Rattle.fv_top.proofs.make.made_program.Goals as goal
use Rattle.fv_top.proofs.make.made_program.Goals.{In_ok-playable}

-- it is of the program of its text
made : (c : In_ok-playable) → IsMade c.args.voices c.in_ok-playable.ensures.found.0
made c =
    let same : c.deref.result.now ≡ text_of c.args.voices = c.deref.ensures.value ∙ c.in_ok-text.ensures in
    let found = c.in_ok-playable.ensures.found in
    subst (λ (t : List ℕ). FileIs Alone t (Ok found.0)) same found.1

pub returns-in_err-text-clause-none : goal.returns-in_err-text-clause-none
returns-in_err-text-clause-none c =
    let p = err_from_is_err_and c.from_residual.result c.from_residual.ensures.1 in
    rw p.1 p.2

pub returns-in_err-playable-clause-none : goal.returns-in_err-playable-clause-none
returns-in_err-playable-clause-none c =
    let p = err_from_is_err_and c.from_residual-in_err-playable.result c.from_residual-in_err-playable.ensures.1 in
    let same : c.deref.result.now ≡ text_of c.args.voices = c.deref.ensures.value ∙ c.in_ok-text.ensures in
    let e = c.in_err-playable.field-0.0 in
    let refused = subst (λ (t : List ℕ). (e ≡ NoMemory) ⊎ (IsOfKind Alone e × FileIs Alone t (Err e))) same c.in_err-playable.ensures.refused in
    rw (p.1, p.2) (only_memory c.voices_are_a_program.ensures.accepted c.args.voices e c.requires.some c.requires.few refused)

pub returns-clause-made : goal.returns-clause-made
returns-clause-made c =
    let found = c.in_ok-playable.ensures.found in
    (found.0, made (goal.at.returns-clause-made c).In_ok-playable, found.2)

pub returns-clause-one : goal.returns-clause-one
returns-clause-one c =
    let found = c.in_ok-playable.ensures.found in
    let is = made (goal.at.returns-clause-one c).In_ok-playable in
    found.2.inputs ∙ ap (λ (p : Compiled). inputs p.diagram) (c.voices_are_a_program.ensures.one c.args.voices found.0 c.requires.some c.requires.few is)
