use Rattle.std.proofs.Common.{◌≡◌, ◌⊎◌, Ok, Err, sym, subst}
use Rattle.std.proofs.lemmas.Result.{err_from_is_err_and}
use Rattle.fv_top_report.specs.declared.refusal.Refusal.TheVariants.{NoMemory}
use Rattle.fv_top_words.specs.declared.manner.ProgramKind.{ProgramKind}
use Rattle.fv_top_program.specs.Compiled.{compiled_of}
use Rattle.fv_top_program.specs.headline.Kinds.{FileIs}
use Rattle.fv_top_program.specs.headline.Racks.{rack_of}
use Rattle.fv_top_program.specs.Kinds.{IsOfKind}
use Rattle.fv_top_program.specs.Reads.{programs_in}
use Rattle.fv_top_program.proofs.programs.read_programs.Goals as goal

pub returns-in_err-program-in-Alone-clause-refused : goal.returns-in_err-program-in-Alone-clause-refused
returns-in_err-program-in-Alone-clause-refused c =
    let p = err_from_is_err_and c.from_residual.result c.from_residual.ensures.1 in
    let e = c.in_err-program-in-Alone.field-0.0 in
    rw (p.1, p.2) (subst (λ (k : ProgramKind). (e ≡ NoMemory) ⊎ (IsOfKind k e × FileIs k c.args.file.now (Err e))) (sym c.in-Alone.is)
    c.in_err-program-in-Alone.ensures.refused)

pub returns-in_err-reads-in-Rack-clause-refused : goal.returns-in_err-reads-in-Rack-clause-refused
returns-in_err-reads-in-Rack-clause-refused c =
    let p = err_from_is_err_and c.from_residual-in_err-reads-in-Rack.result c.from_residual-in_err-reads-in-Rack.ensures.1 in
    let e = c.in_err-reads-in-Rack.field-0.0 in
    rw (p.1, p.2) (subst (λ (k : ProgramKind). (e ≡ NoMemory) ⊎ (IsOfKind k e × FileIs k c.args.file.now (Err e))) (sym c.in-Rack.is)
    c.in_err-reads-in-Rack.ensures.refused)

pub returns-in_ok-program-in-Alone-clause-found : goal.returns-in_ok-program-in-Alone-clause-found
returns-in_ok-program-in-Alone-clause-found c =
    subst (λ (k : ProgramKind). FileIs k c.args.file.now (Ok (compiled_of c.in_ok-program-in-Alone.program))) (sym c.in-Alone.is)
    c.in_ok-program-in-Alone.ensures.found

pub returns-in_ok-reads-in-Rack-clause-found : goal.returns-in_ok-reads-in-Rack-clause-found
returns-in_ok-reads-in-Rack-clause-found c =
    subst (λ (k : ProgramKind). FileIs k c.args.file.now (Ok (rack_of (programs_in c.in_ok-reads-in-Rack.reads.items)))) (sym c.in-Rack.is)
    c.in_ok-reads-in-Rack.ensures.found
