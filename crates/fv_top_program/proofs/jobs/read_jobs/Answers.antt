use Rattle.std.proofs.Common.{◌+◌, ◌<◌, ◌∷◌, [], List, ℕ, All, Ok, Err, length, take, sym, ap, ◌∙◌, subst, inl, inr, ⊎_elim, arith}
use Rattle.std.proofs.lemmas.Result.{err_from_is_err_and}
use Rattle.std.proofs.lemmas.List.{length-append, map_push}
use Rattle.std.proofs.lemmas.List.Elements.{All-push}
use Rattle.fv_top_report.specs.headline.Lines.{row_of}
use Rattle.fv_top_report.specs.declared.refusal.Refusal.{Refusal}
use Rattle.fv_top_program.specs.headline.Compiled.{Compiled}
use Rattle.fv_top_program.specs.Compiled.{compiled_of}
use Rattle.fv_top_program.specs.headline.Program.{TextIs}
use Rattle.fv_top_program.specs.headline.Racks.{EachIs}
use Rattle.fv_top_program.specs.Reads.{IsRead, programs_in}
use Rattle.fv_top_program.specs.declared.programs.Read.{Read}
use Rattle.fv_top_program.proofs.Each.{each_more, each_refused}
use Rattle.fv_top_program.proofs.jobs.read_jobs.Goals as goal

pub returns-in_err-read-clause-refused : goal.returns-in_err-read-clause-refused
returns-in_err-read-clause-refused c =
    let p = err_from_is_err_and c.from_residual.result c.from_residual.ensures.1 in
    let texts = c.args.jobs.now in
    let at = c.loop-job in
    let more = c.loop-job-test.true in
    let end = c.len-job-end.ensures in
    let here : at.job < length texts = omega (arith, more, end) in
    rw (p.1, p.2) (⊎_elim inl (λ h.
    let is = h.2 in
    let text = subst (λ (w : List ℕ). TextIs w (Err h.0)) c.text.ensures h.1 in
    inr (
      ap (λ (r : Refusal). (row_of r).number) is,
      subst (λ (r : Refusal). EachIs 0 texts (Err r)) (sym is)
          (each_refused texts at.job (programs_in at.reads.items) h.0 here at.invariant.each text),
    ))
    c.in_err-read.ensures.refused)

pub loop-job-preserved : goal.loop-job-preserved
loop-job-preserved c =
    let texts = c.args.jobs.now in
    let at = c.loop-job in
    let rs = at.reads.items in
    let r = c.in_ok-read.read in
    let now = c.in-Ok.ensures.items in
    let left = c.loop-job-test.true in
    let end = c.len-job-end.ensures in
    let here : at.job < length texts = omega (arith, left, end) in
    let text = subst (λ (w : List ℕ). TextIs w (Ok (compiled_of r.program))) c.text.ensures c.in_ok-read.ensures.found in
    let more = each_more texts at.job (programs_in rs) (compiled_of r.program) here at.invariant.each text in
    record {
      each = subst (λ (ps : List Compiled). EachIs 0 (take (at.job + 1) texts) (Ok ps))
          (sym (map_push (λ (q : Read). compiled_of q.program) rs r) ∙ ap programs_in (sym now)) more;
      read = subst (All IsRead) (sym now) (All-push IsRead rs r at.invariant.read c.in_ok-read.ensures.read);
      long = ap length now ∙ length-append rs (r ∷ []) ∙ ap (λ n. n + 1) at.invariant.long;
    }
