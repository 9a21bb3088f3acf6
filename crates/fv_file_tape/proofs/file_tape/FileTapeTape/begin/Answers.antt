use Rattle.std.proofs.Common.{[], refl, sym, subst}
use Rattle.fv_file_tape.specs.Tapes.{Streamed, files_of}
use Rattle.fv_base.specs.declared.role.Role.TheVariants.{Output}
use Rattle.fv_outside.proofs.lemmas.States.{goes_on_self, answers_next}
use Rattle.fv_file_tape.proofs.Streams.{BeginsOutput, begun_is, begin_stops, head_stops}
use Rattle.fv_file_tape.proofs.file_tape.FileTapeTape.begin.Goals as goal

pub returns-in-Err-clause-err : goal.returns-in-Err-clause-err
returns-in-Err-clause-err g c =
    let e = c.in-Err.ensures in
    let a = g.D.Desk.state c.args.desk.now in (
      refl,
      begin_stops (files_of c.args.self.now) a (g.D.Desk.state c.begin_write.new.self) e.goes_on e.asked e.err e.counts.other_faults e.failed (λ t safe.
          let answered = e.answers t (answers_next Output (goes_on_self a) t safe) in
          absurd cc),
    )

pub returns-in-Ok-write_output_head-clause-ok : goal.returns-in-Ok-write_output_head-clause-ok
returns-in-Ok-write_output_head-clause-ok g c =
    let o = c.in-Ok.ensures in
    let state = g.D.Desk.state in
    let begun : BeginsOutput (files_of c.args.self.now).output (state c.args.desk.now) (state c.begin_write.new.self) = record {
      goes_on = o.goes_on;
      asked = o.asked;
      begun = o.counted;
      others = o.other_begins;
      left = o.left;
      written = o.others;
      empty = o.empty;
      steady = o.steady;
    } in
    let t = files_of c.args.self.now in
    let a = state c.args.desk.now in
    let d = state c.write_output_head.new.desk in
    let from_none = begun_is t a (state c.begin_write.new.self) d begun c.in-Ok-write_output_head.ensures.ok c.in-Ok-write_output_head.ensures.steady in
    (refl, subst (λ n. Streamed t n a d [] []) (sym c.requires.fresh) from_none)

pub returns-in-Err-write_output_head-clause-err : goal.returns-in-Err-write_output_head-clause-err
returns-in-Err-write_output_head-clause-err g c =
    let o = c.in-Ok.ensures in
    let e = c.in-Err-write_output_head.ensures in
    let state = g.D.Desk.state in
    let begun : BeginsOutput (files_of c.args.self.now).output (state c.args.desk.now) (state c.begin_write.new.self) = record {
      goes_on = o.goes_on;
      asked = o.asked;
      begun = o.counted;
      others = o.other_begins;
      left = o.left;
      written = o.others;
      empty = o.empty;
      steady = o.steady;
    } in (
      refl,
      head_stops (files_of c.args.self.now) (state c.args.desk.now) (state c.begin_write.new.self) (state c.write_output_head.new.desk) begun e.err e.failed
          (λ t safe fits. let answered = e.answers t safe fits in absurd cc),
    )
