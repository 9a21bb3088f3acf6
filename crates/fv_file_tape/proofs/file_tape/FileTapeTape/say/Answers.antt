use Rattle.std.proofs.Common.{◌++◌, ◌/◌, length, refl, sym, ap, subst, arith}
use Rattle.fv_file_tape.specs.Tapes.{CannotGoOn, Streamed, files_of}
use Rattle.fv_file_tape.proofs.lemmas.Heard.{room_is}
use Rattle.fv_file_tape.proofs.Streams.{said_on, said_stops}
use Rattle.fv_file_tape.proofs.file_tape.FileTapeTape.say.Goals as goal

pub returns-in-Ok-clause-ok : goal.returns-in-Ok-clause-ok
returns-in-Ok-clause-ok g c first start h s w =
    let t = c.args.self.now in
    let a = g.D.Desk.state start in
    let b = g.D.Desk.state c.args.desk.now in
    let d = g.D.Desk.state c.write_samples.new.desk in
    let here = subst (λ f. Streamed f t.done a b h s) (sym w.0) w.1 in
    let on = said_on (files_of t) t.done a b d h s here c.args.samples.now c.in-Ok.ensures.ok c.in-Ok.ensures.steady in
    (w.0, subst (λ f. Streamed f t.done a d h (s ++ c.args.samples.now)) w.0 on)

pub returns-in-Err-clause-err : goal.returns-in-Err-clause-err
returns-in-Err-clause-err g c first start h s w =
    let t = c.args.self.now in
    let a = g.D.Desk.state start in
    let b = g.D.Desk.state c.args.desk.now in
    let d = g.D.Desk.state c.write_samples.new.desk in
    let e = c.in-Err.ensures in
    let here = subst (λ f. Streamed f t.done a b h s) (sym w.0) w.1 in
    let stops = said_stops (files_of t) t.done a b d h s here c.args.samples.now e.err e.failed
    (λ t safe fits. let answered = e.answers t safe fits in absurd cc) in
    (refl, subst (λ f. CannotGoOn f a d h s c.args.samples.now) w.0 stops)

pub write_samples-requires-clause-room : goal.write_samples-requires-clause-room
write_samples-requires-clause-room g c =
    let t = c.args.self.now in
    let long = ap length c.deref_mut.ensures.value in
    let fits = room_is c.args._frames t.most t.head.channels (t.head.bits / 8) (length c.args.samples.now) (length t.bytes.items) c.requires.few c.requires.room
    c.requires.valid.mouth in
    omega (arith, fits, long)
