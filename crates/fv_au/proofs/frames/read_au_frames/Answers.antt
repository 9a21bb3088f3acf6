use Rattle.std.proofs.Common.{arith}
use Rattle.fv_wav.proofs.lemmas.FramesRead.{all_read, ended_within}
use Rattle.fv_au.specs.declared.refusal.AuRefusal.TheVariants.{AuTruncated}
use Rattle.fv_au.proofs.frames.read_au_frames.Goals as goal

pub returns-then-n-count-clause-err : goal.returns-then-n-count-clause-err
returns-then-n-count-clause-err g c =
    let r = c.in_ok-n.ensures.read in
    record {
      some = record { bytes = r.bytes; takes = r.takes };
      cause = ended_within AuTruncated c.args.place c.args.to.now r c.read_samples.auto.to (omega arith);
    }

pub returns-clause-ok : goal.returns-clause-ok
returns-clause-ok g c = all_read c.args.to.now c.in_ok-n.ensures.read c.read_samples.auto.to c.in_ok-n.ensures.few (omega arith)
