use Rattle.std.proofs.Common.{◌-◌, ◌≡◌, ◌≤◌, ◌+◌, ◌*◌, ℤ, List, length}
use Rattle.fv_engine_render.proofs.Streaming.{Listened, Streamed}
use Rattle.fv_engine_render.proofs.stream.play_tape.Given as goal

abbrev pub invariant-playing : goal.invariant-playing
invariant-playing g l = record {
  listened : Listened l.course.changes.now l.initial.values l.values l.frame l.next;
  heard_room : length l.heard ≡ l.course.sizes.block * l.course.plan.channels;
  said_room : length l.said ≡ l.course.sizes.block * l.course.plan.outputs;
  valid : g.T.Tape.is_valid l.tape;
  ears : g.T.Tape.ears l.tape ≡ l.course.plan.channels;
  mouth : g.T.Tape.mouth l.tape ≡ l.course.plan.outputs;
  most : l.course.sizes.block ≤ g.T.Tape.most l.tape;
  left : g.T.Tape.left l.tape + l.frame ≡ l.course.sizes.frames;
  heard : List ℤ;
  all : List ℤ;
  went : g.T.Tape.Went l.fn.tape l.tape l.fn.world l.world heard all;
  streamed : Streamed (record {
    engine = l.initial.engine;
    sizes = l.course.sizes;
    outputs = l.course.plan.outputs;
    changes = l.course.changes.now;
    initial = l.initial.values;
    told = g.G.Gate.told l.initial.gate;
  })
      (record { engine = l.engine; frame = l.frame; ran = l.ran; told = g.G.Gate.told l.gate; heard = heard; all = all });
}

abbrev pub decreases-playing : goal.decreases-playing
decreases-playing g l = l.course.sizes.frames - l.frame
