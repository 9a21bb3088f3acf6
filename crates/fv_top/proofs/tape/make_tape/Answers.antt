use Rattle.std.proofs.Common.{rules, ◌≡◌, ◌*◌, ◌/◌, ◌≤◌, length, arith}
use Rattle.std.specs.Option.{ForSome}
use Rattle.std.proofs.Math.Nat.{div-mul-le_self}
use Rattle.fv_pcm.specs.headline.Sizes.{frame_size, stated_frames, whole_bytes}
use Rattle.fv_top.proofs.Playing.{room_is}
use Rattle.fv_top.proofs.tape.make_tape.Goals as goal

pub returns-clause-tape : goal.returns-clause-tape
returns-clause-tape c =
    let room = c.frame_room-frame.ensures in
    let long : length c.in_ok-bytes.bytes.items ≡ c.args.block * c.frame_room-frame.result = first_of (omega arith, search rules) in
    record {
      input = λ h named. let p = c.requires.head h named in record { some = p.0.some; few = p.0.few; bits = p.0.bits; size = p.0.size; low = p.1 };
      stated = c.requires.frames;
      held = λ h named v has.
          let all = c.requires.held h named v has in
          let whole = div-mul-le_self h.data_bytes (frame_size h.channels h.bits) in
          omega (arith, all, whole);
      done = omega arith;
      some = c.requires.some;
      few = c.requires.few;
      bits = c.requires.bits;
      size = c.requires.size;
      ears = λ h named. room_is c.args.block h.channels (h.bits / 8) c.frame_room-frame.result (length c.in_ok-bytes.bytes.items) (room.heard h named) long;
      mouth = room_is c.args.block c.args.channels (c.args.format.bits / 8) c.frame_room-frame.result (length c.in_ok-bytes.bytes.items) room.said long;
    }
