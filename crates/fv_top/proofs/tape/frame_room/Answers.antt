use Rattle.fv_top.proofs.tape.frame_room.Goals as goal

pub frame_size-requires-clause-few : goal.frame_size-requires-clause-few
frame_size-requires-clause-few c = (c.requires.head c.in-Some.head c.in-Some.is).0.few

pub frame_size-requires-clause-bits : goal.frame_size-requires-clause-bits
frame_size-requires-clause-bits c = (c.requires.head c.in-Some.head c.in-Some.is).0.bits
