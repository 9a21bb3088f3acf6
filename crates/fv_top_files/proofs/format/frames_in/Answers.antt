use Rattle.fv_top_files.proofs.format.frames_in.Goals as goal

pub frame_size-requires-clause-few : goal.frame_size-requires-clause-few
frame_size-requires-clause-few c = (c.requires c.in-Some.head c.in-Some.is).few
