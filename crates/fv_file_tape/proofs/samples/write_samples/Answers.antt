use Rattle.fv_file_tape.proofs.samples.write_samples.Goals as goal

pub returns-in-Wave-clause-answers : goal.returns-in-Wave-clause-answers
returns-in-Wave-clause-answers g c = rw c.in-Wave.is c.write_frames.ensures.answers
