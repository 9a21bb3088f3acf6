use Rattle.std.proofs.Common.{Ok, Err}
use Rattle.fv_top_make.specs.headline.Made.{text_of}
use Rattle.fv_top_make.specs.Voices.{program_of}
use Rattle.fv_top_make.proofs.Program.{are_a_program}
use Rattle.fv_top_make.proofs.voices.voices_are_a_program.Goals as goal

pub returns-clause-program : goal.returns-clause-program
returns-clause-program c = are_a_program c.reads_what_is_spelled.ensures.sound c.literals_stay.ensures

pub returns-clause-one : goal.returns-clause-one
returns-clause-one c voices p some few is =
    let made = are_a_program c.reads_what_is_spelled.ensures.sound c.literals_stay.ensures voices some few in
    let same = c.one_program.ensures.once (text_of voices) (Ok p) (Ok (program_of voices)) is made in
    cc

pub returns-clause-accepted : goal.returns-clause-accepted
returns-clause-accepted c voices refusal some few refused =
    let made = are_a_program c.reads_what_is_spelled.ensures.sound c.literals_stay.ensures voices some few in
    let same = c.one_program.ensures.once (text_of voices) (Ok (program_of voices)) (Err refusal) made refused in
    absurd cc
