use Rattle.fv_top_program.proofs.Answering.{jobs_answer, runs_agree}
use Rattle.fv_top_program.proofs.rack_laws.jobs_answer.Goals as goal

pub returns-clause-answer : goal.returns-clause-answer
returns-clause-answer c =
    jobs_answer c.answers_alike.ensures c.jobs_hear_their_changes.ensures c.parts_answer.ensures c.parts_are_whole.ensures c.evaluates_to_runnables.ensures.runs

pub returns-clause-agree : goal.returns-clause-agree
returns-clause-agree c =
    runs_agree c.answers_alike.ensures c.jobs_hear_their_changes.ensures c.parts_answer.ensures c.parts_are_whole.ensures c.evaluates_to_runnables.ensures.runs
    c.one_program.ensures.once
