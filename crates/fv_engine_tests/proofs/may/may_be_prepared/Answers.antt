use Rattle.fv_engine_tests.proofs.may.may_be_prepared.Goals as goal

pub returns-clause-inputs : goal.returns-clause-inputs
returns-clause-inputs c = λ t. c.names_beyond-beyond.ensures.inputs c.if-beyond.false

pub returns-clause-controls : goal.returns-clause-controls
returns-clause-controls c = λ t. c.names_beyond-beyond.ensures.controls c.if-beyond.false
