use Rattle.fv_eval.proofs.Arrived.{arrives_last, arrives_valued, arrives_drawn, first_valued, first_drawn, given_known, given_shown}
use Rattle.fv_eval.proofs.machine.Machine.arrive.Goals as goal

pub returns-in-None : goal.returns-in-None
returns-in-None c = λ v h. arrives_last c.args.text.now c.args.self.now c.pop.new.self c.args.value c.in-None.ensures v h

pub returns-in-Some-Valued : goal.returns-in-Some-Valued
returns-in-Some-Valued c =
    λ v h. arrives_valued c.args.text.now c.args.self.now c.value_arrives.new.self c.pop.new.self c.in-Some-Valued.continuation
    c.value_arrives.result c.args.value
    (rw c.in-Some-Valued.field-0-is at c.in-Some-Valued.ensures) c.value_arrives.ensures v h

pub returns-in-Some-Drawn : goal.returns-in-Some-Drawn
returns-in-Some-Drawn c =
    λ v h. arrives_drawn c.args.text.now c.args.self.now c.turn.new.self c.pop.new.self c.in-Some-Drawn.continuation c.turn.result c.args.value
    (rw c.in-Some-Drawn.field-0-is at c.in-Some-Drawn.ensures) c.turn.ensures v h

pub value_arrives-requires-clause-continuation : goal.value_arrives-requires-clause-continuation
value_arrives-requires-clause-continuation c =
    first_valued c.args.text.now c.args.self.now c.pop.new.self c.in-Some-Valued.continuation c.args.value
    (rw c.in-Some-Valued.field-0-is at c.in-Some-Valued.ensures) c.requires

pub value_arrives-requires-clause-value : goal.value_arrives-requires-clause-value
value_arrives-requires-clause-value c = given_shown c.args.text.now c.args.self.now c.args.value c.requires

pub turn-requires-clause-continuation : goal.turn-requires-clause-continuation
turn-requires-clause-continuation c =
    first_drawn c.args.text.now c.args.self.now c.pop.new.self c.in-Some-Drawn.continuation c.args.value
    (rw c.in-Some-Drawn.field-0-is at c.in-Some-Drawn.ensures) c.requires

pub turn-requires-clause-value : goal.turn-requires-clause-value
turn-requires-clause-value c = given_shown c.args.text.now c.args.self.now c.args.value c.requires

pub value_arrives-requires-clause-knows : goal.value_arrives-requires-clause-knows
value_arrives-requires-clause-knows c = given_known c.args.text.now c.args.self.now c.args.value c.requires
