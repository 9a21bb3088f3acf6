use Rattle.fv_engine_render_tests.proofs.Named.{named_all}
use Rattle.fv_engine_render_tests.proofs.cases.script_of.Goals as goal

pub returns-clause-order : goal.returns-clause-order
returns-clause-order c = (c.scripts_are_lawful.ensures _ _ _ c.in-Ok.ensures.spelled).0

pub returns-clause-lawful : goal.returns-clause-lawful
returns-clause-lawful c = (c.scripts_are_lawful.ensures _ _ _ c.in-Ok.ensures.spelled).1

pub returns-clause-named : goal.returns-clause-named
returns-clause-named c = named_all _ _ (c.scripts_are_lawful.ensures _ _ _ c.in-Ok.ensures.spelled).1
