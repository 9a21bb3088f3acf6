use Rattle.std.proofs.Common.{rules, IsTrue, subst, sym}
use Rattle.fv_loops_tests.proofs.component_rows.numbers_of.Goals as goal

pub components-requires : goal.components-requires
components-requires c = c.are_links.ensures.0 (subst IsTrue (sym c.if-not-are_links.false) (search rules))
