use Rattle.std.proofs.Common.{◌<◌, rules}
use Rattle.fv_diagram.specs.Arena.{count_of}
use Rattle.fv_diagram_tests.proofs.tables.compare_delay.Goals as goal

pub spans-found-requires-clause-closed : goal.spans-found-requires-clause-closed
spans-found-requires-clause-closed g c =
    let l : c.new-root.result < count_of c.diagrams.result.now = search rules in
    (c.diagrams.ensures.run c.new-root.result l).closed
