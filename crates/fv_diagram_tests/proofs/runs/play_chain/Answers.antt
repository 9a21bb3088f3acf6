use Rattle.std.proofs.Common.{◌<◌, rules}
use Rattle.fv_diagram.specs.Arena.{count_of}
use Rattle.fv_diagram_tests.proofs.runs.play_chain.Goals as goal

pub play-requires-clause-closed : goal.play-requires-clause-closed
play-requires-clause-closed g c =
    let l : c.new-root.result < count_of c.diagrams.result.now = search rules in
    (c.diagrams.ensures.run c.new-root.result l).closed
