use Rattle.std.proofs.Common.{map, ap, rules}
use Rattle.fv_loops_random_tests.specs.Shelves.{items_of}
use Rattle.fv_loops_random_tests.proofs.Stored.{state_with, one_appended}
use Rattle.fv_loops_random_tests.proofs.shelves.ShelvesStore.append.Goals as goal

pub returns-clause-state : goal.returns-clause-state
returns-clause-state c =
    let s = c.args.self.now in
    let old = c.index_mut.result.now in
    ap (λ z. state_with z (map items_of s.tables.items) (map items_of s.cells.items))
    (one_appended s.lanes.items c.args.lane old c.append.new.self old _ c.args.value c.requires.there c.index_mut.ensures.value c.append.ensures (search rules))
