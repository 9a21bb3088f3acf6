use Rattle.std.proofs.Common.{map, ap, rules}
use Rattle.fv_loops_random_tests.specs.Shelves.{lane_on, items_of}
use Rattle.fv_loops_random_tests.proofs.Stored.{state_with, one_written}
use Rattle.fv_loops_random_tests.proofs.shelves.ShelvesStore.exchange.Goals as goal

pub returns-clause-state : goal.returns-clause-state
returns-clause-state c =
    let s = c.args.self.now in
    let old = c.index_mut.result.now in
    ap (state_with (map lane_on s.lanes.items) (map items_of s.tables.items))
    (one_written s.cells.items c.args.cells old c.put.new.self old _ _ c.args.w c.args.x c.requires.there.0 c.index_mut.ensures.value
    c.put.ensures (search rules) (search rules))
