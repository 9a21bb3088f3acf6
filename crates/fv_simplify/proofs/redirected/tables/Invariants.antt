use Rattle.std.proofs.Common.{◌≡◌, take}
use Rattle.fv_share.specs.Drafts.{lists_in}
use Rattle.fv_simplify.proofs.redirected.tables.Given as goal

abbrev pub invariant-loop-table : goal.invariant-loop-table
invariant-loop-table l = lists_in l.lists.items ≡ take l.table l.graph.tables
