use Rattle.std.proofs.Common.{◌≡◌, take}
use Rattle.fv_share.specs.Drafts.{with_tables}
use Rattle.fv_share.proofs.builder.Builder.add_tables.Given as goal

abbrev pub invariant-loop-table : goal.invariant-loop-table
invariant-loop-table l = (l.self ≡ with_tables l.fn.self (take l.table l.graph.tables))
