use Rattle.std.proofs.Common.{◌≡◌}
use Rattle.fv_share.specs.Drafts.{with_groups}
use Rattle.fv_share.proofs.builder.Builder.open_groups.Given as goal

abbrev pub invariant-loop : goal.invariant-loop
invariant-loop l = (l.self ≡ with_groups l.fn.self l.counter)
