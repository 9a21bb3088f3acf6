use Rattle.std.proofs.Common.{◌≡◌}
use Rattle.fv_base.specs.headline.Lists.{table}
use Rattle.fv_share.specs.Drafts.{lists_in}
use Rattle.fv_simplify.proofs.Whole.{list_at}
use Rattle.fv_simplify.proofs.pass.definitions.Given as goal

abbrev pub invariant-loop-group : goal.invariant-loop-group
invariant-loop-group l = (lists_in l.lists.items ≡ table l.group (list_at l.graph l.widths l.images))
