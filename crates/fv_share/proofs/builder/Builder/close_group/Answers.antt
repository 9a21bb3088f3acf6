use Rattle.std.proofs.Common.{rules}
use Rattle.fv_share.proofs.builder.Builder.close_group.Goals as goal

pub returns-clause-ok : goal.returns-clause-ok
returns-clause-ok c = search rules

pub shut-requires-clause-backs : goal.shut-requires-clause-backs
shut-requires-clause-backs c = search rules
