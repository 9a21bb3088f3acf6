use Rattle.std.proofs.Common.{rules}
use Rattle.fv_au.proofs.partial_head.judge.Goals as goal

pub returns-then-bytes-lt16-clause-head : goal.returns-then-bytes-lt16-clause-head
returns-then-bytes-lt16-clause-head c = search rules

pub returns-then-not-is_encoding-clause-head : goal.returns-then-not-is_encoding-clause-head
returns-then-not-is_encoding-clause-head c = search rules

pub returns-then-bytes-lt24-clause-head : goal.returns-then-bytes-lt24-clause-head
returns-then-bytes-lt24-clause-head c = search rules

pub returns-then-not-is_channels-clause-head : goal.returns-then-not-is_channels-clause-head
returns-then-not-is_channels-clause-head c = search rules

pub returns-clause-head : goal.returns-clause-head
returns-clause-head c = search rules

pub returns-clause-ranges : goal.returns-clause-ranges
returns-clause-ranges c = search rules
