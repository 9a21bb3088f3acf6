use Rattle.std.proofs.Common.{rules}
use Rattle.fv_wav.proofs.format.is_channel_count.Goals as goal

pub returns-then-channels-ge1 : goal.returns-then-channels-ge1
returns-then-channels-ge1 c = search rules
