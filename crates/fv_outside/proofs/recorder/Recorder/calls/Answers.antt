use Rattle.std.proofs.Common.{arith}
use Rattle.fv_outside.proofs.recorder.Recorder.calls.Goals as goal

pub overflow_cast-result : goal.overflow_cast-result
overflow_cast-result c = record { fits = omega arith }
