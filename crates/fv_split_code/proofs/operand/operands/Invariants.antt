use Rattle.fv_split_code.specs.Emits.{AreFound, MeanNow, owned_by}
use Rattle.fv_split_code.proofs.operand.operands.Given as goal

abbrev pub invariant-loop-k : goal.invariant-loop-k
invariant-loop-k l = record {
  found : AreFound l.found l.k;
  mean : MeanNow l.kinds l.registers l.fn.code.items l.code.items l.signals l.found l.k (owned_by l.owners l.own);
}
