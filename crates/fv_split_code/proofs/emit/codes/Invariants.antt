use Rattle.std.proofs.Common.{◌≡◌, length}
use Rattle.fv_split_code.specs.Emitted.{AllServe}
use Rattle.fv_split_code.proofs.emit.codes.Given as goal

abbrev pub invariant-loop-s : goal.invariant-loop-s
invariant-loop-s l = record {
  long : length l.codes.items ≡ l.loops;
  registers : length l.registers.items ≡ length l.graph.signals;
  serve : AllServe l.graph l.survey l.loops l.s l.registers.items l.codes.items;
}
