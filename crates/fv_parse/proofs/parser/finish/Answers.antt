use Rattle.std.proofs.Common.{length, ap, arith}
use Rattle.fv_parse.proofs.parser.finish.Goals as goal

pub invariant_of-tree : goal.invariant_of-tree
invariant_of-tree c = record {
  built = c.into_entries.ensures.built;
  inside = omega (arith, c.requires, ap length c.into_entries.ensures.same);
  numbers = c.in_ok-names.ensures;
}
