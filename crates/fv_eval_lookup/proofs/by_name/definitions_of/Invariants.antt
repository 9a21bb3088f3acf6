use Rattle.std.proofs.Common.{◌≡◌, take}
use Rattle.fv_eval_lookup.specs.ByName.{defined_in}
use Rattle.fv_eval_lookup.proofs.by_name.definitions_of.Given as goal

abbrev pub invariant-loop-id : goal.invariant-loop-id
invariant-loop-id l = l.definitions.items ≡ defined_in l.tree (take l.id-index l.items)
