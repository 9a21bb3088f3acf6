use Rattle.std.proofs.Common.{ℕ, ◌≤◌, ◌<◌, length, get_or}
use Rattle.fv_components.specs.declared.search.Class.{Class}
use Rattle.fv_components.proofs.search.classes_up_to.Given as goal

abbrev pub invariant-loop-m : goal.invariant-loop-m
invariant-loop-m l = record {
  few : l.m ≤ length l.classes;
  behind : (c : ℕ) (d : Class) → l.m ≤ c → c < length l.classes → l.place < (get_or l.classes c d).first;
}

abbrev pub decreases-loop-m : goal.decreases-loop-m
decreases-loop-m l = l.m
