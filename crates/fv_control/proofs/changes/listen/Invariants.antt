use Rattle.std.proofs.Common.{◌≡◌, ◌≤◌, ℤ, List, length, take, ◌-◌}
use Rattle.std.specs.List.{AllByRecursion}
use Rattle.fv_control.specs.Laws.{applied}
use Rattle.fv_control.proofs.changes.listen.Given as goal

-- the changes up to the next one are made, and have come
abbrev pub invariant-changes : goal.invariant-changes
invariant-changes l = record {
  within : l.next ≤ length l.changes;
  values : (initial : List ℤ) → l.initial.values ≡ applied initial (take l.fn.at l.changes) → l.values ≡ applied initial (take l.next l.changes);
  come : AllByRecursion (λ c. c.frame ≤ l.frame) (take l.fn.at l.changes) → AllByRecursion (λ c. c.frame ≤ l.frame) (take l.next l.changes);
}

abbrev pub decreases-changes : goal.decreases-changes
decreases-changes l = length l.changes - l.next
