use Rattle.std.proofs.Common.{◌≡◌, ◌<◌, ◌≤◌, ℕ, [], get_or, length}
use Rattle.fv_num.specs.headline.Words.{argument}
use Rattle.fv_diagram_runner.specs.declared.step.Change.TheVariants as change
use Rattle.fv_diagram_runner.specs.History.{Numbers, numbers_of}
use Rattle.fv_diagram_runner.specs.Steps.{changed}
use Rattle.fv_diagram_runner.proofs.step.change_lists.Given as goal

-- the lists before place i have changed, and the others are as they were
abbrev pub invariant-loop-i : goal.invariant-loop-i
invariant-loop-i l =
    (length l.lists ≡ length l.fn.lists)
    × ((k : ℕ) (d : Numbers) → k < l.i → (get_or l.lists k d).numbers ≡ changed (argument l.registers) (get_or l.changes k (change.Append 0))
    (get_or (numbers_of l.fn.lists) k []))
    × ((k : ℕ) (d : Numbers) → l.i ≤ k → get_or l.lists k d ≡ get_or l.fn.lists k d)
