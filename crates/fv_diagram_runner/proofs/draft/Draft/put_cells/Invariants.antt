use Rattle.std.proofs.Common.{◌≡◌, ◌+◌, length}
use Rattle.fv_num.specs.headline.Frames.{table}
use Rattle.fv_diagram_runner.specs.inner.Code.{with_cells}
use Rattle.fv_diagram_runner.proofs.draft.Draft.put_cells.Given as goal

abbrev pub invariant-loop : goal.invariant-loop
invariant-loop l = (l.all.items ≡ table l.counter (λ i. length l.fn.self.steps + i)) × (l.self ≡ with_cells l.counter l.fn.self)
