use Rattle.std.proofs.Common.{rules}
use Rattle.std.proofs.lemmas.List.Sorted.{IsNonDecreasingBy-from_sort_by_key}
use Rattle.fv_outside.specs.declared.gate.Line.{Line}
use Rattle.fv_steal.proofs.lines.sort_lines.Goals as goal

pub returns-clause-starts : goal.returns-clause-starts
returns-clause-starts c =
    IsNonDecreasingBy-from_sort_by_key (λ (line : Line). line.start) _ c.sort_unstable_by_key.ensures.sorted (λ a r q k. search rules)

pub returns-in-Ok-clause-starts : goal.returns-in-Ok-clause-starts
returns-in-Ok-clause-starts c =
    IsNonDecreasingBy-from_sort_by_key (λ (line : Line). line.start) _ c.in-Ok.ensures.sorted (λ a r q k. search rules)
