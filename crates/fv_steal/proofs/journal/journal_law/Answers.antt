use Rattle.std.specs.List.{flat_map}
use Rattle.std.proofs.lemmas.List.Sorted.{IsPermutation-refl}
use Rattle.fv_steal.specs.Crews.{lines_of}
use Rattle.fv_steal.proofs.Ordered.{ordered, as_many}
use Rattle.fv_steal.proofs.journal.journal_law.Goals as goal

pub returns-clause-journal : goal.returns-clause-journal
returns-clause-journal g c = λ t ws lines graph h sorted.
    ordered t ws lines h sorted.permutation (λ k l. c.edges_follow_reads.ensures t k graph l) sorted.starts

pub returns-clause-count : goal.returns-clause-count
returns-clause-count g c = λ t ws graph h. as_many t ws (flat_map lines_of ws) h (IsPermutation-refl (flat_map lines_of ws))
