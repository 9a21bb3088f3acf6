use Rattle.fv_parse_tree.proofs.lemmas.Arenas.{are_built}
use Rattle.fv_parse_tree.proofs.arena.Arena.into_entries.Goals as goal

pub returns-clause-built : goal.returns-clause-built
returns-clause-built c = are_built _ c.self.invariant
