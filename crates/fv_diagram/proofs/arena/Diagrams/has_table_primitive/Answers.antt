use Rattle.fv_diagram.proofs.lemmas.Trees.{entry_known}
use Rattle.fv_diagram.proofs.arena.Diagrams.has_table_primitive.Goals as goal

pub returns : goal.returns
returns c = (entry_known _ _ _ _ _ _ c.self.view_is c.self.invariant c.requires c.number.ensures c.index.ensures).known.primitives
