use Rattle.std.proofs.Common.{ap}
use Rattle.fv_outside.specs.Memory.{after_pieces}
use Rattle.fv_outside.specs.Stored.{shown}
use Rattle.fv_outside.proofs.StoredLemmas.{IsStored-set, memory-set}
use Rattle.fv_outside.proofs.memory_desk.MemoryDesk.pieces.Goals as goal

pub invariant_of-self : goal.invariant_of-self
invariant_of-self c =
    IsStored-set _ _ _ _ c.pieces.new.self c.self.invariant c.place_of.ensures.bound (c.pieces.ensures.within _)

pub returns : goal.returns
returns c =
    memory-set _ _ _ c.args.role _ _ c.pieces.new.self c.args.self.now (after_pieces c.args.size) c.self.view_is c.place_of.ensures.place c.self.invariant
    c.place_of.ensures.bound (ap (shown c.self.inside.files.items) c.pieces.ensures.ok)
