use Rattle.std.proofs.Common.{ap}
use Rattle.std.proofs.lemmas.Result.{on_ok_weaker, on_err_weaker}
use Rattle.fv_outside.specs.Memory.{after_fail}
use Rattle.fv_outside.specs.Stored.{shown}
use Rattle.fv_outside.proofs.StoredLemmas.{IsStored-set, memory-set, memory-same}
use Rattle.fv_outside.proofs.memory_desk.MemoryDesk.fail.Goals as goal

pub invariant_of-self : goal.invariant_of-self
invariant_of-self c =
    IsStored-set _ _ _ _ c.fail.new.self c.self.invariant c.place_of.ensures.bound (c.fail.ensures.within _)

pub returns-clause-ok : goal.returns-clause-ok
returns-clause-ok c = on_ok_weaker c.fail.result
    (λ e. memory-set _ _ _ c.args.role _ _ c.fail.new.self c.args.self.now (after_fail c.args.call) c.self.view_is c.place_of.ensures.place c.self.invariant
    c.place_of.ensures.bound (ap (shown c.self.inside.files.items) e)) c.fail.ensures.ok

pub returns-clause-err : goal.returns-clause-err
returns-clause-err c = on_err_weaker c.fail.result
    (λ e. memory-same _ c.self.inside.drawers _ c.place_of.result c.index-self-place_of.result c.fail.new.self c.args.self.now c.self.view_is e)
    c.fail.ensures.err
