use Rattle.std.proofs.Common.{◌∙◌, ap, sym}
use Rattle.std.proofs.lemmas.Result.{on_err_weaker}
use Rattle.fv_outside.specs.Memory.{is_failing, after_fault}
use Rattle.fv_outside.specs.Stored.{shown}
use Rattle.fv_outside.proofs.StoredLemmas.{IsStored-set, GoesOn-set, memory_shown, memory-set}
use Rattle.fv_outside.proofs.memory_desk.MemoryDeskDesk.read.Goals as goal

pub invariant_of-self : goal.invariant_of-self
invariant_of-self c =
    IsStored-set _ _ _ _ c.read.new.self c.self.invariant c.place_of.ensures.bound (c.read.ensures.within _)

pub returns-clause-goes_on : goal.returns-clause-goes_on
returns-clause-goes_on c =
    GoesOn-set _ _ _ _ c.read.new.self _ _ c.args.self.now c.self.view_is c.self.invariant c.place_of.ensures.bound c.read.ensures.goes_on

pub returns-clause-fails : goal.returns-clause-fails
returns-clause-fails c =
    let old = memory_shown _ _ _ c.args.role _ _ c.args.self.now c.self.view_is c.place_of.ensures.place c.self.invariant c.place_of.ensures.bound in
    c.read.ensures.fails ∙ sym (ap is_failing old)

pub returns-clause-fault : goal.returns-clause-fault
returns-clause-fault c = on_err_weaker c.read.result
    (λ e. memory-set _ _ _ c.args.role _ _ c.read.new.self c.args.self.now after_fault c.self.view_is c.place_of.ensures.place c.self.invariant
    c.place_of.ensures.bound (ap (shown c.self.inside.files.items) e)) c.read.ensures.err
