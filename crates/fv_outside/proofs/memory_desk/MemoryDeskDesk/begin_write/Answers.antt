use Rattle.std.proofs.Common.{◌∙◌, ap, sym}
use Rattle.std.proofs.lemmas.Result.{on_ok_weaker, on_err_weaker}
use Rattle.fv_outside.specs.headline.Requests.{to_write}
use Rattle.fv_outside.specs.Memory.{is_failing, after_begin_write, after_fault}
use Rattle.fv_outside.specs.Stored.{shown}
use Rattle.fv_outside.proofs.StoredLemmas.{IsStored-set, GoesOn-set, memory_shown, asked-set}
use Rattle.fv_outside.proofs.memory_desk.MemoryDeskDesk.begin_write.Goals as goal

pub invariant_of-self : goal.invariant_of-self
invariant_of-self c =
    IsStored-set _ _ _ _ c.begin_write.new.self c.self.invariant c.place_of.ensures.bound (c.begin_write.ensures.within _)

pub returns-clause-goes_on : goal.returns-clause-goes_on
returns-clause-goes_on c =
    GoesOn-set _ _ _ _ c.begin_write.new.self _ _ c.args.self.now c.self.view_is c.self.invariant c.place_of.ensures.bound c.begin_write.ensures.goes_on

pub returns-clause-fails : goal.returns-clause-fails
returns-clause-fails c =
    let old = memory_shown _ _ _ c.args.role _ _ c.args.self.now c.self.view_is c.place_of.ensures.place c.self.invariant c.place_of.ensures.bound in
    c.begin_write.ensures.fails ∙ sym (ap is_failing old)

pub returns-clause-begun : goal.returns-clause-begun
returns-clause-begun c = on_ok_weaker c.begin_write.result
    (λ e. asked-set _ _ _ _ (to_write c.args.role c.args.name.now) c.args.role _ _ c.begin_write.new.self c.args.self.now after_begin_write c.self.view_is
    c.place_of.ensures.place c.self.invariant c.place_of.ensures.bound c.and-self-inside.ensures (ap (shown c.self.inside.files.items) e))
    c.begin_write.ensures.ok

pub returns-clause-fault : goal.returns-clause-fault
returns-clause-fault c = on_err_weaker c.begin_write.result
    (λ e. asked-set _ _ _ _ (to_write c.args.role c.args.name.now) c.args.role _ _ c.begin_write.new.self c.args.self.now after_fault c.self.view_is
    c.place_of.ensures.place c.self.invariant c.place_of.ensures.bound c.and-self-inside.ensures (ap (shown c.self.inside.files.items) e))
    c.begin_write.ensures.err
