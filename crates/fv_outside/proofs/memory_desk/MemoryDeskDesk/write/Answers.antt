use Rattle.std.proofs.Common.{◌≡◌, ◌-◌, ◌∙◌, ap, sym, subst, min, length, take, ◌||◌, IfOk}
use Rattle.std.proofs.lemmas.Result.{IfOk-weaker, on_err_weaker}
use Rattle.fv_outside.specs.Memory.{RoleMemory, is_failing, is_full, after_write, after_fault}
use Rattle.fv_outside.specs.Stored.{shown}
use Rattle.fv_outside.proofs.StoredLemmas.{IsStored-set, GoesOn-set, memory_shown, memory-set}
use Rattle.fv_outside.proofs.memory_desk.MemoryDeskDesk.write.Goals as goal

pub invariant_of-self : goal.invariant_of-self
invariant_of-self c =
    IsStored-set _ _ _ _ c.write.new.self c.self.invariant c.place_of.ensures.bound (c.write.ensures.within _)

pub returns-clause-goes_on : goal.returns-clause-goes_on
returns-clause-goes_on c =
    GoesOn-set _ _ _ _ c.write.new.self _ _ c.args.self.now c.self.view_is c.self.invariant c.place_of.ensures.bound c.write.ensures.goes_on

pub returns-clause-fails : goal.returns-clause-fails
returns-clause-fails c =
    let old = memory_shown _ _ _ c.args.role _ _ c.args.self.now c.self.view_is c.place_of.ensures.place c.self.invariant c.place_of.ensures.bound in
    c.write.ensures.fails ∙ sym (ap (λ (k : RoleMemory). is_failing k || is_full k) old)

pub returns-clause-count : goal.returns-clause-count
returns-clause-count c =
    let old = memory_shown _ _ _ c.args.role _ _ c.args.self.now c.self.view_is c.place_of.ensures.place c.self.invariant c.place_of.ensures.bound in
    subst (λ (k : RoleMemory). IfOk c.write.result (λ n. n ≡ min k.most (min (length c.args.piece.now) (k.room - length k.written)))) (sym old)
    c.write.ensures.count

pub returns-clause-appended : goal.returns-clause-appended
returns-clause-appended c = IfOk-weaker c.write.result _ _
    (λ n e. memory-set _ _ _ c.args.role _ _ c.write.new.self c.args.self.now (after_write (take n c.args.piece.now)) c.self.view_is
    c.place_of.ensures.place c.self.invariant c.place_of.ensures.bound (ap (shown c.self.inside.files.items) e)) c.write.ensures.ok

pub returns-clause-fault : goal.returns-clause-fault
returns-clause-fault c = on_err_weaker c.write.result
    (λ e. memory-set _ _ _ c.args.role _ _ c.write.new.self c.args.self.now after_fault c.self.view_is c.place_of.ensures.place c.self.invariant
    c.place_of.ensures.bound (ap (shown c.self.inside.files.items) e)) c.write.ensures.err
