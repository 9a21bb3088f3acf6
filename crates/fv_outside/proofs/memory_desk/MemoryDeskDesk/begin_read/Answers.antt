use Rattle.std.proofs.Common.{[], ap, ap₂, sym, ◌∙◌, ◌||◌, get_or, is_none, unwrap_or}
use Rattle.std.proofs.lemmas.Option.{MatchOption-at_some}
use Rattle.std.proofs.lemmas.Result.{on_ok_weaker, on_err_weaker}
use Rattle.fv_outside.specs.headline.Desk.{file_named}
use Rattle.fv_outside.specs.headline.Requests.{to_read}
use Rattle.fv_outside.specs.Memory.{Memory, is_failing, after_begin_read, after_fault}
use Rattle.fv_outside.specs.Stored.{shown}
use Rattle.fv_outside.proofs.StoredLemmas.{IsStored-set, GoesOn-set, IsPlaceOf, none_found, begun_means, memory_shown, asked-set}
use Rattle.fv_outside.proofs.memory_desk.MemoryDeskDesk.begin_read.Goals as goal

pub invariant_of-self : goal.invariant_of-self
invariant_of-self c =
    IsStored-set _ _ _ _ c.begin_read.new.self c.self.invariant c.place_of.ensures.bound
    (λ h. c.begin_read.ensures.within _ h (λ f e. rw (← c.deref.ensures.value) (MatchOption-at_some _ _ f e c.place_named-found.ensures).0))

pub returns-clause-goes_on : goal.returns-clause-goes_on
returns-clause-goes_on c =
    GoesOn-set _ _ _ _ c.begin_read.new.self _ _ c.args.self.now c.self.view_is c.self.invariant c.place_of.ensures.bound c.begin_read.ensures.goes_on

pub returns-clause-fails : goal.returns-clause-fails
returns-clause-fails c =
    let old = memory_shown _ _ _ c.args.role _ _ c.args.self.now c.self.view_is c.place_of.ensures.place c.self.invariant c.place_of.ensures.bound in
    let at : IsPlaceOf c.self.inside.files.items c.args.name.now c.place_named-found.result = rw (← c.deref.ensures.value) c.place_named-found.ensures in
    let none = none_found c.self.inside.files.items c.args.name.now c.place_named-found.result at in
    c.begin_read.ensures.fails
    ∙ ap₂ (λ x y. x || y) (sym (ap is_failing old)) (none ∙ ap (λ (m : Memory). is_none (file_named c.args.name.now m.files)) c.self.view_is)

pub returns-clause-begun : goal.returns-clause-begun
returns-clause-begun c =
    let at : IsPlaceOf c.self.inside.files.items c.args.name.now c.place_named-found.result = rw (← c.deref.ensures.value) c.place_named-found.ensures in
    on_ok_weaker c.begin_read.result
    (λ e. asked-set _ _ _ _ (to_read c.args.role c.args.name.now) c.args.role _ _ c.begin_read.new.self c.args.self.now
    (after_begin_read (unwrap_or (file_named c.args.name.now c.args.self.now.files) [])) c.self.view_is c.place_of.ensures.place c.self.invariant
    c.place_of.ensures.bound c.and-self-inside.ensures e)
    (begun_means c.self.inside.files.items c.args.self.now.files c.args.name.now c.place_named-found.result
    (get_or c.self.inside.drawers c.place_of.result c.index-self-place_of.result) c.begin_read.new.self c.begin_read.result _
    (ap (λ (m : Memory). m.files) c.self.view_is) at c.begin_read.ensures.fails c.begin_read.ensures.ok)

pub returns-clause-fault : goal.returns-clause-fault
returns-clause-fault c = on_err_weaker c.begin_read.result
    (λ e. asked-set _ _ _ _ (to_read c.args.role c.args.name.now) c.args.role _ _ c.begin_read.new.self c.args.self.now after_fault c.self.view_is
    c.place_of.ensures.place c.self.invariant c.place_of.ensures.bound c.and-self-inside.ensures (ap (shown c.self.inside.files.items) e))
    c.begin_read.ensures.err
