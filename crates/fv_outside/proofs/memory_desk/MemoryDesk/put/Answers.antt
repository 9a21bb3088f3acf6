use Rattle.std.proofs.Common.{ap, ◌∙◌}
use Rattle.fv_outside.specs.headline.Desk.{file_named}
use Rattle.fv_outside.specs.Memory.{Memory}
use Rattle.fv_outside.proofs.StoredLemmas.{file_named-push_same, file_named-push_other}
use Rattle.fv_outside.proofs.memory_desk.MemoryDesk.put.Goals as goal

pub returns-clause-named : goal.returns-clause-named
returns-clause-named c =
    rw (c.in_ok-push.ensures.items, c.in_ok-file.ensures) (file_named-push_same c.self.inside.files.items c.args.name.now c.args.bytes.now)

pub returns-clause-others : goal.returns-clause-others
returns-clause-others c =
    λ n ne. rw (c.in_ok-push.ensures.items, c.in_ok-file.ensures)
    (file_named-push_other c.self.inside.files.items c.args.name.now c.args.bytes.now n ne ∙ ap (λ (m : Memory). file_named n m.files) c.self.view_is)
