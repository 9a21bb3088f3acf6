use Rattle.std.proofs.Common.{ℕ, sym, ap, ◌∙◌, subst}
use Rattle.fv_signal.specs.declared.signal.Signal.{Signal}
use Rattle.fv_share.specs.Drafts.{CanPut}
use Rattle.fv_propagate.specs.inner.Progress.{Progress, put, table_node, IsAdmitted}
use Rattle.fv_propagate.proofs.Kept.{table_can, table_admitted}
use Rattle.fv_propagate.proofs.progress.Progress.put_table.Goals as goal

pub put-requires-clause-can : goal.put-requires-clause-can
put-requires-clause-can c =
    subst (λ (n : Signal). CanPut c.list.new.self.draft n) (sym c.table_signal-node.ensures)
    (table_can c.args.writes c.args.values.now c.args.ins.now c.args.self.now c.list.new.self c.in_ok-table.table c.in_ok-table.ensures.list c.requires.numbers
    c.requires.width c.requires.wires)

pub put-requires-clause-admitted : goal.put-requires-clause-admitted
put-requires-clause-admitted c =
    subst (λ (n : Signal). IsAdmitted c.list.new.self.feedbacks n) (sym c.table_signal-node.ensures)
    (table_admitted c.list.new.self.feedbacks c.args.writes c.in_ok-table.table c.args.ins.now)

pub returns : goal.returns
returns c =
    c.in_ok-id.ensures ∙ ap (put c.list.new.self) c.table_signal-node.ensures
    ∙ ap (λ (q : ℕ × Progress). put q.1 (table_node c.args.writes q.0 c.args.ins.now)) c.in_ok-table.ensures.list
