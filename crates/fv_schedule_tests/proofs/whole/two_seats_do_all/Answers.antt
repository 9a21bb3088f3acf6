use Rattle.std.proofs.Common.{◌<◌, false, true, sym, ap, ◌∙◌, subst, arith}
use Rattle.fv_outside.specs.headline.Tasks.{Tasks}
use Rattle.fv_outside.specs.Tasks.{task_count}
use Rattle.fv_graph.specs.Graph.{source_of}
use Rattle.fv_ready.specs.declared.view.Deed.TheVariants.{Stamped}
use Rattle.fv_ready.specs.Rule.{done_by, arrives, finishes}
use Rattle.fv_ready.specs.Seats.{view_of}
use Rattle.fv_schedule_tests.proofs.Slots.{after_two, saw_ready}
use Rattle.fv_schedule_tests.proofs.whole.two_seats_do_all.Goals as goal

pub arrive-count-requires-clause-owed : goal.arrive-count-requires-clause-owed
arrive-count-requires-clause-owed g c =
    let v = view_of c.claim_first.new.a in
    let w = view_of c.run_first-finish.new.seat in
    let list = c.run_first-finish.ensures.list in
    let done = ap (λ u. done_by (finishes 0) u) list.2 ∙ after_two (finishes 0) v (Stamped list.0 0 true) (Stamped list.1 0 false) in
    let undone = ap (λ u. done_by (arrives 2) u) list.2 ∙ after_two (arrives 2) v (Stamped list.0 0 true) (Stamped list.1 0 false) in (
      subst (λ (g : Tasks). 0 < done_by (finishes (source_of g 2)) w) (sym c.in_ok-board.ensures.tasks) (omega arith),
      (let u = c.claim_first.ensures.undone in omega arith),
    )

pub claim-taken-requires-clause-ready : goal.claim-taken-requires-clause-ready
claim-taken-requires-clause-ready g c =
    let seen = saw_ready 1 (view_of c.claim_first.new.b) (view_of c.is_ready-next.new.seat) c.is_ready-next.result c.is_ready-next.ensures.list in
    (subst (λ (g : Tasks). 1 < task_count g) (sym c.in_ok-board.ensures.tasks) (omega arith), search seen)
