use Rattle.std.proofs.Common.{◌∙◌, ap, sym, arith}
use Rattle.fv_graph.specs.Graph.{Graph}
use Rattle.fv_steal.proofs.Drainings.{hold_all, all_given, none_out, number_3, long3, same_numbers, nothing_left}
use Rattle.fv_steal.proofs.Handed.{seats_are, owe_nothing, have_all}
use Rattle.fv_steal.proofs.crew_work.work.Goals as goal

pub gather-requires : goal.gather-requires
gather-requires g c = record {
  holds = hold_all g.C.Parcel.edge_of g.C.Parcel.key_of c.args.board.now c.args.tasks.now.tasks c.args.workers.now c.live_all.new.workers c.requires.crew
      c.live_all.ensures.count c.live_all.ensures.turned;
}

pub drain_all-requires-clause-workers : goal.drain_all-requires-clause-workers
drain_all-requires-clause-workers g c =
    all_given g.C.Parcel.edge_of g.C.Parcel.key_of c.args.board.now c.args.tasks.now.tasks c.args.workers.now c.live_all.new.workers c.requires.crew
    c.live_all.ensures.count c.live_all.ensures.turned c.gather.new.workers c.gather.ensures.given

pub drain_all-requires-clause-none : goal.drain_all-requires-clause-none
drain_all-requires-clause-none g c =
    none_out g.C.Parcel.edge_of g.C.Parcel.key_of c.args.board.now c.args.tasks.now.tasks c.args.workers.now c.live_all.new.workers c.requires.crew
    c.live_all.ensures.count c.live_all.ensures.turned c.gather.new.workers c.gather.ensures.given

pub returns : goal.returns
returns g c =
    let of = g.C.Parcel.edge_of in let key = g.C.Parcel.key_of in let b = c.args.board.now in let t = c.args.tasks.now.tasks in
    let ws = c.args.workers.now in let ws1 = c.live_all.new.workers in let ws2 = c.gather.new.workers in let ws3 = c.drain_all.new.workers in
    let crew = c.requires.crew in let some = c.requires.some in let live = c.live_all.ensures in let gave = c.gather.ensures.given in
    let drained = c.drain_all.ensures.drained in
    let long = long3 of key b t ws ws1 crew live.count live.turned ws2 gave some ws3 drained in
    record {
      workers = drained.workers;
      numbers = same_numbers of key b t ws ws1 crew live.count live.turned ws2 gave some ws3 drained;
      left = nothing_left of key b t ws ws1 crew live.count live.turned ws2 gave some ws3 drained
          (sym (ap (λ (t : Graph). t.tasks) (b.told ∙ c.requires.tasks)));
      owes = owe_nothing of key b c.args.tasks.now c.requires.tasks ws3 drained.workers;
      seats = (
        seats_are of key b ws3 drained.workers,
        have_all of key b ws3 (omega arith) (long ∙ crew.count) drained.workers (λ i d l. number_3 of key b t ws ws1 crew live.count live.turned ws2
            gave some ws3 drained i d (omega arith) ∙ crew.numbers i d (omega arith)),
      );
    }
