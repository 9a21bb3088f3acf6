use Rattle.std.proofs.Common.{◌≡◌, ◌+◌, ◌*◌, length, vec_len, ap, sym, ◌∙◌, arith, None}
use Rattle.fv_graph.specs.Graph.{Graph, net_of, edges_of}
use Rattle.fv_graph.proofs.lemmas.Opens.{length_same}
use Rattle.fv_ready.specs.Begun.{first_slots, parcels_of}
use Rattle.fv_ready.proofs.Laying.{begins_so, key_is, words_long, slots_long}
use Rattle.fv_ready.proofs.lemmas.Moving.{parcels_first}
use Rattle.fv_ready.proofs.Dealing.{first_seats, are_seats, having_one}
use Rattle.fv_ready.proofs.lemmas.Seated.{edges_fit}
use Rattle.fv_ready.proofs.Openings.{opens_seats}
use Rattle.fv_ready.proofs.board.Board.begin.Goals as goal

pub new-requires : goal.new-requires
new-requires g c =
    let e : vec_len c.in-Ok-empty_slots.slots ≡ edges_of c.args.tasks.now.tasks = c.in-Ok-empty_slots.slots.ok.0 ∙ ap length
    c.in-Ok-empty_slots.ensures ∙ length_same c.edges-edges.result None ∙ c.edges-edges.ensures.value in
    begins_so g.C.Parcel.edge_of g.C.Parcel.key_of _ c.args.tasks.now c.args.entries.items c.index.result.now c.of.ensures
    c.loops-loops.ensures.graph.some_loop (sym c.args.entries.ok.0 ∙ c.requires.count) c.requires.entries c.index.ensures c.of-2.ensures
    _ _ (c.as_slice.ensures.value ∙ c.in-Ok.ensures) (c.fill.ensures.slots ∙ ap (λ n. first_slots n c.args.entries.items) e) c.requires.workers.0

pub invariant_of-result : goal.invariant_of-result
invariant_of-result g c =
    let e : vec_len c.in-Ok-empty_slots.slots ≡ edges_of c.args.tasks.now.tasks = c.in-Ok-empty_slots.slots.ok.0 ∙ ap length
    c.in-Ok-empty_slots.ensures ∙ length_same c.edges-edges.result None ∙ c.edges-edges.ensures.value in
    record {
      graph = c.loops-loops.ensures.graph;
      few = (
        let v = c.edges-edges.ensures.value in let l = c.edges-edges.ensures.fewer in
            omega arith,
        let v = c.edges-edges.ensures.value in let l = c.edges-edges.ensures.small in omega arith,
      );
      told = ap (λ k. k.tasks.value) c.in-Ok-new.ensures.ok.5 ∙ c.of.ensures;
      sized = (
        c.in-Ok-new.ensures.ok.0 ∙ ap length (c.as_slice.ensures.value ∙ c.in-Ok.ensures) ∙ words_long (net_of c.args.tasks.now.tasks),
        c.in-Ok-new.ensures.ok.1 ∙ slots_long g.C.Parcel.edge_of g.C.Parcel.key_of
            (record { tasks = c.of.result; workers = c.args.workers; sample = c.of-2.result }) c.args.tasks.now c.args.entries.items
            c.index.result.now c.of.ensures c.loops-loops.ensures.graph.some_loop (sym c.args.entries.ok.0 ∙ c.requires.count)
            c.requires.entries c.index.ensures c.of-2.ensures
            _ (c.fill.ensures.slots ∙ ap (λ n. first_slots n c.args.entries.items) e),
      );
    }

pub returns-in-Ok-new-clause-key : goal.returns-in-Ok-new-clause-key
returns-in-Ok-new-clause-key g c = λ k d h. key_is g.C.Parcel.edge_of g.C.Parcel.key_of
    (record { tasks = c.of.result; workers = c.args.workers; sample = c.of-2.result }) c.args.tasks.now c.args.entries.items
    c.index.result.now c.of.ensures c.loops-loops.ensures.graph.some_loop (sym c.args.entries.ok.0 ∙ c.requires.count) c.requires.entries
    c.index.ensures c.of-2.ensures
    k d (let o = c.args.entries.ok.0 in omega arith) ∙ ap (λ a. g.C.Parcel.key_of a.sample.value) (sym c.in-Ok-new.ensures.ok.5)

pub hand_back-requires-clause-room : goal.hand_back-requires-clause-room
hand_back-requires-clause-room g c =
    let p = ap length (ap parcels_of (c.in-Err.ensures.err ∙ c.fill.ensures.slots) ∙ parcels_first (vec_len c.in-Ok-empty_slots.slots) c.args.entries.items) in
    let q = c.fill.ensures.emptied.1 in let o = c.args.entries.ok in omega (arith, o.0, o.1)

pub returns-clause-err : goal.returns-clause-err
returns-clause-err g c = c.hand_back.ensures ∙ ap parcels_of (c.in-Err.ensures.err ∙ c.fill.ensures.slots) ∙ parcels_first
    (vec_len c.in-Ok-empty_slots.slots) c.args.entries.items

pub returns-in-Ok-new-clause-seats : goal.returns-in-Ok-new-clause-seats
returns-in-Ok-new-clause-seats g c =
    let table = c.in-Ok-new.table.shared in let room = 2 * (length c.reads.result.now + 1) in
    let told = ap (λ k. k.tasks.value) c.in-Ok-new.ensures.ok.5 ∙ c.of.ensures in
    first_seats g.C.Parcel.edge_of g.C.Parcel.key_of table.table_id table.key room (λ t. let f = edges_fit table.key.tasks.value.tasks t in
    let l = ap (λ (k : Graph). length k.tasks.reads) told in let r = ap length c.reads.ensures in omega arith) 0 c.deal.new.seats.items
    (c.deal.ensures.seats room c.in-Ok-roomy_lists.ensures.1)

pub returns-in-Ok-new-clause-all : goal.returns-in-Ok-new-clause-all
returns-in-Ok-new-clause-all g c =
    let table = c.in-Ok-new.table.shared in let first = returns-in-Ok-new-clause-seats g c in
    let w = ap (λ k. k.workers) c.in-Ok-new.ensures.ok.5 in (
      are_seats g.C.Parcel.edge_of g.C.Parcel.key_of table.table_id table.key 0 c.deal.new.seats.items first,
      (
        (let r = c.requires.workers.0 in omega arith),
        λ k l. having_one g.C.Parcel.edge_of g.C.Parcel.key_of table.table_id table.key 0 k c.deal.new.seats.items first (omega arith)
            (let n = c.deal.ensures.count in let o = c.deal.new.seats.ok.0 in omega arith),
      ),
    )

pub returns-in-Ok-new-clause-opening : goal.returns-in-Ok-new-clause-opening
returns-in-Ok-new-clause-opening g c =
    let table = c.in-Ok-new.table.shared in let first = returns-in-Ok-new-clause-seats g c in
    opens_seats g.C.Parcel.edge_of g.C.Parcel.key_of table.table_id table.key c.args.tasks.now c.args.workers c.deal.new.seats.items first
    (ap (λ k. k.tasks.value) c.in-Ok-new.ensures.ok.5 ∙ c.of.ensures) (ap (λ k. k.workers) c.in-Ok-new.ensures.ok.5)
