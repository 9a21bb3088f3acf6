use Rattle.std.proofs.Common.{◌≡◌, ◌<◌, ◌++◌, length, sym, ap, ◌∙◌, subst, arith}
use Rattle.std.specs.Prelude.{All}
use Rattle.fv_outside.specs.declared.gate.Line.{Line}
use Rattle.fv_graph.specs.Graph.{Graph}
use Rattle.fv_ready.specs.Rule.{wins}
use Rattle.fv_ready.specs.Boards.{about_of, name_of}
use Rattle.fv_ready.specs.Counted.{HaveAll, told_by}
use Rattle.fv_steal.specs.Parcels.{AreParcelsFrom}
use Rattle.fv_steal.proofs.Ending.{parcels_from, told_none}
use Rattle.fv_steal.proofs.block.run_crew.Goals as goal

pub close-requires-clause-all : goal.close-requires-clause-all
close-requires-clause-all g c = subst (HaveAll (about_of c.in-Ok-begin.made.0).workers) (sym c.in-Err-crew.ensures.err) c.in-Ok-begin.ensures.all.1

pub returns-in-Err-crew-clause-entries : goal.returns-in-Err-crew-clause-entries
returns-in-Err-crew-clause-entries g c =
    let of = g.C.Parcel.edge_of in
    let key = g.C.Parcel.key_of in
    let b = c.in-Ok-begin.made.0 in
    let d = (about_of b).sample.value in
    let some : 0 < length c.args.entries.items = omega (arith, c.requires.entries.count, c.loops.ensures.graph.some_loop) in
    let same : key d ≡ g.B.Body.key c.args.body.now =
    sym (c.in-Ok-begin.ensures.key 0 d (omega (arith, some, c.args.entries.ok)))
    ∙ c.requires.entries.keys 0 d (omega (arith, some, c.requires.entries.count)) in
    let back = c.close.ensures.entries (λ t l. ap (told_by (wins t)) c.in-Err-crew.ensures.err
    ∙ told_none of key (wins t) (name_of b) (about_of b) 0 c.in-Ok-begin.made.1.items c.in-Ok-begin.ensures.seats) in
    let ps = back.0 in
    let loops : length ps ≡ c.args.block.tasks.now.tasks.loops = back.2 ∙ ap (λ (x : Graph). x.tasks.loops) c.in-Ok-begin.ensures.tasks.0 in
    subst (AreParcelsFrom of key (g.B.Body.key c.args.body.now) 0 c.args.block.tasks.now.tasks.loops) (sym (back.1 ∙ ap (λ xs. xs ++ ps) c.in-Ok.ensures.items))
    (parcels_from of key (about_of b) (g.B.Body.key c.args.body.now) 0 c.args.block.tasks.now.tasks.loops ps loops back.3 same)

pub work_board-exits-requires-clause-graph : goal.work_board-exits-requires-clause-graph
work_board-exits-requires-clause-graph g c κs within = c.loops.ensures.graph

pub work_board-exits-requires-clause-board : goal.work_board-exits-requires-clause-board
work_board-exits-requires-clause-board g c κs within = c.in-Ok-begin.ensures.tasks

pub work_board-exits-requires-clause-crew : goal.work_board-exits-requires-clause-crew
work_board-exits-requires-clause-crew g c κs within =
    let b = c.in-Ok-begin.made.0 in
    let e = c.in-Ok-begin.ensures in
    c.in-Ok-crew.ensures.crew (name_of b) (about_of b) (e.tasks.1, e.workers ∙ sym e.count ∙ c.in-Ok-begin.made.1.ok.0, e.seats)

pub work_board-exits-requires-clause-body : goal.work_board-exits-requires-clause-body
work_board-exits-requires-clause-body g c κs within =
    let d = (about_of c.in-Ok-begin.made.0).sample.value in
    let some : 0 < length c.args.entries.items = omega (arith, c.requires.entries.count, c.loops.ensures.graph.some_loop) in (
      c.requires.body,
      sym (c.requires.entries.keys 0 d (omega (arith, some, c.requires.entries.count)))
          ∙ c.in-Ok-begin.ensures.key 0 d (omega (arith, some, c.args.entries.ok)),
    )

pub returns-clause-exits : goal.returns-clause-exits
returns-clause-exits g c = c.work_board-exits.ensures.exits

pub returns-clause-journal : goal.returns-clause-journal
returns-clause-journal g c = c.work_board-exits.ensures.journal

pub returns-clause-count : goal.returns-clause-count
returns-clause-count g c = c.work_board-exits.ensures.count

pub returns-clause-who : goal.returns-clause-who
returns-clause-who g c =
    subst (λ n. All (λ (line : Line). line.worker < n) c.work_board-exits.new.lines.items) c.in-Ok-begin.ensures.workers c.work_board-exits.ensures.who
