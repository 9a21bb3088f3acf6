use Rattle.std.proofs.Common.{◌≡◌, ◌<◌, ◌≤◌, ◌-◌, ◌++◌, length, map, take, drop, sym, ap, ◌∙◌, subst, arith, vec_len, vec_capacity}
use Rattle.std.specs.List.{flat_map}
use Rattle.std.proofs.lemmas.List.Sorted.{All-permutation}
use Rattle.fv_outside.specs.Tasks.{task_count}
use Rattle.fv_outside.specs.headline.Journal.{IsOrdered}
use Rattle.fv_outside.specs.declared.gate.Line.{Line}
use Rattle.fv_graph.specs.Graph.{Graph, edges_of, net_of}
use Rattle.fv_ready.specs.Boards.{about_of, name_of, tasks_of, AreSeatsOf}
use Rattle.fv_ready.specs.Counted.{HaveAll, NothingLeft}
use Rattle.fv_steal.specs.Crews.{number_of, seat_of, lines_of, IsCrew}
use Rattle.fv_steal.specs.Journals.{AreThrough, AreSortedLines}
use Rattle.fv_steal.specs.Parcels.{AreParcelsFrom}
use Rattle.fv_steal.proofs.Ending.{written, parcels_from}
use Rattle.fv_steal.proofs.Through.{Worked, left_of_board, through, sorted, who, numbers_below}
use Rattle.fv_steal.proofs.block.work_board.Goals as goal
use Rattle.fv_steal.proofs.block.work_board.Goals.{After-close, After-seats_of}

pub work-requires-clause-crew : goal.work-requires-clause-crew
work-requires-clause-crew g c κs within =
    let b = c.args.block.board in
    subst (IsCrew g.C.Parcel.edge_of g.C.Parcel.key_of (name_of b) (about_of b)) (sym c.as_mut_slice.ensures.value) c.requires.crew

-- the seats that were given back are those of the crew, as it returned
back : (g : _) (c : goal.After-seats_of g) → take (vec_len c.args.block.crew) (c.work.new.workers ++ drop (length c.work.new.workers) c.args.block.crew.items)
    ≡ c.work.new.workers
back g c =
    let new = c.work.new.workers in
    let a = c.work.auto.workers in
    let v = ap length c.as_mut_slice.ensures.value in
    let o = c.args.block.crew.ok.0 in
    written (vec_len c.args.block.crew) new c.args.block.crew.items (omega arith)

seats_are : (g : _) (c : goal.After-seats_of g) → c.seats_of.result.items ≡ map seat_of c.work.new.workers
seats_are g c = c.seats_of.ensures ∙ ap (map seat_of) (back g c)

pub close-requires-clause-seats : goal.close-requires-clause-seats
close-requires-clause-seats g c =
    subst (AreSeatsOf g.C.Parcel.edge_of g.C.Parcel.key_of c.args.block.board) (sym (seats_are g (goal.at.close-requires-clause-seats g c).After-seats_of))
    c.work.ensures.seats.0

pub close-requires-clause-all : goal.close-requires-clause-all
close-requires-clause-all g c =
    subst (λ ss. HaveAll (about_of c.args.block.board).workers ss) (sym (seats_are g (goal.at.close-requires-clause-all g c).After-seats_of))
    c.work.ensures.seats.1

worked : (g : _) (c : goal.After-close g)
    → Worked g.C.Parcel.edge_of g.C.Parcel.key_of c.args.block.board c.args.tasks.now c.work.new.workers c.seats_of.result.items
worked g c = record {
  graph = c.requires.board.0;
  told = c.requires.board.1;
  seats_are = seats_are g (goal.at.returns-clause-exits g c).After-seats_of;
  workers = c.work.ensures.workers;
}

-- nothing is left over, so the board is done
none_left : (g : _) (c : goal.After-close g) → NothingLeft (net_of (tasks_of c.args.block.board)) c.seats_of.result.items
none_left g c = left_of_board (worked g c) c.work.ensures.left

-- the crew is through
crew_through : (g : _) (c : goal.After-close g) → AreThrough c.args.tasks.now.tasks c.work.new.workers
crew_through g c =
    let done = c.close.ensures.whole (none_left g c) in
    through (worked g c) c.close.ensures.tells (c.close.ensures.done.0 done.0)

-- its lines, sorted
crew_lines : (g : _) (c : goal.After-close g) → AreSortedLines c.work.new.workers c.sort_lines.new.lines.items
crew_lines g c =
    let same = c.as_slice.ensures.value ∙ back g (goal.at.returns-clause-exits g c).After-seats_of in
    sorted (worked g c) c.journal_law.ensures.count c.requires.graph (crew_through g c) (vec_capacity c.args.lines.now) c.requires.lines.1
    c.copy_lines.new.lines.items
    c.sort_lines.new.lines.items (λ fits. c.copy_lines.ensures.lines (subst (λ us. length (flat_map lines_of us) ≤ vec_capacity c.args.lines.now)
    (sym same) fits) ∙ ap (flat_map lines_of) same) c.sort_lines.ensures.permutation c.sort_lines.ensures.starts

-- they are the journal
told : (g : _) (c : goal.After-close g) → IsOrdered c.args.tasks.now.tasks c.sort_lines.new.lines.items
    × (length c.sort_lines.new.lines.items ≡ task_count c.args.tasks.now.tasks)
told g c =
    c.journal_law.ensures.journal c.args.tasks.now.tasks c.work.new.workers c.sort_lines.new.lines.items c.requires.graph (crew_through g c)
    (crew_lines g c)

pub returns-clause-exits : goal.returns-clause-exits
returns-clause-exits g c =
    let of = g.C.Parcel.edge_of in
    let key = g.C.Parcel.key_of in
    let b = c.args.block.board in
    let gains = c.close.ensures.exits (c.close.ensures.whole (none_left g c)).0 in
    let ps = gains.0 in
    let loops : length ps ≡ c.args.tasks.now.tasks.loops = gains.2 ∙ ap (λ (x : Graph). x.tasks.loops) c.requires.board.0 in
    let from : edges_of (tasks_of b) - (tasks_of b).loops ≡ edges_of c.args.tasks.now.tasks - c.args.tasks.now.tasks.loops =
    ap (λ (x : Graph). edges_of x.tasks - x.tasks.loops) c.requires.board.0 in
    subst (AreParcelsFrom of key (g.B.Body.key c.args.body.now) (edges_of c.args.tasks.now.tasks - c.args.tasks.now.tasks.loops) c.args.tasks.now.tasks.loops)
    (sym (gains.1 ∙ ap (λ xs. xs ++ ps) c.requires.exits.0))
    (subst (λ n. AreParcelsFrom of key (g.B.Body.key c.args.body.now) n c.args.tasks.now.tasks.loops ps) from
    (parcels_from of key (about_of b) (g.B.Body.key c.args.body.now)
    (edges_of (tasks_of b) - (tasks_of b).loops) c.args.tasks.now.tasks.loops ps loops gains.3 (sym c.requires.body.1)))

pub returns-clause-journal : goal.returns-clause-journal
returns-clause-journal g c = (told g c).0

pub returns-clause-count : goal.returns-clause-count
returns-clause-count g c = (told g c).1

pub returns-clause-who : goal.returns-clause-who
returns-clause-who g c =
    let n = (about_of c.args.block.board).workers in
    let crew = c.requires.crew in
    let few = numbers_below n c.args.block.crew.items c.work.new.workers (c.work.ensures.numbers ∙ ap (map number_of) c.as_mut_slice.ensures.value) crew.count
    crew.numbers in
    All-permutation (λ (line : Line). line.worker < n) (flat_map lines_of c.work.new.workers) c.sort_lines.new.lines.items
    (crew_lines g c).permutation (who (worked g c) n few (crew_through g c))
