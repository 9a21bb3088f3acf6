use Rattle.std.proofs.Common.{◌≡◌, ◌<◌, ap, sym, subst, eq-eqb, ne_eqb}
use Rattle.fv_graph.specs.Graph.{Graph}
use Rattle.fv_ready.specs.Rule.{done_by, finishes, arrives}
use Rattle.fv_graph.specs.Graph.{net_of, reader_of}
use Rattle.fv_ready.specs.Seats.{view_of}
use Rattle.fv_steal.specs.declared.rule.Account.{Account}
use Rattle.fv_steal.specs.Deques.{account_of}
use Rattle.fv_steal.proofs.Looks.{one_arrived}
use Rattle.fv_steal.proofs.Boards.{fresh_put, pushed_more}
use Rattle.fv_steal.proofs.Arrivals.{put_after, put_between, none_put}
use Rattle.fv_steal.proofs.moves.arrive_at.Goals as goal

pub push-requires-clause-fresh : goal.push-requires-clause-fresh
push-requires-clause-fresh g c =
    fresh_put c.args.board.now c.args.tasks.now c.requires.tasks c.requires.wires (view_of c.args.seat.now) (account_of c.args.deque.now).put c.args.edge
    c.reader-reader.result c.reader-reader.ensures c.requires.inner c.requires.put c.arrive-count.ensures.first

pub returns-then-last-clause-arrived : goal.returns-then-last-clause-arrived
returns-then-last-clause-arrived g c =
    one_arrived (view_of c.args.seat.now) (view_of c.arrive-count.new.seat) c.args.edge c.arrive-count.result c.arrive-count.ensures.list

pub returns-then-last-clause-put : goal.returns-then-last-clause-put
returns-then-last-clause-put g c =
    put_after (net_of c.args.tasks.now.tasks) (view_of c.args.seat.now) (view_of c.arrive-count.new.seat) c.args.edge c.arrive-count.result
    (account_of c.args.deque.now).put (account_of c.push.new.self).put c.arrive-count.ensures.list
    (pushed_more c.arrive-count.result c.reader-reader.result (reader_of c.args.tasks.now.tasks c.args.edge) (account_of c.args.deque.now).put
    (account_of c.push.new.self).put (ap (λ (a : Account). a.put) c.push.ensures.account) c.reader-reader.ensures
    (eq-eqb c.arrive-count.result 0 c.if-last.true))
    c.requires.put

pub returns-then-last-clause-between : goal.returns-then-last-clause-between
returns-then-last-clause-between g c =
    put_between (net_of c.args.tasks.now.tasks) (view_of c.args.seat.now) (view_of c.arrive-count.new.seat) c.args.edge c.arrive-count.result
    (account_of c.args.deque.now).put (account_of c.push.new.self).put c.arrive-count.ensures.list
    (pushed_more c.arrive-count.result c.reader-reader.result (reader_of c.args.tasks.now.tasks c.args.edge) (account_of c.args.deque.now).put
    (account_of c.push.new.self).put (ap (λ (a : Account). a.put) c.push.ensures.account) c.reader-reader.ensures
    (eq-eqb c.arrive-count.result 0 c.if-last.true))

pub returns-else-last-clause-arrived : goal.returns-else-last-clause-arrived
returns-else-last-clause-arrived g c =
    one_arrived (view_of c.args.seat.now) (view_of c.arrive-count.new.seat) c.args.edge c.arrive-count.result c.arrive-count.ensures.list

pub returns-else-last-clause-put : goal.returns-else-last-clause-put
returns-else-last-clause-put g c =
    put_after (net_of c.args.tasks.now.tasks) (view_of c.args.seat.now) (view_of c.arrive-count.new.seat) c.args.edge c.arrive-count.result
    (account_of c.args.deque.now).put (account_of c.args.deque.now).put c.arrive-count.ensures.list
    (none_put c.arrive-count.result (reader_of c.args.tasks.now.tasks c.args.edge) (account_of c.args.deque.now).put
    (ne_eqb c.arrive-count.result 0 c.if-last.false))
    c.requires.put

pub returns-else-last-clause-between : goal.returns-else-last-clause-between
returns-else-last-clause-between g c =
    put_between (net_of c.args.tasks.now.tasks) (view_of c.args.seat.now) (view_of c.arrive-count.new.seat) c.args.edge c.arrive-count.result
    (account_of c.args.deque.now).put (account_of c.args.deque.now).put c.arrive-count.ensures.list
    (none_put c.arrive-count.result (reader_of c.args.tasks.now.tasks c.args.edge) (account_of c.args.deque.now).put
    (ne_eqb c.arrive-count.result 0 c.if-last.false))

pub arrive-count-requires-clause-owed : goal.arrive-count-requires-clause-owed
arrive-count-requires-clause-owed g c =
    subst (λ (k : Graph). (0 < done_by (finishes ((net_of k.tasks).source c.args.edge)) (view_of c.args.seat.now))
    × (done_by (arrives c.args.edge) (view_of c.args.seat.now) ≡ 0))
    (sym c.requires.tasks) c.requires.owed
