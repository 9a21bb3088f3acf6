use Rattle.std.proofs.Common.{ℕ, ◌<◌, [], get_or, length, subst, rules, arith, below_more, Vec}
use Rattle.std.proofs.lemmas.List.{get_or_read, length-map}
use Rattle.std.specs.declared.alloc.Global.{Global}
use Rattle.fv_signal.specs.declared.signal.Signal.{Signal}
use Rattle.fv_signal.specs.Rows.{graph_with}
use Rattle.test_graphs.proofs.Standing.{Stands, stands_with}
use Rattle.test_graphs.proofs.table.are_graph.Goals as goal

pub loop-place-preserved : goal.loop-place-preserved
loop-place-preserved c =
    let signals = c.args.signals.now in let place = c.loop-place.place in let x = c.index-signals-place.result in
    let g = graph_with signals c.args.groups.now c.args.tables.now [] in
    let here : Stands g place x = record {
      ordered = c.may_stand.ensures.ordered (search rules);
      closed = c.may_stand.ensures.closed (search rules);
      number = c.may_stand.ensures.number;
    } in
    below_more (λ i. (d : Signal) → Stands g i (get_or signals i d)) place c.loop-place.invariant
    (λ d. subst (Stands g place) (get_or_read signals place x c.loop-place-test.true c.index-signals-place.is d) here)

pub returns-then-are_defined : goal.returns-then-are_defined
returns-then-are_defined c = λ t.
    let signals = c.args.signals.now in let groups = c.args.groups.now in
    let g = graph_with signals groups c.args.tables.now [] in
    let stands : (i : ℕ) (d : Signal) → i < length signals → Stands (graph_with signals groups c.args.tables.now c.args.outputs.now) i (get_or signals i d) =
    λ i d l. stands_with g c.args.outputs.now i (get_or signals i d) (c.loop-place.invariant i (omega (arith, l)) d) in
    let many = length-map groups (λ (r : Vec ℕ Global). r.items) in
    record {
      ordered = λ i d l. (stands i d l).ordered;
      closed = λ i d l. (stands i d l).closed;
      defined = λ group i h l. c.are_defined.ensures (search rules) group (omega (arith, many, h)) i 0 l;
      outputs = λ j l. c.are_before.ensures t j 0 l;
      numbers = λ i d l. (stands i d l).number;
      tables = c.requires;
    }
