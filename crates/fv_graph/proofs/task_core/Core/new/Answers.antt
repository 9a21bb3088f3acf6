use Rattle.std.proofs.Common.{◌≡◌, ℕ, [], List, length, replicate, get_or, ap, ◌∙◌, refl, arith, vec_len}
use Rattle.std.proofs.lemmas.List.{length-map, length-replicate}
use Rattle.fv_graph.specs.Graph.{Graph, net_of}
use Rattle.fv_graph.specs.Core.{dealt, ready}
use Rattle.fv_graph.proofs.lemmas.Opens.{get_in}
use Rattle.fv_graph.proofs.Keeps.{stored_open, running_open, opened}
use Rattle.fv_graph.proofs.task_core.Core.new.Goals as goal

pub invariant_of-result : goal.invariant_of-result
invariant_of-result c =
    let many : vec_len c.in_ok-deques.deques ≡ c.args.workers = let a = ap length c.in_ok-deques.ensures.empty in
    let b = length-map c.in_ok-deques.deques.items (λ d. d.items) in
    let e = length-replicate {A = List ℕ} c.args.workers [] in let o = c.in_ok-deques.deques.ok.0 in omega arith in
    let is = opened c.args.tasks.now.tasks c.args.workers _ _ _ _ _ _ c.open_tasks.ensures.counts c.open_tasks.ensures.done
    (c.deal.ensures.dealt ∙ ap (λ k. dealt k 0 (ready (net_of c.args.tasks.now.tasks)) (replicate k [])) many)
    c.in_ok-repeated.ensures c.in_ok-empty_lists.ensures.empty c.in_ok-repeated-2.ensures in
    let seen = ap (λ (g : Graph). g.tasks) c.of.ensures in
    let t = c.len-room_tasks.ensures.value in let e = c.edges-room_edges.ensures.value in
    let cr = c.open_tasks.ensures.counts_room in let ce = c.in_ok-counts.ensures.exact in
    let dr = c.open_tasks.ensures.done_room in let de = c.in_ok-done.ensures.exact in
    stored_open _ c.args.tasks.now.tasks (record {
      graph = c.open_tasks.ensures.graph;
      some = c.requires.some_worker;
      seen = seen;
      state = is;
      tasks = omega arith;
      edges = omega arith;
      counts = omega arith;
      done = omega arith;
      deques = λ w h. let q = ap (λ l. get_or l w 0) (c.deal.ensures.rooms ∙ c.in_ok-deques.ensures.room) in
          let g = get_in c.args.workers c.len-room_tasks.result 0 w h in omega arith;
      owes = λ w h. let q = ap (λ l. get_or l w 0) c.in_ok-empty_lists.ensures.room in
          let g = get_in c.args.workers c.edges-room_edges.result 0 w h in omega arith;
    })

pub returns-clause-core : goal.returns-clause-core
returns-clause-core c =
    let many : vec_len c.in_ok-deques.deques ≡ c.args.workers = let a = ap length c.in_ok-deques.ensures.empty in
    let b = length-map c.in_ok-deques.deques.items (λ d. d.items) in
    let e = length-replicate {A = List ℕ} c.args.workers [] in let o = c.in_ok-deques.deques.ok.0 in omega arith in
    let is = opened c.args.tasks.now.tasks c.args.workers _ _ _ _ _ _ c.open_tasks.ensures.counts c.open_tasks.ensures.done
    (c.deal.ensures.dealt ∙ ap (λ k. dealt k 0 (ready (net_of c.args.tasks.now.tasks)) (replicate k [])) many)
    c.in_ok-repeated.ensures c.in_ok-empty_lists.ensures.empty c.in_ok-repeated-2.ensures in
    let seen = ap (λ (g : Graph). g.tasks) c.of.ensures in
    running_open c.args.tasks.now.tasks _ _ c.args.workers _ _ _ _ _ seen refl c.len-room_tasks.ensures.value c.edges-room_edges.ensures.value is
