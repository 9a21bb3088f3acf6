use Rattle.std.proofs.Common.{◌≡◌, ℕ, [], List, length, replicate, get_or, ap, ◌∙◌, arith, vec_len, Option, None, false}
use Rattle.std.proofs.lemmas.List.{length-map, length-replicate}
use Rattle.fv_graph.specs.Graph.{Graph, net_of}
use Rattle.fv_graph.specs.Core.{opening, dealt, ready}
use Rattle.fv_graph.specs.Running.{Running}
use Rattle.fv_graph.proofs.Keeps.{stored_open, running_open, opened}
use Rattle.fv_graph.proofs.task_core.Core.reset.Goals as goal

pub invariant_of-self : goal.invariant_of-self
invariant_of-self c =
    let i = c.self.inside in let s = c.self.invariant.valid in
    let old = length-map i.deques.items (λ d. d.items) in let dl = s.deques_long in let od = i.deques.ok.0 in
    let many : vec_len c.clear_deques.new.deques ≡ i.workers = let a = ap length c.clear_deques.ensures.empty in
    let b = length-map c.clear_deques.new.deques.items (λ d. d.items) in
    let e = length-replicate {A = List ℕ} (vec_len i.deques) [] in let o = c.clear_deques.new.deques.ok.0 in omega arith in
    let runs : vec_len i.runs ≡ i.workers = let l = s.runs_long in let o = i.runs.ok.0 in omega arith in
    let owes : vec_len i.owes ≡ i.workers = let l = s.owes_long in let o = i.owes.ok.0 in let m = length-map i.owes.items (λ v. v.items) in omega arith in
    let left : vec_len i.left ≡ i.workers = let l = s.left_long in let o = i.left.ok.0 in omega arith in
    let is = opened c.args.tasks.now.tasks i.workers _ _ _ _ _ _ c.open_tasks.ensures.counts c.open_tasks.ensures.done
    (c.deal.ensures.dealt ∙ ap (λ k. dealt k 0 (ready (net_of c.args.tasks.now.tasks)) (replicate k [])) many)
    (c.set_all.ensures ∙ ap (λ k. replicate {A = Option ℕ} k None) runs) (c.clear_lists.ensures.empty ∙ ap (λ k. replicate k []) owes)
    (c.set_all-2.ensures ∙ ap (λ k. replicate k false) left) in
    let seen = ap (λ (g : Graph). g.tasks) c.of.ensures in
    let t = c.requires.tasks in let e = c.requires.edges in
    let vt = ap (λ (r : Running). r.room_tasks) c.self.view_is in let ve = ap (λ (r : Running). r.room_edges) c.self.view_is in
    let cr = c.open_tasks.ensures.counts_room in let ce = c.self.invariant.counts_room in
    let dr = c.open_tasks.ensures.done_room in let de = c.self.invariant.done_room in
    stored_open _ c.args.tasks.now.tasks (record {
      graph = c.open_tasks.ensures.graph;
      some = c.self.invariant.some_worker;
      seen = seen;
      state = is;
      tasks = omega arith;
      edges = omega arith;
      counts = omega arith;
      done = omega arith;
      deques = λ w h. let q = ap (λ l. get_or l w 0) (c.deal.ensures.rooms ∙ c.clear_deques.ensures.rooms) in
          let g = c.self.invariant.deques_room w h in omega arith;
      owes = λ w h. let q = ap (λ l. get_or l w 0) c.clear_lists.ensures.rooms in let g = c.self.invariant.owed_room w h in omega arith;
    })

pub returns : goal.returns
returns c =
    let i = c.self.inside in let s = c.self.invariant.valid in
    let old = length-map i.deques.items (λ d. d.items) in let dl = s.deques_long in let od = i.deques.ok.0 in
    let many : vec_len c.clear_deques.new.deques ≡ i.workers = let a = ap length c.clear_deques.ensures.empty in
    let b = length-map c.clear_deques.new.deques.items (λ d. d.items) in
    let e = length-replicate {A = List ℕ} (vec_len i.deques) [] in let o = c.clear_deques.new.deques.ok.0 in omega arith in
    let runs : vec_len i.runs ≡ i.workers = let l = s.runs_long in let o = i.runs.ok.0 in omega arith in
    let owes : vec_len i.owes ≡ i.workers = let l = s.owes_long in let o = i.owes.ok.0 in let m = length-map i.owes.items (λ v. v.items) in omega arith in
    let left : vec_len i.left ≡ i.workers = let l = s.left_long in let o = i.left.ok.0 in omega arith in
    let is = opened c.args.tasks.now.tasks i.workers _ _ _ _ _ _ c.open_tasks.ensures.counts c.open_tasks.ensures.done
    (c.deal.ensures.dealt ∙ ap (λ k. dealt k 0 (ready (net_of c.args.tasks.now.tasks)) (replicate k [])) many)
    (c.set_all.ensures ∙ ap (λ k. replicate {A = Option ℕ} k None) runs) (c.clear_lists.ensures.empty ∙ ap (λ k. replicate k []) owes)
    (c.set_all-2.ensures ∙ ap (λ k. replicate k false) left) in
    let seen = ap (λ (g : Graph). g.tasks) c.of.ensures in
    let same = ap (λ (r : Running). r.workers) c.self.view_is in
    running_open c.args.tasks.now.tasks _ _ c.args.self.now.workers _ _ _ _ _ seen same (ap (λ (r : Running). r.room_tasks) c.self.view_is)
    (ap (λ (r : Running). r.room_edges) c.self.view_is)
    (is ∙ ap (opening (net_of c.args.tasks.now.tasks)) same)
