use Rattle.std.proofs.Common.{◌≡◌, map, replicate, false, vec_len, vec_capacity}
use Rattle.fv_graph.specs.Net.{need_count}
use Rattle.fv_graph.specs.Graph.{net_of}
use Rattle.fv_graph.specs.Core.{numbers}
use Rattle.fv_graph.proofs.begin.open_tasks.Given as goal

abbrev pub invariant-loop-t : goal.invariant-loop-t
invariant-loop-t l = record {
  counts : l.counts.items ≡ map (need_count (net_of l.tasks.tasks)) (numbers l.t);
  done : l.done.items ≡ replicate l.t false;
  counts_long : vec_len l.counts ≡ l.t;
  done_long : vec_len l.done ≡ l.t;
  counts_room : vec_capacity l.counts ≡ vec_capacity l.initial.counts;
  done_room : vec_capacity l.done ≡ vec_capacity l.initial.done;
}
