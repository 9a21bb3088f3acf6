use Rattle.std.proofs.Common.{◌≡◌, ℕ, ◌+◌, ◌*◌, ◌<◌, List, map, length, get_or, sym, ap, ◌∙◌, subst, refl, arith}
use Rattle.std.specs.Global.{Vec}
use Rattle.fv_outside.specs.headline.Tasks.{Tasks}
use Rattle.fv_outside.specs.declared.tasks.Reads.{Reads}
use Rattle.fv_graph.specs.inner.Lists.{AreLists, group_of, edges_at}
use Rattle.fv_graph.proofs.Rising.{makes_graph, same_loops}
use Rattle.fv_graph.proofs.Made.{keys_low, made_low, are_inward, are_outward}
use Rattle.fv_graph.proofs.tasks.Tasks.new.Goals as goal

pub group-requires : goal.group-requires
group-requires c =
    let e = c.in_ok-pairs.ensures in let r = c.requires in
    keys_low (λ (r : Reads). r.reader) c.in_ok-pairs.pairs.items c.deref-2.result.now c.args.loops refl
    (c.deref-2.ensures.value ∙ c.in_ok-readers.ensures ∙ ap (map (λ (r : Reads). r.reader)) c.deref.ensures.value)
    (λ k h. ((makes_graph c.args.loops c.args.vectors c.args.reads.now c.in_ok-pairs.pairs.items r.some_loop r.some_vector r.pairs
    (record { permutation = e.permutation; readers = e.readers; sources = e.sources })).in_order k h).1)

pub group-requires-2 : goal.group-requires-2
group-requires-2 c =
    let e = c.in_ok-pairs.ensures in let r = c.requires in
    keys_low (λ (r : Reads). r.source) c.in_ok-pairs.pairs.items c.deref-4.result.now c.args.loops refl
    (c.deref-4.ensures.value ∙ c.in_ok-sources.ensures ∙ ap (map (λ (r : Reads). r.source)) c.deref-3.ensures.value)
    (λ k h. let o = (makes_graph c.args.loops c.args.vectors c.args.reads.now c.in_ok-pairs.pairs.items r.some_loop r.some_vector r.pairs
    (record { permutation = e.permutation; readers = e.readers; sources = e.sources })).in_order k h in
    let a = o.0 in let b = o.1 in omega arith)

pub lists_of-requires-clause-pairs : goal.lists_of-requires-clause-pairs
lists_of-requires-clause-pairs c = λ j i h l.
    let o = c.in_ok-into.into.ok.0 in let n = c.in_ok-into.ensures.0 in let p = c.in_ok-pairs.pairs.ok.0 in let w = c.len-count.ensures in
    subst (λ (gs : List (Vec ℕ)). i < length (group_of gs j) → c.args.loops + get_or (group_of gs j) i 0 < c.args.loops + c.len-count.result)
    (sym c.deref-5.ensures.value)
    (made_low (record { loops = c.args.loops; vectors = c.args.vectors; reads = c.in_ok-pairs.pairs.items })
    (λ (r : Reads). r.reader) refl c.deref-2.result.now c.in_ok-into.into.items (record {
      all = c.deref-2.ensures.value ∙ c.in_ok-readers.ensures ∙ ap (map (λ (r : Reads). r.reader)) c.deref.ensures.value;
      long = omega arith;
      by = c.in_ok-into.ensures.1;
    }) c.len-count.result (omega arith) j i h) l

pub lists_of-requires-2-clause-pairs : goal.lists_of-requires-2-clause-pairs
lists_of-requires-2-clause-pairs c = λ j i h l.
    let o = c.in_ok-out.out.ok.0 in let n = c.in_ok-out.ensures.0 in let p = c.in_ok-pairs.pairs.ok.0 in let w = c.len-count.ensures in
    subst (λ (gs : List (Vec ℕ)). i < length (group_of gs j) → c.args.loops + get_or (group_of gs j) i 0 < c.args.loops + c.len-count.result)
    (sym c.deref-6.ensures.value)
    (made_low (record { loops = c.args.loops; vectors = c.args.vectors; reads = c.in_ok-pairs.pairs.items })
    (λ (r : Reads). r.source) refl c.deref-4.result.now c.in_ok-out.out.items (record {
      all = c.deref-4.ensures.value ∙ c.in_ok-sources.ensures ∙ ap (map (λ (r : Reads). r.source)) c.deref-3.ensures.value;
      long = omega arith;
      by = c.in_ok-out.ensures.1;
    }) c.len-count.result (omega arith) j i h) l

pub invariant_of-result : goal.invariant_of-result
invariant_of-result c =
    let oi = c.in_ok-into.into.ok.0 in let ni = c.in_ok-into.ensures.0 in let oo = c.in_ok-out.out.ok.0 in let no = c.in_ok-out.ensures.0 in
    let p = c.in_ok-pairs.pairs.ok.0 in let w = c.len-count.ensures in
    let e = c.in_ok-pairs.ensures in let r = c.requires in
    let loops = c.args.loops in let across = loops + c.len-count.result in
    let g : Tasks = record { loops = loops; vectors = c.args.vectors; reads = c.in_ok-pairs.pairs.items } in
    let wide : across ≡ loops + length c.in_ok-pairs.pairs.items = omega arith in
    let into = c.in_ok-inward.inward in let out = c.in_ok-outward.outward in
    let fits = ap (λ n. c.args.vectors * n) wide in let small = c.if-not-can_number.ensures in (
      (makes_graph loops c.args.vectors c.args.reads.now c.in_ok-pairs.pairs.items
          r.some_loop r.some_vector r.pairs (record { permutation = e.permutation; readers = e.readers; sources = e.sources })),
      omega arith,
      are_inward g c.deref-2.result.now c.in_ok-into.into.items into across wide (record {
        all = c.deref-2.ensures.value ∙ c.in_ok-readers.ensures ∙ ap (map (λ (r : Reads). r.reader)) c.deref.ensures.value;
        long = omega arith;
        by = c.in_ok-into.ensures.1;
      }) (subst (λ (p : ℕ × List (Vec ℕ)). AreLists (edges_at loops across 0 p.1) p.0 loops into.wide into.begins.items into.edges.items)
          (λ i. (c.from.ensures i, c.deref-5.ensures.value i)) c.in_ok-inward.ensures),
      are_outward g c.deref-4.result.now c.in_ok-out.out.items out across wide (record {
        all = c.deref-4.ensures.value ∙ c.in_ok-sources.ensures ∙ ap (map (λ (r : Reads). r.source)) c.deref-3.ensures.value;
        long = omega arith;
        by = c.in_ok-out.ensures.1;
      }) (subst (λ (p : ℕ × List (Vec ℕ)). AreLists (edges_at loops across across p.1) p.0 loops out.wide out.begins.items out.edges.items)
          (λ i. (c.from-2.ensures i, c.deref-6.ensures.value i)) c.in_ok-outward.ensures),
      omega arith,
      omega arith,
    )

pub returns-clause-pairs : goal.returns-clause-pairs
returns-clause-pairs c = same_loops c.args.reads.now c.in_ok-pairs.pairs.items c.in_ok-pairs.ensures.permutation

pub returns-clause-graph : goal.returns-clause-graph
returns-clause-graph c =
    let e = c.in_ok-pairs.ensures in let r = c.requires in
    makes_graph c.args.loops c.args.vectors c.args.reads.now c.in_ok-pairs.pairs.items r.some_loop r.some_vector r.pairs
    (record { permutation = e.permutation; readers = e.readers; sources = e.sources })
