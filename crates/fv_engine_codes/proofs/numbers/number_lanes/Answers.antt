use Rattle.std.proofs.Common.{◌≡◌, ◌+◌, ◌-◌, ◌<◌, ℕ, List, [], ◌∷◌, ◌++◌, length, get_or, ap, ap₂, ◌∙◌, subst, sym, refl, arith, append-nil}
use Rattle.std.specs.Prelude.{All, slice_index}
use Rattle.std.specs.Global.{Vec}
use Rattle.std.proofs.lemmas.List.{length-append}
use Rattle.fv_outside.specs.headline.Tasks.{Tasks}
use Rattle.fv_outside.specs.declared.tasks.Reads.{Reads}
use Rattle.fv_graph.specs.Graph.{no_reads}
use Rattle.fv_split_plan.specs.headline.View.{PlanView}
use Rattle.fv_engine_codes.specs.Plans.{own_lanes, sources_of}
use Rattle.fv_engine_codes.specs.inner.Numbered.{AreNumbered, AreOnce}
use Rattle.fv_engine_codes.proofs.Prefixes.{own_there, so_far, so_far_next, so_far_all, so_far_once, so_far_few}
use Rattle.fv_engine_codes.proofs.Sources.{IsInto, at_into, length_into, source_there}
use Rattle.fv_engine_codes.proofs.numbers.number_lanes.Goals as goal

element : {X : Type 0} (xs : List X) (i : ℕ) → i < length xs → X
element [] i l = absurd (omega arith)
element (x ∷ xs) i l = x

pub number-count-requires-clause-there : goal.number-count-requires-clause-there
number-count-requires-clause-there c =
    let p : PlanView = c.args.plan.now in
    let d : Vec ℕ = element c.args.lists.now c.args.loop_no (omega (arith, c.requires.lists.count, c.requires.there)) in
    let own : c.lanes_of.result.now ≡ own_lanes p c.args.loop_no = c.lanes_of.ensures d ∙ c.requires.lists.each c.args.loop_no d c.requires.there in
    subst (All (λ l. l < length c.args.places.now)) (sym own) (own_there p c.args.loop_no (length c.args.places.now) c.requires.long)

pub number-count-requires-clause-fits : goal.number-count-requires-clause-fits
number-count-requires-clause-fits c =
    let p : PlanView = c.args.plan.now in
    let d : Vec ℕ = element c.args.lists.now c.args.loop_no (omega (arith, c.requires.lists.count, c.requires.there)) in
    let own : c.lanes_of.result.now ≡ own_lanes p c.args.loop_no = c.lanes_of.ensures d ∙ c.requires.lists.each c.args.loop_no d c.requires.there in
    let first : c.lanes_of.result.now ≡ so_far p c.args.tasks.now.tasks c.args.loop_no 0 = own ∙ sym (append-nil (own_lanes p c.args.loop_no)) in
    omega (arith, ap length first, so_far_few p c.args.tasks.now.tasks c.args.loop_no c.loops-loops.ensures.graph 0, c.requires.long)

pub loop-i-init : goal.loop-i-init
loop-i-init c =
    let p : PlanView = c.args.plan.now in
    let g : Tasks = c.args.tasks.now.tasks in
    let d : Vec ℕ = element c.args.lists.now c.args.loop_no (omega (arith, c.requires.lists.count, c.requires.there)) in
    let own : c.lanes_of.result.now ≡ own_lanes p c.args.loop_no = c.lanes_of.ensures d ∙ c.requires.lists.each c.args.loop_no d c.requires.there in
    let first : c.lanes_of.result.now ≡ so_far p g c.args.loop_no 0 = own ∙ sym (append-nil (own_lanes p c.args.loop_no)) in
    let once : AreOnce c.lanes_of.result.now = subst AreOnce (sym first) (so_far_once p g c.args.loop_no c.loops-loops.ensures.graph 0) in
    record {
      numbered = subst (AreNumbered c.number-count.new.places) first (c.number-count.ensures.numbered [] refl (λ k l. absurd (omega (arith, l))) once);
      count = omega (arith, c.number-count.ensures.count, ap length first);
      long = omega (arith, c.requires.long, c.number-count.auto.places);
    }

pub overflow_sub-into : goal.overflow_sub-into
overflow_sub-into c =
    let g : Tasks = c.args.tasks.now.tasks in
    let there : c.args.loop_no < g.loops = omega (arith, c.requires.there, c.requires.of_plan.loops) in
    let e : IsInto g c.args.loop_no (c.loop-i.i - 1) (slice_index c.inward-into.result.now c.loop-i.i) =
    subst (λ (xs : List ℕ). IsInto g c.args.loop_no (c.loop-i.i - 1) (slice_index xs c.loop-i.i)) (sym c.inward-into.ensures)
    (at_into g c.args.loop_no c.loop-i.i c.loops-loops.ensures.graph there c.loop-i.auto.i
    (omega (arith, c.loop-i-test.true, ap length c.inward-into.ensures))) in
    omega (arith, e.low, c.loops-loops.ensures.value)

pub source_at-source-requires : goal.source_at-source-requires
source_at-source-requires c =
    let g : Tasks = c.args.tasks.now.tasks in
    let there : c.args.loop_no < g.loops = omega (arith, c.requires.there, c.requires.of_plan.loops) in
    let e : IsInto g c.args.loop_no (c.loop-i.i - 1) (slice_index c.inward-into.result.now c.loop-i.i) =
    subst (λ (xs : List ℕ). IsInto g c.args.loop_no (c.loop-i.i - 1) (slice_index xs c.loop-i.i)) (sym c.inward-into.ensures)
    (at_into g c.args.loop_no c.loop-i.i c.loops-loops.ensures.graph there c.loop-i.auto.i
    (omega (arith, c.loop-i-test.true, ap length c.inward-into.ensures))) in
    omega (arith, e.high, c.loops-loops.ensures.value, ap length c.reads.ensures)

pub number-count-requires-in-loop-i-clause-there : goal.number-count-requires-in-loop-i-clause-there
number-count-requires-in-loop-i-clause-there c =
    let p : PlanView = c.args.plan.now in
    let g : Tasks = c.args.tasks.now.tasks in
    let j : ℕ = c.args.loop_no in
    let i : ℕ = c.loop-i.i - 1 in
    let there : j < g.loops = omega (arith, c.requires.there, c.requires.of_plan.loops) in
    let e : IsInto g j i (slice_index c.inward-into.result.now c.loop-i.i) =
    subst (λ (xs : List ℕ). IsInto g j i (slice_index xs c.loop-i.i)) (sym c.inward-into.ensures)
    (at_into g j c.loop-i.i c.loops-loops.ensures.graph there c.loop-i.auto.i (omega (arith, c.loop-i-test.true, ap length c.inward-into.ensures))) in
    let inside : i < length (sources_of g j) =
    omega (arith, c.loop-i-test.true, c.loop-i.auto.i, ap length c.inward-into.ensures, length_into g j c.loops-loops.ensures.graph there) in
    let s : ℕ = slice_index (sources_of g j) i in
    let pair : slice_index c.inward-into.result.now c.loop-i.i - c.loops-loops.result ≡ slice_index c.inward-into.result.now c.loop-i.i - g.loops =
    omega (arith, c.loops-loops.ensures.value) in
    let source : c.source_at-source.result ≡ s =
    c.source_at-source.ensures ∙ ap₂ (λ (rs : List Reads) (n : ℕ). (get_or rs n no_reads).source) c.reads.ensures pair ∙ e.source in
    let low : s < g.loops = source_there g j i c.loops-loops.ensures.graph inside in
    let known : c.source_at-source.result < p.loops = omega (arith, low, source, c.requires.of_plan.loops) in
    let d : Vec ℕ = element c.args.lists.now c.source_at-source.result (omega (arith, known, c.requires.lists.count)) in
    let lanes : c.lanes_of-in-loop-i.result.now ≡ own_lanes p s =
    c.lanes_of-in-loop-i.ensures d ∙ c.requires.lists.each c.source_at-source.result d known ∙ ap (own_lanes p) source in
    subst (All (λ l. l < length c.loop-i.places)) (sym lanes) (own_there p s (length c.loop-i.places) c.loop-i.invariant.long)

pub number-count-requires-in-loop-i-clause-fits : goal.number-count-requires-in-loop-i-clause-fits
number-count-requires-in-loop-i-clause-fits c =
    let p : PlanView = c.args.plan.now in
    let g : Tasks = c.args.tasks.now.tasks in
    let j : ℕ = c.args.loop_no in
    let i : ℕ = c.loop-i.i - 1 in
    let there : j < g.loops = omega (arith, c.requires.there, c.requires.of_plan.loops) in
    let e : IsInto g j i (slice_index c.inward-into.result.now c.loop-i.i) =
    subst (λ (xs : List ℕ). IsInto g j i (slice_index xs c.loop-i.i)) (sym c.inward-into.ensures)
    (at_into g j c.loop-i.i c.loops-loops.ensures.graph there c.loop-i.auto.i (omega (arith, c.loop-i-test.true, ap length c.inward-into.ensures))) in
    let inside : i < length (sources_of g j) =
    omega (arith, c.loop-i-test.true, c.loop-i.auto.i, ap length c.inward-into.ensures, length_into g j c.loops-loops.ensures.graph there) in
    let s : ℕ = slice_index (sources_of g j) i in
    let pair : slice_index c.inward-into.result.now c.loop-i.i - c.loops-loops.result ≡ slice_index c.inward-into.result.now c.loop-i.i - g.loops =
    omega (arith, c.loops-loops.ensures.value) in
    let source : c.source_at-source.result ≡ s =
    c.source_at-source.ensures ∙ ap₂ (λ (rs : List Reads) (n : ℕ). (get_or rs n no_reads).source) c.reads.ensures pair ∙ e.source in
    let low : s < g.loops = source_there g j i c.loops-loops.ensures.graph inside in
    let known : c.source_at-source.result < p.loops = omega (arith, low, source, c.requires.of_plan.loops) in
    let d : Vec ℕ = element c.args.lists.now c.source_at-source.result (omega (arith, known, c.requires.lists.count)) in
    let lanes : c.lanes_of-in-loop-i.result.now ≡ own_lanes p s =
    c.lanes_of-in-loop-i.ensures d ∙ c.requires.lists.each c.source_at-source.result d known ∙ ap (own_lanes p) source in
    omega (
      arith,
      ap length lanes,
      ap length (so_far_next p g j i inside),
      length-append (so_far p g j i) (own_lanes p s),
      c.loop-i.invariant.count,
      so_far_few p g j c.loops-loops.ensures.graph (i + 1),
      c.loop-i.invariant.long,
    )

pub loop-i-preserved : goal.loop-i-preserved
loop-i-preserved c =
    let p : PlanView = c.args.plan.now in
    let g : Tasks = c.args.tasks.now.tasks in
    let j : ℕ = c.args.loop_no in
    let i : ℕ = c.loop-i.i - 1 in
    let there : j < g.loops = omega (arith, c.requires.there, c.requires.of_plan.loops) in
    let e : IsInto g j i (slice_index c.inward-into.result.now c.loop-i.i) =
    subst (λ (xs : List ℕ). IsInto g j i (slice_index xs c.loop-i.i)) (sym c.inward-into.ensures)
    (at_into g j c.loop-i.i c.loops-loops.ensures.graph there c.loop-i.auto.i (omega (arith, c.loop-i-test.true, ap length c.inward-into.ensures))) in
    let inside : i < length (sources_of g j) =
    omega (arith, c.loop-i-test.true, c.loop-i.auto.i, ap length c.inward-into.ensures, length_into g j c.loops-loops.ensures.graph there) in
    let s : ℕ = slice_index (sources_of g j) i in
    let pair : slice_index c.inward-into.result.now c.loop-i.i - c.loops-loops.result ≡ slice_index c.inward-into.result.now c.loop-i.i - g.loops =
    omega (arith, c.loops-loops.ensures.value) in
    let source : c.source_at-source.result ≡ s =
    c.source_at-source.ensures ∙ ap₂ (λ (rs : List Reads) (n : ℕ). (get_or rs n no_reads).source) c.reads.ensures pair ∙ e.source in
    let low : s < g.loops = source_there g j i c.loops-loops.ensures.graph inside in
    let known : c.source_at-source.result < p.loops = omega (arith, low, source, c.requires.of_plan.loops) in
    let d : Vec ℕ = element c.args.lists.now c.source_at-source.result (omega (arith, known, c.requires.lists.count)) in
    let lanes : c.lanes_of-in-loop-i.result.now ≡ own_lanes p s =
    c.lanes_of-in-loop-i.ensures d ∙ c.requires.lists.each c.source_at-source.result d known ∙ ap (own_lanes p) source in
    let before : List ℕ = so_far p g j i in
    let one : i + 1 ≡ c.loop-i.i + 1 - 1 = omega (arith, c.loop-i.auto.i) in
    let next : so_far p g j (i + 1) ≡ before ++ c.lanes_of-in-loop-i.result.now =
    so_far_next p g j i inside ∙ ap (λ (xs : List ℕ). before ++ xs) (sym lanes) in
    let after : so_far p g j (c.loop-i.i + 1 - 1) ≡ before ++ c.lanes_of-in-loop-i.result.now = ap (so_far p g j) (sym one) ∙ next in
    record {
      numbered = subst (AreNumbered c.number-count-in-loop-i.new.places) (sym after)
          (c.number-count-in-loop-i.ensures.numbered before (sym c.loop-i.invariant.count) c.loop-i.invariant.numbered
          (subst AreOnce next (so_far_once p g j c.loops-loops.ensures.graph (i + 1))));
      count = omega (
        arith,
        c.loop-i.invariant.count,
        c.number-count-in-loop-i.ensures.count,
        ap length after,
        length-append before c.lanes_of-in-loop-i.result.now,
      );
      long = omega (arith, c.loop-i.invariant.long, c.number-count-in-loop-i.auto.places);
    }

pub returns-clause-numbered : goal.returns-clause-numbered
returns-clause-numbered c =
    let g : Tasks = c.args.tasks.now.tasks in
    let there : c.args.loop_no < g.loops = omega (arith, c.requires.there, c.requires.of_plan.loops) in
    let all : c.loop-i.i - 1 ≡ length (sources_of g c.args.loop_no) =
    omega (
      arith,
      c.loop-i-test.false,
      c.loop-i.auto.i-end,
      c.loop-i.auto.i,
      ap length c.inward-into.ensures,
      length_into g c.args.loop_no c.loops-loops.ensures.graph there,
    ) in
    subst (AreNumbered c.loop-i.places) (so_far_all c.args.plan.now g c.args.loop_no (c.loop-i.i - 1) all) c.loop-i.invariant.numbered

pub returns-clause-count : goal.returns-clause-count
returns-clause-count c =
    let g : Tasks = c.args.tasks.now.tasks in
    let there : c.args.loop_no < g.loops = omega (arith, c.requires.there, c.requires.of_plan.loops) in
    let all : c.loop-i.i - 1 ≡ length (sources_of g c.args.loop_no) =
    omega (
      arith,
      c.loop-i-test.false,
      c.loop-i.auto.i-end,
      c.loop-i.auto.i,
      ap length c.inward-into.ensures,
      length_into g c.args.loop_no c.loops-loops.ensures.graph there,
    ) in
    c.loop-i.invariant.count ∙ ap length (so_far_all c.args.plan.now g c.args.loop_no (c.loop-i.i - 1) all)
