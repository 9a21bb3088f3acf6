use Rattle.std.proofs.Common.{◌≡◌, ℕ, suc, ◌+◌, ◌-◌, ◌*◌, ◌<◌, List, [], ◌∷◌}
use Rattle.std.proofs.Common.{length, map, get_or, subst, sym, ap, ap₂, ◌∙◌, arith, vec_capacity, slice_index_or}
use Rattle.std.specs.Prelude.{All, ◌==◌, reverse}
use Rattle.std.specs.Coded.{le_prop}
use Rattle.std.proofs.Math.Logic.{∥∥₁_elim, ∥∥₁_map}
use Rattle.std.specs.Global.{Vec}
use Rattle.std.proofs.Math.Nat.{ℕ_set, suc-mul}
use Rattle.std.proofs.lemmas.List.{length-append, length-map, reverse-reverse}
use Rattle.std.proofs.lemmas.List.Elements.{All-map}
use Rattle.fv_graph.specs.Words.{passing}
use Rattle.fv_graph.specs.Graph.{pair_at, pair_edge, chain_edge, task_at, outward}
use Rattle.fv_lines.specs.declared.seen.Seen.{Seen}
use Rattle.fv_engine_codes.specs.Lanes.{state_in, AreLanesValid, LanesRest, rest_of_writer, rest_of_cells}
use Rattle.fv_engine_codes.specs.Renumbered.{renumbered}
use Rattle.fv_split_plan.specs.headline.View.{code_of}
use Rattle.fv_loopcode.specs.Words.{argument}
use Rattle.fv_loopcode_machine.specs.Scratches.{Serves}
use Rattle.fv_loopcode.specs.declared.step.Step.{Step}
use Rattle.fv_loopcode.specs.Code.{IsWithin}
use Rattle.fv_engine_codes.specs.Plans.{own_lanes, lanes_of_all, sources_of, IsLocalCode}
use Rattle.fv_engine_crew.specs.Contents.{tasks_in, list_room, AreHandedOn, AreSeenOf, AreWritersOf, AreCellsOf, AreRoomy}
use Rattle.fv_engine_crew.specs.inner.Turns.{Known, Before, IsPairFrom, IsChainAt}
use Rattle.fv_engine_crew.specs.declared.start.Start.{Start}
use Rattle.fv_engine_crew.specs.declared.content.Writers.{Writers}
use Rattle.fv_engine_crew.specs.declared.parcel.LoopParcel.{LoopParcel}
use Rattle.fv_engine_crew.proofs.lemmas.Edges.{outward_is, chain_is_at, pairs_of, pairs_out}
use Rattle.fv_engine_crew.proofs.Coming.{Came, came, Holds, holds, none_seen, vector_inside, edges_reverse, keys_reverse}
use Rattle.fv_engine_crew.proofs.Props.{within_prop, within_renumbered, serves_prop, serves_renumbered, serves_as_before}
use Rattle.fv_engine_crew.proofs.Tasking.{before_of, after_of, cells_after_of, upto_next}
use Rattle.fv_engine_crew.proofs.body.LoopBodyBodyLoopParcel.run.Goals as goal

pub unreachable-requires : goal.unreachable-requires
unreachable-requires c =
    let k : Start = c.args.self.now.start in
    let j : ℕ = c.args.task.loop_no in
    let v : ℕ = c.args.task.vector in
    let t : Came k j v c.remove.result c.remove.new.self.items =
    came k j v c.args.parcels.now.items c.remove.result c.remove.new.self.items c.requires.task.0 c.requires.inward.edges_are c.requires.inward.keys
    c.remove.ensures.value c.remove.ensures.by_index.2 in
    none_seen k c.remove.result.start.value j v c.remove.result.edge t.key t.edge c.requires.task.0
    (c.into_content.ensures.seen c.in_default.field-0 c.in_default.is).0

pub gather-requires-clause-keys : goal.gather-requires-clause-keys
gather-requires-clause-keys c =
    let k : Start = c.args.self.now.start in
    let j : ℕ = c.args.task.loop_no in
    let v : ℕ = c.args.task.vector in
    let t : Came k j v c.remove.result c.remove.new.self.items =
    came k j v c.args.parcels.now.items c.remove.result c.remove.new.self.items c.requires.task.0 c.requires.inward.edges_are c.requires.inward.keys
    c.remove.ensures.value c.remove.ensures.by_index.2 in
    subst (λ (qs : List LoopParcel). All (λ (q : LoopParcel). q.start.value ≡ k) qs) (sym c.as_slice.ensures.value) t.keys

pub gather-requires-clause-pairs : goal.gather-requires-clause-pairs
gather-requires-clause-pairs c =
    let k : Start = c.args.self.now.start in
    let j : ℕ = c.args.task.loop_no in
    let v : ℕ = c.args.task.vector in
    let t : Came k j v c.remove.result c.remove.new.self.items =
    came k j v c.args.parcels.now.items c.remove.result c.remove.new.self.items c.requires.task.0 c.requires.inward.edges_are c.requires.inward.keys
    c.remove.ensures.value c.remove.ensures.by_index.2 in
    pairs_of (tasks_in k) j v c.as_slice.result.now (ap (map (λ (q : LoopParcel). q.edge)) c.as_slice.ensures.value ∙ t.pairs)

pub gather-requires-clause-room : goal.gather-requires-clause-room
gather-requires-clause-room c =
    let k : Start = c.args.self.now.start in
    let j : ℕ = c.args.task.loop_no in
    let v : ℕ = c.args.task.vector in
    let t : Came k j v c.remove.result c.remove.new.self.items =
    came k j v c.args.parcels.now.items c.remove.result c.remove.new.self.items c.requires.task.0 c.requires.inward.edges_are c.requires.inward.keys
    c.remove.ensures.value c.remove.ensures.by_index.2 in
    let held : Holds k j v c.in-Writers.writers.value (map (λ (q : LoopParcel). q.edge) c.as_slice.result.now) =
    holds k j v c.remove.result c.remove.new.self.items c.in-Writers.writers.value _ c.requires.task.0 t
    (ap (map (λ (q : LoopParcel). q.edge)) c.as_slice.ensures.value) (c.into_content.ensures.writers c.in-Writers.writers c.in-Writers.is).1 in
    omega (arith, ap length held.lanes, held.writers.room, ap (λ (w : Writers). vec_capacity w.lanes.seen) c.deref_mut.ensures.value)

pub run_code-requires-clause-there : goal.run_code-requires-clause-there
run_code-requires-clause-there c =
    ∥∥₁_elim c.args.self.now.body le_prop (λ b. omega (arith, b.count, c.requires.task.0))

pub run_code-requires-clause-inside : goal.run_code-requires-clause-inside
run_code-requires-clause-inside c =
    let k : Start = c.args.self.now.start in
    let j : ℕ = c.args.task.loop_no in
    let v : ℕ = c.args.task.vector in
    ∥∥₁_elim c.args.self.now.body le_prop (λ b. vector_inside v k.vector k.frames b.job.vector (omega (arith, b.job.vectors, c.requires.task.1)))

pub run_code-requires-clause-known : goal.run_code-requires-clause-known
run_code-requires-clause-known c =
    let k : Start = c.args.self.now.start in
    let j : ℕ = c.args.task.loop_no in
    let v : ℕ = c.args.task.vector in
    ∥∥₁_map {B = Known k j v (slice_index_or c.args.self.now.codes.now j [])} c.args.self.now.body (λ b. record {
      inside = c.requires.task.0;
      le = upto_next v k.vector k.frames;
      few = omega (arith, length-append (own_lanes k.plan.now j) (lanes_of_all k.plan.now (sources_of (tasks_in k) j)));
      codes = b.codes_are j c.requires.task.0;
    })

pub run_code-requires-clause-within : goal.run_code-requires-clause-within
run_code-requires-clause-within c =
    let k : Start = c.args.self.now.start in
    let j : ℕ = c.args.task.loop_no in
    let v : ℕ = c.args.task.vector in
    let code : List Step = slice_index_or c.args.self.now.codes.now j [] in
    λ i d m. ∥∥₁_elim c.args.self.now.body (within_prop (length k.held.now) k.channels (get_or code i d)) (λ b.
    let local : IsLocalCode k.plan.now (tasks_in k) j code = b.codes_are j c.requires.task.0 in
    let within = b.job.within j (omega (arith, b.job.loops, c.requires.task.0)) in
    subst (λ (cs : List Step). IsWithin (length k.held.now) k.channels (get_or cs i d)) (sym local.is)
    (All-map (IsWithin (length k.held.now) k.channels) (renumbered local.place) (code_of k.plan.now j)
    (λ n e l. within_renumbered (length k.held.now) k.channels local.place (get_or (code_of k.plan.now j) n e) (within n e l)) i d
    (subst (λ (cs : List Step). i < length cs) local.is m)))

pub run_code-requires-clause-input : goal.run_code-requires-clause-input
run_code-requires-clause-input c =
    ∥∥₁_elim c.args.self.now.body le_prop (λ b. b.job.input)

pub run_code-requires-clause-before : goal.run_code-requires-clause-before
run_code-requires-clause-before c =
    let k : Start = c.args.self.now.start in
    let j : ℕ = c.args.task.loop_no in
    let v : ℕ = c.args.task.vector in
    let t : Came k j v c.remove.result c.remove.new.self.items =
    came k j v c.args.parcels.now.items c.remove.result c.remove.new.self.items c.requires.task.0 c.requires.inward.edges_are c.requires.inward.keys
    c.remove.ensures.value c.remove.ensures.by_index.2 in
    let held : Holds k j v c.in-Writers.writers.value (map (λ (q : LoopParcel). q.edge) c.as_slice.result.now) =
    holds k j v c.remove.result c.remove.new.self.items c.in-Writers.writers.value _ c.requires.task.0 t
    (ap (map (λ (q : LoopParcel). q.edge)) c.as_slice.ensures.value) (c.into_content.ensures.writers c.in-Writers.writers c.in-Writers.is).1 in
    let now : AreHandedOn k j v 0 c.deref_mut.result.now = subst (AreHandedOn k j v 0) (sym c.deref_mut.ensures.value) held.writers in
    subst (λ (w : Writers). Before k j v (state_in w.lanes)) (sym c.deref_mut-2.ensures.value)
    (before_of k j v c.deref_mut.result.now.lanes.own.items c.gather.new.seen.items c.deref_mut.result.now.lanes.cells now.writers
    (subst (λ (ls : List ℕ). AreSeenOf k ls (v + 1) c.gather.new.seen.items) held.lanes c.gather.ensures.seen) now.cells)

pub run_code-requires-clause-valid : goal.run_code-requires-clause-valid
run_code-requires-clause-valid c =
    let k : Start = c.args.self.now.start in
    let j : ℕ = c.args.task.loop_no in
    let v : ℕ = c.args.task.vector in
    let t : Came k j v c.remove.result c.remove.new.self.items =
    came k j v c.args.parcels.now.items c.remove.result c.remove.new.self.items c.requires.task.0 c.requires.inward.edges_are c.requires.inward.keys
    c.remove.ensures.value c.remove.ensures.by_index.2 in
    let held : Holds k j v c.in-Writers.writers.value (map (λ (q : LoopParcel). q.edge) c.as_slice.result.now) =
    holds k j v c.remove.result c.remove.new.self.items c.in-Writers.writers.value _ c.requires.task.0 t
    (ap (map (λ (q : LoopParcel). q.edge)) c.as_slice.ensures.value) (c.into_content.ensures.writers c.in-Writers.writers c.in-Writers.is).1 in
    let now : AreHandedOn k j v 0 c.deref_mut.result.now = subst (AreHandedOn k j v 0) (sym c.deref_mut.ensures.value) held.writers in
    subst (λ (w : Writers). AreLanesValid w.lanes) (sym c.deref_mut-2.ensures.value) now.cells.placed

pub run_code-requires-clause-scratch : goal.run_code-requires-clause-scratch
run_code-requires-clause-scratch c =
    let k : Start = c.args.self.now.start in
    let j : ℕ = c.args.task.loop_no in
    let v : ℕ = c.args.task.vector in
    let t : Came k j v c.remove.result c.remove.new.self.items =
    came k j v c.args.parcels.now.items c.remove.result c.remove.new.self.items c.requires.task.0 c.requires.inward.edges_are c.requires.inward.keys
    c.remove.ensures.value c.remove.ensures.by_index.2 in
    let held : Holds k j v c.in-Writers.writers.value (map (λ (q : LoopParcel). q.edge) c.as_slice.result.now) =
    holds k j v c.remove.result c.remove.new.self.items c.in-Writers.writers.value _ c.requires.task.0 t
    (ap (map (λ (q : LoopParcel). q.edge)) c.as_slice.ensures.value) (c.into_content.ensures.writers c.in-Writers.writers c.in-Writers.is).1 in
    let now : AreHandedOn k j v 0 c.deref_mut.result.now = subst (AreHandedOn k j v 0) (sym c.deref_mut.ensures.value) held.writers in
    let held_by = argument k.held.now in
    ∥∥₁_elim c.args.self.now.body (serves_prop (slice_index_or c.args.self.now.codes.now j []) held_by c.deref_mut-2.result.now.scratch) (λ b.
    ∥∥₁_elim now.scratch (serves_prop (slice_index_or c.args.self.now.codes.now j []) held_by c.deref_mut-2.result.now.scratch) (λ serves.
    let local : IsLocalCode k.plan.now (tasks_in k) j (slice_index_or c.args.self.now.codes.now j []) = b.codes_are j c.requires.task.0 in
    subst (λ (ss : List Step). Serves ss held_by c.deref_mut-2.result.now.scratch) (sym local.is)
    (subst (λ (w : Writers). Serves (map (renumbered local.place) (code_of k.plan.now j)) held_by w.scratch) (sym c.deref_mut-2.ensures.value)
    (serves_renumbered local.place (code_of k.plan.now j) held_by _ serves))))

pub hand-requires-clause-chain : goal.hand-requires-clause-chain
hand-requires-clause-chain c =
    let k : Start = c.args.self.now.start in
    let j : ℕ = c.args.task.loop_no in
    let v : ℕ = c.args.task.vector in
    let number : c.from.result * c.loops.result + j ≡ task_at (tasks_in k) j v = ap₂ (λ (a b : ℕ). a * b + j) c.from.ensures c.loops.ensures.value in
    let out : c.outward.result.now
    ≡ chain_edge (tasks_in k) j (v + 1) ∷ map (λ (i : ℕ). pair_edge (tasks_in k) i v)
    (passing (λ i. (pair_at (tasks_in k) i).source == j) 0 (length (tasks_in k).reads)) =
    c.outward.ensures ∙ ap (outward (tasks_in k)) number ∙ outward_is (tasks_in k) j v c.requires.task.0 in
    subst (λ (l : List ℕ). IsChainAt (tasks_in k) j (v + 1) (get_or l 0 0)) (sym out) (chain_is_at (tasks_in k) j (v + 1) c.requires.task.0)

pub hand-requires-clause-pairs : goal.hand-requires-clause-pairs
hand-requires-clause-pairs c =
    let k : Start = c.args.self.now.start in
    let j : ℕ = c.args.task.loop_no in
    let v : ℕ = c.args.task.vector in
    let number : c.from.result * c.loops.result + j ≡ task_at (tasks_in k) j v = ap₂ (λ (a b : ℕ). a * b + j) c.from.ensures c.loops.ensures.value in
    let out : c.outward.result.now
    ≡ chain_edge (tasks_in k) j (v + 1) ∷ map (λ (i : ℕ). pair_edge (tasks_in k) i v)
    (passing (λ i. (pair_at (tasks_in k) i).source == j) 0 (length (tasks_in k).reads)) =
    c.outward.ensures ∙ ap (outward (tasks_in k)) number ∙ outward_is (tasks_in k) j v c.requires.task.0 in
    λ i some m. subst (λ (l : List ℕ). IsPairFrom (tasks_in k) j v (get_or l i 0)) (sym out)
    (pairs_out (tasks_in k) j v (chain_edge (tasks_in k) j (v + 1)) i some (subst (λ (l : List ℕ). i < length l) out m))

pub hand-requires-clause-writers : goal.hand-requires-clause-writers
hand-requires-clause-writers c =
    let k : Start = c.args.self.now.start in
    let j : ℕ = c.args.task.loop_no in
    let v : ℕ = c.args.task.vector in
    let t : Came k j v c.remove.result c.remove.new.self.items =
    came k j v c.args.parcels.now.items c.remove.result c.remove.new.self.items c.requires.task.0 c.requires.inward.edges_are c.requires.inward.keys
    c.remove.ensures.value c.remove.ensures.by_index.2 in
    let held : Holds k j v c.in-Writers.writers.value (map (λ (q : LoopParcel). q.edge) c.as_slice.result.now) =
    holds k j v c.remove.result c.remove.new.self.items c.in-Writers.writers.value _ c.requires.task.0 t
    (ap (map (λ (q : LoopParcel). q.edge)) c.as_slice.ensures.value) (c.into_content.ensures.writers c.in-Writers.writers c.in-Writers.is).1 in
    let number : c.from.result * c.loops.result + j ≡ task_at (tasks_in k) j v = ap₂ (λ (a b : ℕ). a * b + j) c.from.ensures c.loops.ensures.value in
    let ks : List ℕ = passing (λ i. (pair_at (tasks_in k) i).source == j) 0 (length (tasks_in k).reads) in
    let out : c.outward.result.now ≡ chain_edge (tasks_in k) j (v + 1) ∷ map (λ (i : ℕ). pair_edge (tasks_in k) i v) ks =
    c.outward.ensures ∙ ap (outward (tasks_in k)) number ∙ outward_is (tasks_in k) j v c.requires.task.0 in
    let now : AreHandedOn k j v 0 c.deref_mut.result.now = subst (AreHandedOn k j v 0) (sym c.deref_mut.ensures.value) held.writers in
    let own : List ℕ = own_lanes k.plan.now j in
    let left : (tasks_in k).vectors - v ≡ suc ((tasks_in k).vectors - (v + 1)) = omega (arith, c.requires.task.1) in
    let step : ((tasks_in k).vectors - v) * length ks ≡ ((tasks_in k).vectors - (v + 1)) * length ks + length ks =
    ap (λ (n : ℕ). n * length ks) left ∙ suc-mul ((tasks_in k).vectors - (v + 1)) (length ks) in
    let lists : c.deref_mut-3.result.now.lists ≡ c.deref_mut.result.now.lists =
    ap (λ (w : Writers). w.lists) c.deref_mut-3.ensures.value ∙ c.run_code.ensures.lists ∙ ap (λ (w : Writers). w.lists) c.deref_mut-2.ensures.value in
    let next : suc v ≡ v + 1 = omega arith in
    let after : AreWritersOf k own (suc v) c.run_code.new.writers.lanes.own.items =
    after_of k j v c.deref_mut.result.now.lanes.own.items c.run_code.new.writers.lanes.own.items c.run_code.new.writers.lanes.seen.items
    c.run_code.new.writers.lanes.cells c.args.self.now.real now.writers
    (ap (λ (r : LanesRest). r.own) c.run_code.ensures.kept ∙ ap (λ (w : Writers). map rest_of_writer w.lanes.own.items) c.deref_mut-2.ensures.value)
    c.run_code.ensures.after in
    let cells : AreCellsOf k j (suc v) c.run_code.new.writers.lanes.cells =
    cells_after_of k j v c.deref_mut.result.now.lanes.cells c.run_code.new.writers.lanes.cells _ now.cells
    (ap (λ (r : LanesRest). r.cells) c.run_code.ensures.kept ∙ ap (λ (w : Writers). rest_of_cells w.lanes.cells) c.deref_mut-2.ensures.value)
    c.run_code.ensures.valid c.run_code.ensures.after in
    record {
      writers = subst (λ (w : Writers). AreWritersOf k own (v + 1) w.lanes.own.items) (sym c.deref_mut-3.ensures.value)
          (subst (λ (n : ℕ). AreWritersOf k own n c.run_code.new.writers.lanes.own.items) next after);
      cells = subst (λ (w : Writers). AreCellsOf k j (v + 1) w.lanes.cells) (sym c.deref_mut-3.ensures.value)
          (subst (λ (n : ℕ). AreCellsOf k j n c.run_code.new.writers.lanes.cells) next cells);
      nothing_seen = c.clear-2.ensures.items;
      room = omega (
        arith,
        c.clear-2.ensures.capacity,
        ap (λ (w : Writers). vec_capacity w.lanes.seen) c.deref_mut-3.ensures.value,
        ap (λ (r : LanesRest). vec_capacity r.seen) c.run_code.ensures.kept,
        ap (λ (w : Writers). vec_capacity w.lanes.seen) c.deref_mut-2.ensures.value,
        c.gather.ensures.room,
        now.room,
      );
      scratch = subst (λ (w : Writers). ∥ Serves (code_of k.plan.now j) (argument k.held.now) w.scratch ∥₁) (sym c.deref_mut-3.ensures.value)
          (∥∥₁_map {B = Serves (code_of k.plan.now j) (argument k.held.now) c.run_code.new.writers.scratch} c.args.self.now.body (λ b.
          let local : IsLocalCode k.plan.now (tasks_in k) j (slice_index_or c.args.self.now.codes.now j []) = b.codes_are j c.requires.task.0 in
          serves_as_before local.place (code_of k.plan.now j) (argument k.held.now) c.run_code.new.writers.scratch
          (subst (λ (ss : List Step). Serves ss (argument k.held.now) c.run_code.new.writers.scratch) local.is c.run_code.ensures.scratch)));
      lists = λ many. omega (
        arith,
        now.lists many,
        step,
        ap length out,
        length-map ks (λ (i : ℕ). pair_edge (tasks_in k) i v),
        ap (λ (l : Vec (Vec Seen)). length l.items) lists,
      );
      roomy = subst (λ (l : Vec (Vec Seen)). AreRoomy l.items (list_room (length own))) (sym lists) now.roomy;
    }

pub returns-clause-outward : goal.returns-clause-outward
returns-clause-outward c =
    let k : Start = c.args.self.now.start in
    let j : ℕ = c.args.task.loop_no in
    let v : ℕ = c.args.task.vector in
    let number : c.from.result * c.loops.result + j ≡ task_at (tasks_in k) j v = ap₂ (λ (a b : ℕ). a * b + j) c.from.ensures c.loops.ensures.value in
    record {
      edges_are = ap (map (λ (q : LoopParcel). q.edge)) c.reverse.ensures.items ∙ edges_reverse c.hand.new.parcels.items ∙ ap reverse c.hand.ensures.edges
          ∙ reverse-reverse c.outward.result.now ∙ c.outward.ensures ∙ ap (outward (tasks_in k)) number;
      keys = subst (λ (qs : List LoopParcel). All (λ (q : LoopParcel). q.start.value ≡ k) qs) (sym c.reverse.ensures.items)
          (keys_reverse k c.hand.new.parcels.items c.hand.ensures.keys);
    }
