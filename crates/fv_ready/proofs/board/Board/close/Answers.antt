use Rattle.std.proofs.Common.{◌≡◌, ℕ, ◌*◌, ◌-◌, ◌<◌, ◌++◌, ap, sym, ◌∙◌, refl, subst, arith, append-nil, true≢false}
use Rattle.std.specs.Slots.{slots_items}
use mathlib.Core.Option.{some}
use lib.ListN.{get_elem?}
use Rattle.fv_graph.specs.Graph.{edges_of, net_of}
use Rattle.fv_ready.specs.Rule.{claim_word}
use Rattle.fv_ready.specs.Counted.{told_by}
use Rattle.fv_ready.specs.Closed.{AreSlots}
use Rattle.fv_ready.proofs.LeftOver.{whole}
use Rattle.fv_ready.proofs.lemmas.Moving.{no_items}
use Rattle.fv_ready.proofs.Ends.{ended_as, none_taken, some_task, done_taken, are_parcels}
use Rattle.fv_ready.proofs.board.Board.close.Goals as goal

pub hand_out-requires-clause-full : goal.hand_out-requires-clause-full
hand_out-requires-clause-full g c = λ x l m. let b = c.args.self in
    let e = ended_as g.C.Parcel.edge_of g.C.Parcel.key_of b _ _ _ c.end_table-closed.ensures.ended in
    let done = e.finished c.word-stamps.result c.word-stamps.ensures (c.if-stamps-n.true ∙ ap (λ k. 2 * k) c.len-n.ensures.value) in
    let h = e.exits done x (let a = c.edges-edges.ensures.value in let b = c.loops-loops.ensures.value in
    omega arith) (let a = c.edges-edges.ensures.value in omega arith) in (h.parcel, h.at)

pub hand_out-requires-then-is_untouched-clause-full : goal.hand_out-requires-then-is_untouched-clause-full
hand_out-requires-then-is_untouched-clause-full g c = λ x l m. let b = c.args.self in
    let e = ended_as g.C.Parcel.edge_of g.C.Parcel.key_of b _ _ _ c.end_table-closed.ensures.ended in
    let none' = none_taken g.C.Parcel.edge_of g.C.Parcel.key_of _ _ _ _ _ _ e c.len-n.ensures.value
    (c.is_untouched.ensures.0 c.if-is_untouched.true) in
    let h = e.entries none' x (let b = c.loops-loops.ensures.value in omega arith) in (h.parcel, h.at)

pub returns-then-stamps-n-clause-done : goal.returns-then-stamps-n-clause-done
returns-then-stamps-n-clause-done g c = let b = c.args.self in
    let e = ended_as g.C.Parcel.edge_of g.C.Parcel.key_of b _ _ _ c.end_table-closed.ensures.ended in
    let done = e.finished c.word-stamps.result c.word-stamps.ensures (c.if-stamps-n.true ∙ ap (λ k. 2 * k) c.len-n.ensures.value) in ((λ _. done), (λ _. refl))

pub returns-then-stamps-n-clause-tells : goal.returns-then-stamps-n-clause-tells
returns-then-stamps-n-clause-tells g c = let b = c.args.self in
    let e = ended_as g.C.Parcel.edge_of g.C.Parcel.key_of b _ _ _ c.end_table-closed.ensures.ended in e.told

pub returns-then-stamps-n-clause-exits : goal.returns-then-stamps-n-clause-exits
returns-then-stamps-n-clause-exits g c = λ _. let b = c.args.self in
    let e = ended_as g.C.Parcel.edge_of g.C.Parcel.key_of b _ _ _ c.end_table-closed.ensures.ended in
    let done = e.finished c.word-stamps.result c.word-stamps.ensures (c.if-stamps-n.true ∙ ap (λ k. 2 * k) c.len-n.ensures.value) in
    let p = c.hand_out.ensures in let v = c.edges-edges.ensures.value in let w = c.loops-loops.ensures.value in
    let from : c.edges-edges.result - c.loops-loops.result ≡ edges_of b.tasks.now.tasks - b.tasks.now.tasks.loops = omega arith in (
      p.0,
      p.1,
      (let k = p.2 in omega arith),
      are_parcels g.C.Parcel.edge_of g.C.Parcel.key_of b.table.shared.key _ (edges_of b.tasks.now.tasks - b.tasks.now.tasks.loops) p.0
          (λ x l m. e.exits done x l (let k = p.2 in omega arith)) (subst (λ k. AreSlots (slots_items c.end_table-closed.result.slots) k p.0) from p.3),
    )

pub returns-then-stamps-n-clause-entries : goal.returns-then-stamps-n-clause-entries
returns-then-stamps-n-clause-entries g c = λ z. let b = c.args.self in
    let e = ended_as g.C.Parcel.edge_of g.C.Parcel.key_of b _ _ _ c.end_table-closed.ensures.ended in
    let done = e.finished c.word-stamps.result c.word-stamps.ensures (c.if-stamps-n.true ∙ ap (λ k. 2 * k) c.len-n.ensures.value) in
    let some' = some_task b.tasks.now.tasks b.graph in
    absurd (done_taken (net_of b.tasks.now.tasks) (λ f. told_by f c.args.seats.items) 0 e.told (done 0 some') (z 0 some'))

pub returns-then-stamps-n-clause-nothing : goal.returns-then-stamps-n-clause-nothing
returns-then-stamps-n-clause-nothing g c = λ no t l w. absurd (no refl)

pub returns-then-is_untouched-clause-done : goal.returns-then-is_untouched-clause-done
returns-then-is_untouched-clause-done g c = let b = c.args.self in
    let e = ended_as g.C.Parcel.edge_of g.C.Parcel.key_of b _ _ _ c.end_table-closed.ensures.ended in
    let none' = none_taken g.C.Parcel.edge_of g.C.Parcel.key_of _ _ _ _ _ _ e c.len-n.ensures.value
    (c.is_untouched.ensures.0 c.if-is_untouched.true) in
    let some' = some_task b.tasks.now.tasks b.graph in (
      (λ no. absurd (true≢false (sym no))),
      (λ d. absurd (done_taken (net_of b.tasks.now.tasks) (λ f. told_by f c.args.seats.items) 0 e.told
          (d 0 some') (none' 0 some'))),
    )

pub returns-then-is_untouched-clause-tells : goal.returns-then-is_untouched-clause-tells
returns-then-is_untouched-clause-tells g c = let b = c.args.self in
    let e = ended_as g.C.Parcel.edge_of g.C.Parcel.key_of b _ _ _ c.end_table-closed.ensures.ended in e.told

pub returns-then-is_untouched-clause-exits : goal.returns-then-is_untouched-clause-exits
returns-then-is_untouched-clause-exits g c = λ no. absurd (true≢false (sym no))

pub returns-then-is_untouched-clause-entries : goal.returns-then-is_untouched-clause-entries
returns-then-is_untouched-clause-entries g c = λ _. let b = c.args.self in
    let e = ended_as g.C.Parcel.edge_of g.C.Parcel.key_of b _ _ _ c.end_table-closed.ensures.ended in
    let none' = none_taken g.C.Parcel.edge_of g.C.Parcel.key_of _ _ _ _ _ _ e c.len-n.ensures.value
    (c.is_untouched.ensures.0 c.if-is_untouched.true) in
    let p = c.hand_out-then-is_untouched.ensures in let w = c.loops-loops.ensures.value in (
      p.0,
      p.1,
      (let k = p.2 in omega arith),
      are_parcels g.C.Parcel.edge_of g.C.Parcel.key_of b.table.shared.key _ 0 p.0 (λ x l m. e.entries none' x (let k = p.2 in omega arith)) p.3,
    )

pub returns-then-is_untouched-clause-nothing : goal.returns-then-is_untouched-clause-nothing
returns-then-is_untouched-clause-nothing g c = λ no t l w. let b = c.args.self in
    let e = ended_as g.C.Parcel.edge_of g.C.Parcel.key_of b _ _ _ c.end_table-closed.ensures.ended in
    let none' = none_taken g.C.Parcel.edge_of g.C.Parcel.key_of _ _ _ _ _ _ e c.len-n.ensures.value
    (c.is_untouched.ensures.0 c.if-is_untouched.true) in
    let z = none' t l in absurd (omega arith)

pub returns-clause-done : goal.returns-clause-done
returns-clause-done g c = let b = c.args.self in
    let e = ended_as g.C.Parcel.edge_of g.C.Parcel.key_of b _ _ _ c.end_table-closed.ensures.ended in (
      (λ no. absurd (true≢false (sym no))),
      (λ d. absurd (c.if-stamps-n.false
          (e.stamps_of c.word-stamps.result c.word-stamps.ensures d ∙ ap (λ k. 2 * k) (sym c.len-n.ensures.value)))),
    )

pub returns-clause-tells : goal.returns-clause-tells
returns-clause-tells g c = let b = c.args.self in
    let e = ended_as g.C.Parcel.edge_of g.C.Parcel.key_of b _ _ _ c.end_table-closed.ensures.ended in e.told

pub returns-clause-exits : goal.returns-clause-exits
returns-clause-exits g c = λ no. absurd (true≢false (sym no))

pub returns-clause-entries : goal.returns-clause-entries
returns-clause-entries g c = λ z. let b = c.args.self in
    let e = ended_as g.C.Parcel.edge_of g.C.Parcel.key_of b _ _ _ c.end_table-closed.ensures.ended in
    let all' = subst (λ k. (t : ℕ) → t < k → get_elem? (slots_items c.end_table-closed.result.words) (claim_word k t) ≡ some 0)
    (sym c.len-n.ensures.value) (λ t l. e.claim_of t l (z t l)) in
    absurd (true≢false (sym (c.is_untouched.ensures.1 all') ∙ c.if-is_untouched.false))

pub returns-clause-nothing : goal.returns-clause-nothing
returns-clause-nothing g c = λ no t l w. let p = c.hand_out-2.ensures in
    p.1 ∙ ap (λ k. c.args.exits.now.items ++ k) (no_items p.0 p.2) ∙ append-nil c.args.exits.now.items

pub returns-then-stamps-n-clause-whole : goal.returns-then-stamps-n-clause-whole
returns-then-stamps-n-clause-whole g c = λ left. (
  refl,
  (λ t l. (whole g.C.Parcel.edge_of g.C.Parcel.key_of c.args.self c.args.seats.items c.requires.seats (returns-then-stamps-n-clause-tells g c) left t l).1),
)

pub returns-then-is_untouched-clause-whole : goal.returns-then-is_untouched-clause-whole
returns-then-is_untouched-clause-whole g c = λ left.
    let w = whole g.C.Parcel.edge_of g.C.Parcel.key_of c.args.self c.args.seats.items c.requires.seats (returns-then-is_untouched-clause-tells g c) left in (
      (returns-then-is_untouched-clause-done g c).1 (λ t l. (w t l).0),
      (λ t l. (w t l).1),
    )

pub returns-clause-whole : goal.returns-clause-whole
returns-clause-whole g c = λ left.
    let w = whole g.C.Parcel.edge_of g.C.Parcel.key_of c.args.self c.args.seats.items c.requires.seats (returns-clause-tells g c) left in (
      (returns-clause-done g c).1 (λ t l. (w t l).0),
      (λ t l. (w t l).1),
    )
