use Rattle.std.proofs.Common.{◌≡◌, ◌<◌, ℕ, List, [], ◌∷◌, ◌++◌, length, take, get_or, All, sym, ap, ◌∙◌, subst, arith, false}
use Rattle.std.proofs.lemmas.List.{length-append}
use Rattle.fv_share.specs.Drafts.{IsPending}
use Rattle.fv_simplify.specs.Nodes.{node}
use Rattle.fv_simplify.specs.Passing.{room_in}
use Rattle.fv_simplify.specs.Runs.{Pass, step, begun}
use Rattle.fv_simplify.proofs.Along.{stepped}
use Rattle.fv_simplify.proofs.Rest.{are_pending, are_tabled}
use Rattle.fv_simplify.proofs.Closes.{steps_more, images_long, some_signals, all_push}
use Rattle.fv_simplify.proofs.pass.passed.Goals as goal

pub next-requires-clause-more : goal.next-requires-clause-more
next-requires-clause-more c =
    let at = c.loop-place in
    let g = c.args.graph.now in
    let here : at.place < length g.signals = omega arith in
    let long : length at.images.items ≡ at.place =
    ap (λ (p : Pass). length p.images) (sym at.invariant.pass) ∙ images_long g c.args.marks.now (room_in c.args.rooms.now) at.place (omega (arith, here)) in
    omega (arith, ap length c.deref.ensures.value, long, here)

pub next-requires-clause-some : goal.next-requires-clause-some
next-requires-clause-some c =
    let at = c.loop-place in
    let g = c.args.graph.now in
    subst (λ (p : Pass). 0 < length p.draft.signals) at.invariant.pass
    (some_signals g c.args.marks.now (room_in c.args.rooms.now) (take at.place g.signals))

pub next-requires-clause-open : goal.next-requires-clause-open
next-requires-clause-open c =
    let at = c.loop-place in
    let g = c.args.graph.now in
    λ k l. subst (λ (p : Pass). IsPending p.draft k) at.invariant.pass
    (are_pending g c.args.marks.now (room_in c.args.rooms.now) (take at.place g.signals) k l)

pub next-requires-clause-tables : goal.next-requires-clause-tables
next-requires-clause-tables c =
    let at = c.loop-place in
    let g = c.args.graph.now in
    ap (λ (p : Pass). p.draft.tables) (sym at.invariant.pass) ∙ are_tabled g c.args.marks.now (room_in c.args.rooms.now) (take at.place g.signals)

pub loop-place-preserved : goal.loop-place-preserved
loop-place-preserved c =
    let at = c.loop-place in
    let g = c.args.graph.now in
    let marks = c.args.marks.now in
    let room = room_in c.args.rooms.now in
    let here : at.place < length g.signals = omega arith in
    let long : length at.images.items ≡ at.place =
    ap (λ (p : Pass). length p.images) (sym at.invariant.pass) ∙ images_long g marks room at.place (omega (arith, here)) in
    let id = c.in_ok-id.id in
    let images = c.deref.ensures.value in
    let before : Pass = record { draft = at.builder; images = at.images.items } in
    let told : step g marks room before (node g (length at.images.items)) ≡ record { draft = c.next.new.builder; images = at.images.items ++ id ∷ [] } =
    subst (λ (xs : List ℕ). step g marks room (record { draft = at.builder; images = xs }) (node g (length xs))
    ≡ record { draft = c.next.new.builder; images = xs ++ id ∷ [] }) images
    (c.in_ok-id.ensures.step marks (ap (λ k. get_or marks k false) (ap length images ∙ long))) in
    let moved : step g marks room before (node g at.place) ≡ record { draft = c.next.new.builder; images = at.images.items ++ id ∷ [] } =
    ap (λ k. step g marks room before (node g k)) (sym long) ∙ told in
    let grow = (stepped g marks room before (node g at.place)).grows in
    let grown = ap (λ (p : Pass). length p.draft.signals) (sym moved) ∙ ap length grow.is ∙ length-append at.builder.signals grow.rest in
    record {
      pass = steps_more g marks room (begun g) g.signals at.place here ∙ ap (λ (p : Pass). step g marks room p (node g at.place)) at.invariant.pass ∙ moved
          ∙ ap (λ xs. let p : Pass = record { draft = c.next.new.builder; images = xs } in p) (sym c.in_ok-push.ensures.items);
      there = subst (All (λ a. a < length c.next.new.builder.signals)) (sym c.in_ok-push.ensures.items)
          (all_push (length at.builder.signals) (length c.next.new.builder.signals) at.images.items id (omega (arith, grown)) at.invariant.there
          c.in_ok-id.ensures.there);
    }
