use Rattle.std.proofs.Common.{◌≡◌, ◌<◌, ℕ, List, length, map, get_or, All, sym, ap, ap₂, ◌∙◌, subst, arith}
use Rattle.std.proofs.lemmas.List.Elements.{All-get_or, All-from_get_or, All-map}
use Rattle.fv_signal.specs.headline.Value.{members}
use Rattle.fv_share.specs.Drafts.{Draft, AreClosed, CanClose, graph_of, lists_in, with_all_members}
use Rattle.fv_simplify.specs.Passing.{room_in}
use Rattle.fv_simplify.specs.Runs.{Pass, definitions}
use Rattle.fv_simplify.proofs.Closes.{passed_long, can_close, all_closed, same_signals, is_rebuilt}
use Rattle.fv_simplify.proofs.pass.fill.Goals as goal

pub images_of-requires : goal.images_of-requires
images_of-requires c =
    let g = c.args.graph.now in
    let long : length c.deref.result.now ≡ length g.signals =
    ap length c.deref.ensures.value ∙ ap (λ (p : Pass). length p.images) (sym c.in_ok-images.ensures.images)
    ∙ passed_long g c.args.marks.now (room_in c.args.rooms.now) in
    subst (All (λ s. s < length c.deref.result.now)) (sym c.outputs.ensures.list)
    (All-from_get_or (λ s. s < length c.deref.result.now) g.outputs 0 (λ j l. let o = c.outputs.ensures.graph.outputs j l in omega (arith, o, long)))

pub definitions-requires-clause-there : goal.definitions-requires-clause-there
definitions-requires-clause-there c =
    let g = c.args.graph.now in
    let long : length c.deref-2.result.now ≡ length g.signals =
    ap length c.deref-2.ensures.value ∙ ap (λ (p : Pass). length p.images) (sym c.in_ok-images.ensures.images)
    ∙ passed_long g c.args.marks.now (room_in c.args.rooms.now) in
    λ k l. All-from_get_or (λ s. s < length c.deref-2.result.now) (members g k) 0
    (λ i m. let d = c.outputs.ensures.graph.defined k i l m in omega (arith, d, long))

pub close_groups-requires : goal.close_groups-requires
close_groups-requires c =
    let g = c.args.graph.now in
    let widths = c.args.widths.now in
    let p : Pass = record { draft = c.passed.new.builder; images = c.in_ok-images.images.items } in
    let lists : lists_in c.in_ok-groups.groups.items ≡ definitions g widths p.images =
    c.in_ok-groups.ensures ∙ ap (definitions g widths) c.deref-2.ensures.value in
    subst (CanClose c.passed.new.builder 0) (sym lists)
    (can_close g c.args.marks.now (room_in c.args.rooms.now) widths c.outputs.ensures.graph c.requires.good p c.in_ok-images.ensures.images
    c.in_ok-images.ensures.there)

pub returns-clause-closed : goal.returns-clause-closed
returns-clause-closed c =
    let g = c.args.graph.now in
    let widths = c.args.widths.now in
    let p : Pass = record { draft = c.passed.new.builder; images = c.in_ok-images.images.items } in
    let lists : lists_in c.in_ok-groups.groups.items ≡ definitions g widths p.images =
    c.in_ok-groups.ensures ∙ ap (definitions g widths) c.deref-2.ensures.value in
    subst AreClosed (sym (c.close_groups.ensures.all ∙ ap (with_all_members c.passed.new.builder 0) lists))
    (all_closed g c.args.marks.now (room_in c.args.rooms.now) widths c.outputs.ensures.graph c.requires.good p c.in_ok-images.ensures.images)

pub returns-clause-outputs : goal.returns-clause-outputs
returns-clause-outputs c =
    let g = c.args.graph.now in
    let widths = c.args.widths.now in
    let room = room_in c.args.rooms.now in
    let p : Pass = record { draft = c.passed.new.builder; images = c.in_ok-images.images.items } in
    let lists : lists_in c.in_ok-groups.groups.items ≡ definitions g widths p.images =
    c.in_ok-groups.ensures ∙ ap (definitions g widths) c.deref-2.ensures.value in
    let signals : c.close_groups.new.self.signals ≡ c.passed.new.builder.signals =
    ap (λ (d : Draft). d.signals) (c.close_groups.ensures.all ∙ ap (with_all_members c.passed.new.builder 0) lists)
    ∙ same_signals g c.args.marks.now room widths c.outputs.ensures.graph c.requires.good p c.in_ok-images.ensures.images in
    let outputs : c.in_ok-outputs.outputs.items ≡ map (λ r. get_or p.images r 0) g.outputs =
    c.in_ok-outputs.ensures ∙ ap₂ (λ (xs os : List ℕ). map (λ r. get_or xs r 0) os) c.deref.ensures.value c.outputs.ensures.list in
    let long : length p.images ≡ length g.signals = ap (λ (q : Pass). length q.images) (sym c.in_ok-images.ensures.images)
    ∙ passed_long g c.args.marks.now room in
    subst (λ (ss : List _). All (λ s. s < length ss) c.in_ok-outputs.outputs.items) (sym signals)
    (subst (All (λ s. s < length c.passed.new.builder.signals)) (sym outputs)
    (All-map (λ s. s < length c.passed.new.builder.signals) (λ r. get_or p.images r 0) g.outputs
    (All-from_get_or (λ r. get_or p.images r 0 < length c.passed.new.builder.signals) g.outputs 0
    (λ j l. All-get_or (λ a. a < length c.passed.new.builder.signals) p.images (get_or g.outputs j 0) 0
    (let o = c.outputs.ensures.graph.outputs j l in omega (arith, o, long)) c.in_ok-images.ensures.there))))

pub returns-clause-rebuilt : goal.returns-clause-rebuilt
returns-clause-rebuilt c = λ made.
    let g = c.args.graph.now in
    let widths = c.args.widths.now in
    let room = room_in c.args.rooms.now in
    let p : Pass = record { draft = c.passed.new.builder; images = c.in_ok-images.images.items } in
    let lists : lists_in c.in_ok-groups.groups.items ≡ definitions g widths p.images =
    c.in_ok-groups.ensures ∙ ap (definitions g widths) c.deref-2.ensures.value in
    let draft = c.close_groups.ensures.all ∙ ap (with_all_members c.passed.new.builder 0) lists in
    let outputs : c.in_ok-outputs.outputs.items ≡ map (λ r. get_or p.images r 0) g.outputs =
    c.in_ok-outputs.ensures ∙ ap₂ (λ (xs os : List ℕ). map (λ r. get_or xs r 0) os) c.deref.ensures.value c.outputs.ensures.list in
    is_rebuilt g c.args.marks.now room widths c.outputs.ensures.graph c.requires.good p c.in_ok-images.ensures.images
    (graph_of c.close_groups.new.self c.in_ok-outputs.outputs.items) (ap₂ graph_of draft outputs) made
