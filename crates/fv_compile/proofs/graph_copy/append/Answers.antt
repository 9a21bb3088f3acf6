use Rattle.std.proofs.Common.{rules, ◌≡◌, ◌<◌, ◌+◌, ◌^◌, ℕ, List, length, map, All, sym, ap, ap₂, ◌∙◌, subst, arith}
use Rattle.std.proofs.lemmas.List.{length-append}
use Rattle.std.proofs.lemmas.Result.{IfOk-weaker}
use Rattle.std.proofs.lemmas.List.Elements.{All-from_get_or}
use Rattle.fv_base.specs.headline.Lists.{at}
use Rattle.fv_signal.specs.headline.Value.{members}
use Rattle.fv_share.specs.Drafts.{Draft, CanClose, lists_in, with_groups, with_tables, with_all_members}
use Rattle.fv_compile.specs.declared.graph_copy.Offsets.{Offsets}
use Rattle.fv_compile.specs.inner.Copied.{definitions_of, IsAppended, IsUnderWay}
use Rattle.fv_compile.proofs.Groups.{have_room, opened_wait, opened_long, begun_with, begun_listed, groups_tables, can_close, appended}
use Rattle.fv_compile.proofs.graph_copy.append.Goals as goal

pub images-requires-clause-room : goal.images-requires-clause-room
images-requires-clause-room c =
    let job = c.args.job.now in
    let begun = c.in_ok-_end.ensures.ok ∙ c.in_ok-tables.ensures.ok
    ∙ ap (λ (d : Draft). with_tables d c.args.job.now.graph.tables) (c.in_ok-first.ensures.ok ∙ ap (with_groups c.args.builder.now) c.groups.ensures) in
    let long = opened_long c.args.builder.now c.open_groups-2.new.self c.in_ok-first.first (length job.graph.groups) job.graph.tables c.requires.valid
    c.in_ok-first.ensures.first begun in
    let end = c.in_ok-_end.ensures.first in
    let same = ap (λ (d : Draft). length d.groups) c.in_ok-_end.ensures.ok in
    let fits : c.in_ok-_end._end < 2 ^ 64 = search rules in
    let tables_fit : c.tables-tables.result < 2 ^ 64 = search rules in
    let many = c.tables-tables.ensures in
    let old = c.args.builder.now in
    let all : length c.open_groups-2.new.self.tables ≡ c.in_ok-tables.tables + length job.graph.tables =
    ap (λ (d : Draft). length d.tables) begun ∙ length-append (with_groups old (length job.graph.groups)).tables job.graph.tables
    ∙ ap (λ k. k + length job.graph.tables) (sym (c.in_ok-tables.ensures.first
    ∙ ap (λ (d : Draft). length d.tables) (c.in_ok-first.ensures.ok ∙ ap (with_groups old) c.groups.ensures))) in
    have_room job.graph (record { inputs = c.args.inputs; controls = c.args.controls; groups = c.in_ok-first.first; tables = c.in_ok-tables.tables })
    job.inputs job.controls
    c.outputs-outputs.ensures.graph c.requires.reads c.requires.inputs c.requires.controls (omega (arith, long, end, same, fits))
    (omega (arith, many, all, tables_fit))

pub images-requires-clause-open : goal.images-requires-clause-open
images-requires-clause-open c =
    let begun = c.in_ok-_end.ensures.ok ∙ c.in_ok-tables.ensures.ok
    ∙ ap (λ (d : Draft). with_tables d c.args.job.now.graph.tables) (c.in_ok-first.ensures.ok ∙ ap (with_groups c.args.builder.now) c.groups.ensures) in
    opened_wait c.args.builder.now c.open_groups-2.new.self c.in_ok-first.first (length c.args.job.now.graph.groups) c.args.job.now.graph.tables
    c.requires.valid
    c.in_ok-first.ensures.first begun

pub images-requires-clause-tables : goal.images-requires-clause-tables
images-requires-clause-tables c =
    let g = c.args.job.now.graph in
    let old = c.args.builder.now in
    let begun = c.in_ok-_end.ensures.ok ∙ c.in_ok-tables.ensures.ok
    ∙ ap (λ (d : Draft). with_tables d g.tables) (c.in_ok-first.ensures.ok ∙ ap (with_groups old) c.groups.ensures) in
    let first_table : c.in_ok-tables.tables ≡ length old.tables =
    c.in_ok-tables.ensures.first ∙ ap (λ (d : Draft). length d.tables) c.in_ok-first.ensures.ok ∙ ap length (groups_tables old c.groups.result) in
    begun_listed g old c.open_groups-2.new.self c.in_ok-tables.tables (length g.groups) first_table begun

pub definitions-requires : goal.definitions-requires
definitions-requires c =
    let g = c.args.job.now.graph in
    let long = ap length c.deref.ensures.value ∙ c.in_ok-images.ensures.long in
    λ k l. All-from_get_or (λ s. s < length c.deref.result.now) (members g k) 0
    (λ i m. let d = c.outputs-outputs.ensures.graph.defined k i l m in omega (arith, d, long))

pub close_groups-requires : goal.close_groups-requires
close_groups-requires c =
    let g = c.args.job.now.graph in
    let old = c.args.builder.now in
    let o : Offsets = record { inputs = c.args.inputs; controls = c.args.controls; groups = c.in_ok-first.first; tables = c.in_ok-tables.tables } in
    let first_table : c.in_ok-tables.tables ≡ length old.tables =
    c.in_ok-tables.ensures.first ∙ ap (λ (d : Draft). length d.tables) c.in_ok-first.ensures.ok ∙ ap length (groups_tables old c.groups.result) in
    let images = c.in_ok-images.images.items in
    let begun = c.in_ok-_end.ensures.ok ∙ c.in_ok-tables.ensures.ok
    ∙ ap (λ (d : Draft). with_tables d g.tables) (c.in_ok-first.ensures.ok ∙ ap (with_groups old) c.groups.ensures) in
    let under : IsUnderWay g o (length g.signals) (begun_with old (length g.groups) g.tables) c.images.new.builder images =
    subst (λ (d : Draft). IsUnderWay g o (length g.signals) d c.images.new.builder images) begun c.in_ok-images.ensures in
    let lists : lists_in c.in_ok-lists.lists.items ≡ definitions_of g (at images) =
    c.in_ok-lists.ensures ∙ ap (λ (xs : List ℕ). definitions_of g (at xs)) c.deref.ensures.value in
    subst (CanClose c.images.new.builder c.in_ok-first.first) (sym lists)
    (can_close g o old c.images.new.builder images c.requires.valid c.in_ok-first.ensures.first first_table under)

pub images_of-requires : goal.images_of-requires
images_of-requires c =
    let g = c.args.job.now.graph in
    let long = ap length c.deref-2.ensures.value ∙ c.in_ok-images.ensures.long in
    subst (All (λ s. s < length c.deref-2.result.now)) (sym c.outputs-outputs.ensures.list)
    (All-from_get_or (λ s. s < length c.deref-2.result.now) g.outputs 0 (λ j l. let o = c.outputs-outputs.ensures.graph.outputs j l in omega (arith, o, long)))

pub returns : goal.returns
returns c =
    let g = c.args.job.now.graph in
    let old = c.args.builder.now in
    let o : Offsets = record { inputs = c.args.inputs; controls = c.args.controls; groups = c.in_ok-first.first; tables = c.in_ok-tables.tables } in
    let first_table : c.in_ok-tables.tables ≡ length old.tables =
    c.in_ok-tables.ensures.first ∙ ap (λ (d : Draft). length d.tables) c.in_ok-first.ensures.ok ∙ ap length (groups_tables old c.groups.result) in
    let images = c.in_ok-images.images.items in
    let begun = c.in_ok-_end.ensures.ok ∙ c.in_ok-tables.ensures.ok
    ∙ ap (λ (d : Draft). with_tables d g.tables) (c.in_ok-first.ensures.ok ∙ ap (with_groups old) c.groups.ensures) in
    let under : IsUnderWay g o (length g.signals) (begun_with old (length g.groups) g.tables) c.images.new.builder images =
    subst (λ (d : Draft). IsUnderWay g o (length g.signals) d c.images.new.builder images) begun c.in_ok-images.ensures in
    let lists : lists_in c.in_ok-lists.lists.items ≡ definitions_of g (at images) =
    c.in_ok-lists.ensures ∙ ap (λ (xs : List ℕ). definitions_of g (at xs)) c.deref.ensures.value in
    let new : c.close_groups.new.self ≡ with_all_members c.images.new.builder c.in_ok-first.first (definitions_of g (at images)) =
    c.close_groups.ensures.all ∙ ap (with_all_members c.images.new.builder c.in_ok-first.first) lists in
    let outputs = ap₂ (λ (xs os : List ℕ). map (at xs) os) c.deref-2.ensures.value c.outputs-outputs.ensures.list in
    let all = appended g o old c.images.new.builder images c.requires.valid c.in_ok-first.ensures.first first_table under in
    IfOk-weaker c.images_of.result _ (λ outs. IsAppended g c.args.inputs c.args.controls old c.close_groups.new.self outs.items)
    (λ outs e. subst (λ (d : Draft). IsAppended g c.args.inputs c.args.controls old d outs.items) (sym new)
    (subst (IsAppended g c.args.inputs c.args.controls old (with_all_members c.images.new.builder c.in_ok-first.first (definitions_of g (at images))))
    (sym (e ∙ outputs)) all)) c.images_of.ensures
