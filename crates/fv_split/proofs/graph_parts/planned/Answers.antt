use Rattle.std.proofs.Common.{◌≡◌, ◌<◌, length, map, sym, ap, ◌∙◌, subst, arith, All}
use Rattle.fv_signal.specs.Frames.{table}
use Rattle.fv_base.proofs.lemmas.Lists.{length_table}
use Rattle.fv_loopcode.specs.Code.{AreValid}
use Rattle.fv_analysis.specs.headline.Stands.{stands_of}
use Rattle.fv_analysis.specs.headline.History.{history_of}
use Rattle.fv_split_plan.specs.Rows.{lists_of, plan_with}
use Rattle.fv_split_plan.specs.headline.Plans.{PlanStands, PlanNames, IsPlanOf}
use Rattle.fv_split_code.specs.Emitted.{code_in}
use Rattle.fv_split.specs.inner.Lists.{lane_of}
use Rattle.fv_split.specs.inner.Surveyed.{lanes_in, cells_in}
use Rattle.fv_split.specs.inner.ToldReads.{LoadsAmong, reads_of_loops}
use Rattle.fv_split.proofs.ListLemmas.{same_infos}
use Rattle.fv_split.proofs.SplitLemmas.{outputs_there, stands_there, signals_there, held_valid}
use Rattle.fv_split.proofs.SuitLemmas.{is_survey}
use Rattle.fv_split.proofs.PlanLemmas.{all_valid, all_named, all_owned, is_plan, with_held}
use Rattle.fv_split.proofs.graph_parts.planned.Goals as goal
use Rattle.fv_split.proofs.graph_parts.planned.Goals.{In_ok-copied}

pub output_lanes-requires-clause-outputs : goal.output_lanes-requires-clause-outputs
output_lanes-requires-clause-outputs c =
    outputs_there c.args.graph.now c.requires.surveyed.passes.graph c.args.outputs.now c.deref.result.now c.requires.outputs
    (c.deref.ensures.value ∙ c.requires.surveyed.passes.is_stands)

pub output_lanes-requires-clause-stands : goal.output_lanes-requires-clause-stands
output_lanes-requires-clause-stands c =
    let n = length c.args.graph.now.signals in
    let survey = is_survey _ _ _ _ _ _ _ _ c.requires.surveyed.passes in
    stands_there n c.deref.result.now c.deref-2.result.now (subst (All (λ s. s < n)) (sym c.deref.ensures.value) survey.within)
    (ap length c.deref-2.ensures.value ∙ survey.lanes)

pub infos-requires-clause-owners : goal.infos-requires-clause-owners
infos-requires-clause-owners c =
    ap length c.deref-4.ensures.value ∙ c.requires.surveyed.passes.placed.lanes.owned ∙ ap length (sym c.deref-3.ensures.value)

pub infos-requires-clause-signals : goal.infos-requires-clause-signals
infos-requires-clause-signals c =
    let g = c.args.graph.now in
    signals_there g (lanes_in c.args.surveyed.now) c.requires.surveyed.passes.placed c.deref-3.result.now c.args.histories.now c.deref-3.ensures.value
    (ap length c.requires.histories ∙ length_table (length g.signals) (history_of g))

pub codes-requires : goal.codes-requires
codes-requires c = is_survey _ _ _ _ _ _ _ _ c.requires.surveyed.passes

pub reads-requires-clause-lanes : goal.reads-requires-clause-lanes
reads-requires-clause-lanes c =
    let owners = c.args.surveyed.now.survey.owners.items in
    λ j. subst (λ os. All (LoadsAmong (length os)) (code_in c.deref-5.result.now j)) (sym c.deref-6.ensures.value)
    (subst (λ xs. All (LoadsAmong (length owners)) (code_in xs j)) (sym c.deref-5.ensures.value)
    (all_named _ _ _ _ _ _ _ _ c.requires.surveyed.passes c.in_ok-steps.steps.items c.in_ok-steps.ensures j))

pub reads-requires-clause-owners : goal.reads-requires-clause-owners
reads-requires-clause-owners c =
    let owners = c.args.surveyed.now.survey.owners.items in
    subst (All (λ k. k < length c.deref-5.result.now)) (sym c.deref-6.ensures.value)
    (subst (λ xs. All (λ k. k < length xs) owners) (sym c.deref-5.ensures.value)
    (all_owned _ _ _ _ _ _ _ _ c.requires.surveyed.passes c.in_ok-steps.steps.items c.in_ok-steps.ensures))

pub all_code-requires : goal.all_code-requires
all_code-requires c =
    let passes = c.requires.surveyed.passes in
    let owners = c.args.surveyed.now.survey.owners.items in
    let long : c.len.result ≡ length owners =
    omega (arith, c.len.ensures, c.in_ok-lanes.lanes.ok.0, c.in_ok-lanes.ensures.long, ap length c.deref-3.ensures.value, passes.placed.lanes.owned) in
    let cells : c.len-2.result ≡ length c.args.cells.items = omega (arith, c.len-2.ensures, c.args.cells.ok.0) in
    let steps = c.in_ok-steps.steps.items in
    λ j. subst (λ n. AreValid (record { lanes = n; tables = c.tables.result; cells = c.len-2.result }) (code_in steps j)) (sym long)
    (subst (λ n. AreValid (record { lanes = length owners; tables = n; cells = c.len-2.result }) (code_in steps j)) (sym c.tables.ensures)
    (subst (λ n. AreValid (record { lanes = length owners; tables = length c.args.graph.now.tables; cells = n }) (code_in steps j)) (sym cells)
    (all_valid _ _ _ _ _ _ _ _ passes steps c.in_ok-steps.ensures j)))

pub code-requires : goal.code-requires
code-requires c =
    let g = c.args.graph.now in
    let asked = c.requires.surveyed in
    subst (λ n. AreValid n c.deref-7.result.now) (sym c.still_counts.ensures)
    (subst (AreValid (record { lanes = 0; tables = length g.tables; cells = 0 })) (sym c.deref-7.ensures.value)
    (held_valid g (length g.signals) asked.numbers c.args.surveyed.now.held.items asked.passes.held))

-- the plan, with the steps of the held values for their code
plan : (c : In_ok-copied) → IsPlanOf c.args.graph.now (plan_with c.args.surveyed.now.loops c.in_ok-lanes.lanes.items (lists_of c.in_ok-copied.copied.items)
    c.args.cells.items c.in_ok-codes.codes.items c.in_ok-told.told.items c.in_ok-outputs.outputs.items c.args.surveyed.now.held.items)
plan c =
    let g = c.args.graph.now in
    let t = c.args.surveyed.now in
    let asked = c.requires.surveyed in
    let p = lanes_in t in
    let histories = table (length g.signals) (history_of g) in
    let are_infos = same_infos c.deref-3.result.now p.signals.items c.deref-4.result.now p.owners.items c.args.histories.now histories
    (length c.deref-3.result.now) (length p.signals.items) c.in_ok-lanes.lanes.items c.deref-3.ensures.value c.deref-4.ensures.value c.requires.histories
    (ap length c.deref-3.ensures.value) c.in_ok-lanes.ensures in
    let is_told = c.in_ok-told.ensures ∙ ap (λ os. (reads_of_loops os c.deref-5.result.now (length c.deref-5.result.now)).reads) c.deref-6.ensures.value
    ∙ ap (λ xs. (reads_of_loops p.owners.items xs (length xs)).reads) c.deref-5.ensures.value in
    let are_outputs = c.in_ok-outputs.ensures ∙ ap (λ os. map (lane_of c.deref.result.now c.deref-2.result.now) os) c.requires.outputs
    ∙ ap (λ ss. map (lane_of ss c.deref-2.result.now) g.outputs) (c.deref.ensures.value ∙ asked.passes.is_stands)
    ∙ ap (λ ls. map (lane_of (stands_of g) ls) g.outputs) c.deref-2.ensures.value in
    is_plan g p t.survey.stands t.survey.bases t.survey.kinds (cells_in t c.args.cells) asked.numbers t.held.items asked.passes c.in_ok-steps.steps.items
    c.in_ok-steps.ensures c.in_ok-lanes.lanes.items (lists_of c.in_ok-copied.copied.items) c.in_ok-codes.codes.items c.in_ok-told.told.items
    c.in_ok-outputs.outputs.items c.in_ok-copied.ensures are_infos c.in_ok-codes.ensures is_told are_outputs

pub new-requires : goal.new-requires
new-requires c =
    (c.args.graph.now, with_held (c.in_ok-held.ensures ∙ c.deref-7.ensures.value) (plan (goal.at.new-requires c).In_ok-copied))

pub returns-clause-stands : goal.returns-clause-stands
returns-clause-stands c =
    let held = c.in_ok-held.ensures ∙ c.deref-7.ensures.value in
    subst (PlanStands c.args.graph.now) (sym c.new.ensures) (with_held held (plan (goal.at.returns-clause-stands c).In_ok-copied)).stands

pub returns-clause-names : goal.returns-clause-names
returns-clause-names c =
    let held = c.in_ok-held.ensures ∙ c.deref-7.ensures.value in
    subst (PlanNames c.args.graph.now) (sym c.new.ensures) (with_held held (plan (goal.at.returns-clause-names c).In_ok-copied)).names
