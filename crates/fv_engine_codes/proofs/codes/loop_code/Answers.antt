use Rattle.std.proofs.Common.{◌≡◌, ℕ, List, length, map, get_or, ap, ◌∙◌, subst, sym, arith}
use Rattle.std.specs.Prelude.{All, slice_index}
use Rattle.std.proofs.lemmas.Result.{IfOk-weaker}
use Rattle.fv_outside.specs.headline.Tasks.{Tasks}
use Rattle.fv_loopcode.specs.declared.step.Step.{Step}
use Rattle.fv_loopcode.specs.declared.counts.Counts.{Counts}
use Rattle.fv_loopcode.specs.Code.{NamesThere}
use Rattle.fv_split_plan.specs.headline.View.{PlanView, code_of, roles_of}
use Rattle.fv_split_plan.specs.Plans.{IsPlan}
use Rattle.fv_engine_codes.specs.Renumbered.{renumbered, HasPlace, Places}
use Rattle.fv_engine_codes.specs.Plans.{own_lanes, locals_of}
use Rattle.fv_engine_codes.proofs.Named.{HasRole, has_place, counts_of, names_placed, plan_roles}
use Rattle.fv_engine_codes.proofs.Placing.{are_places}
use Rattle.fv_engine_codes.proofs.codes.loop_code.Goals as goal

pub local_code-requires-clause-there : goal.local_code-requires-clause-there
local_code-requires-clause-there c =
    let p : PlanView = c.args.plan.now in
    let plan : IsPlan p = c.loops-loops.ensures.plan in
    let roles : All (HasRole (roles_of p c.args.loop_no)) (code_of p c.args.loop_no) = plan_roles p c.args.loop_no plan c.requires.there in
    let long : length c.number_lanes-count.new.places ≡ length p.lanes = omega (arith, c.requires.long, c.number_lanes-count.auto.places) in
    subst (λ (steps : List Step). All (HasPlace (length c.number_lanes-count.new.places)) steps) (sym c.code.ensures)
    (λ k d l. subst (λ (n : ℕ). HasPlace n (get_or (code_of p c.args.loop_no) k d)) (sym long)
    (has_place p c.args.loop_no plan.1.reads (get_or (code_of p c.args.loop_no) k d) (roles k d l)))

pub local_code-requires-clause-named : goal.local_code-requires-clause-named
local_code-requires-clause-named c =
    let p : PlanView = c.args.plan.now in
    let g : Tasks = c.args.tasks.now.tasks in
    let plan : IsPlan p = c.loops-loops.ensures.plan in
    let places : List ℕ = c.number_lanes-count.new.places in
    let roles : All (HasRole (roles_of p c.args.loop_no)) (code_of p c.args.loop_no) = plan_roles p c.args.loop_no plan c.requires.there in
    let placed : Places (roles_of p c.args.loop_no) (slice_index places) (locals_of p g c.args.loop_no) (length (own_lanes p c.args.loop_no)) =
    are_places p g c.args.loop_no places c.loops-tasks.ensures.graph plan.1.reads c.requires.of_plan c.number_lanes-count.ensures.numbered in
    let locals : List ℕ = locals_of p g c.args.loop_no in
    let given : Counts = record { lanes = c.number_lanes-count.result; tables = c.tables.result; cells = length c.cells.result.now } in
    let count : given ≡ counts_of p (length locals) = λ i. record {
      lanes = c.number_lanes-count.ensures.count i;
      tables = c.tables.ensures i;
      cells = ap length c.cells.ensures i;
    } in
    subst (λ (n : Counts). All (λ s. NamesThere n (renumbered (slice_index places) s)) c.code.result.now) (sym count)
    (subst (λ (steps : List Step). All (λ s. NamesThere (counts_of p (length locals)) (renumbered (slice_index places) s)) steps) (sym c.code.ensures)
    (λ k d l. names_placed p (roles_of p c.args.loop_no) (slice_index places) locals (length (own_lanes p c.args.loop_no)) placed
    (get_or (code_of p c.args.loop_no) k d) (roles k d l) (plan.1.names.loads c.args.loop_no k d l)))

pub returns : goal.returns
returns c =
    let p : PlanView = c.args.plan.now in
    let g : Tasks = c.args.tasks.now.tasks in
    let plan : IsPlan p = c.loops-loops.ensures.plan in
    let places : List ℕ = c.number_lanes-count.new.places in
    let placed : Places (roles_of p c.args.loop_no) (slice_index places) (locals_of p g c.args.loop_no) (length (own_lanes p c.args.loop_no)) =
    are_places p g c.args.loop_no places c.loops-tasks.ensures.graph plan.1.reads c.requires.of_plan c.number_lanes-count.ensures.numbered in
    IfOk-weaker c.local_code.result _ _ (λ code e. record {
      place = slice_index places;
      places = placed;
      is = e ∙ ap (map (renumbered (slice_index places))) c.code.ensures;
    }) c.local_code.ensures
