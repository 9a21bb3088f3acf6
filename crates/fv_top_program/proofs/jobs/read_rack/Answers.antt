use Rattle.std.proofs.Common.{◌≡◌, ℕ, ◌≤◌, length, ap, ◌∙◌, subst, arith}
use Rattle.std.specs.Prelude.{sum}
use Rattle.std.specs.List.{sum_by}
use Rattle.std.proofs.lemmas.Result.{err_from_is_err_and}
use Rattle.fv_base.specs.declared.limits.TheConstants.{MOST_CHANNELS, MOST_JOBS}
use Rattle.fv_diagram.specs.headline.Diagram.{inputs, outputs}
use Rattle.fv_interval.specs.headline.Delays.{amounts}
use Rattle.fv_top_program.specs.headline.Compiled.{Compiled}
use Rattle.fv_top_program.specs.Compiled.{compiled_of}
use Rattle.fv_top_program.specs.headline.Program.{delays_in}
use Rattle.fv_top_program.specs.headline.Racks.{rack_of}
use Rattle.fv_top_program.specs.Reads.{programs_in}
use Rattle.fv_top_program.specs.declared.programs.Read.{Read}
use Rattle.fv_top_program.proofs.Racks.{each_stops, few_jobs, jobs_stop, rack_is, sum_stops, width_is, width_stops}
use Rattle.fv_top_program.proofs.lemmas.Sums.{delays_all, inputs_all, outputs_all, rack_plays, sum_all}
use Rattle.fv_top_program.proofs.jobs.read_rack.Goals as goal
use Rattle.fv_top_program.proofs.jobs.read_rack.Goals.{In_ok-reads}

-- ---- what was read

abbrev rack : (c : In_ok-reads) → Compiled
rack c = rack_of (programs_in c.in_ok-reads.reads.items)

few : (c : In_ok-reads) → length c.in_ok-reads.reads.items ≤ MOST_JOBS
few c =
    let long = c.in_ok-reads.ensures.long in
    let most = few_jobs c.args.file.now c.in_ok-jobs.jobs c.in_ok-jobs.ensures.read in omega (arith, long, most)

-- the sum of all delays
abbrev Sum : Compiled → Type 0
Sum p = (n : ℕ) × (n ≡ sum (amounts (delays_in p)))

-- ---- why it is refused

pub returns-in_err-jobs-clause-refused : goal.returns-in_err-jobs-clause-refused
returns-in_err-jobs-clause-refused c =
    let p = err_from_is_err_and c.from_residual.result c.from_residual.ensures.1 in
    rw p.1 (jobs_stop c.args.file.now c.in_err-jobs.field-0.0 p.0 p.2 c.in_err-jobs.ensures.refused)

pub returns-in_err-reads-clause-refused : goal.returns-in_err-reads-clause-refused
returns-in_err-reads-clause-refused c =
    let p = err_from_is_err_and c.from_residual-in_err-reads.result c.from_residual-in_err-reads.ensures.1 in
    rw (p.1, p.2) (each_stops c.args.file.now c.in_ok-jobs.jobs c.in_ok-jobs.ensures.read _ c.in_err-reads.ensures.refused)

pub returns-in_err-check_budget-clause-refused : goal.returns-in_err-check_budget-clause-refused
returns-in_err-check_budget-clause-refused c =
    let at = (goal.at.returns-in_err-check_budget-clause-refused c).In_ok-reads in
    let p = err_from_is_err_and c.from_residual-in_err-check_budget.result c.from_residual-in_err-check_budget.ensures.1 in
    let rs = c.in_ok-reads.reads.items in
    let read = c.in_ok-reads.ensures.read in
    let all : Sum (rack at) =
    (c.sum_of_delays.result, c.sum_of_delays.ensures ∙ ap (sum_by (λ (r : Read). sum r.delays)) c.deref.ensures.value ∙ sum_all rs read) in
    rw (p.1, p.2) (sum_stops c.args.file.now c.in_ok-jobs.jobs c.in_ok-jobs.ensures.read (programs_in rs) c.in_ok-reads.ensures.found all
    (delays_all rs read) _ c.in_err-check_budget.ensures.err)

pub returns-in_err-check_channels-clause-refused : goal.returns-in_err-check_channels-clause-refused
returns-in_err-check_channels-clause-refused c =
    let at = (goal.at.returns-in_err-check_channels-clause-refused c).In_ok-reads in
    let p = err_from_is_err_and c.from_residual-in_err-check_channels.result c.from_residual-in_err-check_channels.ensures.1 in
    let rs = c.in_ok-reads.reads.items in
    let read = c.in_ok-reads.ensures.read in
    let all : Sum (rack at) =
    (c.sum_of_delays.result, c.sum_of_delays.ensures ∙ ap (sum_by (λ (r : Read). sum r.delays)) c.deref.ensures.value ∙ sum_all rs read) in
    let whole = c.parts_are_whole.ensures in
    let inputs_are = c.arity_of-arity.ensures.inputs ∙ ap (sum_by (λ (r : Read). inputs (compiled_of r.program).diagram)) c.deref-2.ensures.value
    ∙ inputs_all rs read whole in
    let outputs_are = c.arity_of-arity.ensures.outputs ∙ ap (sum_by (λ (r : Read). outputs (compiled_of r.program).diagram)) c.deref-2.ensures.value
    ∙ outputs_all rs read whole in
    let e = c.in_err-check_channels.ensures.err in
    rw (p.1, p.2) (width_stops c.args.file.now c.in_ok-jobs.jobs c.in_ok-jobs.ensures.read (programs_in rs) c.in_ok-reads.ensures.found all
    (delays_all rs read) c.in_ok-check_budget.ensures.ok _ (e.0, width_is (rack at) _ _ _ inputs_are outputs_are (e.1 (rack at))))

-- ---- or is not

pub returns-clause-found : goal.returns-clause-found
returns-clause-found c =
    let at = (goal.at.returns-clause-found c).In_ok-reads in
    let rs = c.in_ok-reads.reads.items in
    let read = c.in_ok-reads.ensures.read in
    let all : Sum (rack at) =
    (c.sum_of_delays.result, c.sum_of_delays.ensures ∙ ap (sum_by (λ (r : Read). sum r.delays)) c.deref.ensures.value ∙ sum_all rs read) in
    let whole = c.parts_are_whole.ensures in
    let inputs_are = c.arity_of-arity.ensures.inputs ∙ ap (sum_by (λ (r : Read). inputs (compiled_of r.program).diagram)) c.deref-2.ensures.value
    ∙ inputs_all rs read whole in
    let outputs_are = c.arity_of-arity.ensures.outputs ∙ ap (sum_by (λ (r : Read). outputs (compiled_of r.program).diagram)) c.deref-2.ensures.value
    ∙ outputs_all rs read whole in
    rack_is c.args.file.now c.in_ok-jobs.jobs c.in_ok-jobs.ensures.read (programs_in rs) c.in_ok-reads.ensures.found all (delays_all rs read)
    c.in_ok-check_budget.ensures.ok (width_is (rack at) _ _ _ inputs_are outputs_are (c.in_ok-check_channels.ensures.ok (rack at)))

pub returns-clause-plays : goal.returns-clause-plays
returns-clause-plays c =
    let at = (goal.at.returns-clause-plays c).In_ok-reads in
    let rs = c.in_ok-reads.reads.items in
    let read = c.in_ok-reads.ensures.read in
    let whole = c.parts_are_whole.ensures in
    let inputs_are = c.arity_of-arity.ensures.inputs ∙ ap (sum_by (λ (r : Read). inputs (compiled_of r.program).diagram)) c.deref-2.ensures.value
    ∙ inputs_all rs read whole in
    let outputs_are = c.arity_of-arity.ensures.outputs ∙ ap (sum_by (λ (r : Read). outputs (compiled_of r.program).diagram)) c.deref-2.ensures.value
    ∙ outputs_all rs read whole in
    let wide = c.in_ok-check_channels.ensures in
    rack_plays rs read whole (few at) (subst (λ n. 1 ≤ n) outputs_are wide.some) (subst (λ n. n ≤ MOST_CHANNELS) outputs_are wide.few)
    (subst (λ n. n ≤ MOST_CHANNELS) inputs_are wide.narrow)
