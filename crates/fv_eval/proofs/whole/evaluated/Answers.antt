use Rattle.std.proofs.Common.{◌≡◌, ◌<◌, ℕ, List, Ok, Err, inr, sym, ap, ◌∙◌}
use Rattle.std.proofs.lemmas.Result.{IfOk-weaker, IfErr-weaker}
use Rattle.fv_parse.specs.Trees.{program_of}
use Rattle.fv_diagram.specs.Arena.{Arena, count_of, tree_of}
use Rattle.fv_diagram.specs.declared.control.ControlInfo.{ControlInfo}
use Rattle.fv_eval_scopes.specs.declared.value.Value.TheVariants.{Diagram}
use Rattle.fv_rules.specs.headline.Rules.{start}
use Rattle.fv_eval.specs.inner.Continuations.{state_of}
use Rattle.fv_eval.proofs.Runs.{done, done_flat, is_left, is_program, of_process, refused, run_ends, runs_first, whole}
use Rattle.fv_eval.proofs.whole.evaluated.Goals as goal
use Rattle.fv_eval.proofs.whole.evaluated.Goals.{In-Ok}

pub run-requires : goal.run-requires
run-requires c =
    let p = c.args.tree.now in
    runs_first p c.args.text.now c.in_ok-machine.machine c.in_ok-machine.first (whole p.tokens (program_of p)) c.requires.text c.in_ok-machine.ensures

-- the run came to a diagram
flat : (c : In-Ok) → (i : ℕ) × (c.in-Ok.value ≡ Diagram i)
flat c =
    let p = c.args.tree.now in
    let w = c.in_ok-machine in
    let u = c.in-Ok.value in
    done_flat p c.run.new.self u c.steps_mean.ensures.starts
    (run_ends p c.args.text.now w.machine c.run.new.self w.first c.run.result (Ok u) (whole p.tokens (program_of p)) c.requires.text c.in-Ok.is
    w.ensures c.run.ensures)

pub finished-requires-clause-flat : goal.finished-requires-clause-flat
finished-requires-clause-flat c = flat (goal.at.finished-requires-clause-flat c).In-Ok

-- the run came to the diagram with this number
came_to : (c : In-Ok) (i : ℕ) → c.in-Ok.value ≡ Diagram i
    → (i < count_of c.run.new.self.drawing.diagrams)
    × (of_process c.args.tree.now.tokens (program_of c.args.tree.now) start ≡ Ok (tree_of c.run.new.self.drawing.diagrams i, state_of c.run.new.self))
came_to c i e =
    let p = c.args.tree.now in
    let n = c.run.new.self in
    let w = c.in_ok-machine in
    done p n i c.steps_mean.ensures.starts
    (run_ends p c.args.text.now w.machine n w.first c.run.result
    (Ok (Diagram i)) (whole p.tokens (program_of p)) c.requires.text (c.in-Ok.is ∙ ap Ok e) w.ensures c.run.ensures)

pub finished-requires-clause-inside : goal.finished-requires-clause-inside
finished-requires-clause-inside c = λ i e. (came_to (goal.at.finished-requires-clause-inside c).In-Ok i e).0

pub finished-requires-clause-runs : goal.finished-requires-clause-runs
finished-requires-clause-runs c =
    let p = c.args.tree.now in
    let n = c.run.new.self in
    λ i e h.
    let came = came_to (goal.at.finished-requires-clause-runs c).In-Ok i e in
    c.evaluates_to_runnables.ensures.runs p.tokens (program_of p) (tree_of n.drawing.diagrams i) n.controls
    (is_program p (tree_of n.drawing.diagrams i) (state_of n) came.1 h)

pub returns-in-Ok-clause-program : goal.returns-in-Ok-clause-program
returns-in-Ok-clause-program c =
    let p = c.args.tree.now in
    let n = c.run.new.self in
    IfOk-weaker c.finished.result _ _
    (λ x h.
    let came = came_to (goal.at.returns-in-Ok-clause-program c).In-Ok x.root h.0 in
    is_program p (tree_of n.drawing.diagrams x.root) (state_of n) came.1 h.3
    ∙ ap (λ (a : Arena). Ok (tree_of a x.root, n.controls)) (sym h.1) ∙ ap (λ (cs : List ControlInfo). Ok (tree_of x.diagrams x.root, cs)) (sym h.2))
    c.finished.ensures.program

pub returns-in-Ok-clause-refusal : goal.returns-in-Ok-clause-refusal
returns-in-Ok-clause-refusal c =
    let p = c.args.tree.now in
    let n = c.run.new.self in
    let came = flat (goal.at.returns-in-Ok-clause-refusal c).In-Ok in
    let i = came.0 in
    let e = came.1 in
    IfErr-weaker c.finished.result _ _
    (λ r h. inr (is_left p (tree_of n.drawing.diagrams i) (state_of n) (came_to (goal.at.returns-in-Ok-clause-refusal c).In-Ok i e).1 (h.1 i e)
    ∙ ap Err (sym h.0)))
    c.finished.ensures.refusal

pub returns-in-Err-clause-refusal : goal.returns-in-Err-clause-refusal
returns-in-Err-clause-refusal c =
    let p = c.args.tree.now in
    let n = c.run.new.self in
    let w = c.in_ok-machine in
    refused p n c.in-Err.refusal c.steps_mean.ensures.starts
    (run_ends p c.args.text.now w.machine n w.first c.run.result
    (Err c.in-Err.refusal) (whole p.tokens (program_of p)) c.requires.text c.in-Err.is w.ensures c.run.ensures)
