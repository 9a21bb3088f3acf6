use Rattle.std.proofs.Common.{List, ℕ, sym, subst, refl, inr}
use Rattle.std.proofs.lemmas.Result.{err_from_is_err_and}
use Rattle.fv_base.specs.declared.role.Role.TheVariants.{Output}
use Rattle.fv_top_words.specs.headline.Commands.{Playing}
use Rattle.fv_top_words.specs.Views.{run_in as run_view}
use Rattle.fv_top_report.specs.declared.refusal.Refusal.{Refusal}
use Rattle.fv_top_program.specs.headline.Compiled.{Compiled}
use Rattle.fv_top.specs.headline.Promise.{Asks}
use Rattle.fv_top.specs.headline.Played.{RanSoFar}
use Rattle.fv_top.specs.inner.Running.{Stopped}
use Rattle.fv_top.proofs.Stopping.{stopped_before}
use Rattle.fv_top.proofs.Delivering.{IsReady, stopped_playing, stopped_telling, played_whole, blocks_stopped, blocks_told, blocks_done}
use Rattle.fv_top.proofs.Ran.{untold_first}
use Rattle.fv_top.proofs.run.play_run.Given.{Over}
use Rattle.fv_top.proofs.run.play_run.Goals as goal
use Rattle.fv_top.proofs.run.play_run.Goals.{In_ok-prepared}

-- what is ready
abbrev program : (g : Over) (c : In_ok-prepared g) → Compiled
program g c = c.in_ok-prepared.ensures.ready.0

ready : (g : Over) (c : In_ok-prepared g) {words : List (List ℕ)} → Asks words (Playing (run_view c.args.run))
    → IsReady words (run_view c.args.run) (program g c) c.in_ok-prepared.prepared (g.D.Desk.state c.args.desk.now) (g.D.Desk.state c.prepare.new.desk)
ready g c asks =
    let prepared = c.in_ok-prepared.ensures in
    record {
      asks = asks;
      reaches = prepared.reaches;
      before = prepared.steady;
      can = prepared.ready.1;
      named = prepared.named;
      of = prepared.ready.2;
      whole = prepared.whole;
    }

-- ---- why it stops

pub returns-in_err-prepared-clause-stops : goal.returns-in_err-prepared-clause-stops
returns-in_err-prepared-clause-stops g c =
    let p = err_from_is_err_and c.from_residual.result c.from_residual.ensures.1 in
    rw (p.1, p.2) (λ words asks. stopped_before asks c.in_err-prepared.ensures.stops)

pub returns-in_err-prepared-clause-so_far : goal.returns-in_err-prepared-clause-so_far
returns-in_err-prepared-clause-so_far g c =
    let p = err_from_is_err_and c.from_residual.result c.from_residual.ensures.1 in
    rw (p.1, p.2) (λ words asks. untold_first asks (c.in_err-prepared.ensures.stops.reaches.quiet.begins Output) refl)

pub returns-in_err-ran-clause-stops : goal.returns-in_err-ran-clause-stops
returns-in_err-ran-clause-stops g c =
    let at = goal.at.returns-in_err-ran-clause-stops g c in
    let p = err_from_is_err_and c.from_residual-in_err-ran.result c.from_residual-in_err-ran.ensures.1 in
    let can = c.in_ok-prepared.ensures.ready in
    let s = c.in_err-ran.ensures.stops can.0 can.1 in
    let a = g.D.Desk.state c.args.desk.now in
    let b = g.D.Desk.state c.play.new.desk in
    rw (p.1, p.2) (λ words asks.
    subst (λ (r : Refusal). Stopped words a b r) (sym s.is) (stopped_playing (ready g at.In_ok-prepared asks) b s.frame s.stop s.ends))

pub returns-in_err-ran-clause-so_far : goal.returns-in_err-ran-clause-so_far
returns-in_err-ran-clause-so_far g c =
    let at = goal.at.returns-in_err-ran-clause-so_far g c in
    let p = err_from_is_err_and c.from_residual-in_err-ran.result c.from_residual-in_err-ran.ensures.1 in
    let can = c.in_ok-prepared.ensures.ready in
    let s = c.in_err-ran.ensures.stops can.0 can.1 in
    let a = g.D.Desk.state c.args.desk.now in
    let b = g.D.Desk.state c.play.new.desk in
    let before = g.G.Gate.told c.args.gate.now in
    let after = g.G.Gate.told c.play.new.gate in
    rw (p.1, p.2) (λ words asks.
    inr (subst (λ (r : Refusal). RanSoFar words r a b before after) (sym s.is)
    (blocks_stopped (ready g at.In_ok-prepared asks) b s.frame s.stop s.ends s.ran)))

pub returns-in-Err-clause-stops : goal.returns-in-Err-clause-stops
returns-in-Err-clause-stops g c = λ words asks.
    let at = goal.at.returns-in-Err-clause-stops g c in
    let can = c.in_ok-prepared.ensures.ready in
    let failed = c.in-Err.ensures in
    stopped_telling (ready g at.In_ok-prepared asks) (g.D.Desk.state c.play.new.desk) (c.in_ok-ran.ensures.played can.0 can.1)
    (g.D.Desk.state c.report_done.new.desk)
    failed.err failed.failed (λ t sure room. let answered = failed.answers t sure room in absurd cc)

pub returns-in-Err-clause-so_far : goal.returns-in-Err-clause-so_far
returns-in-Err-clause-so_far g c = λ words asks.
    let at = goal.at.returns-in-Err-clause-so_far g c in
    let can = c.in_ok-prepared.ensures.ready in
    let b = g.D.Desk.state c.play.new.desk in
    let d = g.D.Desk.state c.report_done.new.desk in
    inr (blocks_told (ready g at.In_ok-prepared asks) b d (c.in_ok-ran.ensures.played can.0 can.1).begun (c.in-Err.ensures.err.2.begins Output)
    (c.in_ok-ran.ensures.ran can.0 can.1))

-- ---- it is done

pub returns-in-Ok-clause-done : goal.returns-in-Ok-clause-done
returns-in-Ok-clause-done g c = λ words asks.
    let at = goal.at.returns-in-Ok-clause-done g c in
    let can = c.in_ok-prepared.ensures.ready in
    played_whole (ready g at.In_ok-prepared asks) (g.D.Desk.state c.play.new.desk) (c.in_ok-ran.ensures.played can.0 can.1)
    (g.D.Desk.state c.report_done.new.desk)
    c.in-Ok.ensures.ok c.in-Ok.ensures.steady

pub returns-in-Ok-clause-blocks : goal.returns-in-Ok-clause-blocks
returns-in-Ok-clause-blocks g c = λ words asks.
    let at = goal.at.returns-in-Ok-clause-blocks g c in
    let can = c.in_ok-prepared.ensures.ready in
    record {
      job = Playing (run_view c.args.run);
      asks = asks;
      blocks = blocks_done {words = words} (ready g at.In_ok-prepared asks) (c.in_ok-ran.ensures.ran can.0 can.1);
    }
