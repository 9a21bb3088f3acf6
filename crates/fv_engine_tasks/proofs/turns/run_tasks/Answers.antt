use Rattle.std.proofs.Common.{arith, ◌≡◌, List, [], ◌∷◌, length, refl, sym, ◌∙◌, subst}
use Rattle.std.specs.Prelude.{All}
use Rattle.std.proofs.lemmas.List.Elements.{All-append, All-cons}
use Rattle.fv_outside.specs.declared.gate.Line.{Line}
use Rattle.fv_engine_tasks.specs.Jobs.{block_of}
use Rattle.fv_engine_tasks.specs.Underway.{IsUnderway}
use Rattle.fv_engine_tasks.specs.inner.Lines.{line_of}
use Rattle.fv_engine_tasks.proofs.Ends.{ends}
use Rattle.fv_engine_tasks.proofs.EventLemmas.{keeps_on}
use Rattle.fv_engine_tasks.proofs.turns.run_tasks.Goals as goal

pub turn-task-requires-clause-underway : goal.turn-task-requires-clause-underway
turn-task-requires-clause-underway g c = let u = c.requires.underway in (u.0, c.loop-t.lines.items, u.1, c.loop-t.invariant.goes_on u.0 u.1 u.2)

pub note-requires : goal.note-requires
note-requires g c =
    let u = c.requires.underway in let now = c.loop-t.invariant.goes_on u.0 u.1 u.2 in let counted = now.counted in let less = c.turn-task.ensures.less in
    let cap = c.loop-t.invariant.room in let r = c.requires.room in omega (arith, counted, less, cap, r)

pub loop-t-preserved : goal.loop-t-preserved
loop-t-preserved g c = record {
  core = keeps_on c.args.core.now c.loop-t.core c.turn-task.new.core c.loop-t.invariant.core c.turn-task.ensures.core;
  valid = c.turn-task.ensures.valid;
  kept = c.turn-task.ensures.kept ∙ c.loop-t.invariant.kept;
  scratch = c.turn-task.ensures.scratch;
  room = c.note.ensures.room ∙ c.loop-t.invariant.room;
  who = λ old.
      let lines = c.loop-t.lines.items in let line = line_of c.turn-task.result (length lines) in
      subst (All (λ (x : Line). x.worker ≡ 0)) (sym c.note.ensures.lines) (All-append (λ (x : Line). x.worker ≡ 0) lines (line ∷ [])
      (c.loop-t.invariant.who old) (All-cons (λ (x : Line). x.worker ≡ 0) line [] refl (λ i d l. absurd (omega (arith, l)))));
  goes_on = λ first real u.
      let b = block_of g.P.Codes.parts c.args.job.now in
      subst (λ (ls : List Line). IsUnderway c.args.tasks.now.tasks b first c.turn-task.new.core.now (g.S.Store.state c.turn-task.new.store) ls)
      (sym c.note.ensures.lines) (c.turn-task.ensures.underway first c.loop-t.lines.items real (c.loop-t.invariant.goes_on first real u));
}

pub leave-requires-clause-free : goal.leave-requires-clause-free
leave-requires-clause-free g c = let u = c.requires.underway in (c.loop-t.invariant.goes_on u.0 u.1 u.2).free

pub returns-clause-ends : goal.returns-clause-ends
returns-clause-ends g c first real u = ends c.requires.job (c.loop-t.invariant.goes_on first real u) c.leave.ensures.done
