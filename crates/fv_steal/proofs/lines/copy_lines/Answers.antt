use Rattle.std.proofs.Common.{rules, ◌≡◌, ◌<◌, ℕ, suc, ◌+◌, List, [], ◌∷◌, ◌++◌, length, take, get_or, sym, ap, ◌∙◌, arith, true, append-nil}
use Rattle.std.specs.Global.{Vec}
use Rattle.std.specs.List.{flat_map}
use Rattle.std.specs.Result.{is_ok}
use Rattle.std.proofs.lemmas.Bool.{cond-true}
use Rattle.std.proofs.lemmas.Grind.{flat_map-append}
use Rattle.std.proofs.lemmas.List.Folds.{length-flat_map-take}
use Rattle.std.proofs.Math.Seq.{take-suc}
use Rattle.fv_outside.specs.declared.gate.Line.{Line}
use Rattle.fv_steal.specs.declared.worker.Worker.{Worker}
use Rattle.fv_steal.specs.Crews.{lines_of}
use Rattle.fv_steal.proofs.lines.copy_lines.Goals as goal

pub loop-worker-preserved : goal.loop-worker-preserved
loop-worker-preserved g c =
    let ws : List (Worker g.row.C.Denot) = c.args.workers.now in
    let i : ℕ = c.loop-worker.worker-index in
    let w : Worker g.row.C.Denot = c.worker-item.result in
    let old : Vec Line = c.loop-worker.lines in
    let inside : i < length ws = search (rules, c.loop-worker-test.true) in
    let is : lines_of (get_or ws i w) ≡ lines_of w = ap (λ (x : Worker g.row.C.Denot). lines_of x) (sym c.worker-item.is) in
    record {
      lines = λ fits.
          let e : old.items ≡ flat_map (lines_of {C = g.row.C.Denot}) (take i ws) = c.loop-worker.invariant.lines fits in
          let more = length-flat_map-take (lines_of {C = g.row.C.Denot}) ws i w inside in
          let long : length c.lines.result.now ≡ length (lines_of (get_or ws i w)) = ap length (c.lines.ensures ∙ sym is) in
          let ok : is_ok c.extend_from_slice.result ≡ true = c.extend_from_slice.ensures.succeeds
          (omega (arith, fits, more, long, ap length e, old.ok, c.loop-worker.invariant.room)) in
          let next : suc i ≡ i + 1 = omega arith in
          c.extend_from_slice.ensures.items ∙ cond-true (is_ok c.extend_from_slice.result) _ _ ok
          ∙ ap (λ (xs : List Line). xs ++ c.lines.result.now) e
          ∙ ap (λ (xs : List Line). flat_map (lines_of {C = g.row.C.Denot}) (take i ws) ++ xs)
          (c.lines.ensures ∙ sym is ∙ sym (append-nil (lines_of (get_or ws i w))))
          ∙ sym (flat_map-append (lines_of {C = g.row.C.Denot}) (take i ws) (get_or ws i w ∷ []))
          ∙ ap (flat_map (lines_of {C = g.row.C.Denot})) (sym (take-suc ws i w inside) ∙ ap (λ (n : ℕ). take n ws) next);
      room = omega (arith, c.loop-worker.invariant.room, c.extend_from_slice.ensures.capacity);
    }
