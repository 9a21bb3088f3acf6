use Rattle.std.proofs.Common.{ℕ, ◌+◌, List, [], ◌∷◌, ◌++◌, length, drop, map, sym, ap, ◌∙◌, arith, length-drop}
use Rattle.std.specs.Prelude.{slice_range}
use Rattle.std.proofs.lemmas.List.{map_push}
use Rattle.std.proofs.lemmas.List.Edits.{between_none}
use Rattle.fv_jobs.specs.headline.Jobs.{lines_in, jobs_of, in_front}
use Rattle.fv_jobs.proofs.Lines.{all_from, lines_from, longer_front}
use Rattle.fv_jobs.proofs.Counting.{so_far, front_none, text_ended, text_longer}
use Rattle.fv_jobs.proofs.cut_lines.cut.Goals as goal

pub lines-init : goal.lines-init
lines-init c = record {
  cut = ap (λ ts. map (λ t. t.now) ts ++ in_front [] (jobs_of (lines_in c.args.bytes.now))) c.new-texts.ensures.items
      ∙ front_none (lines_in c.args.bytes.now);
  begun = omega arith;
  within = omega arith;
}

pub lines-preserved-in_ok-push : goal.lines-preserved-in_ok-push
lines-preserved-in_ok-push c =
    let bytes = c.args.bytes.now in
    let at = c.lines.at in
    let line = c.first_line-line.result.now in
    let first = c.first_line-line.ensures in
    let behind = lines_in (drop (at + length line) bytes) in
    let texts = map (λ t. t.now) c.lines.texts.items in
    let front = slice_range bytes c.lines.start at in
    record {
      cut = ap (λ ts. so_far (map (λ t. t.now) ts) (slice_range bytes (at + length line) (at + length line)) behind) c.in_ok-push.ensures.items
          ∙ ap (λ ts. so_far ts (slice_range bytes (at + length line) (at + length line)) behind) (map_push (λ t. t.now) c.lines.texts.items _)
          ∙ ap (λ (f : List ℕ). so_far (texts ++ front ∷ []) f behind) (between_none bytes (at + length line))
          ∙ sym (text_ended texts front line behind (sym c.if-is_separator.ensures))
          ∙ ap (λ ls. so_far texts front ls) (sym (lines_from bytes line at first.line))
          ∙ c.lines.invariant.cut;
      begun = omega arith;
      within = omega (arith, first.within, ap length (all_from bytes at), length-drop at bytes, c.lines.invariant.within);
    }

pub lines-preserved : goal.lines-preserved
lines-preserved c =
    let bytes = c.args.bytes.now in
    let at = c.lines.at in
    let line = c.first_line-line.result.now in
    let first = c.first_line-line.ensures in
    let behind = lines_in (drop (at + length line) bytes) in
    let texts = map (λ t. t.now) c.lines.texts.items in
    let front = slice_range bytes c.lines.start at in
    record {
      cut = ap (λ (f : List ℕ). so_far texts f behind) (sym (longer_front bytes line c.lines.start at c.lines.invariant.begun first.front))
          ∙ sym (text_longer texts front line behind (sym c.if-is_separator.ensures))
          ∙ ap (λ ls. so_far texts front ls) (sym (lines_from bytes line at first.line))
          ∙ c.lines.invariant.cut;
      begun = omega (arith, c.lines.invariant.begun);
      within = omega (arith, first.within, ap length (all_from bytes at), length-drop at bytes, c.lines.invariant.within);
    }
