use Rattle.std.proofs.Common.{◌≡◌, ◌+◌, [], ◌∷◌, ◌++◌, List, length, take, sym, ◌∙◌, ap, subst, arith, rules, refl, add-one}
use Rattle.fv_base.proofs.lemmas.Lists.{length_table}
use Rattle.fv_num.specs.headline.Frames.{Frame, column, table, rows}
use Rattle.fv_control.specs.Laws.{applied}
use Rattle.fv_control.specs.headline.Streams.{control_streams}
use Rattle.fv_diagram.specs.Arena.{tree_of}
use Rattle.fv_diagram_runner.specs.Steps.{StandsFor}
use Rattle.fv_diagram.specs.headline.Streams.{run}
use Rattle.fv_diagram.specs.headline.Samples.{joined, no_slots}
use Rattle.fv_control.proofs.lemmas.Listening.{heard_at, values_are, come_later}
use Rattle.test_diagrams.proofs.Playing.{answers_none, played_more, played_heard}
use Rattle.test_diagrams.proofs.player.play_with.Goals as goal

pub loop-i-init : goal.loop-i-init
loop-i-init c =
    let d = tree_of c.args.diagrams.now c.args.root in
    record {
      stands = c.in_ok-stepper.ensures;
      answer = c.new-answer.ensures.items ∙ sym (ap joined (answers_none d (column []) no_slots (c.answers_each.ensures d)));
      out = c.requires.out;
      within = omega arith;
      values = refl;
      come = tt;
    }

pub step-requires-clause-frame : goal.step-requires-clause-frame
step-requires-clause-frame c = ap length c.frame_of-frame.ensures ∙ length_table c.args.width _ ∙ c.requires.width ∙ sym c.loop-i.invariant.stands.takes

pub loop-i-preserved : goal.loop-i-preserved
loop-i-preserved c =
    let d = tree_of c.args.diagrams.now c.args.root in
    let n = c.loop-i.i in
    let w = c.args.width in
    let xs = c.args.samples.now in
    let changes = c.args.changes.now in
    let initial = c.args.values.now in
    let values = c.listen-at.new.values in
    let frame = c.frame_of-frame.result.now in
    let C = table n (heard_at changes initial) in
    let X = rows w n xs in
    let stands = c.loop-i.invariant.stands in
    let come = c.listen-at.ensures.come c.loop-i.invariant.come in
    let now : values ≡ applied initial (take c.listen-at.result changes) = c.listen-at.ensures.values initial c.loop-i.invariant.values in
    let are : values ≡ heard_at changes initial n = now ∙ values_are changes initial c.listen-at.result n c.values_held.ensures come
    (c.listen-at.ensures.behind c.requires.order) in
    let held : C ++ values ∷ [] ≡ table (n + 1) (heard_at changes initial) =
    ap (λ (v : Frame). C ++ v ∷ []) are ∙ ap (λ k. table k (heard_at changes initial)) (sym (add-one n)) in
    let more : rows w (n + 1) xs ≡ X ++ frame ∷ [] = ap (λ k. rows w k xs) (add-one n) ∙ ap (λ (x : Frame). X ++ x ∷ []) (sym c.frame_of-frame.ensures) in
    record {
      stands = subst (λ (Y : List Frame). StandsFor c.step.new.self d (table (n + 1) (heard_at changes initial)) Y) (sym more)
          (subst (λ (D : List Frame). StandsFor c.step.new.self d D (X ++ frame ∷ [])) held (c.in_ok-step.ensures.stands d C X stands));
      answer = played_more d values C X frame c.step.new.out c.loop-i.answer.items c.extend_from_slice.new.self.items (c.answers_one_more.ensures d)
          (length_table n (heard_at changes initial) ∙ sym (length_table n _))
          (c.in_ok-step.ensures.answer d C X no_slots stands) c.loop-i.invariant.answer c.in_ok-extend_from_slice.ensures.items
          ∙ ap (λ (D : List Frame). joined (run d (column D) no_slots (X ++ frame ∷ []))) held
          ∙ ap (λ (Y : List Frame). joined (run d (column (table (n + 1) (heard_at changes initial))) no_slots Y)) (sym more);
      out = search rules;
      within = c.listen-at.ensures.within;
      values = now;
      come = come_later n (take c.listen-at.result changes) come;
    }

pub returns : goal.returns
returns c =
    let d = tree_of c.args.diagrams.now c.args.root in
    let n = c.loop-i.i in
    let w = c.args.width in
    let xs = c.args.samples.now in
    let changes = c.args.changes.now in
    let initial = c.args.values.now in
    let all : n ≡ c.args.frames = let h = c.loop-i-test.false in omega arith in
    c.loop-i.invariant.answer
    ∙ ap joined (played_heard d changes initial n (rows w n xs) (c.answers_alike.ensures d) c.requires.controls (length_table n _))
    ∙ ap (λ k. joined (run d (control_streams changes initial) no_slots (rows w k xs))) all
    ∙ ap (λ k. joined (run d (control_streams changes initial) no_slots (rows k c.args.frames xs))) c.requires.width
