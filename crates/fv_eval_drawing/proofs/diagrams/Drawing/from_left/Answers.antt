use Rattle.std.proofs.Common.{◌≡◌, ◌∷◌, ◌+◌, ◌<◌, suc, drop, length, sym, ap, ◌∙◌, arith}
use Rattle.std.proofs.Math.Seq.{drop-cons}
use Rattle.std.proofs.lemmas.List.Elements.{All-drop}
use Rattle.fv_diagram.specs.Arena.{count_of}
use Rattle.fv_eval_drawing.proofs.Loops.{operates_on}
use Rattle.fv_eval_drawing.proofs.diagrams.Drawing.from_left.Goals as goal

pub operating-preserved : goal.operating-preserved
operating-preserved c =
    let others = c.args.others.now in
    let i = c.operating.part-index in
    let more : suc i ≡ i + 1 = omega arith in
    let here : i < length others = omega arith in
    let e : drop i others ≡ c.part-item.result ∷ drop (i + 1) others =
    drop-cons others i c.part-item.result here ∙ ap (λ x. x ∷ drop (suc i) others) (sym c.part-item.is) ∙ ap (λ n. c.part-item.result ∷ drop n others) more in
    operates_on c.args.self.now c.operating.self c.operate.new.self c.args.op c.args.first others
    (drop i others) (drop (i + 1) others) c.part-item.result c.operating.whole c.in_ok-whole.whole
    c.operating.invariant e
    (All-drop (λ k. k < count_of c.args.self.now.diagrams) i others c.requires.others) c.in_ok-whole.ensures.makes c.in_ok-whole.ensures.keeps
