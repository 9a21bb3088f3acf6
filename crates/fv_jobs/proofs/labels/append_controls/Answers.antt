use Rattle.std.proofs.Common.{◌≡◌, ℕ, ◌+◌, ◌<◌, List, [], ◌∷◌, ◌++◌, length, take, get_or, sym, ap, ◌∙◌, append_assoc, arith}
use Rattle.std.proofs.lemmas.List.{map_push, take_more, take_all}
use Rattle.fv_diagram.specs.declared.control.ControlInfo.{ControlInfo}
use Rattle.fv_jobs.specs.headline.Labels.{renamed, labelled}
use Rattle.fv_jobs.proofs.labels.append_controls.Goals as goal

-- one control more
one_more : (job n : ℕ) (cs before all : List ControlInfo) (item new : ControlInfo) → n < length cs → item ≡ get_or cs n item → new ≡ renamed job item
    → all ≡ before ++ labelled job (take n cs) → all ++ new ∷ [] ≡ before ++ labelled job (take (n + 1) cs)
one_more job n cs before all item new h is made so_far =
    ap (λ (xs : List ControlInfo). xs ++ new ∷ []) so_far
    ∙ append_assoc before (labelled job (take n cs)) (new ∷ [])
    ∙ ap (λ (xs : List ControlInfo). before ++ xs)
    (ap (λ (c : ControlInfo). labelled job (take n cs) ++ c ∷ []) made
    ∙ sym (map_push (renamed job) (take n cs) item)
    ∙ ap (λ (xs : List ControlInfo). labelled job xs) (ap (λ (c : ControlInfo). take n cs ++ c ∷ []) is ∙ sym (take_more cs n item h)))

pub loop-control-preserved : goal.loop-control-preserved
loop-control-preserved c =
    c.in_ok-push.ensures.items
    ∙ one_more c.args.job c.loop-control.control-index c.args.controls.now c.args.all.now.items c.loop-control.all.items
    c.control-item.result c.in_ok-labelled.labelled
    c.loop-control-test.true c.control-item.is c.in_ok-labelled.ensures c.loop-control.invariant

pub returns : goal.returns
returns c =
    let cs = c.args.controls.now in
    c.loop-control.invariant
    ∙ ap (λ (xs : List ControlInfo). c.args.all.now.items ++ labelled c.args.job xs) (take_all c.loop-control.control-index cs (omega arith))
