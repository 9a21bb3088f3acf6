use Rattle.std.proofs.Common.{◌≡◌, ◌+◌, ◌<◌, [], ◌∷◌, ◌++◌, length, take, sym, ap, ◌∙◌, subst, arith, All, pos}
use Rattle.std.proofs.lemmas.List.{length-take-le}
use Rattle.std.proofs.lemmas.List.Elements.{All-push}
use Rattle.fv_signal.specs.declared.signal.Signal.TheVariants.{Const}
use Rattle.fv_signal.proofs.lemmas.Grown.{length_grown}
use Rattle.fv_analysis.specs.headline.Stands.{node, stand_in}
use Rattle.fv_analysis.proofs.Grown.{grown_more}
use Rattle.fv_analysis.proofs.resolve.stands.Goals as goal

pub stand_of-stand-requires-clause-known : goal.stand_of-stand-requires-clause-known
stand_of-stand-requires-clause-known c =
    let g = c.args.graph.now in
    ap length (c.deref.ensures.value ∙ c.loop-place.invariant.0)
    ∙ omega (arith, length_grown (stand_in g) [] (take c.loop-place.place g.signals), length-take-le c.loop-place.place g.signals (omega arith))

pub loop-place-preserved : goal.loop-place-preserved
loop-place-preserved c =
    let g = c.args.graph.now in
    let pushed : c.push.new.self.items ≡ c.loop-place.all.items ++ c.stand_of-stand.result ∷ [] = c.in_ok-push.ensures.items in
    let stands : c.stand_of-stand.result ≡ stand_in g c.loop-place.all.items (node g c.loop-place.place) =
    c.stand_of-stand.ensures.stand ∙ ap (λ xs. stand_in g xs (node g c.loop-place.place)) c.deref.ensures.value in (
      pushed ∙ ap (λ x. c.loop-place.all.items ++ x ∷ []) stands ∙ ap (λ xs. xs ++ stand_in g xs (node g c.loop-place.place) ∷ []) c.loop-place.invariant.0
          ∙ sym (grown_more (stand_in g) g.signals c.loop-place.place (Const (pos 0)) (omega arith)),
      subst (All (λ r. r < length g.signals)) (sym pushed)
          (All-push (λ r. r < length g.signals) c.loop-place.all.items c.stand_of-stand.result c.loop-place.invariant.1 c.stand_of-stand.ensures.there),
    )
