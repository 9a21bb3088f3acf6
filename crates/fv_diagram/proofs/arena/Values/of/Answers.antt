use Rattle.std.proofs.Common.{◌≡◌, ◌<◌, ◌++◌, ◌∷◌, [], length, get_or, take, sym, subst, ap, ◌∙◌}
use Rattle.std.proofs.Common.{arith, below_more, pos, w32, FitsSigned, SFits, to_z-of_z, rules}
use Rattle.std.proofs.lemmas.List.{get_or_default, take_more}
use Rattle.std.proofs.lemmas.List.Elements.{All-from_get_or}
use Rattle.fv_diagram.proofs.arena.Values.of.Goals as goal

pub loop-i-preserved : goal.loop-i-preserved
loop-i-preserved c =
    let xs = c.args.values.now in
    let i = c.loop-i.i in
    let l : i < length xs = c.loop-i-test.true in
    let fits : FitsSigned w32 (get_or xs i (pos 0)) =
    subst (λ z. FitsSigned w32 z) (get_or_default xs i _ (pos 0) l) c.number.ensures.fits in
    let whole : SFits w32 c.number.result = search rules in
    let same : c.number.result ≡ get_or xs i (pos 0) = c.number.ensures.same ∙ get_or_default xs i _ (pos 0) l in (
      c.in_ok-push.ensures.items ∙ ap (λ z. c.loop-i.numbers.items ++ z ∷ []) (to_z-of_z whole)
          ∙ ap (λ ys. ys ++ c.number.result ∷ []) c.loop-i.invariant.0 ∙ ap (λ z. take i xs ++ z ∷ []) same
          ∙ sym (take_more xs i (pos 0) l),
      below_more _ _ c.loop-i.invariant.1 fits,
    )

pub returns-clause-numbers : goal.returns-clause-numbers
returns-clause-numbers c =
    let t = c.loop-i-test.false in
    All-from_get_or (λ n. FitsSigned w32 n) c.args.values.now (pos 0) (λ i l. c.loop-i.invariant.1 i (omega (arith, l, t)))
