use Rattle.std.proofs.Common.{◌≡◌, ◌<◌, length, get_or, subst, arith, below_more, ◌∙◌, FitsSigned, w32}
use Rattle.std.proofs.lemmas.List.{get_or_default}
use Rattle.fv_diagram.specs.declared.control.ControlInfo.{ControlInfo}
use Rattle.fv_control.specs.headline.Script.{no_control}
use Rattle.fv_engine_render.proofs.Taken.{is_span, spans_all}
use Rattle.fv_engine_render.proofs.controls.spans_fit.Goals as goal

pub loop-control-preserved : goal.loop-control-preserved
loop-control-preserved c =
    let cs = c.args.controls.now in
    let i = c.loop-control.control-index in
    let l : i < length cs = c.loop-control-test.true in
    let e : c.control-item.result ≡ get_or cs i no_control = c.control-item.is ∙ get_or_default cs i c.control-item.result no_control l in
    let least = subst (λ (x : ControlInfo). FitsSigned w32 x.min) e c.bounds_fit.ensures.least in
    let greatest = subst (λ (x : ControlInfo). FitsSigned w32 x.max) e c.bounds_fit.ensures.greatest in
    below_more _ _ c.loop-control.invariant (is_span (get_or cs i no_control) (c.requires i no_control l) least greatest)

pub returns : goal.returns
returns c = let t = c.loop-control-test.false in spans_all c.args.controls.now (λ k l. c.loop-control.invariant k (omega (arith, l, t)))
