use Rattle.std.proofs.Common.{◌≡◌, length, get_or, sym, ap, ap₂, ◌∙◌, arith}
use Rattle.std.proofs.lemmas.Result.{IfOk-weaker}
use Rattle.std.proofs.lemmas.List.{get_or_default}
use Rattle.fv_diagram.specs.Hooks.{takes}
use Rattle.fv_propagate.specs.inner.Progress.{Progress, put_prefix, passed, leaf_of}
use Rattle.fv_propagate.proofs.progress.Progress.put_leaf.Goals as goal

pub returns-in-Prefix : goal.returns-in-Prefix
returns-in-Prefix c =
    let s = c.args.self.now in
    let ins = c.args.ins.now in
    let x = c.index-ins-0-in-Prefix.result in
    let y = c.index-ins-1.result in
    let wide : length ins ≡ 2 = c.requires.width ∙ ap takes c.in-Prefix.is in
    let first : x ≡ get_or ins 0 0 = c.index-ins-0-in-Prefix.is ∙ get_or_default ins 0 x 0 (omega (arith, wide)) in
    let second : y ≡ get_or ins 1 0 = c.index-ins-1.is ∙ get_or_default ins 1 y 0 (omega (arith, wide)) in
    IfOk-weaker c.put_prefix.result _ _
    (λ id e.
    e ∙ ap (λ (p : Progress). put_prefix p x y) c.next_delay-in-Prefix.ensures.rest ∙ ap₂ (put_prefix (passed 1 s)) first second
    ∙ ap (λ l. leaf_of l ins s) (sym c.in-Prefix.is))
    c.put_prefix.ensures
