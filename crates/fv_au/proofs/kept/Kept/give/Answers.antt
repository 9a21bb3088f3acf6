use Rattle.std.proofs.Common.{◌≡◌, ◌+◌, ◌-◌, take, drop, sym, ap, ◌∙◌, arith, length-drop}
use lib.Seq.{paste}
use Rattle.std.proofs.lemmas.List.{drop-take}
use Rattle.std.proofs.lemmas.List.Edits.{take-paste}
use Rattle.fv_au.proofs.kept.Kept.give.Goals as goal

pub returns-clause-rest : goal.returns-clause-rest
returns-clause-rest c =
    let all = c.self.inside.bytes in
    let len = c.self.inside.count in
    let from = c.min-n.result in
    let same : len - from ≡ 0 + (len - from) = omega arith in
    let whole : from + (len - from) ≡ len = omega (arith, c.min-n.ensures) in
    ap (take (len - from)) c.copy_within.ensures.after ∙ ap (λ k. take k (paste all 0 (drop from all) (len - from))) same
    ∙ take-paste all 0 (drop from all) (len - from) (omega arith) (omega (arith, c.self.invariant, c.self.told, length-drop from all))
    ∙ sym (drop-take from (len - from) all) ∙ ap (λ k. drop from (take k all)) whole ∙ ap (drop from) c.self.view_is
