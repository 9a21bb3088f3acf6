use Rattle.std.proofs.Common.{◌≡◌, ℤ, pos, ◌+ℤ◌, ◌*ℤ◌, ap, ◌∙◌, rules, SFits, w32, to_z-of_z}
use Rattle.std.proofs.lemmas.Int.{int_wrap-add_left}
use Rattle.fv_num.specs.headline.Words.{wrap}
use Rattle.fv_top_make.proofs.next_state.Goals as goal

pub returns : goal.returns
returns c =
    let s = c.args.state in
    let state_fits : SFits w32 s = search rules in
    let product_fits : SFits w32 c.apply.result = search rules in
    let sum_fits : SFits w32 c.added.result = search rules in
    let product : c.apply.result ≡ wrap (s *ℤ pos 1103515245) = simp to_z-of_z at c.apply.ensures in
    let sum : c.added.result ≡ wrap (c.apply.result +ℤ pos 12345) = simp to_z-of_z at c.added.ensures in
    to_z-of_z sum_fits ∙ sum ∙ ap (λ (z : ℤ). wrap (z +ℤ pos 12345)) product ∙ int_wrap-add_left w32 (s *ℤ pos 1103515245) (pos 12345)
