use Rattle.std.proofs.Common.{◌≡◌, ◌++◌, ◌∷◌, [], ◌≤◌, length, sym, ap, ◌∙◌, subst, arith}
use Rattle.std.proofs.lemmas.List.{length-append}
use Rattle.fv_components.specs.Packed.{cut, AreStarts}
use Rattle.fv_components.proofs.Packs.{starts_more, cut_more}
use Rattle.fv_components.proofs.packed.Rows.push.Goals as goal

pub invariant_of-self-2 : goal.invariant_of-self-2
invariant_of-self-2 c =
    let starts = c.self.inside.starts.items in
    let numbers = c.self.inside.numbers.items in
    let row = c.args.row.now in
    let all : c.len-start.result ≡ length numbers = omega arith in
    let longer : length numbers ≤ length (numbers ++ row) = omega (arith, length-append numbers row) in
    let e = c.push_reserved.ensures.items ∙ ap (λ xs. xs ++ c.len-start.result ∷ []) c.in_ok-reserve.ensures.items ∙ ap (λ n. starts ++ n ∷ []) all in
    subst (λ xs. AreStarts xs (length c.extend_from_slice.new.self.items)) (sym e)
    (subst (λ xs. AreStarts (starts ++ length numbers ∷ []) (length xs)) (sym c.in_ok-extend_from_slice.ensures.items)
    (starts_more starts (length numbers) (length (numbers ++ row)) longer c.self.invariant))

pub returns-clause-pushes : goal.returns-clause-pushes
returns-clause-pushes c =
    let starts = c.self.inside.starts.items in
    let numbers = c.self.inside.numbers.items in
    let row = c.args.row.now in
    let all : c.len-start.result ≡ length numbers = omega arith in
    let e = c.push_reserved.ensures.items ∙ ap (λ xs. xs ++ c.len-start.result ∷ []) c.in_ok-reserve.ensures.items ∙ ap (λ n. starts ++ n ∷ []) all in
    ap (λ xs. cut xs c.extend_from_slice.new.self.items) e ∙ ap (cut (starts ++ length numbers ∷ [])) c.in_ok-extend_from_slice.ensures.items
    ∙ cut_more starts numbers row c.self.invariant ∙ ap (λ rows. rows ++ row ∷ []) c.self.view_is
