use Rattle.std.proofs.Common.{◌≡◌, [], ◌∷◌, ◌++◌, ℤ, Vec, Global, sym, ap, ◌∙◌, subst}
use Rattle.std.proofs.lemmas.List.{map-append}
use Rattle.fv_share.specs.Drafts.{IsDraft, lists_in}
use Rattle.fv_share.specs.Inside.{draft_of}
use Rattle.fv_share.proofs.lemmas.Kept.{table_keeps}
use Rattle.fv_share.proofs.builder.Builder.keep.Goals as goal

pub invariant_of-self-2 : goal.invariant_of-self-2
invariant_of-self-2 c =
    let d = draft_of c.self.inside in
    let all : lists_in c.push.new.self.items ≡ d.tables ++ c.args.values.now ∷ [] =
    ap lists_in c.in_ok-push.ensures.items ∙ map-append (λ (row : Vec ℤ Global). row.items) c.self.inside.tables.items (c.in_ok-numbers.numbers ∷ [])
    ∙ ap (λ T. d.tables ++ T ∷ []) c.in_ok-numbers.ensures.same in
    subst (λ ts. IsDraft (record d { tables = ts })) (sym all) (table_keeps d c.args.values.now c.self.invariant c.in_ok-numbers.ensures.numbers)
