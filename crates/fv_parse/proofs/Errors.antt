-- The first static error, a step at a time.
use Rattle.std.proofs.Common.{◌≡◌, ℕ, ◌+◌, ◌-◌, ◌<◌, ◌≤◌, List, length, drop, get_or, Option, sym, ap, ap₂, ◌∙◌, arith}
use Rattle.fv_base.proofs.lemmas.Lists.{drop_step}
use Rattle.fv_lex.specs.headline.Token.{Lexed}
use Rattle.fv_parse_tree.specs.declared.node.TreeId.{TreeId}
use Rattle.fv_parse.specs.declared.clash.StaticError.{StaticError}
use Rattle.fv_parse_grammar.specs.headline.Tree.{Tree, End}
use Rattle.fv_parse_tree.specs.Arena.{tree_at, forest}
use Rattle.fv_parse.specs.headline.StaticErrors.{earlier, error_of}

pub among_on : (l : Lexed) (ts : List Tree) (ids : List TreeId) (i : ℕ) (d : TreeId) (found first new : Option StaticError)
    → 0 < i → i ≤ length ids → found ≡ error_of l (tree_at ts (get_or ids (i - 1) d))
    → first ≡ error_of l (forest ts (drop i ids) End) → new ≡ earlier found first → new ≡ error_of l (forest ts (drop (i - 1) ids) End)
among_on l ts ids i d found first new some le is so_far given =
    let one : i - 1 + 1 ≡ i = omega arith in
    given ∙ ap₂ earlier is (so_far ∙ ap (λ n. error_of l (forest ts (drop n ids) End)) (sym one))
    ∙ sym (ap (λ xs. error_of l (forest ts xs End)) (drop_step ids (i - 1) d (omega arith)))
