use Rattle.std.proofs.Common.{◌≡◌, inl, inr, ◌<◌, length, All, IsTrue, subst, sym, arith, rules}
use Rattle.std.proofs.lemmas.Bool.{cases_eq}
use Rattle.fv_components.specs.Reach.{next_of}
use Rattle.fv_components.proofs.RowLinks.{links_from_rows, rows_of_links}
use Rattle.fv_components.proofs.search.are_links.Goals as goal

pub returns-then-not-leads_below : goal.returns-then-not-leads_below
returns-then-not-leads_below c =
    let links = c.args.links.now in
    let i = c.loop-node.node in
    let n : c.len-nodes.result ≡ length links = c.len-nodes.ensures in (
      λ t. absurd (search rules),
      λ h. subst IsTrue c.if-not-leads_below.true (c.leads_below.ensures.1 (subst (λ k. All (λ b. b < k) c.row.result.now) (sym n)
          (subst (λ xs. All (λ b. b < length links) xs) (sym c.row.ensures) (rows_of_links (next_of links) (length links) i h (omega arith))))),
    )

pub loop-node-preserved : goal.loop-node-preserved
loop-node-preserved c =
    let links = c.args.links.now in
    let i = c.loop-node.node in
    let here : All (λ b. b < length links) (next_of links i) = subst (λ xs. All (λ b. b < length links) xs) c.row.ensures
    (subst (λ k. All (λ b. b < k) c.row.result.now) c.len-nodes.ensures
    (c.leads_below.ensures.0 (subst IsTrue (sym c.if-not-leads_below.false) (search rules)))) in
    λ a l. elim (cases_eq a i) [
      | inl e ↦ subst (λ x. All (λ b. b < length links) (next_of links x)) (sym e) here
      | inr e ↦ c.loop-node.invariant a (omega arith)
    ]

pub returns : goal.returns
returns c = (λ t. links_from_rows (next_of c.args.links.now) (length c.args.links.now) (λ a l. c.loop-node.invariant a (omega arith)), search rules)
