use Rattle.std.proofs.Common.{◌≡◌, [], ◌∷◌, ◌++◌, length, sym, ap, subst, ◌∙◌, arith}
use Rattle.fv_base.proofs.lemmas.Arena.{below_snoc}
use Rattle.fv_parse_tree.specs.declared.arena.Entry.{Entry}
use Rattle.fv_parse_tree.specs.Arena.{EntryBelow, AreOver, PartsBelow, entry_tree, trees}
use Rattle.fv_parse_tree.proofs.lemmas.Arenas.{pushed, length_trees}
use Rattle.fv_parse_tree.proofs.arena.Arena.push.Goals as goal

pub returns : goal.returns
returns c =
    let e : Entry = record { node = c.args.node; start = c.args.start } in
    pushed c.args.self.now c.push.new.self.items e c.new-id.result (c.in_ok-push.ensures.items ∙ ap (λ l. l ++ e ∷ []) c.self.view_is)
    (c.new-id.ensures ∙ c.len.ensures ∙ c.self.inside.entries.ok.0 ∙ ap length c.self.view_is)

pub invariant_of-self-2 : goal.invariant_of-self-2
invariant_of-self-2 c =
    let e : Entry = record { node = c.args.node; start = c.args.start } in
    let same : length (trees c.args.self.now) ≡ length c.self.inside.entries.items = omega (arith, length_trees c.args.self.now, ap length c.self.view_is) in
    subst AreOver (sym c.in_ok-push.ensures.items)
    (below_snoc entry_tree EntryBelow c.self.inside.entries.items e c.self.invariant (subst (λ n. PartsBelow n c.args.node) same c.requires))
