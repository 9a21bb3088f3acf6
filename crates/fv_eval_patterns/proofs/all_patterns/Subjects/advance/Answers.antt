use Rattle.std.proofs.Common.{◌∙◌, ◌++◌, ◌∷◌, [], ap, sym, subst, pos, neg_ℤ, arith, rules, SFits, w32, to_z-of_z}
use Rattle.std.specs.Prelude.{IfSome, option_map}
use Rattle.fv_parse.specs.TreeNode.TheVariants as nodes
use Rattle.fv_eval_patterns.specs.Patterns.{are_parts, ArePartsOf}
use Rattle.fv_diagram.specs.Words.{wrap}
use Rattle.fv_diagram.specs.Arena.{tree_of as diagram_of}
use Rattle.fv_rules.specs.headline.Values.{Flat}
use Rattle.fv_rules.specs.Numbers.{number_of}
use Rattle.fv_rules.specs.headline.Matching.{matched, is_number}
use Rattle.fv_parse.specs.Arena.{trees}
use Rattle.fv_parse.specs.headline.Trees.{PartsBelow}
use Rattle.fv_parse.specs.Trees.{start_in}
use Rattle.fv_eval_patterns.proofs.lemmas.Matched.{node_is}
use Rattle.fv_eval_patterns.proofs.lemmas.Matched.{IsPaired, BothWait, MatchesNothing, name_leaves, number_answers, parts_leave, other_refuses, other_pattern}
use Rattle.fv_eval_patterns.proofs.all_patterns.Subjects.advance.Goals as goal

pub returns-in_ok-bind-in-Named-clause-matched : goal.returns-in_ok-bind-in-Named-clause-matched
returns-in_ok-bind-in-Named-clause-matched c =
    name_leaves c.args.pending.now.items (record {
      is = node_is c.args.self.now.tree.now c.args.pair.pattern c.node.ensures.tree c.in-Named.is;
      adds = c.in_ok-settled-in-Named.ensures.adds;
      there = c.in_ok-settled-in-Named.ensures.inside;
      settled = c.in_ok-settled-in-Named.ensures.tree;
      bound = c.in_ok-bind-in-Named.ensures;
    })

pub returns-in_ok-same-in-Number-clause-matched : goal.returns-in_ok-same-in-Number-clause-matched
returns-in_ok-same-in-Number-clause-matched c =
    let p = c.args.self.now.tree.now in
    let f : SFits w32 c.literal-k.result = search rules in
    let d = diagram_of c.args.diagrams.now c.args.pair.diagram in
    let is = node_is p c.args.pair.pattern c.node.ensures.tree c.in-Number.is in
    number_answers p c.args.diagrams.now c.args.pair c.args.pending.now.items c.args.found.now.items (wrap (pos c.in-Number.n))
    c.in_ok-same-in-Number.same (λ bs x. ap (λ t. matched p.tokens t (Flat x) bs) is)
    (c.in_ok-same-in-Number.ensures.number ∙ ap (λ k. is_number k (number_of d)) (to_z-of_z f ∙ c.literal-k.ensures))

pub returns-in_ok-same-in-Negative-clause-matched : goal.returns-in_ok-same-in-Negative-clause-matched
returns-in_ok-same-in-Negative-clause-matched c =
    let p = c.args.self.now.tree.now in
    let f : SFits w32 c.negative_literal-k.result = search rules in
    let d = diagram_of c.args.diagrams.now c.args.pair.diagram in
    let is = node_is p c.args.pair.pattern c.node.ensures.tree c.in-Negative.is in
    number_answers p c.args.diagrams.now c.args.pair c.args.pending.now.items c.args.found.now.items (wrap (neg_ℤ (pos c.in-Negative.n)))
    c.in_ok-same-in-Negative.same (λ bs x. ap (λ t. matched p.tokens t (Flat x) bs) is)
    (c.in_ok-same-in-Negative.ensures.number ∙ ap (λ k. is_number k (number_of d)) (to_z-of_z f ∙ c.negative_literal-k.ensures))

pub returns-in_ok-push-in-Some-2-clause-matched : goal.returns-in_ok-push-in-Some-2-clause-matched
returns-in_ok-push-in-Some-2-clause-matched c =
    let p = c.args.self.now.tree.now in
    let a = c.args.diagrams.now in
    let x = c.args.pair in
    let b = c.in-Binary in
    let below : PartsBelow x.pattern (nodes.Binary b.operator b.p b.q) = subst (PartsBelow x.pattern) b.is c.node.ensures.parts in
    let inside = c.requires.pair.pattern in
    let is : IsPaired p x b.operator b.p b.q = record { start = start_in p x.pattern; is = node_is p x.pattern c.node.ensures.tree b.is } in
    let wait : BothWait p a x b.operator b.p b.q c.in-Some.both c.args.pending.now.items c.push-in-Some.new.self.items = record {
      left = omega (arith, below.0, inside);
      right = omega (arith, below.1, inside);
      there = c.requires.pair.diagram;
      parts = subst (λ o. IfSome o (ArePartsOf a x.diagram)) c.in-Some.is c.in_ok-parts-in-Binary.ensures.there;
      composed = sym c.in_ok-parts-in-Binary.ensures.parts ∙ ap (option_map (are_parts a)) c.in-Some.is;
      pushed = c.in_ok-push-in-Some-2.ensures.items
          ∙ ap (λ xs. xs ++ record { pattern = b.p; diagram = c.in-Some.both.0 } ∷ []) c.in_ok-push-in-Some.ensures.items;
    } in
    parts_leave c.args.found.now.items is wait

pub returns-in_default-clause-matched : goal.returns-in_default-clause-matched
returns-in_default-clause-matched c =
    let p = c.args.self.now.tree.now in
    let other = c.in_default in
    let none : MatchesNothing c.node.result.now =
    record { name = other.not-Named; number = other.not-Number; negative = other.not-Negative; composition = other.not-Binary } in
    other_refuses p c.args.diagrams.now c.args.pair (λ v bs. ap (λ t. matched p.tokens t v bs) c.node.ensures.tree
    ∙ other_pattern p.tokens (trees p.entries) c.node.result.now (start_in p c.args.pair.pattern) v bs none)
