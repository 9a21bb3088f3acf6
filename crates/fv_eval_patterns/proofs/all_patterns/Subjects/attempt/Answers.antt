use Rattle.std.proofs.Common.{◌∙◌, ◌++◌, ◌∷◌, [], refl, ap, sym, subst, pos, neg_ℤ, arith, rules, SFits, w32, to_z-of_z}
use Rattle.std.specs.Prelude.{IfSome, option_map}
use Rattle.fv_diagram.specs.Words.{wrap}
use Rattle.fv_diagram.specs.Arena.{tree_of as diagram_of}
use Rattle.fv_rules.specs.Numbers.{number_of}
use Rattle.fv_parse.specs.headline.Trees.{PartsBelow}
use Rattle.fv_parse.specs.Trees.{start_in}
use Rattle.fv_parse.specs.Arena.{trees}
use Rattle.fv_parse.specs.TreeNode.TheVariants as nodes
use Rattle.fv_rules.specs.headline.Values.{Flat}
use Rattle.fv_rules.specs.headline.Matching.{matched, is_number}
use Rattle.fv_eval_patterns.specs.declared.long_patterns.Task.TheVariants.{Try}
use Rattle.fv_eval_patterns.specs.Patterns.{are_parts, ArePartsOf}
use Rattle.fv_eval_patterns.proofs.lemmas.Matched.{node_is}
use Rattle.fv_eval_patterns.proofs.lemmas.Matched.{MatchesNothing, other_pattern, other_refuses}
use Rattle.fv_eval_patterns.proofs.lemmas.LongPatterns.{BothTried, nothing_left, number_said, parts_split, said}
use Rattle.fv_eval_patterns.proofs.all_patterns.Subjects.attempt.Goals as goal

pub returns-in-Some-clause-splits : goal.returns-in-Some-clause-splits
returns-in-Some-clause-splits c =
    let p = c.args.self.now.tree.now in
    let a = c.args.diagrams.now in
    said p a c.args.pair c.args.tasks.now.items c.in-Some.may (c.in-Some.ensures p a c.requires.recalls)

pub returns-in-Named-clause-splits : goal.returns-in-Named-clause-splits
returns-in-Named-clause-splits c = nothing_left c.args.self.now.tree.now c.args.diagrams.now c.args.pair c.args.tasks.now.items

pub returns-in_ok-same-in-Number-clause-splits : goal.returns-in_ok-same-in-Number-clause-splits
returns-in_ok-same-in-Number-clause-splits c =
    let p = c.args.self.now.tree.now in
    let f : SFits w32 c.literal-k.result = search rules in
    let d = diagram_of c.args.diagrams.now c.args.pair.diagram in
    let is = node_is p c.args.pair.pattern c.node.ensures.tree c.in-Number.is in
    number_said p c.args.diagrams.now c.args.pair c.args.tasks.now.items (wrap (pos c.in-Number.n)) c.in_ok-same-in-Number.same
    (λ bs x. ap (λ t. matched p.tokens t (Flat x) bs) is)
    (c.in_ok-same-in-Number.ensures.number ∙ ap (λ k. is_number k (number_of d)) (to_z-of_z f ∙ c.literal-k.ensures))

pub returns-in_ok-same-in-Negative-clause-splits : goal.returns-in_ok-same-in-Negative-clause-splits
returns-in_ok-same-in-Negative-clause-splits c =
    let p = c.args.self.now.tree.now in
    let f : SFits w32 c.negative_literal-k.result = search rules in
    let d = diagram_of c.args.diagrams.now c.args.pair.diagram in
    let is = node_is p c.args.pair.pattern c.node.ensures.tree c.in-Negative.is in
    number_said p c.args.diagrams.now c.args.pair c.args.tasks.now.items (wrap (neg_ℤ (pos c.in-Negative.n))) c.in_ok-same-in-Negative.same
    (λ bs x. ap (λ t. matched p.tokens t (Flat x) bs) is)
    (c.in_ok-same-in-Negative.ensures.number ∙ ap (λ k. is_number k (number_of d)) (to_z-of_z f ∙ c.negative_literal-k.ensures))

pub returns-in_ok-push-in-Some-parts-3-clause-splits : goal.returns-in_ok-push-in-Some-parts-3-clause-splits
returns-in_ok-push-in-Some-parts-3-clause-splits c =
    let p = c.args.self.now.tree.now in
    let a = c.args.diagrams.now in
    let x = c.args.pair in
    let b = c.in-Binary in
    let ij = c.in-Some-parts.both in
    let below : PartsBelow x.pattern (nodes.Binary b.operator b.p b.q) = subst (PartsBelow x.pattern) b.is c.node.ensures.parts in
    let inside = c.requires.pair.pattern in
    let both : BothTried p a x b.operator b.p b.q ij c.args.tasks.now.items c.push-in-Some-parts-2.new.self.items = record {
      whole = c.requires.pair;
      is = record { start = start_in p x.pattern; is = node_is p x.pattern c.node.ensures.tree b.is };
      left = omega (arith, below.0, inside);
      right = omega (arith, below.1, inside);
      parts = subst (λ o. IfSome o (ArePartsOf a x.diagram)) c.in-Some-parts.is c.in_ok-parts-in-Binary.ensures.there;
      composed = sym c.in_ok-parts-in-Binary.ensures.parts ∙ ap (option_map (are_parts a)) c.in-Some-parts.is;
      pushed = c.in_ok-push-in-Some-parts-3.ensures.items
          ∙ ap (λ xs. xs ++ Try (record { pattern = b.p; diagram = ij.0 }) ∷ []) (c.in_ok-push-in-Some-parts-2.ensures.items
          ∙ ap (λ xs. xs ++ Try (record { pattern = b.q; diagram = ij.1 }) ∷ []) c.in_ok-push-in-Some-parts.ensures.items);
    } in
    parts_split both

pub returns-in_default : goal.returns-in_default
returns-in_default c =
    let p = c.args.self.now.tree.now in
    let other = c.in_default in
    let none : MatchesNothing c.node.result.now =
    record { name = other.not-Named; number = other.not-Number; negative = other.not-Negative; composition = other.not-Binary } in
    record {
      known = c.requires.known;
      splits = other_refuses p c.args.diagrams.now c.args.pair (λ v bs. ap (λ t. matched p.tokens t v bs) c.node.ensures.tree
          ∙ other_pattern p.tokens (trees p.entries) c.node.result.now (start_in p c.args.pair.pattern) v bs none);
      same = λ e. refl;
    }
