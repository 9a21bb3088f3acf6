use Rattle.std.proofs.Common.{◌≡◌, ◌∙◌, false, sym, ap}
use Rattle.fv_parse_grammar.specs.headline.Tree.{items}
use Rattle.fv_parse.specs.Arena.{trees}
use Rattle.fv_parse.specs.Trees.{tree_in, start_in}
use Rattle.fv_eval_scopes.specs.declared.value.Meaning.TheVariants as meaning
use Rattle.fv_rules.specs.headline.Values.{Name, is_of}
use Rattle.fv_eval_lookup.specs.inner.Lookup.{are_names}
use Rattle.fv_eval_patterns.proofs.lemmas.Matched.{node_is}
use Rattle.fv_eval_lookup.proofs.Lookups.{HasPatterns, abstraction_made, rules_made, nothing_made, not_a_definition}
use Rattle.fv_eval_lookup.proofs.lookup.made.Goals.{else-count-eq1-via-then-count-eq1+else-are_names, else-count-eq1-via-else-count-eq1}
use Rattle.fv_eval_lookup.proofs.lookup.made.Goals.{In-Function}
use Rattle.fv_eval_lookup.proofs.lookup.made.Goals as goal

-- the patterns of the first rule, which is a function
patterns : (c : In-Function) → HasPatterns c.args.tree.now c.args.first c.in-Function.patterns c.in-Function.field-2
patterns c =
    let p = c.args.tree.now in record {
      start = start_in p c.args.first;
      name = c.in-Function.field-0;
      is = node_is p c.args.first c.node.ensures.tree c.in-Function.is;
      inside = c.requires;
    }

pub returns-then-are_names : goal.returns-then-are_names
returns-then-are_names c =
    let has = patterns (goal.at.returns-then-are_names c).In-Function in
    abstraction_made c.args.list c.args.count c.args.env has c.if-count-eq1.true (sym c.are_names.ensures ∙ c.if-are_names.true)

pub returns-else-count-eq1 : goal.returns-else-count-eq1
returns-else-count-eq1 c =
    let p = c.args.tree.now in
    let other : c.args.count ≡ 1 → are_names (items (tree_in p c.in-Function.patterns)) ≡ false = elim c.else-count-eq1.branch [
      | else-count-eq1-via-then-count-eq1+else-are_names w ↦ λ one. sym w.are_names.ensures ∙ w.if-are_names.false
      | else-count-eq1-via-else-count-eq1 w ↦ λ one. absurd (w.if-count-eq1.false one)
    ] in
    rules_made c.args.list c.args.count c.args.env (patterns (goal.at.returns-else-count-eq1 c).In-Function) other

pub returns-in_default : goal.returns-in_default
returns-in_default c =
    let p = c.args.tree.now in
    let other = c.in_default in
    let none = λ (x : Name). ap (is_of p.tokens x) c.node.ensures.tree
    ∙ not_a_definition p.tokens x (trees p.entries) c.node.result.now (start_in p c.args.first) other.not-Constant other.not-Function in
    nothing_made p c.args.list c.args.first c.args.count c.args.env meaning.Unknown none
