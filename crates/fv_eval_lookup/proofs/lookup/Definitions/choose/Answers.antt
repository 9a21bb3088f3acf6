use base.Fml.{GName}
use Rattle.std.proofs.Common.{◌≡◌, ◌<◌, ◌∙◌, List, ap, sym, map, rules, subst, All}
use Rattle.fv_parse.specs.Trees.{Parsed, size_of, tree_in}
use Rattle.fv_diagram.specs.Arena.{Arena}
use Rattle.fv_rules.specs.headline.Values.{rule_of}
use Rattle.fv_rules.specs.headline.Matching.{chosen}
use Rattle.fv_eval_scopes.specs.Shows.{rules_in}
use Rattle.fv_eval_patterns.specs.Patterns.{with_diagrams}
use Rattle.fv_eval_scopes.specs.declared.memo.Known.{Known}
use Rattle.fv_eval_scopes.specs.Memo.{Remembers, AddsIntegers}
use Rattle.fv_eval_patterns.specs.Remembered.{Remembered}
use Rattle.fv_eval_patterns.specs.Trials.{Recalls}
use Rattle.fv_eval_lookup.specs.Chosen.{ShowsChoice, nodes_of}
use Rattle.fv_eval_lookup.specs.Leaving.{Leaves}
use Rattle.fv_eval_lookup.proofs.lookup.Definitions.choose.Goals as goal

-- what is remembered, and the numbers, are true of what the loans end with
recalls_same : (p : Parsed) (a : Arena) (m : Remembered) {b : Arena} {n : Remembered} → b ≡ a → n ≡ m → Recalls p a m → Recalls p b n
recalls_same p a m {b} {n} d t r = subst (λ x. Recalls p x n) (sym d) (subst (Recalls p a) (sym t) r)

known_same : (a : Arena) (ks : List Known) {b : Arena} {ls : List Known} → b ≡ a → ls ≡ ks → Remembers a ks → Remembers b ls
known_same a ks {b} {ls} d n r = subst (λ x. Remembers x ls) (sym d) (subst (Remembers a) (sym n) r)

-- the names of the three loans
first_of : {a b : GName × GName × GName} → a ≡ b → b.0 ≡ a.0
first_of e = sym (ap (λ (l : GName × GName × GName). l.0) e)

second_of : {a b : GName × GName × GName} → a ≡ b → b.1 ≡ a.1
second_of e = sym (ap (λ (l : GName × GName × GName). l.1) e)

third_of : {a b : GName × GName × GName} → a ≡ b → b.2 ≡ a.2
third_of e = sym (ap (λ (l : GName × GName × GName). l.2) e)

pub first_match-requires-clause-inside : goal.first_match-requires-clause-inside
first_match-requires-clause-inside c =
    subst (λ p. All (λ id. id < size_of p) (nodes_of c.rules-rules.result)) (sym c.tree.ensures) c.rules-rules.ensures.there

pub first_match-requires-clause-left : goal.first_match-requires-clause-left
first_match-requires-clause-left c =
    let arguments = c.args.arguments.now in
    let diagrams = c.args.diagrams.now in
    let left = c.in_ok-left.left in
    subst (λ p. Leaves (map (λ id. rule_of (tree_in p id)) (nodes_of c.rules-rules.result)) arguments diagrams left) (sym c.tree.ensures)
    (subst (λ rules. Leaves rules arguments diagrams left) (sym c.rules-rules.ensures.rules)
    (c.in_ok-left.ensures.left (rules_in c.args.self.now c.args.ruled) c.index-index.ensures))

pub first_match-requires-clause-recalls : goal.first_match-requires-clause-recalls
first_match-requires-clause-recalls c =
    subst (λ p. Recalls p c.args.diagrams.now c.args.trials.now) (sym c.tree.ensures) c.requires.recalls

pub returns-in_err-choice-clause-adds : goal.returns-in_err-choice-clause-adds
returns-in_err-choice-clause-adds c =
    let diagrams = first_of c.first_match.ensures.loans in
    subst (AddsIntegers c.args.diagrams.now) (sym (search (rules, diagrams))) c.first_match.ensures.adds

pub returns-in_err-choice-clause-known : goal.returns-in_err-choice-clause-known
returns-in_err-choice-clause-known c =
    let new = c.first_match.new.matching in
    let diagrams = first_of c.first_match.ensures.loans in
    let numbers = second_of c.first_match.ensures.loans in
    known_same new.diagrams.now new.numbers.now (search (rules, diagrams)) (search (rules, numbers)) c.first_match.ensures.known

pub returns-in_err-choice-clause-recalls : goal.returns-in_err-choice-clause-recalls
returns-in_err-choice-clause-recalls c =
    let new = c.first_match.new.matching in
    let diagrams = first_of c.first_match.ensures.loans in
    let trials = third_of c.first_match.ensures.loans in
    recalls_same c.args.self.now new.diagrams.now new.trials.now (search (rules, diagrams)) (search (rules, trials))
    (subst (λ p. Recalls p new.diagrams.now new.trials.now) c.tree.ensures c.first_match.ensures.recalls)

pub returns-clause-adds : goal.returns-clause-adds
returns-clause-adds c =
    let diagrams = first_of c.first_match.ensures.loans in
    subst (AddsIntegers c.args.diagrams.now) (sym (search (rules, diagrams))) c.first_match.ensures.adds

pub returns-clause-known : goal.returns-clause-known
returns-clause-known c =
    let new = c.first_match.new.matching in
    let diagrams = first_of c.first_match.ensures.loans in
    let numbers = second_of c.first_match.ensures.loans in
    known_same new.diagrams.now new.numbers.now (search (rules, diagrams)) (search (rules, numbers)) c.first_match.ensures.known

pub returns-clause-recalls : goal.returns-clause-recalls
returns-clause-recalls c =
    let new = c.first_match.new.matching in
    let diagrams = first_of c.first_match.ensures.loans in
    let trials = third_of c.first_match.ensures.loans in
    recalls_same c.args.self.now new.diagrams.now new.trials.now (search (rules, diagrams)) (search (rules, trials))
    (subst (λ p. Recalls p new.diagrams.now new.trials.now) c.tree.ensures c.first_match.ensures.recalls)

pub returns-clause-chosen : goal.returns-clause-chosen
returns-clause-chosen c = λ w vs tree old shows.
    let p = c.args.self.now in
    let world = with_diagrams w c.first_match.new.matching.diagrams.now in
    let choice = c.in_ok-choice.choice in
    let diagrams = first_of c.first_match.ensures.loans in
    subst (λ a. ShowsChoice (with_diagrams w a) choice (chosen p.tokens (rules_in c.args.self.now c.args.ruled) vs)) (sym (search (rules, diagrams)))
    (subst (λ rules. ShowsChoice world choice (chosen p.tokens rules vs)) c.rules-rules.ensures.rules
    (subst (λ q. ShowsChoice world choice (chosen q.tokens (map (λ id. rule_of (tree_in q id)) (nodes_of c.rules-rules.result)) vs)) c.tree.ensures
    (c.in_ok-choice.ensures.chosen w vs (tree ∙ sym c.tree.ensures) old shows)))
