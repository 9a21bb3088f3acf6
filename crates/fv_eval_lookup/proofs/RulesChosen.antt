-- Rules tried one after the other.
use Rattle.std.proofs.Common.{◌≡◌, ℕ, zero, suc, ◌+◌, ◌-◌, ◌<◌, ◌≤◌, arith, Bool, true, false, List, [], ◌∷◌, length, map, drop, get_or, Option, Some}
use Rattle.std.proofs.Common.{None, refl, sym, ap, subst, ◌∙◌, drop-cons, add-one}
use Rattle.std.specs.Prelude.{slice_get}
use Rattle.std.proofs.lemmas.Option.{slice_get_within, slice_get_read, get_or_from_slice_get}
use Rattle.std.proofs.lemmas.List.{drop_all}
use Rattle.fv_diagram.specs.Arena.{Arena}
use Rattle.fv_parse.specs.Trees.{Parsed, size_of, tree_in}
use Rattle.fv_parse.specs.TreeId.{TreeId}
use Rattle.fv_eval_scopes.specs.declared.value.Value as code_value
use Rattle.fv_eval_scopes.specs.declared.value.Binding as code_binding
use Rattle.fv_eval_lookup.specs.declared.first_rule.RuleAt.{RuleAt}
use Rattle.fv_eval_scopes.specs.declared.memo.Known.{Known}
use Rattle.fv_rules.specs.headline.Values.{Rule, Value, rule_of}
use Rattle.fv_rules.specs.headline.Matching.{all_matched, or_next, chosen}
use Rattle.fv_eval_scopes.specs.Shows.{World, ShowsValues}
use Rattle.fv_eval_scopes.specs.Memo.{Remembers, AddsIntegers}
use Rattle.fv_eval_patterns.specs.Patterns.{with_diagrams, ShowsMatched}
use Rattle.fv_eval_lookup.specs.Chosen.{ShowsChoice, IsRuleAt, Chooses}
use Rattle.fv_eval_scopes.proofs.lemmas.Grown.{values_grow}
use Rattle.fv_eval_scopes.proofs.lemmas.Added.{adds_none, adds_on}
use Rattle.fv_eval_patterns.proofs.lemmas.Matched.{adds_grow}
use Rattle.fv_eval_patterns.proofs.lemmas.InOrder.{said_yes, said_no, AllAnswer}
use Rattle.std.proofs.lemmas.List.{get_or_default}
use Rattle.fv_eval_patterns.specs.Bits.{has}
use Rattle.fv_eval_lookup.specs.Leaving.{IsOut, Leaves}
use Rattle.fv_eval_lookup.proofs.Wanting.{rule_here}

abbrev pub rule_in : Parsed → TreeId → Rule
rule_in p id = rule_of (tree_in p id)

-- None of the first i rules matches the arguments.
pub record ChoosesOn (p : Parsed) (rules : List TreeId) (arguments : List code_value.Value) (first now : Arena) (ks : List Known) (i : ℕ) : Type 0 where
  pub adds : AddsIntegers first now
  pub known : Remembers now ks
  pub passed : (w : World) (vs : List Value) → w.tree ≡ p → w.diagrams ≡ first → ShowsValues w arguments vs
      → chosen p.tokens (map (rule_in p) (drop i rules)) vs ≡ chosen p.tokens (map (rule_in p) rules) vs

pub rules_begin : (p : Parsed) (rules : List TreeId) (arguments : List code_value.Value) (a : Arena) (ks : List Known) → Remembers a ks
    → ChoosesOn p rules arguments a a ks 0
rules_begin p rules arguments a ks k = record { adds = adds_none a; known = k; passed = λ w vs e f h. refl }

-- the next rule, with its patterns and its right side
pub record NextRule (p : Parsed) (rules : List TreeId) (i : ℕ) (x : TreeId) (r : RuleAt) : Type 0 where
  pub inside : i < length rules
  pub here : x ≡ get_or rules i x
  pub is : IsRuleAt p x r

pub next_at : {p : Parsed} (rules : List TreeId) (i : ℕ) (x : TreeId) (r : RuleAt) → slice_get rules i ≡ Some x → IsRuleAt p x r → NextRule p rules i x r
next_at rules i x r got is = record { inside = slice_get_within rules i x got; here = sym (get_or_from_slice_get rules i x x got); is = is }

next_rule : {p : Parsed} {rules : List TreeId} {i : ℕ} {x : TreeId} {r : RuleAt} → NextRule p rules i x r
    → map (rule_in p) (drop i rules) ≡ rule_in p x ∷ map (rule_in p) (drop (suc i) rules)
next_rule {p} {rules} {i} {x} n =
    ap (map (rule_in p)) (drop-cons rules i x n.inside) ∙ ap (λ y. rule_in p y ∷ map (rule_in p) (drop (suc i) rules)) (sym n.here)

-- the patterns of the rule were tried, with no bindings so far
pub record TriedRule (p : Parsed) (r : RuleAt) (arguments : List code_value.Value) (says : Bool) (b c : Arena)
    (after : List code_binding.Binding) : Type 0 where
  pub adds : AddsIntegers b c
  pub answer : AllAnswer p r.patterns.now arguments says b c [] after

pub tried_rule : (p : Parsed) (r : RuleAt) (arguments : List code_value.Value) (says b : Bool) (a c : Arena) (none after : List code_binding.Binding)
    → b ≡ says → none ≡ [] → AddsIntegers a c → AllAnswer p r.patterns.now arguments b a c none after → TriedRule p r arguments says a c after
tried_rule p r arguments says b a c none after e f adds answer = record {
  adds = adds;
  answer = subst (λ s. AllAnswer p r.patterns.now arguments s a c [] after) e (subst (λ us. AllAnswer p r.patterns.now arguments b a c us after) f answer);
}

-- what the patterns of the next rule answer
tried : {p : Parsed} {rules : List TreeId} {arguments : List code_value.Value} {a b c : Arena} {i : ℕ} {x : TreeId} {r : RuleAt} {says : Bool}
    {after : List code_binding.Binding} → AddsIntegers a b → NextRule p rules i x r → TriedRule p r arguments says b c after
    → (w : World) (vs : List Value) → w.tree ≡ p → w.diagrams ≡ a → ShowsValues w arguments vs
    → ShowsMatched (with_diagrams w c) says after (all_matched p.tokens (rule_in p x).patterns vs [])
tried {p} {arguments = arguments} {a = a} {b = b} {c = c} {says = says} {after = after} adds n try w vs e f h =
    let v : World = with_diagrams w b in
    subst (λ ts. ShowsMatched (with_diagrams w c) says after (all_matched p.tokens ts vs [])) n.is.patterns
    (try.answer v vs [] e refl (values_grow w v (adds_grow w a b f adds) arguments vs h) refl)

pub rules_go_on : {p : Parsed} {rules : List TreeId} {arguments : List code_value.Value} {a b c : Arena} {ks ls : List Known} {i : ℕ} {x : TreeId}
    {r : RuleAt} {after : List code_binding.Binding} → ChoosesOn p rules arguments a b ks i → NextRule p rules i x r
    → TriedRule p r arguments false b c after → Remembers c ls → ChoosesOn p rules arguments a c ls (i + 1)
rules_go_on {p} {rules} {a = a} {b = b} {c = c} {i = i} {x = x} {after = after} m n try known = record {
  adds = adds_on a b c m.adds try.adds;
  known = known;
  passed = λ w vs e f h.
      let no = said_no (with_diagrams w c) after (all_matched p.tokens (rule_in p x).patterns vs []) (tried m.adds n try w vs e f h) in
      ap (λ k. chosen p.tokens (map (rule_in p) (drop k rules)) vs) (add-one i)
      ∙ ap (λ o. or_next (rule_in p x).body o (chosen p.tokens (map (rule_in p) (drop (suc i) rules)) vs)) (sym no)
      ∙ ap (λ rs. chosen p.tokens rs vs) (sym (next_rule n))
      ∙ m.passed w vs e f h;
}

pub rule_chosen : {p : Parsed} {rules : List TreeId} {arguments : List code_value.Value} {a b c : Arena} {ks : List Known} {i : ℕ} {x : TreeId}
    {r : RuleAt} {after : List code_binding.Binding} → ChoosesOn p rules arguments a b ks i → NextRule p rules i x r
    → TriedRule p r arguments true b c after → Chooses p rules arguments a c (Some (r.body, after))
rule_chosen {p} {rules} {c = c} {i = i} {x = x} {r = r} {after = after} m n try w vs e f h =
    let yes = said_yes (with_diagrams w c) after (all_matched p.tokens (rule_in p x).patterns vs []) (tried m.adds n try w vs e f h) in
    let some : chosen p.tokens (map (rule_in p) rules) vs ≡ Some ((rule_in p x).body, yes.0) =
    sym (m.passed w vs e f h) ∙ ap (λ rs. chosen p.tokens rs vs) (next_rule n)
    ∙ ap (λ o. or_next (rule_in p x).body o (chosen p.tokens (map (rule_in p) (drop (suc i) rules)) vs)) yes.1 in
    subst (ShowsChoice (with_diagrams w c) (Some (r.body, after))) (sym some)
    (subst (λ (q : Parsed). (r.body < size_of q) × (tree_in q r.body ≡ (rule_in p x).body)) (sym e) (n.is.body_there, n.is.body), yes.2)

pub no_rule_chosen : {p : Parsed} {rules : List TreeId} {arguments : List code_value.Value} {a b : Arena} {ks : List Known} {i : ℕ}
    → ChoosesOn p rules arguments a b ks i → length rules ≤ i → Chooses p rules arguments a b None
no_rule_chosen {p} {rules} {b = b} {i = i} m l w vs e f h =
    subst (ShowsChoice (with_diagrams w b) None)
    (ap (λ rs. chosen p.tokens (map (rule_in p) rs) vs) (sym (drop_all i rules l)) ∙ m.passed w vs e f h) tt

-- ---- rules that are left out

skipped : (p : Parsed) (rules : List TreeId) (vs : List Value) (n i : ℕ) → i + n ≤ length rules
    → ((j : ℕ) (id : TreeId) → i ≤ j → j < i + n → slice_get rules j ≡ Some id → all_matched p.tokens (rule_in p id).patterns vs [] ≡ None)
    → chosen p.tokens (map (rule_in p) (drop (i + n) rules)) vs ≡ chosen p.tokens (map (rule_in p) (drop i rules)) vs
skipped p rules vs zero i l h = let e : i + 0 ≡ i = omega arith in ap (λ k. chosen p.tokens (map (rule_in p) (drop k rules)) vs) e
skipped p rules vs (suc n) i l h =
    let e : i + suc n ≡ suc i + n = omega arith in
    let inside : i < length rules = omega (arith, l) in
    let id : TreeId = get_or rules i 0 in
    let got : slice_get rules i ≡ Some id = slice_get_read rules (length rules) i id refl inside (get_or_default rules i 0 id inside) in
    let here : drop i rules ≡ id ∷ drop (suc i) rules = drop-cons rules i 0 inside in
    ap (λ k. chosen p.tokens (map (rule_in p) (drop k rules)) vs) e
    ∙ skipped p rules vs n (suc i) (omega (arith, l)) (λ j x f g. h j x (omega (arith, f)) (omega (arith, g)))
    ∙ ap (λ o. or_next (rule_in p id).body o (chosen p.tokens (map (rule_in p) (drop (suc i) rules)) vs)) (sym (h i id (omega arith) (omega (arith, l)) got))
    ∙ ap (λ rs. chosen p.tokens (map (rule_in p) rs) vs) (sym here)

pub rules_skipped : {p : Parsed} {rules : List TreeId} {arguments : List code_value.Value} {a b : Arena} {ks : List Known} (left : Option (List ℕ)) (i k : ℕ)
    → ChoosesOn p rules arguments a b ks i → Leaves (map (rule_in p) rules) arguments a left → i ≤ k → k ≤ length rules
    → ((j : ℕ) → i ≤ j → j < k → IsOut left j) → ChoosesOn p rules arguments a b ks k
rules_skipped {p} {rules} {arguments} {a} left i k m leaves l inside out = record {
  adds = m.adds;
  known = m.known;
  passed = λ w vs e f h.
      let n : ℕ = k - i in
      let same : i + n ≡ k = omega (arith, l) in
      ap (λ q. chosen p.tokens (map (rule_in p) (drop q rules)) vs) (sym same)
      ∙ skipped p rules vs n i (omega (arith, same, inside))
      (λ j id g t got. fails left leaves (out j g (omega (arith, t, same))) j id got refl w vs f h)
      ∙ m.passed w vs e f h;
}
  where
    fails : (left : Option (List ℕ)) → Leaves (map (rule_in p) rules) arguments a left → {j : ℕ} → IsOut left j → (k : ℕ) (id : TreeId)
        → slice_get rules k ≡ Some id → k ≡ j → (w : World) (vs : List Value) → w.diagrams ≡ a → ShowsValues w arguments vs
        → all_matched p.tokens (rule_in p id).patterns vs [] ≡ None
    fails None leaves out k id got same w vs f h = absurd out
    fails (Some bits) leaves {j} out k id got same w vs f h =
        leaves k (rule_in p id) (rule_here p rules k id got) (ap (has bits) same ∙ out) p.tokens w vs f h
